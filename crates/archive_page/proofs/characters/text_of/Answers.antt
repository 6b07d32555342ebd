use Rattle.std.proofs.Common.{◌≡◌, ◌∙◌, ℕ, List, sym, subst, IfOk}
use Rattle.std.specs.String.{string_bytes}
use Rattle.archive_page.proofs.CharacterLaws.{is_own_text, is_latin_1}
use Rattle.archive_page.proofs.characters.text_of.Goals as goal

-- The bytes are UTF-8.
pub returns-in-Ok : goal.returns-in-Ok
returns-in-Ok c =
    let cases = c.in-Ok.ensures.cases in
    subst (λ (x : List ℕ). IfOk c.from_str.result (λ t. string_bytes t ≡ x))
    (cases.0 ∙ sym (is_own_text c.args.value.now cases.1)) c.from_str.ensures.ok

-- They are none.
pub returns-in-Err : goal.returns-in-Err
returns-in-Err c =
    subst (λ (x : List ℕ). IfOk c.of_latin_1.result (λ t. string_bytes t ≡ x))
    (sym (is_latin_1 c.args.value.now c.in-Err.ensures.cases.0)) c.of_latin_1.ensures
