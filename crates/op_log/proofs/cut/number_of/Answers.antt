use Rattle.std.proofs.Common.{◌++◌, List, ℕ, drop, sym, ap, ◌∙◌}
use Rattle.std.proofs.lemmas.List.{take-append-drop}
use Rattle.op_log.proofs.cut.number_of.Goals as goal

-- The eight bytes and the others are all of it.
pub returns-in-Some-clause-spelled : goal.returns-in-Some-clause-spelled
returns-in-Some-clause-spelled c =
    let both = c.in-Some.ensures.cases in
    sym (take-append-drop 8 c.args.text.now) ∙ ap (λ (xs : List ℕ). xs ++ drop 8 c.args.text.now) (sym both.0)
    ∙ ap (λ (xs : List ℕ). c.in-Some.number.now ++ xs) (sym both.1) ∙ ap (λ (xs : List ℕ). xs ++ c.in-Some.rest.now) (sym c.number_in.ensures)
