use Rattle.std.proofs.Common.{◌++◌, List, ℕ, drop, length, sym, ap, ◌∙◌, arith}
use Rattle.std.proofs.lemmas.List.{take-append-drop, length-take-le}
use Rattle.operation.proofs.record_texts.digest_in.Goals as goal

-- The first bytes and the others are all of it.
pub returns-clause-parts : goal.returns-clause-parts
returns-clause-parts c =
    let first = c.in_ok-digest.ensures.cases in
    sym (take-append-drop 32 c.args.text.now) ∙ ap (λ (xs : List ℕ). xs ++ drop 32 c.args.text.now) (sym first.0)
    ∙ ap (λ (xs : List ℕ). c.in_ok-digest.digest.now ++ xs) (sym first.1)

pub returns-clause-long : goal.returns-clause-long
returns-clause-long c =
    let first = c.in_ok-digest.ensures.cases in
    ap length first.0 ∙ length-take-le 32 c.args.text.now (omega (arith, first.2))
