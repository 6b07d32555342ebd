use Rattle.std.proofs.Common.{◌++◌, List, ℕ, drop, length, sym, ap, ◌∙◌, arith}
use Rattle.std.proofs.lemmas.List.{take-append-drop, length-take-le}
use Rattle.op_log.proofs.cut.behind.Goals as goal

-- Digest, front and what is left are all of it.
pub returns-clause-spelled : goal.returns-clause-spelled
returns-clause-spelled c =
    let first = c.in_ok-digest.ensures.cases in
    let rest = c.in_ok-front.ensures.cases in
    let behind = c.in_ok-digest.rest.now in
    sym (take-append-drop 32 c.args.text.now) ∙ ap (λ (xs : List ℕ). xs ++ drop 32 c.args.text.now) (sym first.0)
    ∙ ap (λ (xs : List ℕ). c.in_ok-digest.digest.now ++ xs) (sym first.1 ∙ sym (take-append-drop c.args.long behind)
    ∙ ap (λ (xs : List ℕ). xs ++ drop c.args.long behind) (sym rest.1) ∙ ap (λ (xs : List ℕ). c.in_ok-front.front.now ++ xs) (sym rest.2))

-- A digest has 32 bytes.
pub returns-clause-digest : goal.returns-clause-digest
returns-clause-digest c =
    let first = c.in_ok-digest.ensures.cases in
    ap length first.0 ∙ length-take-le 32 c.args.text.now (omega (arith, c.in_ok-digest.ensures.variant, first.2))
