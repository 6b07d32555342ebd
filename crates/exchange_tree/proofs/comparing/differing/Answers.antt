use Rattle.std.proofs.Common.{◌≡◌, ◌++◌, ◌∷◌, [], cond, sym, ap, ◌∙◌, arith}
use Rattle.std.proofs.lemmas.List.{append-nil}
use Rattle.std.specs.Prelude.{filter}
use Rattle.std.specs.List.{range_with_len}
use Rattle.exchange_tree.specs.declared.nodes.TheConstants.{CHILD_COUNT}
use Rattle.exchange_tree.specs.Steps.{differing_at, is_unequal}
use Rattle.exchange_tree.proofs.Lists.{kept_next}
use Rattle.exchange_tree.proofs.comparing.differing.Goals as goal

-- The digit is not one of them.
pub loop-digit-preserved-then-not-is_unequal : goal.loop-digit-preserved-then-not-is_unequal
loop-digit-preserved-then-not-is_unequal c =
    let at = c.loop-digit.digit in
    let test = is_unequal c.args.own.now c.args.theirs.now in
    c.loop-digit.invariant
    ∙ sym (kept_next test at ∙ ap (λ b. filter test (range_with_len 0 at) ++ cond b (at ∷ []) [])
    (sym c.is_unequal.ensures ∙ c.if-not-is_unequal.true) ∙ append-nil _)

-- The digit is one more.
pub loop-digit-preserved : goal.loop-digit-preserved
loop-digit-preserved c =
    let at = c.loop-digit.digit in
    let test = is_unequal c.args.own.now c.args.theirs.now in
    c.in_ok-push.ensures.items
    ∙ ap (λ ps. ps ++ at ∷ []) c.loop-digit.invariant
    ∙ sym (kept_next test at ∙ ap (λ b. filter test (range_with_len 0 at) ++ cond b (at ∷ []) [])
    (sym c.is_unequal.ensures ∙ c.if-not-is_unequal.false))

-- All digits were seen.
pub returns : goal.returns
unfolding differing_at
returns c =
    let end : c.loop-digit.digit ≡ CHILD_COUNT = omega (arith, c.loop-digit-test.false, c.loop-digit.auto.digit-end) in
    c.loop-digit.invariant ∙ ap (λ n. filter (is_unequal c.args.own.now c.args.theirs.now)
    (range_with_len 0 n)) end
