use Rattle.std.proofs.Common.{◌≡◌, ℕ, suc, ◌+◌, ◌-◌, drop, get_or, sym, ap, subst, ◌∙◌, arith}
use Rattle.std.specs.Ordering.{nat_cmp}
use Rattle.std.specs.declared.cmp.Ordering.TheVariants.{Less}
use Rattle.exchange_frames.specs.Spelling.{ascends}
use Rattle.exchange_frames.proofs.Lists.{ascends_end, ascends_on, less_is}
use Rattle.exchange_frames.proofs.reader.bytes_ascend.Goals as goal

-- The byte before is below this one.
pub loop-at-preserved : goal.loop-at-preserved
loop-at-preserved c =
    let bytes = c.args.bytes.now in
    let before : ℕ = c.loop-at.at - 1 in
    let next : suc before ≡ c.loop-at.at = omega (arith, c.loop-at.auto.at) in
    let less : nat_cmp (get_or bytes before 0) (get_or bytes (suc before) 0) ≡ Less =
    subst (λ (n : ℕ). nat_cmp (get_or bytes before 0) (get_or bytes n 0) ≡ Less) (sym next) (sym c.cmp.ensures
    ∙ less_is c.cmp.result c.if-ne.ensures)
    in
    let on = ascends_on nat_cmp bytes before 0 (omega (arith, next, c.loop-at-test.true)) less in
    let now : c.loop-at.at + 1 - 1 ≡ suc before = omega (arith, next) in
    ap (λ (n : ℕ). ascends nat_cmp (drop n bytes)) now ∙ sym on ∙ c.loop-at.invariant

-- No more than one byte is left.
pub returns : goal.returns
returns c = sym (sym c.loop-at.invariant ∙ ascends_end nat_cmp c.args.bytes.now (c.loop-at.at - 1)
    (omega (arith, c.loop-at-test.false, c.loop-at.auto.at)))
