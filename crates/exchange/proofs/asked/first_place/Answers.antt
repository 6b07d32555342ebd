use Rattle.std.proofs.Common.{[], get_or, sym, ap, ◌∙◌, arith}
use Rattle.std.specs.Ordering.{ordering_index}
use Rattle.std.specs.Prelude.{◌==◌}
use Rattle.octets.specs.Texts.{text_cmp}
use Rattle.exchange.proofs.Askings.{at_place, no_place, is_here}
use Rattle.exchange.proofs.asked.first_place.Goals as goal

-- Here it is, and none before.
pub returns-then-eq : goal.returns-then-eq
returns-then-eq c =
    let ds = c.args.arrays.now in
    let x = c.args.digest.now in
    let equal = ap (λ y. ordering_index (text_cmp (get_or ds c.loop-at.at []) y) == 1) (sym c.as_bytes.ensures)
    ∙ ap (λ o. ordering_index o == 1) (sym c.cmp.ensures) ∙ sym c.eq.ensures ∙ c.if-eq.true in
    sym (at_place x ds c.loop-at.at c.loop-at-test.true c.loop-at.invariant
    (is_here ds c.loop-at.at x c.loop-at-test.true [] equal))

-- It is none of them.
pub returns : goal.returns
returns c = sym (no_place c.args.digest.now c.args.arrays.now (λ k d lt. c.loop-at.invariant k d
    (omega (arith, lt, c.loop-at-test.false))))
