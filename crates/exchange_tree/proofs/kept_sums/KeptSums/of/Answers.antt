use Rattle.std.proofs.Common.{ap, ◌∙◌, arith}
use Rattle.std.proofs.lemmas.List.FromFn.{length-map-range_with_len}
use Rattle.std.specs.Prelude.{length}
use Rattle.exchange_tree.specs.Sums.{kept_of, kept_list}
use Rattle.exchange_tree.proofs.Kept.{kept_is}
use Rattle.exchange_tree.proofs.Lists.{more_told}
use Rattle.exchange_tree.proofs.kept_sums.KeptSums.of.Goals as goal

-- One sum more is that of its place.
pub loop-place-preserved : goal.loop-place-preserved
loop-place-preserved c =
    more_told (kept_of c.as_arrays-arrays.result.now) c.loop-place.place c.loop-place.sums.items c.push.new.self.items
    c.sum_of_place.result c.loop-place.invariant c.in_ok-push.ensures.items c.sum_of_place.ensures

-- There is one for each place.
pub invariant_of-result : goal.invariant_of-result
invariant_of-result c =
    ap length c.loop-place.invariant
    ∙ length-map-range_with_len (kept_of c.as_arrays-arrays.result.now) 0 c.loop-place.place
    ∙ omega (arith, c.loop-place-test.false, c.loop-place.auto.place-end)

-- All are the kept sums.
pub returns : goal.returns
returns c =
    c.loop-place.invariant
    ∙ kept_is c.as_arrays-arrays.result.now c.loop-place.place
    (omega (arith, c.loop-place-test.false, c.loop-place.auto.place-end))
    ∙ ap kept_list c.as_arrays-arrays.ensures
