use Rattle.std.proofs.Common.{◌≡◌, ◌+◌, ◌-◌, ◌++◌, None, subst, sym, ap, ◌∙◌, arith}
use Rattle.std.proofs.lemmas.List.{get_or_default}
use Rattle.std.specs.List.{range_with_len}
use Rattle.sha2.specs.Hashers.{Holds256}
use Rattle.exchange_tree.specs.Sums.{told, told_text}
use Rattle.exchange_tree.proofs.Kept.{told_more}
use Rattle.exchange_tree.proofs.sums.sum_of_kept.Goals as goal

-- One kept sum more was hashed.
pub loop-place-preserved : goal.loop-place-preserved
loop-place-preserved c =
    let kept = c.args.kept.now in
    let first = c.args.first in
    let place = c.loop-place.place in
    let so_far = told_text kept (range_with_len first (place - first)) in
    let long : (place - first) + 1 ≡ place + 1 - first = omega (arith, c.loop-place.auto.place) in
    let at : first + (place - first) ≡ place = omega (arith, c.loop-place.auto.place) in
    subst (Holds256 c.feed.new.hasher)
    (ap (λ sum. so_far ++ told place sum) (c.index-kept-place.is
    ∙ get_or_default kept place c.index-kept-place.result None
    (omega (arith, c.loop-place-test.true, c.requires.bound)))
    ∙ sym (told_more kept (place - first) first place at)
    ∙ ap (λ n. told_text kept (range_with_len first n)) long)
    (c.feed.ensures so_far c.loop-place.invariant)
