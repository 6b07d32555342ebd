use Rattle.std.proofs.Common.{None, refl, sym, ap, ◌∙◌, arith}
use Rattle.std.proofs.lemmas.List.{get_or_default}
use Rattle.sha2.specs.Sha256.{sha256}
use Rattle.exchange_frames.specs.Spelling.{digests_text}
use Rattle.exchange_tree.proofs.Places.{some_place, place_is, sum_is, sum_of_none}
use Rattle.exchange_tree.proofs.sums.place_sum.Goals as goal

-- A node of four digits has a place.
pub bounds-as_slice-first : goal.bounds-as_slice-first
bounds-as_slice-first c =
    let are = c.places_of-first.ensures in
    let some = some_place c.args.node.now c.places_of-first.result.0 c.places_of-first.result.1 c.requires.digits
    c.requires.long are in
    omega (arith, are.bound, some, c.as_slice.ensures.long)

-- Its sum is kept.
pub returns-in-Some : goal.returns-in-Some
returns-in-Some c = λ digests is.
    let are = c.places_of-first.ensures in
    let node = c.args.node.now in
    let first = c.places_of-first.result.0 in
    let count = c.places_of-first.result.1 in
    let some = some_place node first count c.requires.digits c.requires.long are in
    let kept = c.as_slice.result.now in
    sum_is _ c.in-Some.sum
    (sym c.in-Some.is ∙ c.index-as_slice-first.is
    ∙ get_or_default kept first c.index-as_slice-first.result None
    (omega (arith, are.bound, some, c.as_slice.ensures.long))
    ∙ place_is node first 65536 digests kept refl c.requires.long count some are (c.as_slice.ensures.sums ∙ is))

-- Nothing is beneath it.
pub returns-in-None : goal.returns-in-None
returns-in-None c = λ digests is.
    let are = c.places_of-first.ensures in
    let node = c.args.node.now in
    let first = c.places_of-first.result.0 in
    let count = c.places_of-first.result.1 in
    let some = some_place node first count c.requires.digits c.requires.long are in
    let kept = c.as_slice.result.now in
    let none = sum_of_none _ (sym c.in-None.is ∙ c.index-as_slice-first.is
    ∙ get_or_default kept first c.index-as_slice-first.result None
    (omega (arith, are.bound, some, c.as_slice.ensures.long))
    ∙ place_is node first 65536 digests kept refl c.requires.long count some are (c.as_slice.ensures.sums ∙ is)) in
    c.sum_of_digests.ensures ∙ ap (λ ds. sha256 (digests_text ds)) (sym none)
