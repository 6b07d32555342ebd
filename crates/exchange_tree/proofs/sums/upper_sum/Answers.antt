use Rattle.std.proofs.Common.{refl, sym, ◌∙◌}
use Rattle.exchange_tree.proofs.Places.{no_places, upper_is}
use Rattle.exchange_tree.proofs.sums.upper_sum.Goals as goal

-- It is no node, so there is no place beneath it.
pub returns-then-not-are_digits : goal.returns-then-not-are_digits
returns-then-not-are_digits c = λ digests is.
    c.sum_of_digests.ensures
    ∙ upper_is c.args.node.now 0 0 65536 digests c.args.kept.now refl
    (no_places c.args.node.now (sym c.are_digits.ensures ∙ c.if-not-are_digits.true)) is

-- The kept sums of its places are hashed.
pub returns : goal.returns
returns c = λ digests is.
    c.sum_of_kept.ensures
    ∙ upper_is c.args.node.now c.places_of-first.result.0 c.places_of-first.result.1 65536 digests
    c.as_slice.result.now refl c.places_of-first.ensures (c.as_slice.ensures.sums ∙ is)
