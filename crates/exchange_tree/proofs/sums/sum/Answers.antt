use Rattle.std.proofs.Common.{ap, ◌∙◌}
use Rattle.sha2.specs.Sha256.{sha256}
use Rattle.exchange_frames.specs.Spelling.{digests_text}
use Rattle.exchange_tree.specs.Nodes.{beneath}
use Rattle.exchange_tree.proofs.Places.{hashed_upper, hashed_lower}
use Rattle.exchange_tree.proofs.sums.sum.Goals as goal

-- Above the places kept sums are hashed.
pub returns-then-node-lt-KEPT_DEPTH : goal.returns-then-node-lt-KEPT_DEPTH
returns-then-node-lt-KEPT_DEPTH c =
    c.upper_sum.ensures c.args.digests.now c.requires.sums
    ∙ ap sha256 (hashed_upper c.args.digests.now c.args.node.now c.if-node-lt-KEPT_DEPTH.true)

-- That of a place is kept.
pub returns-then-are_digits : goal.returns-then-are_digits
returns-then-are_digits c =
    c.place_sum.ensures c.args.digests.now c.requires.sums
    ∙ ap sha256 (hashed_lower c.args.digests.now c.args.node.now c.if-node-lt-KEPT_DEPTH.false)

-- Below them the digests of the range are hashed.
pub returns : goal.returns
returns c =
    c.sum_of_digests.ensures ∙ ap (λ ds. sha256 (digests_text ds)) (c.range_of.ensures
    ∙ ap (beneath c.args.node.now) c.as_arrays.ensures)
    ∙ ap sha256 (hashed_lower c.args.digests.now c.args.node.now c.if-node-lt-KEPT_DEPTH.false)
