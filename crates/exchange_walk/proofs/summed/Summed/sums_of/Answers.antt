use Rattle.std.proofs.Common.{sym, ap, ◌∙◌}
use Rattle.walk_frames.specs.Entries.{sums_of}
use Rattle.exchange_walk.proofs.Walks.{sums_again}
use Rattle.exchange_walk.proofs.summed.Summed.sums_of.Goals as goal

-- There are 16 sums.
pub unreachable-requires : goal.unreachable-requires
unreachable-requires c =
    let read = sym c.in-Err.is ∙ c.of.ensures ∙ ap sums_of c.in_ok-sums.ensures
    ∙ sums_again c.self.inside.digests.now c.digits.result.now in
    absurd cc
