use Rattle.std.proofs.Common.{refl}
use Rattle.walk_frames.specs.Nodes.{node_of}
use Rattle.walk_frames.specs.Reading.{digits_at, node_at, sums_at, entry_at, entries_at, walk_at}
use Rattle.walk_frames.specs.Walks.{stand_apart, walk_of}
use Rattle.walk_frames.proofs.laws.these_bodies_are_bad_frames.Goals as goal

-- The last half byte is 1.
pub returns-clause-half : goal.returns-clause-half
unfolding walk_at entries_at entry_at node_at digits_at
returns-clause-half c = refl

-- AB lies within A.
pub returns-clause-within : goal.returns-clause-within
unfolding walk_at entries_at entry_at node_at digits_at node_of sums_at walk_of stand_apart
returns-clause-within c = refl

-- A is less than B.
pub returns-clause-descending : goal.returns-clause-descending
unfolding walk_at entries_at entry_at node_at digits_at node_of sums_at walk_of stand_apart
returns-clause-descending c = refl

-- A byte is left.
pub returns-clause-behind : goal.returns-clause-behind
unfolding walk_at entries_at entry_at node_at digits_at node_of sums_at
returns-clause-behind c = refl
