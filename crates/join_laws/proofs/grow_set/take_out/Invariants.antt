use Rattle.std.proofs.Common.{◌≡◌, vec_len}
use Rattle.join_laws.specs.Journal.{taken_out}
use Rattle.join_laws.proofs.grow_set.take_out.Given as goal

-- what is left to take out leads to where all of it leads
abbrev pub invariant-loop-key : goal.invariant-loop-key
invariant-loop-key g l = taken_out g.K.Ord.cmp l.left.items l.from.keys ≡ taken_out g.K.Ord.cmp l.initial.left.items
    l.initial.from.keys

-- With each turn one key fewer is left to take out.
abbrev pub decreases-loop-key : goal.decreases-loop-key
decreases-loop-key g l = vec_len l.left
