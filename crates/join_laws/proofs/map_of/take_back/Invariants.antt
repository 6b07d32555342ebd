use Rattle.std.proofs.Common.{◌≡◌, vec_len}
use Rattle.join_laws.specs.Journal.{undone}
use Rattle.join_laws.proofs.map_of.take_back.Given as goal

-- what is left to take back leads to where all of it leads
abbrev pub invariant-loop-note : goal.invariant-loop-note
invariant-loop-note g l = undone g.K.Ord.cmp l.left.items l.map.entries ≡ undone g.K.Ord.cmp l.initial.left.items
    l.initial.map.entries

-- With each turn one write fewer is left to take back.
abbrev pub decreases-loop-note : goal.decreases-loop-note
decreases-loop-note g l = vec_len l.left
