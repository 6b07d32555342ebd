use Rattle.std.proofs.Common.{◌≡◌, length}
use Rattle.std.specs.List.Sorted.{IsStrictlySortedBy}
use Rattle.join_laws.specs.GrowSet.{union_of}
use Rattle.join_laws.proofs.grow_set.put_all.Given as goal

-- with the keys that are left, all are put in
abbrev pub invariant-loop-key : goal.invariant-loop-key
invariant-loop-key g l = record {
  joined : union_of g.K.Ord.cmp l.into.keys l.rest ≡ union_of g.K.Ord.cmp l.initial.into.keys l.other.keys;
  ordered : IsStrictlySortedBy g.K.Ord.cmp l.into.keys;
}

abbrev pub decreases-loop-key : goal.decreases-loop-key
decreases-loop-key g l = length l.rest
