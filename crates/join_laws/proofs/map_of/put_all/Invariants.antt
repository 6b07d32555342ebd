use Rattle.std.proofs.Common.{◌≡◌, length}
use Rattle.std.specs.List.Sorted.{IsStrictlySortedBy}
use Rattle.std.specs.Map.{keys_of}
use Rattle.join_laws.specs.MapOf.{map_joined}
use Rattle.join_laws.proofs.map_of.put_all.Given as goal

-- with the entries that are left, all are taken in
abbrev pub invariant-loop-key : goal.invariant-loop-key
invariant-loop-key g l = record {
  joined : map_joined g.K.Ord.cmp g.J.Join.joined l.into.entries l.rest
      ≡ map_joined g.K.Ord.cmp g.J.Join.joined l.initial.into.entries l.other.entries;
  ordered : IsStrictlySortedBy g.K.Ord.cmp (keys_of l.into.entries);
  left : IsStrictlySortedBy g.K.Ord.cmp (keys_of l.rest);
}

abbrev pub decreases-loop-key : goal.decreases-loop-key
decreases-loop-key g l = length l.rest
