use Rattle.std.proofs.Common.{◌≡◌, length}
use Rattle.std.specs.List.Sorted.{IsStrictlySortedBy}
use Rattle.std.specs.Map.{keys_of}
use Rattle.join_laws.specs.Journal.{undone}
use Rattle.join_laws.specs.MapOf.{map_joined}
use Rattle.join_laws.proofs.map_of.join_maps.Given as goal

-- with the entries that are left, all are taken in, and the notes lead back
abbrev pub invariant-loop-key : goal.invariant-loop-key
invariant-loop-key g l = record {
  joined : map_joined g.K.Ord.cmp g.J.Join.joined l.into.entries l.rest
      ≡ map_joined g.K.Ord.cmp g.J.Join.joined l.initial.into.entries l.other.entries;
  ordered : IsStrictlySortedBy g.K.Ord.cmp (keys_of l.into.entries);
  left : IsStrictlySortedBy g.K.Ord.cmp (keys_of l.rest);
  back : undone g.K.Ord.cmp l.notes.items l.into.entries ≡ l.initial.into.entries;
}

abbrev pub decreases-loop-key : goal.decreases-loop-key
decreases-loop-key g l = length l.rest
