use Rattle.std.proofs.Common.{◌≡◌, length}
use Rattle.std.specs.Prelude.{◌||◌, true}
use Rattle.std.specs.List.Sorted.{IsStrictlySortedBy}
use Rattle.std.specs.Slice.Iter.{iter_rest}
use Rattle.study_index.specs.Keys.{has}
use Rattle.study_index.specs.Live.{Place, place_cmp}
use Rattle.study_index.proofs.tree.put_all.Given as goal

-- with the places that are left, all are in
abbrev pub invariant-loop-place : goal.invariant-loop-place
invariant-loop-place l = record {
  ordered : IsStrictlySortedBy place_cmp l.tree.keys;
  all : (q : Place) → (has place_cmp l.tree.keys q || has place_cmp (iter_rest l.rest) q)
      ≡ (has place_cmp l.initial.tree.keys q || has place_cmp l.fresh q);
  among : (q : Place) → has place_cmp (iter_rest l.rest) q ≡ true → has place_cmp l.fresh q ≡ true;
}

abbrev pub decreases-loop-place : goal.decreases-loop-place
decreases-loop-place l = length (iter_rest l.rest)
