use Rattle.std.proofs.Common.{◌≡◌, List, ℕ, length}
use Rattle.std.specs.Vec.Iter.{into_iter_items, into_iter_len}
use Rattle.exchange.proofs.Hashed.{HoldFrom, Telling}
use Rattle.exchange.proofs.buckets.finish.Given as goal

-- The buckets so far are those of the places whose hashers were finished.
abbrev pub invariant-loop-hasher : goal.invariant-loop-hasher
invariant-loop-hasher l = record {
  long : into_iter_len l.hasher-iterator ≡ length (into_iter_items l.hasher-iterator);
  told : (digests : List (List ℕ)) → HoldFrom 0 (into_iter_items l.initial.hasher-iterator) digests
      → Telling digests l.buckets.items (into_iter_items l.hasher-iterator)
      (length (into_iter_items l.initial.hasher-iterator));
}
