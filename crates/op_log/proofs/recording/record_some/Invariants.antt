use Rattle.std.proofs.Common.{◌≡◌, ◌+◌, ℕ, List, length, map, take, drop}
use Rattle.std.specs.Vec.Iter.{into_iter_items, into_iter_len}
use Rattle.operation.specs.Parts.{ContentParts}
use Rattle.operation.specs.Spelling.{digest_of}
use Rattle.op_log.specs.Fetched.{AreRead}
use Rattle.op_log.specs.Recorded.{AreRecordedAs}
use Rattle.op_log.specs.Verified.{digests_of}
use Rattle.op_log.proofs.recording.record_some.Given as goal

-- Those before the index are recorded, and the others were read for the heads from there on.
abbrev pub invariant-loop-op : goal.invariant-loop-op
invariant-loop-op l =
    record {
      left : into_iter_len l.op-iterator ≡ length (into_iter_items l.op-iterator);
      count : l.index + length (into_iter_items l.op-iterator) ≡ l.from + length l.fn.ops.items;
      told : map digest_of l.fn.recorded.items ≡ digests_of (take l.from l.places)
          → map digest_of l.recorded.items ≡ digests_of (take l.index l.places);
      read : (file : List ℕ) → AreRead file l.fn.ops.items (drop l.from l.places)
          → AreRead file (into_iter_items l.op-iterator) (drop l.index l.places);
      all : (file : List ℕ) (told : List ContentParts) → AreRecordedAs file told (take l.from l.places) l.fn.recorded.items
          → AreRead file l.fn.ops.items (drop l.from l.places) → AreRecordedAs file told (take l.index l.places) l.recorded.items;
    }
