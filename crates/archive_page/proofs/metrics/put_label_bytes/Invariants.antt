use Rattle.std.proofs.Common.{◌≡◌, ◌++◌, drop}
use Rattle.std.specs.List.{flat_map}
use Rattle.archive_page.specs.Metrics.{label_byte}
use Rattle.archive_page.proofs.metrics.put_label_bytes.Given as goal

-- What was put, with the bytes that are left, is all.
abbrev pub invariant-loop-byte : goal.invariant-loop-byte
invariant-loop-byte l =
    l.out.items ++ flat_map label_byte (drop l.byte-index l.text) ≡ l.fn.out.items ++ flat_map label_byte l.text
