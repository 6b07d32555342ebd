use Rattle.std.proofs.Common.{◌≡◌, ◌++◌, take}
use Rattle.std.specs.List.{flat_map}
use Rattle.archive_page.specs.Escaping.{escape_byte}
use Rattle.archive_page.proofs.escaping.put_bytes.Given as goal

-- The bytes so far, each as it is or as its reference.
abbrev pub invariant-loop-byte : goal.invariant-loop-byte
invariant-loop-byte l = l.out.items ≡ l.fn.out.items ++ flat_map escape_byte (take l.byte-index l.text)
