use Rattle.std.proofs.Common.{◌≡◌, take}
use Rattle.std.specs.List.{join_with_byte}
use Rattle.octets.proofs.joining.joined.Given as goal

-- The bytes are the texts so far, with the separator between each two.
abbrev pub invariant-loop-i : goal.invariant-loop-i
invariant-loop-i l = l.bytes.items ≡ join_with_byte l.separator (take l.i l.texts)
