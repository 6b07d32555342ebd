use Rattle.std.proofs.Common.{◌≡◌, take}
use Rattle.walk_frames.specs.Reading.{unpacked}
use Rattle.walk_frames.proofs.reader.unpacked.Given as goal

-- the digits of the bytes so far
abbrev pub invariant-loop-byte : goal.invariant-loop-byte
invariant-loop-byte l = l.digits.items ≡ unpacked (take l.byte-index l.bytes)
