use Rattle.std.proofs.Common.{◌≡◌, length, take}
use Rattle.std.specs.List.{flat_map}
use Rattle.pdu.specs.Spelling.{pdv_text}
use Rattle.pdu.proofs.writer.length_of.Given as goal

-- The size is what the values so far take.
abbrev pub invariant-loop-value : goal.invariant-loop-value
invariant-loop-value l = l.size ≡ length (flat_map pdv_text (take l.value-index l.values))
