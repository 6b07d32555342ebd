use Rattle.std.proofs.Common.{◌≡◌, ◌++◌, take}
use Rattle.std.specs.List.{flat_map}
use Rattle.pdu.specs.Spelling.{pdv_text}
use Rattle.pdu.proofs.writer.put_pdvs.Given as goal

-- The values so far stand behind what was there.
abbrev pub invariant-loop-value : goal.invariant-loop-value
invariant-loop-value l = l.out.items ≡ l.fn.out.items ++ flat_map pdv_text (take l.value-index l.values)
