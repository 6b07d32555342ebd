use Rattle.std.proofs.Common.{◌≡◌, ◌++◌, take, map}
use Rattle.pdu.specs.Spelling.{items_text, proposal_item}
use Rattle.pdu.proofs.writer.put_proposals.Given as goal

-- The items of the contexts so far stand behind what was there.
abbrev pub invariant-loop-context : goal.invariant-loop-context
invariant-loop-context l = l.out.items ≡ l.fn.out.items ++ items_text
    (map proposal_item (take l.context-index l.contexts))
