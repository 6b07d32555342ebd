use Rattle.std.proofs.Common.{◌≡◌, length}
use Rattle.pdu.specs.Reading.{item_at, pieces_of}
use Rattle.pdu.proofs.Pieces.{with_front}
use Rattle.pdu.proofs.item.items_of.Given as goal

-- The items so far, in front of what the rest gives, are what the text gives.
abbrev pub invariant-loop-rest : goal.invariant-loop-rest
invariant-loop-rest l = with_front l.items (pieces_of item_at l.rest) ≡ pieces_of item_at l.fn.text

-- With each item less of the text is left.
abbrev pub decreases-loop-rest : goal.decreases-loop-rest
decreases-loop-rest l = length l.rest
