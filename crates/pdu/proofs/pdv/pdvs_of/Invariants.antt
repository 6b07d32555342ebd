use Rattle.std.proofs.Common.{◌≡◌, length}
use Rattle.pdu.specs.Reading.{pdv_at, pieces_of}
use Rattle.pdu.proofs.Pieces.{with_front}
use Rattle.pdu.proofs.pdv.pdvs_of.Given as goal

-- The values so far, in front of what the rest gives, are what the text gives.
abbrev pub invariant-loop-rest : goal.invariant-loop-rest
invariant-loop-rest l = with_front l.values (pieces_of pdv_at l.rest) ≡ pieces_of pdv_at l.fn.text

-- With each value less of the text is left.
abbrev pub decreases-loop-rest : goal.decreases-loop-rest
decreases-loop-rest l = length l.rest
