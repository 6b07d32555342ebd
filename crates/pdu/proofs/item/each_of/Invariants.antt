use Rattle.std.proofs.Common.{◌≡◌, drop}
use Rattle.pdu.specs.Grammar.{contents_of}
use Rattle.pdu.specs.Reading.{each_at}
use Rattle.pdu.proofs.Pieces.{with_front}
use Rattle.pdu.proofs.item.each_of.Given as goal

-- What the items so far say, in front of what those left say, is what all items of the kind say.
abbrev pub invariant-loop-item : goal.invariant-loop-item
invariant-loop-item g l = with_front l.found
    (each_at g.C.Content.content_at (contents_of l.kind (drop l.item-index l.items))) ≡ each_at g.C.Content.content_at
    (contents_of l.kind l.items)
