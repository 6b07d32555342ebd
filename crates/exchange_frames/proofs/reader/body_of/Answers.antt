use Rattle.std.proofs.Common.{sym, subst}
use Rattle.octets.specs.Bytes.{IsBytes}
use Rattle.exchange_frames.proofs.Outcomes.{read_tells}
use Rattle.exchange_frames.proofs.reader.body_of.Goals as goal

-- A body of another kind, with no more digests than are read.
pub returns : goal.returns
returns c =
    read_tells c.args.kind c.args.body c.frame_of.result (subst IsBytes c.as_slice.ensures
    c.says_too_many.ensures.octets)
    (sym (rw c.as_slice.ensures at c.if-says_too_many.ensures.exact)) c.if-kind-eq-GIVE.false c.frame_of.ensures
