use Rattle.std.proofs.Common.{ℕ, subst}
use Rattle.octets.specs.Bytes.{IsBytes}
use Rattle.pdu.specs.Fault.{Gives}
use Rattle.pdu.specs.Reading.{body_at}
use Rattle.pdu.proofs.Parts.{IsRead, is_read}
use Rattle.pdu.proofs.reader.read_body.Goals as goal

-- The header is lawful, as its type keeps, and the body has its length.
read : (c : goal.After-body_of) → IsRead c.args.header.now c.args.body c.body_of.result
read c =
    is_read c.args.header.now c.args.body c.body_of.result c.code.ensures.lawful c.requires
    (subst IsBytes c.as_slice.ensures c.hold_octets.ensures)
    (subst (λ (k : ℕ). Gives c.body_of.result (body_at k c.args.body)) c.code.ensures.value c.body_of.ensures)

-- Each clause is one part of what reading comes to.
pub returns : goal.returns
returns c = let r = read c in record {
  done = r.done;
  only = r.only;
  lawful = r.lawful;
  bad_item = r.bad_item;
  bad_item_told = r.bad_item_told;
  fault = r.fault;
}
