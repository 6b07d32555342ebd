use Rattle.pdu.specs.declared.fault.PduFault.TheVariants.{UnknownType, BadLength, TooLong}
use Rattle.pdu.proofs.Parts.{IsTold, is_told, fault_told}
use Rattle.pdu.proofs.header.read_header.Goals as goal

-- The bytes are six, and what they say is judged by their type and their length.
told : (c : goal.After-header_of) → IsTold c.args.bytes.now c.header_of.result
told c = is_told c.args.bytes.now c.header_of.result c.told-bytes c.header_of.ensures

-- Each clause is one part of what is told.
pub returns : goal.returns
returns c = let t = told c in record {
  found = t.found;
  lawful = (t.lawful, t.read);
  unknown_type = fault_told c.args.bytes.now c.header_of.result UnknownType t;
  bad_length = fault_told c.args.bytes.now c.header_of.result BadLength t;
  too_long = fault_told c.args.bytes.now c.header_of.result TooLong t;
  fault = t.fault;
}
