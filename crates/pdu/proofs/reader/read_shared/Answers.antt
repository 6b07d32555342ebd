use Rattle.pdu.specs.declared.fault.PduFault.TheVariants.{UnknownType, BadLength, TooLong}
use Rattle.pdu.proofs.Fronts.{outcome, says_done, says_only, says_need, says_fault, says_bad, says_bad_told, not_item_1}
use Rattle.pdu.proofs.Fronts.{not_item_2, not_item_4, not_memory_1, not_memory_2, not_memory_4}
use Rattle.pdu.proofs.Writable.{read_writable}
use Rattle.pdu.proofs.reader.read_shared.Goals as goal

-- A PDU is told where the front spells it.
pub returns-clause-done : goal.returns-clause-done
returns-clause-done c = says_done c.shared_step_of.result c.args.bytes.now (outcome c.shared_step_of.result
    c.args.bytes.now c.shared_step_of.ensures.answers)

-- A front that is spelled is whole and lawful, and its body is read.
pub returns-clause-only : goal.returns-clause-only
returns-clause-only c = says_only c.shared_step_of.result c.args.bytes.now (outcome c.shared_step_of.result
    c.args.bytes.now c.shared_step_of.ensures.answers)

-- More is needed exactly of an unfinished front.
pub returns-clause-need : goal.returns-clause-need
returns-clause-need c = says_need c.shared_step_of.result c.args.bytes.now (outcome c.shared_step_of.result
    c.args.bytes.now c.shared_step_of.ensures.answers)

-- A fault of the header is told exactly where it is.
pub returns-clause-unknown_type : goal.returns-clause-unknown_type
returns-clause-unknown_type c = says_fault UnknownType not_item_1 not_memory_1 c.shared_step_of.result c.args.bytes.now
    (outcome c.shared_step_of.result c.args.bytes.now c.shared_step_of.ensures.answers)

-- So is this one.
pub returns-clause-bad_length : goal.returns-clause-bad_length
returns-clause-bad_length c = says_fault BadLength not_item_2 not_memory_2 c.shared_step_of.result c.args.bytes.now
    (outcome c.shared_step_of.result c.args.bytes.now c.shared_step_of.ensures.answers)

-- A bad item is told where the body spells nothing.
pub returns-clause-bad_item : goal.returns-clause-bad_item
returns-clause-bad_item c = says_bad c.shared_step_of.result c.args.bytes.now (outcome c.shared_step_of.result
    c.args.bytes.now c.shared_step_of.ensures.answers)

-- Where the body spells nothing, no PDU is read of it.
pub returns-clause-bad_item_told : goal.returns-clause-bad_item_told
returns-clause-bad_item_told c = says_bad_told c.shared_step_of.result c.args.bytes.now (outcome c.shared_step_of.result
    c.args.bytes.now c.shared_step_of.ensures.answers)

-- This fault too is one of the header.
pub returns-clause-too_long : goal.returns-clause-too_long
returns-clause-too_long c = says_fault TooLong not_item_4 not_memory_4 c.shared_step_of.result c.args.bytes.now
    (outcome c.shared_step_of.result c.args.bytes.now c.shared_step_of.ensures.answers)

-- What bytes spell can be written.
pub returns-clause-lawful : goal.returns-clause-lawful
returns-clause-lawful c = read_writable c.shared_step_of.result c.args.bytes.now c.shared_step_of.ensures.octets
    (says_done c.shared_step_of.result c.args.bytes.now (outcome c.shared_step_of.result c.args.bytes.now
    c.shared_step_of.ensures.answers))
