use Rattle.dimse.proofs.CommandLaws.{read_only, read_refused, none_read}
use Rattle.dimse.proofs.LawfulLaws.{lawful_read, room_read}
use Rattle.dimse.specs.Command.{SpellsElements}
use Rattle.dimse.proofs.reader.read_command.Goals as goal

-- A text has one list of elements, and these say one command.
pub returns-clause-only : goal.returns-clause-only
returns-clause-only c = read_only c.args.text.now c.as_slice.result.now c.command_of.result (rw c.as_slice.ensures.value
    c.in_ok-elements.ensures.found) c.command_of.ensures.found c.command_of.ensures.refused

-- Elements that say no command are all that the text spells.
pub returns-clause-bad_command : goal.returns-clause-bad_command
returns-clause-bad_command c = read_refused c.args.text.now c.as_slice.result.now c.command_of.result
    (rw c.as_slice.ensures.value c.in_ok-elements.ensures.found) c.command_of.ensures.refused

-- Where no command is spelled, the elements say none.
pub returns-clause-refused : goal.returns-clause-refused
returns-clause-refused c = none_read c.args.text.now c.as_slice.result.now c.command_of.result
    (rw c.as_slice.ensures.value c.in_ok-elements.ensures.found) c.command_of.ensures.found c.command_of.ensures.refused

-- Its UIDs are trimmed and printable, and all is there that it needs.
pub returns-clause-lawful : goal.returns-clause-lawful
returns-clause-lawful c = lawful_read c.as_slice.result.now c.command_of.result c.command_of.ensures.found

-- A UID is no longer than the text that it stands in.
pub returns-clause-room : goal.returns-clause-room
returns-clause-room c = λ le.
    let spells : SpellsElements c.args.text.now c.as_slice.result.now = rw c.as_slice.ensures.value
    c.in_ok-elements.ensures.found in
    room_read c.as_slice.result.now c.command_of.result (rw (← spells.1) le) c.command_of.ensures.found
