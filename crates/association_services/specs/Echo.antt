-- What a C-ECHO is answered (PS3.7, 9.1.5; docs/DECISIONS.md, "What a message is answered").
use Rattle.std.specs.Prelude.{Bool, if◌then◌else◌}
use Rattle.pdu.specs.declared.context.Context.{Context}
use Rattle.ul_state.specs.Titles.{is_text}
use Rattle.dimse.specs.declared.command.Command.{Command}
use Rattle.dimse.specs.declared.status.Status.{Status}
use Rattle.dimse.specs.declared.status.Status.TheVariants.{Success, SopClassNotSupported, UnrecognizedOperation}
use Rattle.dictionary.specs.declared.uids.TheConstants.{VERIFICATION}
use Rattle.association_services.specs.Context.{is_other_class}

abbrev pub is_verification : Context → Bool
is_verification context = is_text context.abstract_syntax VERIFICATION

-- the first line that applies
unfoldable pub echo_status : Context → Command → Status
echo_status context command =
    if is_other_class context command.affected_class then SopClassNotSupported
    else if is_verification context then Success
    else UnrecognizedOperation
