-- Each request has a response, which can be written.
use Rattle.std.proofs.Common.{◌≡◌, ℕ, ◌<◌, ◌≤◌, Bool, true, false, cond, Option, List, length}
use Rattle.std.proofs.Common.{None, refl, sym, subst, arith}
use Rattle.std.specs.Prelude.{IfSome, ◌++◌, ◌==◌}
use Rattle.std.specs.List.{flat_map}
use Rattle.pdu.specs.declared.value.Pdu.{Pdu}
use Rattle.pdu.specs.Spelling.{text_of}
use Rattle.dimse.specs.declared.command.Command.{Command}
use Rattle.dimse.specs.declared.status.Status.{Status}
use Rattle.dimse.specs.Command.{HasRoom, IsCommand, is_complete, announces, command_text}
use Rattle.dimse.specs.Status.{status_code}
use Rattle.dimse.specs.Response.{response_of}
use Rattle.dimse.specs.Cut.{cut, cut_left}
use Rattle.dimse.specs.Sending.{size_of, IsSending, IsWhole}
use Rattle.dimse.proofs.FragmentsLaws.{cut_sending}
use Rattle.dimse.specs.declared.message.Message.{Message}
use Rattle.dimse.specs.declared.command.TheConstants.{LONGEST_COMMAND}
use Rattle.dimse.proofs.SoundLaws.{answer_lawful}
use Rattle.association_services.specs.Response.{Awaited, CanBeResponded, response_to, response_with, announcing}
use Rattle.association_services.specs.Response.{IsResponse}

some_size : (max : ℕ) → 8 ≤ max → 0 < size_of max
some_size max least = omega (arith, least)

-- Each message goes in some PDUs.
pub sending_goes : (m : Message) (max : ℕ) → 8 ≤ max → (pdus : List Pdu) × IsSending m max pdus
sending_goes m max least =
    let size = size_of max in (
      cut size m.context true (command_text m.command) ++ cut_left size m.context false m.body,
      cut_sending m max size (command_text m.command) m.body refl (some_size max least) refl refl,
    )

pub each_has_a_response : (awaited : Awaited) (status : Status) → 8 ≤ awaited.limit → (text : List ℕ)
    × IsResponse awaited status text
each_has_a_response awaited status least =
    let pdus = sending_goes (response_to awaited status) awaited.limit least in
    (flat_map text_of pdus.0, (pdus.0, pdus.1, refl))

told_room : (t : Bool) (uid : Option (List ℕ)) (n : ℕ) → IfSome uid (λ u. length u ≤ n) → IfSome (cond t uid None)
    (λ u. length u ≤ n)
told_room true uid n short = short
told_room false uid n short = tt

pub response_room : (command : Command) (status : ℕ) → HasRoom command → HasRoom (response_of command status)
unfolding response_of
response_room command status room = record {
  affected_class = room.affected_class;
  affected_instance = told_room (command.field == 0x0001) command.affected_instance LONGEST_COMMAND
      room.affected_instance;
}

announces_none : (command : Command) (status : ℕ) → announces (response_of command status) ≡ false
unfolding response_of
announces_none command status = refl

-- the response can be written
pub response_whole : (awaited : Awaited) (status : Status) (m : Message) → CanBeResponded awaited
    → m ≡ response_to awaited status → IsWhole m
response_whole awaited status m can is = subst (λ (t : Message). IsWhole t) (sym is) (record {
  lawful = answer_lawful awaited.command (status_code status) can.asked can.lawful;
  room = response_room awaited.command (status_code status) can.room;
  announced = announces_none awaited.command (status_code status);
})

-- What announces a data set is as lawful.
announcing_lawful : (command : Command) → IsCommand command → IsCommand (announcing command)
unfolding is_complete
announcing_lawful command is =
    record { affected_class = is.affected_class; affected_instance = is.affected_instance; complete = is.complete }

announcing_room : (command : Command) → HasRoom command → HasRoom (announcing command)
announcing_room command room =
    record { affected_class = room.affected_class; affected_instance = room.affected_instance }

-- the response with a data set can be written
pub with_whole : (awaited : Awaited) (status : Status) (text : List ℕ) (m : Message) → CanBeResponded awaited
    → m ≡ response_with awaited status text → IsWhole m
with_whole awaited status text m can is = subst (λ (t : Message). IsWhole t) (sym is) (record {
  lawful = announcing_lawful (response_of awaited.command (status_code status))
      (answer_lawful awaited.command (status_code status) can.asked can.lawful);
  room = announcing_room (response_of awaited.command (status_code status))
      (response_room awaited.command (status_code status) can.room);
  announced = refl;
})
