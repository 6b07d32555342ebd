-- How a message is sent: each fragment in a PDU of its own (PS3.8, D.1 and E).
use Rattle.std.specs.Prelude.{◌≡◌, ◌<◌, ◌≤◌, ℕ, ◌-◌, ◌*◌, ◌/◌, Bool, true, false, List, [], ◌∷◌, ◌++◌, length, take}
use Rattle.std.specs.Prelude.{drop, Option, MatchOption, IfSome, is_some}
use Rattle.pdu.specs.declared.pdv.Pdv.{Pdv}
use Rattle.pdu.specs.declared.value.Pdu.{Pdu}
use Rattle.pdu.specs.declared.value.Pdu.TheVariants.{PData}
use Rattle.dimse.specs.declared.message.Message.{Message}
use Rattle.dimse.specs.declared.assembler.Stage.{Stage}
use Rattle.dimse.specs.Assembly.{Keeps}
use Rattle.dimse.specs.Command.{IsCommand, HasRoom, announces, command_text}

-- the largest even length that is not above the limit less 6
abbrev pub size_of : ℕ → ℕ
size_of max = (max - 6) / 2 * 2

-- a PDU with one fragment
abbrev pub sent : ℕ → Bool → Bool → List ℕ → Pdu
sent context command last fragment = PData (record {
  context = context;
  command = command;
  last = last;
  fragment =
      fragment;
} ∷ [])

-- A text goes in fragments of this size while more than that is left, and then in a last one.
-- A text of length 0 is one empty fragment.
abbrev pub Sends : ℕ → ℕ → Bool → List ℕ → List Pdu → Type 0
Sends size context command text [] = ⊥
Sends size context command text (p ∷ []) = (length text ≤ size) × (p ≡ sent context command true text)
Sends size context command text (p ∷ q ∷ ps) =
    (size < length text) × (p ≡ sent context command false (take size text)) × Sends size context
    command (drop size text) (q ∷ ps)

-- the command set, and then the data set where there is one
pub record IsSending (m : Message) (max : ℕ) (pdus : List Pdu) : Type 0 where
  pub of_command : List Pdu
  pub of_data : List Pdu
  pub parts : pdus ≡ of_command ++ of_data
  pub command : Sends (size_of max) m.context true (command_text m.command) of_command
  pub data_set : MatchOption m.body (of_data ≡ []) (λ body. Sends (size_of max) m.context false body of_data)

-- a lawful command set that announces a data set where there is one
pub record IsWhole (m : Message) : Type 0 where
  pub lawful : IsCommand m.command
  pub room : HasRoom m.command
  pub announced : announces m.command ≡ is_some m.body

-- The message that was put together can be sent, and the stage keeps what leads to such.
abbrev pub CanBeSent : Option Message → Stage → Type 0
CanBeSent m next = IfSome m IsWhole × Keeps next

-- the fragments that PDUs hold
abbrev pub pdvs_in : List Pdu → List Pdv
pdvs_in [] = []
pdvs_in (PData pdvs ∷ pdus) = pdvs ++ pdvs_in pdus
pdvs_in (_ ∷ pdus) = pdvs_in pdus
