-- Messages, and the fragments that they come in (PS3.7, 6.3; PS3.8, E).
use Rattle.std.specs.Prelude.{◌≡◌, ◌≢◌, ◌≤◌, ℕ, Bool, true, false, List, [], ◌∷◌, ◌++◌, length, Option, Some, None}
use Rattle.std.specs.Prelude.{Result, Ok, Err, MatchOption, IfSome}
use Rattle.pdu.specs.declared.pdv.Pdv.{Pdv}
use Rattle.pdu.specs.declared.context.Context.{Context}
use Rattle.dimse.specs.declared.command.Command.{Command}
use Rattle.dimse.specs.declared.message.Message.{Message}
use Rattle.dimse.specs.declared.fault.DimseFault.{DimseFault}
use Rattle.dimse.specs.declared.fault.DimseFault.TheVariants.{Memory}
use Rattle.dimse.specs.declared.assembler.Stage.{Stage}
use Rattle.dimse.specs.declared.assembler.Stage.TheVariants.{Between, InCommand, InDataSet, Failed}
use Rattle.dimse.specs.declared.command.TheConstants.{LONGEST_COMMAND}
use Rattle.octets.specs.declared.limits.TheConstants.{LONGEST_DATA_SET}
use Rattle.dimse.specs.Command.{Spells, announces}
use Rattle.dimse.specs.Assembly.{Assembly, accepts, IsCause, Feeds}

-- ---- one message

-- a fragment on this context, of a command set or of a data set
abbrev pub IsOf : ℕ → Bool → Pdv → Type 0
IsOf context command p = (p.context ≡ context) × (p.command ≡ command)

-- fragments of one text, none of them the last
abbrev pub Opens : ℕ → Bool → List Pdv → List ℕ → Type 0
Opens context command [] text = text ≡ []
Opens context command (p ∷ ps) text = IsOf context command p × (p.last ≡ false) × (rest : List ℕ)
    × (text ≡ p.fragment ++ rest) × Opens context command ps rest

-- the fragments of one text, up to the last one
abbrev pub Joins : ℕ → Bool → List Pdv → List ℕ → Type 0
Joins context command [] text = ⊥
Joins context command (p ∷ []) text = IsOf context command p × (p.last ≡ true) × (text ≡ p.fragment)
Joins context command (p ∷ q ∷ ps) text = IsOf context command p × (p.last ≡ false) × (rest : List ℕ)
    × (text ≡ p.fragment ++ rest) × Joins context command (q ∷ ps) rest

-- The data set is there where the command set announces one.
abbrev pub IsBody : Message → List Pdv → Type 0
IsBody m data_pdvs = MatchOption m.body ((announces m.command ≡ false) × (data_pdvs ≡ []))
    (λ body. (announces m.command ≡ true) × Joins m.context false data_pdvs body)

-- The fragments of a message: those of its command set, and then those of its data set.
pub record SpellsMessage (pdvs : List Pdv) (m : Message) : Type 0 where
  pub of_command : List Pdv
  pub of_data : List Pdv
  pub text : List ℕ
  pub parts : pdvs ≡ of_command ++ of_data
  pub joined : Joins m.context true of_command text
  pub spelled : Spells text m.command
  pub body : IsBody m of_data

-- ---- what is taken

-- a message on an accepted context, whose texts are no longer than is read
pub record IsTaken (contexts : List Context) (pdvs : List Pdv) (m : Message) : Type 0 where
  pub message : SpellsMessage pdvs m
  pub accepted : accepts contexts m.context ≡ true
  pub short_command : length message.text ≤ LONGEST_COMMAND
  pub short_body : IfSome m.body (λ body. length body ≤ LONGEST_DATA_SET)

-- the fragments of a command set that are there, none of them the last
pub record BeginsCommand (contexts : List Context) (context : ℕ) (text : List ℕ) (pdvs : List Pdv) : Type 0 where
  pub some : pdvs ≢ []
  pub opened : Opens context true pdvs text
  pub accepted : accepts contexts context ≡ true
  pub short : length text ≤ LONGEST_COMMAND

-- the fragments of a command set that announces a data set, and those of this that are there
pub record BeginsDataSet (contexts : List Context) (context : ℕ) (c : Command) (text : List ℕ) (pdvs : List Pdv) : Type
    0 where
  pub of_command : List Pdv
  pub of_data : List Pdv
  pub whole : List ℕ
  pub parts : pdvs ≡ of_command ++ of_data
  pub joined : Joins context true of_command whole
  pub spelled : Spells whole c
  pub announced : announces c ≡ true
  pub opened : Opens context false of_data text
  pub accepted : accepts contexts context ≡ true
  pub short_command : length whole ≤ LONGEST_COMMAND
  pub short : length text ≤ LONGEST_DATA_SET

-- less than a message, and what it says so far
abbrev pub Holds : List Context → Stage → List Pdv → Type 0
Holds contexts Between pdvs = pdvs ≡ []
Holds contexts (InCommand context text) pdvs = BeginsCommand contexts context text pdvs
Holds contexts (InDataSet context c text) pdvs = BeginsDataSet contexts context c text pdvs
Holds contexts Failed pdvs = ⊥

-- these messages, one after another, and then less than a message
abbrev pub Splits : List Context → List Pdv → List Message → Stage → Type 0
Splits contexts pdvs [] stage = Holds contexts stage pdvs
Splits contexts pdvs (m ∷ ms) stage = (front behind : List Pdv) × (pdvs ≡ front ++ behind) × IsTaken contexts front m
    × Splits contexts behind ms stage

-- ---- runs

-- an assembler between two messages
abbrev pub fresh : List Context → Assembly
fresh contexts = record { contexts = contexts; stage = Between }

-- fragments fed one after another, with the answers
abbrev pub Run : Assembly → List Pdv → List (Result (Option Message) DimseFault) → Assembly → Type 0
Run a [] [] b = b ≡ a
Run a [] (r ∷ rs) b = ⊥
Run a (p ∷ ps) [] b = ⊥
Run a (p ∷ ps) (r ∷ rs) b = (mid : Assembly) × Feeds a p r mid × Run mid ps rs b

-- the messages among the answers
abbrev pub messages : List (Result (Option Message) DimseFault) → List Message
messages [] = []
messages (Ok (Some m) ∷ rs) = m ∷ messages rs
messages (Ok None ∷ rs) = messages rs
messages (Err f ∷ rs) = messages rs

-- the first fault among them
abbrev pub first_fault : List (Result (Option Message) DimseFault) → Option DimseFault
first_fault [] = None
first_fault (Ok m ∷ rs) = first_fault rs
first_fault (Err f ∷ rs) = Some f

-- Fragments are whole messages and less than one more, or a cause of a fault stands behind such.
abbrev pub Ends : List Context → List Pdv → List Message → Option DimseFault → Type 0
Ends contexts pdvs ms None = (stage : Stage) × Splits contexts pdvs ms stage
Ends contexts pdvs ms (Some f) =
    (front after : List Pdv) × (p : Pdv) × (stage : Stage) × (pdvs ≡ front ++ p ∷ after)
    × Splits contexts front ms stage × IsCause (record { contexts = contexts; stage = stage }) p f

-- No answer is want of memory.
abbrev pub HadMemory : List (Result (Option Message) DimseFault) → Type 0
HadMemory [] = Unit {0}
HadMemory (r ∷ rs) = (r ≢ Err Memory) × HadMemory rs
