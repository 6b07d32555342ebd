-- What a fragment leads to, given what came since the last message.
use Rattle.std.specs.Prelude.{◌≡◌, ℕ, Bool, true, false, not, ◌==◌, ◌&&◌, nat_lt, List, [], ◌++◌, length, Option, Some}
use Rattle.std.specs.Prelude.{None, Result, Ok, Err, MatchBool, IfOk, IfErr, OnOk, OnErr, if◌then◌else◌, ⊤}
use Rattle.std.specs.List.{list_any}
use Rattle.pdu.specs.declared.pdv.Pdv.{Pdv}
use Rattle.pdu.specs.declared.context.Context.{Context}
use Rattle.dimse.specs.declared.command.Command.{Command}
use Rattle.dimse.specs.declared.message.Message.{Message}
use Rattle.dimse.specs.declared.fault.DimseFault.{DimseFault}
use Rattle.dimse.specs.declared.fault.DimseFault.TheVariants.{BadContext, Interleaved, BadCommand, TooLong, Memory}
use Rattle.dimse.specs.declared.fault.DimseFault.TheVariants.{Failed as HasFailed}
use Rattle.dimse.specs.declared.assembler.Stage.{Stage}
use Rattle.dimse.specs.declared.assembler.Stage.TheVariants.{Between, InCommand, InDataSet, Failed}
use Rattle.dimse.specs.declared.command.TheConstants.{LONGEST_COMMAND}
use Rattle.octets.specs.declared.limits.TheConstants.{LONGEST_DATA_SET}
use Rattle.dimse.specs.Command.{Spells, announces, IsCommand, HasRoom}

-- ---- what is kept

-- a command set that can be written and announces a data set
pub record IsAnnouncement (c : Command) : Type 0 where
  pub lawful : IsCommand c
  pub room : HasRoom c
  pub announced : announces c ≡ true

-- A command set is kept only so.
abbrev pub Keeps : Stage → Type 0
Keeps Between = ⊤
Keeps (InCommand context text) = ⊤
Keeps (InDataSet context command text) = IsAnnouncement command
Keeps Failed = ⊤

-- the accepted presentation contexts, and what came since the last message
pub record Assembly : Type 0 where
  pub contexts : List Context
  pub stage : Stage

abbrev pub accepts : List Context → ℕ → Bool
accepts contexts id = list_any (λ c. c.id == id) contexts

-- Whether a fragment goes on what was begun: on its context, and of its kind. A message begins with its command set.
abbrev pub has_place : Stage → Pdv → Bool
has_place Between p = p.command
has_place (InCommand context text) p = p.command && p.context == context
has_place (InDataSet context command text) p = not p.command && p.context == context
has_place Failed p = false

-- the text that a fragment goes on
abbrev pub text_so_far : Stage → List ℕ
text_so_far Between = []
text_so_far (InCommand context text) = text
text_so_far (InDataSet context command text) = text
text_so_far Failed = []

abbrev pub limit_of : Stage → ℕ
limit_of Between = LONGEST_COMMAND
limit_of (InCommand context text) = LONGEST_COMMAND
limit_of (InDataSet context command text) = LONGEST_DATA_SET
limit_of Failed = 0

-- with this fragment the text is longer than is read
abbrev pub is_over : Stage → Pdv → Bool
is_over stage p = nat_lt (limit_of stage) (length (text_so_far stage ++ p.fragment))

-- the fault that a fragment has before it is kept, where it has one
unfoldable pub fault_of : List Context → Stage → Pdv → Option DimseFault
fault_of contexts Failed p = Some HasFailed
fault_of contexts stage p =
    if not (accepts contexts p.context) then Some BadContext
    else if not (has_place stage p) then Some Interleaved
    else if is_over stage p then Some TooLong
    else None

-- ---- what is taken

-- A whole command set ends a message, or announces a data set.
abbrev pub Closes : ℕ → List ℕ → Option Message → Stage → Type 0
Closes context text (Some m) next = (m.context ≡ context) × Spells text m.command × (announces m.command ≡ false)
    × (m.body ≡ None) × (next ≡ Between)
Closes context text None next = (c : Command) × Spells text c × (announces c ≡ true) × (next ≡ InDataSet context c [])

-- a fragment of a command set behind this text
abbrev pub AdvancesCommand : List ℕ → Pdv → Option Message → Stage → Type 0
AdvancesCommand text p m next =
    MatchBool p.last
    (Closes p.context (text ++ p.fragment) m next)
    ((m ≡ None) × (next ≡ InCommand p.context (text ++ p.fragment)))

-- a fragment of the data set of this command behind this text
abbrev pub AdvancesData : Command → List ℕ → Pdv → Option Message → Stage → Type 0
AdvancesData command text p m next =
    MatchBool p.last
    ((m ≡ Some (record { context = p.context; command = command; body = Some (text ++ p.fragment) }))
    × (next ≡ Between))
    ((m ≡ None) × (next ≡ InDataSet p.context command (text ++ p.fragment)))

-- A fragment that is taken ends this message, where it ends one, and leaves this.
abbrev pub Advances : Stage → Pdv → Option Message → Stage → Type 0
Advances Between p m next = AdvancesCommand [] p m next
Advances (InCommand context text) p m next = AdvancesCommand text p m next
Advances (InDataSet context command text) p m next = AdvancesData command text p m next
Advances Failed p m next = ⊥

-- The fragment ends a command set that is none.
abbrev pub EndsNoCommand : Stage → Pdv → Type 0
EndsNoCommand (InDataSet context command text) p = ⊥
EndsNoCommand Failed p = ⊥
EndsNoCommand stage p = (p.last ≡ true) × ((c : Command) → Spells (text_so_far stage ++ p.fragment) c → ⊥)

-- why a fragment that has its place and room is refused
abbrev pub IsRefusalAt : Stage → Pdv → DimseFault → Type 0
IsRefusalAt stage p Memory = Unit {0}
IsRefusalAt stage p BadCommand = EndsNoCommand stage p
IsRefusalAt stage p f = ⊥

-- what such a fragment leads to
abbrev pub LeadsTo : Stage → Pdv → Result (Option Message × Stage) DimseFault → Type 0
LeadsTo stage p (Ok x) = Advances stage p x.0 x.1
LeadsTo stage p (Err f) = IsRefusalAt stage p f

-- A fault is want of memory, or one that the fragment has.
abbrev pub IsCause : Assembly → Pdv → DimseFault → Type 0
IsCause old p Memory = Unit {0}
IsCause old p BadCommand = (fault_of old.contexts old.stage p ≡ None) × EndsNoCommand old.stage p
IsCause old p f = fault_of old.contexts old.stage p ≡ Some f

-- what feeding a fragment answers and leaves
pub record Feeds (old : Assembly) (p : Pdv) (answer : Result (Option Message) DimseFault) (new : Assembly) : Type 0
  where
    pub contexts : new.contexts ≡ old.contexts
    -- A fault that it has before it is kept is told.
    pub refused : (f : DimseFault) → fault_of old.contexts old.stage p ≡ Some f → answer ≡ Err f
    -- No other is told but of its cause, and after it no fragment is taken.
    pub cause : IfErr answer (IsCause old p)
    pub failing : OnErr answer (new.stage ≡ Failed)
    -- A fragment without a fault is taken.
    pub faultless : OnOk answer (fault_of old.contexts old.stage p ≡ None)
    pub taken : IfOk answer (λ m. Advances old.stage p m new.stage)
