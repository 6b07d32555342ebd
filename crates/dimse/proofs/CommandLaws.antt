-- A text spells at most one command.
use Rattle.std.proofs.Common.{◌≡◌, ℕ, List, Result, Ok, Err, refl, sym, ap, subst, ◌∙◌}
use Rattle.std.specs.Prelude.{IfOk, IfErr}
use Rattle.std.proofs.lemmas.Option.{same_Some as some_is}
use Rattle.dimse.specs.declared.command.Command.{Command}
use Rattle.dimse.specs.declared.fault.DimseFault.{DimseFault}
use Rattle.dimse.specs.declared.fault.DimseFault.TheVariants.{BadContext, Interleaved, BadCommand, TooLong, Memory}
use Rattle.dimse.specs.declared.fault.DimseFault.TheVariants.{Failed}
use Rattle.dimse.specs.Elements.{Element}
use Rattle.dimse.specs.Fault.{Gives}
use Rattle.dimse.specs.Command.{Says, SpellsElements, Spells}
use Rattle.dimse.specs.Refusal.{IsRefusal, RefusesCommand}
use Rattle.dimse.proofs.TextLaws.{one_list}

abbrev remade : Command → Command
remade c = record {
  affected_class = c.affected_class;
  field = c.field;
  message_id = c.message_id;
  responded_to =
      c.responded_to;
  priority = c.priority;
  data_set_type = c.data_set_type;
  status = c.status;
  affected_instance =
      c.affected_instance;
  remaining = c.remaining;
  completed = c.completed;
  failed = c.failed;
  warning = c.warning;
}

-- a command is its fields
pub same_command : (c d : Command) → c.affected_class ≡ d.affected_class → c.field ≡ d.field
    → c.message_id ≡ d.message_id → c.responded_to ≡ d.responded_to → c.priority ≡ d.priority
    → c.data_set_type ≡ d.data_set_type → c.status ≡ d.status → c.affected_instance ≡ d.affected_instance
    → c.remaining ≡ d.remaining → c.completed ≡ d.completed → c.failed ≡ d.failed → c.warning ≡ d.warning → c ≡ d
same_command c d e0 e1 e2 e3 e4 e5 e6 e7 e8 e9 e10 e11 = let e : remade c ≡ remade d = cc in e

-- elements say at most one command
says_once : (es : List Element) (c d : Command) → Says es c → Says es d → c ≡ d
says_once es c d a b =
    same_command c d (sym a.affected_class ∙ b.affected_class) (some_is c.field d.field (sym a.field ∙ b.field))
    (sym a.message_id ∙ b.message_id) (sym a.responded_to ∙ b.responded_to) (sym a.priority ∙ b.priority)
    (some_is c.data_set_type d.data_set_type (sym a.data_set_type ∙ b.data_set_type)) (sym a.status ∙ b.status)
    (sym a.affected_instance ∙ b.affected_instance) (sym a.remaining ∙ b.remaining) (sym a.completed ∙ b.completed)
    (sym a.failed ∙ b.failed) (sym a.warning ∙ b.warning)

-- what a text spells is said by its elements
pub said : (text : List ℕ) (es : List Element) (c : Command) → SpellsElements text es → Spells text c → Says es c
said text es c elements spells = subst (λ (fs : List Element). Says fs c) (one_list text spells.0 es spells.1 elements)
    spells.2

pub one_command : (text : List ℕ) (c d : Command) → Spells text c → Spells text d → c ≡ d
one_command text c d a b = says_once b.0 c d (said text b.0 c b.1 a) b.2

pub read_only : (text : List ℕ) (es : List Element) (r : Result Command DimseFault) → SpellsElements text es
    → IfOk r (Says es) → IfErr r (RefusesCommand es) → (c : Command) → Spells text c → Gives (λ d. d) r (Ok c)
read_only text es (Ok d) elements found refused c spells = ap (λ (x : Command). Ok x)
    (says_once es c d (said text es c elements spells) found)
read_only text es (Err BadCommand) elements found refused c spells = absurd (refused c (said text es c elements spells))
read_only text es (Err Memory) elements found refused c spells = tt
read_only text es (Err BadContext) elements found refused c spells = absurd refused
read_only text es (Err Interleaved) elements found refused c spells = absurd refused
read_only text es (Err TooLong) elements found refused c spells = absurd refused
read_only text es (Err Failed) elements found refused c spells = absurd refused

pub read_refused : (text : List ℕ) (es : List Element) (r : Result Command DimseFault) → SpellsElements text es
    → IfErr r (RefusesCommand es) → IfErr r (IsRefusal text)
read_refused text es (Ok d) elements refused = tt
read_refused text es (Err BadCommand) elements refused = λ c spells. refused c (said text es c elements spells)
read_refused text es (Err Memory) elements refused = tt
read_refused text es (Err BadContext) elements refused = absurd refused
read_refused text es (Err Interleaved) elements refused = absurd refused
read_refused text es (Err TooLong) elements refused = absurd refused
read_refused text es (Err Failed) elements refused = absurd refused

pub none_read : (text : List ℕ) (es : List Element) (r : Result Command DimseFault) → SpellsElements text es
    → IfOk r (Says es) → IfErr r (RefusesCommand es) → ((c : Command) → Spells text c → ⊥)
    → Gives (λ d. d) r (Err BadCommand)
none_read text es (Ok d) elements found refused none = absurd (none d (es, elements, found))
none_read text es (Err BadCommand) elements found refused none = refl
none_read text es (Err Memory) elements found refused none = tt
none_read text es (Err BadContext) elements found refused none = absurd refused
none_read text es (Err Interleaved) elements found refused none = absurd refused
none_read text es (Err TooLong) elements found refused none = absurd refused
none_read text es (Err Failed) elements found refused none = absurd refused
