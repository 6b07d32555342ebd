-- What presentation contexts accept in the requestor's SCP role, and what a C-GET's sub-operations carry on them
-- (PS3.7, D.3.3.4; PS3.4, C.4.3).
use Rattle.std.specs.Prelude.{◌≡◌, ℕ, Bool, true, false, List, [], ◌∷◌, map, Option, Some, None, is_some, Ok, Err, ⊤}
use Rattle.std.specs.List.{list_any, filter}
use Rattle.std.specs.Option.{option_map}
use Rattle.octets.specs.Members.{Has}
use Rattle.data_set.specs.declared.syntax.Syntax.{Syntax}
use Rattle.data_set.specs.declared.syntax.Syntax.TheVariants.{Implicit, Explicit}
use Rattle.dictionary.specs.declared.commands.TheConstants.{C_STORE_RQ}
use Rattle.dimse.specs.declared.message.Message.{Message}
use Rattle.pdu.specs.declared.context.Context.{Context}
use Rattle.operation.specs.declared.op.Op.{Op}
use Rattle.operation.specs.declared.op.Op.TheVariants.{Content as a_content}
use Rattle.operation.specs.RecordLaws.{AreApart}
use Rattle.archive_model.specs.declared.view.View.{View}
use Rattle.archive_model.specs.declared.accepts.Accepted.{Accepted}
use Rattle.archive_model.specs.declared.accepts.Accepts.{Accepts}
use Rattle.archive_model.specs.declared.listed.Listed.{Listed}
use Rattle.archive_model.specs.declared.prepared.Prepared.{Prepared}
use Rattle.archive_model.specs.declared.selection.Selection.{Selection}
use Rattle.archive_model.specs.declared.sending.Sending.{Sending}
use Rattle.archive_model.specs.Accepts.{form_for, syntax_of}
use Rattle.archive_model.specs.Listed.{list_of, IsOfRecord}
use Rattle.archive_model.specs.Prepared.{made}
use Rattle.archive_model.specs.Sending.{sendings_of}
use Rattle.association_services.specs.declared.reply.Reply.{Reply}
use Rattle.association_services.specs.declared.reply.Reply.TheVariants.{Stored, Found, Gotten, Loaded}
use Rattle.association_services.specs.declared.way.Way.{Way}
use Rattle.association_services.specs.Get.{takes_class, way_of}
use Rattle.association_services.specs.Retrieval.{way_for, loaded_for}

-- ---- what contexts accept

-- whether one of these contexts takes data sets of this class, in this syntax
abbrev pub takes_any : List Context → List ℕ → Bool → Bool
takes_any contexts class explicit = list_any (takes_class class explicit) contexts

-- what contexts accept of the class of one of them
abbrev pub accepted_on : List Context → Context → Accepted
accepted_on contexts context = record {
  class = context.abstract_syntax;
  implicit = takes_any contexts context.abstract_syntax false;
  explicit = takes_any contexts context.abstract_syntax true;
}

-- what they accept of each class
abbrev pub accepts_of : List Context → Accepts
accepts_of contexts = record { list = map (accepted_on contexts) contexts }

-- A content goes out in the form in which it is sent where just that is accepted which its contexts accept.
abbrev pub FormIsAccepted : Type 0
FormIsAccepted = (contexts : List Context) (class : List ℕ) (syntax : Syntax)
    → option_map (λ (way : Way). way.form) (way_of contexts class syntax)
    ≡ form_for (accepts_of contexts).list class syntax

abbrev pub is_explicit : Syntax → Bool
is_explicit Implicit = false
is_explicit Explicit = true

-- a context of this ID takes data sets of this class, in this syntax
pub record IsOn (contexts : List Context) (class : List ℕ) (explicit : Bool) (id : ℕ) : Type 0 where
  pub context : Context
  pub there : Has contexts context
  pub takes : takes_class class explicit context ≡ true
  pub is : context.id ≡ id

-- A content goes out on a context that takes its class, in the transfer syntax in which it is sent.
abbrev pub WayIsOn : Type 0
WayIsOn = (contexts : List Context) (class : List ℕ) (syntax : Syntax) (way : Way)
    → way_of contexts class syntax ≡ Some way
    → IsOn contexts class (is_explicit (syntax_of way.form syntax)) way.context

-- ---- what sub-operations carry

-- an accepted transfer syntax serves
abbrev pub is_carried : Sending → Bool
is_carried sending = is_some sending.body

-- an instance that was loaded, and then others
abbrev pub carried_first : Accepts → Option Prepared → List Sending → List Sending
carried_first accepts None others = others
carried_first accepts (Some prepared) others = made accepts prepared ∷ others

-- by the port's reply to its load; where none came yet, nothing
abbrev pub carried_for : Accepts → Listed → (List Reply → List Sending) → List Reply → List Sending
carried_for accepts p others [] = []
carried_for accepts p others (Loaded reply ∷ rs) = carried_first accepts (loaded_for p reply) (others rs)
carried_for accepts p others (Stored reply ∷ rs) = []
carried_for accepts p others (Found reply ∷ rs) = []
carried_for accepts p others (Gotten reply ∷ rs) = []

-- by whether there is a way to send it
abbrev pub carried_by : Option Way → Accepts → Listed → (List Reply → List Sending) → List Reply → List Sending
carried_by None accepts p others rs = others rs
carried_by (Some way) accepts p others rs = carried_for accepts p others rs

-- what is carried of listed instances on these contexts, in order, for the port's replies to their loads: those that no
-- context takes are not, and neither are those that were not loaded
abbrev pub carried_of : List Context → List Listed → List Reply → List Sending
carried_of contexts [] rs = []
carried_of contexts (p ∷ ps) rs =
    carried_by (way_for contexts p) (accepts_of contexts) p (carried_of contexts ps) rs

-- A C-STORE carries an instance, on a context that takes it.
pub record Carries (contexts : List Context) (sending : Sending) (m : Message) : Type 0 where
  pub syntax : Syntax
  pub text : List ℕ
  pub body : sending.body ≡ Some (syntax, text)
  pub request : m.command.field ≡ C_STORE_RQ
  pub class : m.command.affected_class ≡ Some sending.class
  pub instance : m.command.affected_instance ≡ Some sending.instance
  pub data_set : m.body ≡ Some text
  pub context : IsOn contexts sending.class (is_explicit syntax) m.context

-- An operation and any of these are no two of one digest.
abbrev pub IsApartFrom : List Op → Op → Type 0
IsApartFrom ops op = (other : Op) → Has ops other → AreApart op other

-- The load of an instance brought a content of its record, which has the digest of no other operation of the set, and
-- then others theirs.
abbrev pub BringsIts : List Op → Listed → (List Reply → Type 0) → List Reply → Type 0
BringsIts ops p Others [] = ⊥
BringsIts ops p Others (Loaded (Ok content) ∷ rs) =
    IsOfRecord p.content content × IsApartFrom ops (a_content content) × Others rs
BringsIts ops p Others (Loaded (Err fault) ∷ rs) = ⊥
BringsIts ops p Others (Stored reply ∷ rs) = ⊥
BringsIts ops p Others (Found reply ∷ rs) = ⊥
BringsIts ops p Others (Gotten reply ∷ rs) = ⊥

abbrev pub BringsBy : Option Way → List Op → Listed → (List Reply → Type 0) → List Reply → Type 0
BringsBy None ops p Others rs = Others rs
BringsBy (Some way) ops p Others rs = BringsIts ops p Others rs

-- So did each load of what is listed, in order, for those instances that these contexts take.
abbrev pub BringsEach : List Op → List Context → List Listed → List Reply → Type 0
BringsEach ops contexts [] rs = ⊤
BringsEach ops contexts (p ∷ ps) rs = BringsBy (way_for contexts p) ops p (BringsEach ops contexts ps) rs

-- What is carried of the instances that a set lists is what a C-GET over it sends, where just that is accepted which
-- the contexts accept, and each load brought a content of its record that has the digest of no other of the set.
abbrev pub CarriedIsSent : Type 0
CarriedIsSent = (contexts : List Context) (view : View) (selection : Selection) (ops : List Op) (rs : List Reply)
    → BringsEach ops contexts (list_of view selection ops) rs
    → carried_of contexts (list_of view selection ops) rs
    ≡ filter is_carried (sendings_of view selection (accepts_of contexts) ops)
