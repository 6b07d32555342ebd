-- What a C-GET sends over a set of operations, which is the list of its operations ascending by digest (PS3.4, C.4.3).
use Rattle.std.specs.Prelude.{◌≡◌, ℕ, List, [], ◌∷◌, Bool, false, not, Option, Some, None, MatchBool, map}
use Rattle.std.specs.Prelude.{if◌then◌else◌}
use Rattle.data_set.specs.declared.syntax.Syntax.{Syntax}
use Rattle.data_set.specs.declared.syntax.Syntax.TheVariants.{Implicit}
use Rattle.data_set.specs.Tree.{Tree}
use Rattle.data_set.specs.Texts.{Spells}
use Rattle.data_set.specs.Written.{text_of}
use Rattle.data_set.specs.Converted.{converted}
use Rattle.data_set.specs.Reading.{elements_in}
use Rattle.operation.specs.declared.op.Op.{Op}
use Rattle.operation.specs.Parts.{ContentParts}
use Rattle.archive_model.specs.declared.view.View.{View}
use Rattle.archive_model.specs.Shown.{shown}
use Rattle.archive_model.specs.Coercion.{is_coerced, coerced as coerced_by, AreCoerced}
use Rattle.archive_model.specs.declared.accepts.Accepted.{Accepted}
use Rattle.archive_model.specs.declared.accepts.Accepts.{Accepts}
use Rattle.archive_model.specs.declared.accepts.Form.{Form}
use Rattle.archive_model.specs.declared.accepts.Form.TheVariants.{Own, Converted}
use Rattle.archive_model.specs.declared.selection.Selection.{Selection}
use Rattle.archive_model.specs.declared.sending.Sending.{Sending}
use Rattle.archive_model.specs.Accepts.{form_for, syntax_of}
use Rattle.archive_model.specs.Selection.{selected}

-- ---- the data set of a content

-- whether it is sent as it came: in its own syntax, where no correction changes a value
abbrev pub is_sent_as_stored : List Op → ContentParts → Form → Bool
is_sent_as_stored ops c Own = not (is_coerced ops c)
is_sent_as_stored ops c Converted = false

-- elements in the form in which they are sent
abbrev pub in_form : Form → List Tree → List Tree
in_form Own ts = ts
in_form Converted ts = converted Implicit ts

-- this is a content's data set, corrected and in the form in which it is sent, written; it is read again
pub record IsWritten (ops : List Op) (c : ContentParts) (form : Form) (text : List ℕ) : Type 0 where
  pub coerced : List Tree
  pub are_coerced : AreCoerced ops c coerced
  pub exact : text ≡ text_of (in_form form coerced)
  pub again : Spells (syntax_of form c.syntax) text (in_form form coerced)

-- the bytes of a content that are sent: the stored ones where it is sent as it came
abbrev pub IsText : List Op → ContentParts → Form → List ℕ → Type 0
IsText ops c form text = MatchBool (is_sent_as_stored ops c form) (text ≡ c.body) (IsWritten ops c form text)

-- nothing where no accepted syntax serves
abbrev pub IsBody : List Op → ContentParts → Option Form → Option (Syntax × List ℕ) → Type 0
IsBody ops c None body = body ≡ None
IsBody ops c (Some form) body = (text : List ℕ) × (body ≡ Some (syntax_of form c.syntax, text)) × IsText ops c form text

-- ---- what is sent

-- this is sent of a content
pub record IsSending (ops : List Op) (accepted : List Accepted) (c : ContentParts) (sending : Sending) : Type 0 where
  pub class : sending.class ≡ c.class
  pub instance : sending.instance ≡ c.instance
  pub body : IsBody ops c (form_for accepted c.class c.syntax) sending.body

-- these are sent of some contents, one of each, in their order
abbrev pub AreSendings : List Op → List Accepted → List ContentParts → List Sending → Type 0
AreSendings ops accepted [] [] = Unit {0}
AreSendings ops accepted (c ∷ cs) (s ∷ sendings) = IsSending ops accepted c s × AreSendings ops accepted cs sendings
AreSendings ops accepted [] (s ∷ sendings) = ⊥
AreSendings ops accepted (c ∷ cs) [] = ⊥

-- what a C-GET sends: of each content that is shown and selected, by ascending SOP Instance UID
unfoldable pub Gets : View → Selection → Accepts → List Op → List Sending → Type 0
Gets view selection accepts ops sendings = AreSendings ops accepts.list (selected selection (shown view ops)) sendings

-- ---- the same as a function of the set

-- the bytes of a content that are sent, with its elements as they are read from its bytes
abbrev pub text_for : List Op → ContentParts → Form → List ℕ
text_for ops c form =
    if is_sent_as_stored ops c form then c.body
    else text_of (in_form form (coerced_by ops c (elements_in c.syntax c.body)))

abbrev pub body_for : List Op → ContentParts → Option Form → Option (Syntax × List ℕ)
body_for ops c None = None
body_for ops c (Some form) = Some (syntax_of form c.syntax, text_for ops c form)

abbrev pub sending_for : List Op → List Accepted → ContentParts → Sending
sending_for ops accepted c =
    record { class = c.class; instance = c.instance; body = body_for ops c (form_for accepted c.class c.syntax) }

-- what a C-GET sends, computed
unfoldable pub sendings_of : View → Selection → Accepts → List Op → List Sending
sendings_of view selection accepts ops = map (sending_for ops accepts.list) (selected selection (shown view ops))
