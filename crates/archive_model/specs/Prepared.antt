-- An instance that a C-GET is to send, and what is made of it when its turn comes (PS3.4, B.4.1 and C.4.3).
use Rattle.std.specs.Prelude.{◌≡◌, ℕ, List, [], ◌∷◌, length, ◌==◌, Bool, false, Option, Some, None, MatchBool}
use Rattle.std.specs.Prelude.{if◌then◌else◌}
use Rattle.std.specs.Option.{option_map}
use Rattle.data_set.specs.declared.syntax.Syntax.{Syntax}
use Rattle.data_set.specs.Tree.{Tree}
use Rattle.data_set.specs.Set.{Set}
use Rattle.data_set.specs.Texts.{Spells}
use Rattle.data_set.specs.Written.{text_of}
use Rattle.data_set.specs.Converted.{with_value}
use Rattle.data_set.specs.Corrections.{correction_vr_of}
use Rattle.data_set.specs.Reading.{elements_in}
use Rattle.archive_model.specs.Coercion.{AreStored}
use Rattle.archive_model.specs.declared.accepts.Accepts.{Accepts}
use Rattle.archive_model.specs.declared.accepts.Form.{Form}
use Rattle.archive_model.specs.declared.accepts.Form.TheVariants.{Own, Converted}
use Rattle.archive_model.specs.declared.prepared.Prepared.{Prepared}
use Rattle.archive_model.specs.declared.sending.Sending.{Sending}
use Rattle.archive_model.specs.Accepts.{form_for, syntax_of}
use Rattle.archive_model.specs.Change.{ChangeParts}
use Rattle.archive_model.specs.Sending.{in_form}

-- ---- its elements

-- a value of this value representation, padded, in the place of its tag
abbrev pub put_change : Syntax → ChangeParts → Option (List ℕ) → List Tree → List Tree
put_change syntax change None ts = ts
put_change syntax change (Some vr) ts = with_value syntax change.0 vr change.1 ts

-- elements with one change put in
abbrev pub with_change : Syntax → ChangeParts → List Tree → List Tree
with_change syntax change ts = put_change syntax change (correction_vr_of change.0) ts

-- and with several, one after another
abbrev pub with_changes : Syntax → List ChangeParts → List Tree → List Tree
with_changes syntax [] ts = ts
with_changes syntax (change ∷ changes) ts = with_changes syntax changes (with_change syntax change ts)

-- what is made of the stored elements: each change put in, in the form in which they are sent
abbrev pub elements_for : Form → Prepared → List Tree → List Tree
elements_for form p stored = in_form form (with_changes p.content.syntax p.changes stored)

-- ---- its bytes

-- whether these are the stored ones: in their own syntax, where nothing is changed
abbrev pub is_as_stored : Form → Prepared → Bool
is_as_stored Own p = length p.changes == 0
is_as_stored Converted p = false

-- the bytes that are sent: the stored ones, else the elements that are read from these, changed and written
unfoldable pub text_in : Form → Prepared → List ℕ
text_in form p =
    if is_as_stored form p then p.content.body
    else text_of (elements_for form p (elements_in p.content.syntax p.content.body))

-- this is the data set that is sent where the stored bytes are not
pub record IsSetIn (form : Form) (p : Prepared) (set : Set) : Type 0 where
  pub stored : List Tree
  pub are_stored : AreStored p.content stored
  pub elements : set.elements ≡ elements_for form p stored
  pub syntax : set.syntax ≡ syntax_of form p.content.syntax

-- this is such a data set written, which is read again
pub record IsMadeText (form : Form) (p : Prepared) (text : List ℕ) : Type 0 where
  pub stored : List Tree
  pub are_stored : AreStored p.content stored
  pub exact : text ≡ text_of (elements_for form p stored)
  pub again : Spells (syntax_of form p.content.syntax) text (elements_for form p stored)

-- these bytes are sent: the stored ones, or what is written
abbrev pub IsTextIn : Form → Prepared → List ℕ → Type 0
IsTextIn form p text = MatchBool (is_as_stored form p) (text ≡ p.content.body) (IsMadeText form p text)

-- ---- what is sent

-- the data set with its transfer syntax, in a form, and nothing where no accepted syntax serves
abbrev pub made_body : Prepared → Option Form → Option (Syntax × List ℕ)
made_body p form = option_map (λ f. (syntax_of f p.content.syntax, text_in f p)) form

-- what is sent of a prepared instance
abbrev pub made : Accepts → Prepared → Sending
made accepts p = record {
  class = p.content.class;
  instance = p.content.instance;
  body = made_body p (form_for accepts.list p.content.class p.content.syntax);
}
