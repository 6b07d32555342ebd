-- What is sent, said of the set.
use Rattle.std.specs.Prelude.{◌≡◌, ◌⊎◌, ℕ, List, Some, None, IsTrue, true, false, map}
use Rattle.std.specs.List.Sorted.{IsStrictlySortedBy}
use Rattle.octets.specs.Texts.{text_cmp}
use Rattle.data_set.specs.Tree.{Tree}
use Rattle.data_set.specs.Tags.{is_group_length}
use Rattle.data_set.specs.Texts.{Spells}
use Rattle.octets.specs.Padding.{trimmed}
use Rattle.data_set.specs.Values.{value_in}
use Rattle.dictionary.specs.Roles.{corrected_tags}
use Rattle.data_set.specs.Corrections.{correction_vr_of}
use Rattle.rejection_note.specs.declared.note.Note.{Note}
use Rattle.operation.specs.declared.op.Op.{Op}
use Rattle.operation.specs.declared.op.Op.TheVariants.{Content as a_content}
use Rattle.operation.specs.Parts.{ContentParts, own_value}
use Rattle.archive_model.specs.declared.view.View.{View}
use Rattle.archive_model.specs.Members.{Has}
use Rattle.archive_model.specs.View.{hides}
use Rattle.archive_model.specs.Contents.{pick}
use Rattle.archive_model.specs.Covered.{is_covered, is_hiding}
use Rattle.archive_model.specs.Shown.{shown}
use Rattle.archive_model.specs.Attributes.{attribute}
use Rattle.archive_model.specs.Coercion.{is_changed, AreStored}
use Rattle.site_state.specs.Site.{Map, ops_of, held_at}
use Rattle.site_state.specs.Laws.{Apart, after_taking}
use Rattle.archive_model.specs.declared.accepts.Accepted.{Accepted}
use Rattle.archive_model.specs.declared.accepts.Accepts.{Accepts}
use Rattle.archive_model.specs.declared.accepts.Form.{Form}
use Rattle.archive_model.specs.declared.accepts.Form.TheVariants.{Own}
use Rattle.archive_model.specs.declared.selection.Selection.{Selection}
use Rattle.archive_model.specs.declared.sending.Sending.{Sending}
use Rattle.archive_model.specs.Accepts.{form_for, syntax_of}
use Rattle.archive_model.specs.Selection.{is_selected}
use Rattle.archive_model.specs.Sending.{IsWritten, IsSending, Gets, sendings_of}

-- two sites that hold the same operation under each digest send the same, byte for byte
abbrev pub SameSitesSendAlike : Type 0
SameSitesSendAlike =
    (view : View) (selection : Selection) (accepts : Accepts) (one other : Map) (these those : List Sending)
    → ((digest : List ℕ) → held_at one digest ≡ held_at other digest)
    → Gets view selection accepts (ops_of one) these → Gets view selection accepts (ops_of other) those
    → these ≡ those

-- what is sent is a function of the set
abbrev pub WhatIsSentIsComputed : Type 0
WhatIsSentIsComputed =
    (view : View) (selection : Selection) (accepts : Accepts) (ops : List Op) (sendings : List Sending)
    → Gets view selection accepts ops sendings → sendings ≡ sendings_of view selection accepts ops

-- an instance that is sent is a pick that is selected, is not covered in the view, and is no note that hides there
pub record IsShownPick (view : View) (selection : Selection) (ops : List Op) (sending : Sending) : Type 0 where
  pub content : ContentParts
  pub picked : pick sending.instance ops ≡ Some content
  pub uncovered : is_covered view ops sending.instance ≡ false
  pub no_hiding_note : is_hiding view content.note ≡ false
  pub selected : is_selected selection content ≡ true

abbrev pub NothingHiddenIsSent : Type 0
NothingHiddenIsSent =
    (view : View) (selection : Selection) (accepts : Accepts) (ops : List Op) (sendings : List Sending)
    (sending : Sending)
    → Gets view selection accepts ops sendings → Has sendings sending → IsShownPick view selection ops sending

-- what a note names whose title hides is not sent, whenever the note was taken
abbrev pub WhatIsRejectedIsNotSent : Type 0
WhatIsRejectedIsNotSent =
    (view : View) (selection : Selection) (accepts : Accepts) (taken : List Op) (note : ContentParts) (says : Note)
    (sendings : List Sending) (sending : Sending)
    → Apart taken → Has taken (a_content note) → note.note ≡ Some says → IsTrue (hides view says.title)
    → Has says.covers sending.instance
    → Gets view selection accepts (ops_of (after_taking taken)) sendings → Has sendings sending → ⊥

-- and of each content that is shown and selected something is sent
abbrev pub WhatIsShownIsSent : Type 0
WhatIsShownIsSent =
    (view : View) (selection : Selection) (accepts : Accepts) (ops : List Op) (sendings : List Sending)
    (c : ContentParts)
    → Gets view selection accepts ops sendings → Has (shown view ops) c → is_selected selection c ≡ true
    → (sending : Sending) × Has sendings sending × IsSending ops accepts.list c sending

-- by ascending SOP Instance UID, each once
abbrev pub WhatIsSentAscends : Type 0
WhatIsSentAscends =
    (view : View) (selection : Selection) (accepts : Accepts) (ops : List Op) (sendings : List Sending)
    → Gets view selection accepts ops sendings → IsStrictlySortedBy text_cmp (map (λ s. s.instance) sendings)

-- where every attribute that a correction may give a value has the content's own, and its syntax is accepted, a data
-- set is sent as
-- it came, byte for byte
abbrev pub WhatNeedsNothingIsSentAsItCame : Type 0
WhatNeedsNothingIsSentAsItCame =
    (ops : List Op) (accepted : List Accepted) (c : ContentParts) (sending : Sending)
    → IsSending ops accepted c sending
    → form_for accepted c.class c.syntax ≡ Some Own
    → ((tag : ℕ) → Has corrected_tags tag → attribute ops c tag ≡ own_value c tag)
    → sending.body ≡ Some (c.syntax, c.body)

-- what is written reads again with the attributes that corrections give the content
abbrev pub SentHasAttributes : Type 0
SentHasAttributes =
    (ops : List Op) (c : ContentParts) (form : Form) (text : List ℕ) (read : List Tree) (tag : ℕ) (vr : List ℕ)
    → IsWritten ops c form text → Spells (syntax_of form c.syntax) text read
    → is_group_length tag ≡ false → correction_vr_of tag ≡ Some vr → is_changed ops c tag ≡ true
    → value_in tag read ≡ Some (trimmed (attribute ops c tag))

-- and with every other value as it was stored
abbrev pub SentKeepsOthers : Type 0
SentKeepsOthers =
    (ops : List Op) (c : ContentParts) (form : Form) (text : List ℕ) (read stored : List Tree) (tag : ℕ)
    → IsWritten ops c form text → Spells (syntax_of form c.syntax) text read → AreStored c stored
    → is_group_length tag ≡ false → ((is_changed ops c tag ≡ false) ⊎ (correction_vr_of tag ≡ None))
    → value_in tag read ≡ value_in tag stored
