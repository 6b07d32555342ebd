-- What is made of what is prepared is what is sent.
use Rattle.std.proofs.Common.{◌≡◌, ℕ, Bool, true, false, List, [], ◌∷◌, length, map, Option, Some, None, refl, sym}
use Rattle.std.proofs.Common.{ap, ◌∙◌, suc, ◌≢◌, ◌⊎◌, inl, inr, arith}
use Rattle.std.proofs.Math.Dec.{eqb}
use Rattle.std.proofs.lemmas.Bool.Decides.{eqb_tells}
use Rattle.std.specs.Prelude.{not, ◌||◌, ◌==◌, if◌then◌else◌}
use Rattle.std.specs.List.{filter_map, cons_option, list_any}
use Rattle.data_set.specs.Tree.{Tree}
use Rattle.data_set.specs.Written.{text_of}
use Rattle.data_set.specs.Reading.{elements_in}
use Rattle.dictionary.specs.Roles.{corrected_tags}
use Rattle.data_set.specs.Corrections.{correction_vr_of}
use Rattle.data_set.specs.Converted.{with_value}
use Rattle.data_set.proofs.Reading.{spelled_in}
use Rattle.operation.specs.declared.op.Op.{Op}
use Rattle.operation.specs.Parts.{ContentParts}
use Rattle.archive_model.specs.Shown.{shown}
use Rattle.archive_model.specs.Attributes.{attribute}
use Rattle.archive_model.specs.Coercion.{is_changed, put_attribute, with_attributes, coerced}
use Rattle.archive_model.specs.declared.accepts.Accepts.{Accepts}
use Rattle.archive_model.specs.declared.accepts.Form.{Form}
use Rattle.archive_model.specs.declared.accepts.Form.TheVariants.{Own, Converted}
use Rattle.archive_model.specs.declared.prepared.Prepared.{Prepared}
use Rattle.archive_model.specs.declared.sending.Sending.{Sending}
use Rattle.archive_model.specs.Accepts.{form_for, syntax_of}
use Rattle.archive_model.specs.Change.{ChangeParts}
use Rattle.archive_model.specs.Selection.{selected}
use Rattle.archive_model.specs.Sending.{in_form, is_sent_as_stored, sending_for, sendings_of}
use Rattle.archive_model.specs.Prepared.{with_change, with_changes, put_change, is_as_stored, text_in, made}
use Rattle.archive_model.specs.Prepared.{elements_for, IsMadeText}
use Rattle.archive_model.specs.Preparing.{change_for, changes_for, prepared_for, prepared_of}
use Rattle.archive_model.specs.SendingLaws.{WhatIsMadeIsCorrected, BodyIsMade, WhatIsSentIsMade}

-- ---- the elements

-- an attribute is put in as a change, or is none
put_as_change : (ops : List Op) (c : ContentParts) (tag : ℕ) (vr : Option (List ℕ)) (ts : List Tree) (b : Bool)
    → is_changed ops c tag ≡ b
    → put_attribute ops c tag vr ts ≡ (if b then put_change c.syntax (tag, attribute ops c tag) vr ts else ts)
put_as_change ops c tag None ts true e = refl
put_as_change ops c tag None ts false e = refl
put_as_change ops c tag (Some vr) ts true e = ap (λ (b : Bool). if b then with_value c.syntax tag vr
    (attribute ops c tag) ts else ts) e
put_as_change ops c tag (Some vr) ts false e = ap (λ (b : Bool). if b then with_value c.syntax tag vr
    (attribute ops c tag) ts else ts) e

-- the changes of some tags put in are their attributes put in
changes_are : (ops : List Op) (c : ContentParts) (tags : List ℕ) (ts : List Tree)
    → with_changes c.syntax (filter_map (change_for ops c) tags) ts ≡ with_attributes ops c tags ts
changes_are ops c [] ts = refl
changes_are ops c (tag ∷ tags) ts = by (is_changed ops c tag) refl (changes_are ops c tags)
  where
    later : List ChangeParts
    later = filter_map (change_for ops c) tags

    by : (b : Bool) → is_changed ops c tag ≡ b
        → ((us : List Tree) → with_changes c.syntax later us ≡ with_attributes ops c tags us)
        → with_changes c.syntax (cons_option (if b then Some (tag, attribute ops c tag) else None) later) ts
        ≡ with_attributes ops c (tag ∷ tags) ts
    by true e rest =
        rest (with_change c.syntax (tag, attribute ops c tag) ts)
        ∙ ap (with_attributes ops c tags) (sym (put_as_change ops c tag (correction_vr_of tag) ts true e))
    by false e rest =
        rest ts
        ∙ ap (with_attributes ops c tags) (sym (put_as_change ops c tag (correction_vr_of tag) ts false e))

-- so with the changes of a content, its elements are the corrected ones
pub changed_is_coerced : (ops : List Op) (c : ContentParts) (ts : List Tree)
    → with_changes c.syntax (changes_for ops c) ts ≡ coerced ops c ts
unfolding coerced
changed_is_coerced ops c ts = changes_are ops c corrected_tags ts

-- ---- the bytes

one_is_some : (n : ℕ) → (suc n == 0) ≡ false
one_is_some n = by (eqb_tells (suc n) 0)
  where
    by : ((eqb (suc n) 0 ≡ true) × (suc n ≡ 0)) ⊎ ((eqb (suc n) 0 ≡ false) × (suc n ≢ 0)) → (suc n == 0) ≡ false
    by (inl is) = absurd (omega arith)
    by (inr apart) = apart.0

-- there is no change where no attribute has another value
none_changed : (ops : List Op) (c : ContentParts) (tags : List ℕ)
    → (length (filter_map (change_for ops c) tags) == 0) ≡ not (list_any (is_changed ops c) tags)
none_changed ops c [] = refl
none_changed ops c (tag ∷ tags) = by (is_changed ops c tag) (none_changed ops c tags)
  where
    later : List ChangeParts
    later = filter_map (change_for ops c) tags

    by : (b : Bool) → (length later == 0) ≡ not (list_any (is_changed ops c) tags)
        → (length (cons_option (if b then Some (tag, attribute ops c tag) else None) later) == 0)
        ≡ not (b || list_any (is_changed ops c) tags)
    by true e = one_is_some (length later)
    by false e = e

-- what is prepared is sent as it is stored where its content is
pub stored_alike : (ops : List Op) (c : ContentParts) (form : Form)
    → is_as_stored form (prepared_for ops c) ≡ is_sent_as_stored ops c form
stored_alike ops c Own = none_changed ops c corrected_tags
stored_alike ops c Converted = refl

-- the stored bytes are what the definition says, where it says so
pub stored_text : (form : Form) (p : Prepared) (text : List ℕ) → is_as_stored form p ≡ true → text ≡ p.content.body
    → text ≡ text_in form p
unfolding text_in
stored_text form p text as_stored is =
    is ∙ ap (λ (b : Bool). if b then p.content.body else text_of (elements_for form p (elements_in p.content.syntax
    p.content.body))) (sym as_stored)

-- and what is written is where it does not
pub written_text : (form : Form) (p : Prepared) (text : List ℕ) → is_as_stored form p ≡ false → IsMadeText form p text
    → text ≡ text_in form p
unfolding text_in
written_text form p text changed is =
    is.exact
    ∙ ap (λ (ts : List Tree). text_of (elements_for form p ts)) (sym (spelled_in p.content.syntax p.content.body
    is.stored is.are_stored))
    ∙ ap (λ (b : Bool). if b then p.content.body else text_of (elements_for form p (elements_in p.content.syntax
    p.content.body))) (sym changed)

pub made_is_corrected : WhatIsMadeIsCorrected
unfolding text_in
made_is_corrected ops c form =
    let stored = elements_in c.syntax c.body in
    ap (λ (b : Bool). if b then c.body else text_of (in_form form (with_changes c.syntax (changes_for ops c) stored)))
    (stored_alike ops c form)
    ∙ ap (λ (ts : List Tree). if is_sent_as_stored ops c form then c.body else text_of (in_form form ts))
    (changed_is_coerced ops c stored)

pub body_is_made : BodyIsMade
body_is_made ops c None = refl
body_is_made ops c (Some form) = ap (λ (text : List ℕ). Some (syntax_of form c.syntax, text))
    (sym (made_is_corrected ops c form))

-- ---- what is sent

sending_is_made : (accepts : Accepts) (ops : List Op) (c : ContentParts)
    → sending_for ops accepts.list c ≡ made accepts (prepared_for ops c)
sending_is_made accepts ops c = ap (λ b. let s : Sending = record {
  class = c.class;
  instance = c.instance;
  body =
      b;
} in s) (body_is_made ops c (form_for accepts.list c.class c.syntax))

sendings_are_made : (accepts : Accepts) (ops : List Op) (cs : List ContentParts)
    → map (sending_for ops accepts.list) cs ≡ map (made accepts) (map (prepared_for ops) cs)
sendings_are_made accepts ops [] = refl
sendings_are_made accepts ops (c ∷ cs) =
    ap (λ (s : Sending). s ∷ map (sending_for ops accepts.list) cs) (sending_is_made accepts ops c)
    ∙ ap (λ (ss : List Sending). made accepts (prepared_for ops c) ∷ ss) (sendings_are_made accepts ops cs)

pub sent_is_made : WhatIsSentIsMade
unfolding sendings_of prepared_of
sent_is_made view selection accepts ops = sendings_are_made accepts ops (selected selection (shown view ops))
