-- A content's data set is read again, and what coercion leaves of its values.
use Rattle.std.proofs.Common.{◌≡◌, ◌≢◌, ℕ, List, [], ◌∷◌, Bool, true, false, ◌||◌, Option, Some, None, refl, sym}
use Rattle.std.proofs.Common.{ap, ◌∙◌, ◌⊎◌, inl, inr, subst}
use Rattle.std.specs.Prelude.{not, if◌then◌else◌, is_some, ◌==◌}
use Rattle.std.specs.List.{list_any}
use Rattle.std.specs.Option.{option_map}
use Rattle.std.proofs.Math.Dec.{eqb}
use Rattle.std.proofs.Math.Logic.{∥∥₁_elim}
use Rattle.std.proofs.lemmas.Bool.{eqb-true}
use Rattle.std.proofs.lemmas.Bool.Decides.{eqb_tells}
use Rattle.octets.specs.Gives.{Told}
use Rattle.data_set.specs.declared.fault.SetFault.{SetFault}
use Rattle.data_set.specs.declared.fault.SetFault.TheVariants.{Truncated, Order, Depth, Undefined, BadVr, Group, Memory}
use Rattle.data_set.specs.declared.syntax.Syntax.{Syntax}
use Rattle.data_set.specs.Fault.{is_memory}
use Rattle.data_set.specs.Tree.{Tree}
use Rattle.data_set.specs.Tags.{is_group_length}
use Rattle.data_set.specs.Texts.{HasFault}
use Rattle.octets.specs.Padding.{trimmed}
use Rattle.dictionary.specs.declared.role.Entity.{Entity}
use Rattle.dictionary.specs.Elements.{Line, vr_in_table, role_in_table}
use Rattle.dictionary.specs.Roles.{corrected_tags, correction_of}
use Rattle.dictionary.proofs.Lines.{BearsOut, of_table}
use Rattle.data_set.specs.Values.{value_in}
use Rattle.data_set.specs.Converted.{with_value}
use Rattle.data_set.specs.Corrections.{correction_vr_of}
use Rattle.data_set.proofs.Sets.{fault_or_spelled}
use Rattle.data_set.proofs.ValueLaws.{put_value, other_value}
use Rattle.operation.specs.declared.op.Op.{Op}
use Rattle.operation.specs.Parts.{ContentParts, own_value}
use Rattle.operation.specs.Contents.{IsContent}
use Rattle.archive_model.specs.Attributes.{attribute}
use Rattle.archive_model.specs.Members.{Has}
use Rattle.archive_model.specs.Coercion.{is_changed, put_attribute, with_attribute, with_attributes, coerced}
use Rattle.archive_model.specs.Coercion.{CoercedHasAttributes, CoercedKeepsOthers, OwnIsNotCoerced}
use Rattle.archive_model.proofs.MemberLaws.{any_has}
use Rattle.archive_model.proofs.ModelLaws.{same_itself}

told_fault : (s : Syntax) (text : List ℕ) (f : SetFault) → f ≢ Memory → Told is_memory f (HasFault s text)
    → HasFault s text f
told_fault s text Truncated other told = told
told_fault s text Order other told = told
told_fault s text Depth other told = told
told_fault s text Undefined other told = told
told_fault s text BadVr other told = told
told_fault s text Group other told = told
told_fault s text Memory other told = absurd (other refl)

-- what is told of it is want of memory
pub content_has_no_fault : (c : ContentParts) (f : SetFault) → IsContent c → f ≢ Memory
    → Told is_memory f (HasFault c.syntax c.body) → ⊥
content_has_no_fault c f is other told =
    ∥∥₁_elim is (λ (x y : ⊥). absurd x) (λ d. fault_or_spelled c.syntax c.body d.0 f d.1.spelled
    (told_fault c.syntax c.body f other told))

-- ---- values of coerced elements

by_vr : (ops : List Op) (c : ContentParts) (tag : ℕ) (vr : List ℕ) (ts : List Tree) → correction_vr_of tag ≡ Some vr
    → is_changed ops c tag ≡ true → with_attribute ops c tag ts ≡ with_value c.syntax tag vr (attribute ops c tag) ts
by_vr ops c tag vr ts e changed =
    ap (λ (o : Option (List ℕ)). put_attribute ops c tag o ts) e
    ∙ ap (λ (b : Bool). if b then with_value c.syntax tag vr (attribute ops c tag) ts else ts) changed

unchanged : (ops : List Op) (c : ContentParts) (tag : ℕ) (vr : Option (List ℕ)) (ts : List Tree)
    → is_changed ops c tag ≡ false → put_attribute ops c tag vr ts ≡ ts
unchanged ops c tag None ts same_value = refl
unchanged ops c tag (Some vr) ts same_value = ap (λ (b : Bool). if b then with_value c.syntax tag
    vr (attribute ops c tag) ts else ts) same_value

-- nothing is put in for a tag that has its own value, or that no correction may give a value
not_put : (ops : List Op) (c : ContentParts) (tag : ℕ) (ts : List Tree) → (is_changed ops c tag ≡ false)
    ⊎ (correction_vr_of tag ≡ None) → with_attribute ops c tag ts ≡ ts
not_put ops c tag ts (inl same_value) = unchanged ops c tag (correction_vr_of tag) ts same_value
not_put ops c tag ts (inr none) = ap (λ (o : Option (List ℕ)). put_attribute ops c tag o ts) none

-- what is put in for one tag leaves the values of others
other_kept : (ops : List Op) (c : ContentParts) (put other : ℕ) (vr : Option (List ℕ)) (ts : List Tree)
    → is_group_length other ≡ false → other ≢ put → value_in other (put_attribute ops c put vr ts) ≡ value_in other ts
other_kept ops c put other None ts element apart = refl
other_kept ops c put other (Some vr) ts element apart = by_test (is_changed ops c put)
  where
    by_test : (b : Bool) → value_in other (if b then with_value c.syntax put vr (attribute ops c put) ts else ts)
        ≡ value_in other ts
    by_test true = other_value c.syntax put other vr (attribute ops c put) ts element apart
    by_test false = refl

-- the tag is one of these, or its value is there
values_put : (ops : List Op) (c : ContentParts) (tag : ℕ) (vr : List ℕ) → is_group_length tag ≡ false
    → correction_vr_of tag ≡ Some vr → is_changed ops c tag ≡ true
    → (tags : List ℕ) (ts : List Tree) → Has tags tag ⊎ (value_in tag ts ≡ Some (trimmed (attribute ops c tag)))
    → value_in tag (with_attributes ops c tags ts) ≡ Some (trimmed (attribute ops c tag))
values_put ops c tag vr element e changed [] ts (inl has) = absurd has
values_put ops c tag vr element e changed [] ts (inr there) = there
values_put ops c tag vr element e changed (t ∷ tags) ts at = values_put ops c tag vr element e changed
    tags (with_attribute ops c t ts) (step (eqb_tells tag t) at)
  where
    put_here : tag ≡ t → value_in tag (with_attribute ops c t ts) ≡ Some (trimmed (attribute ops c tag))
    put_here is =
        ap (λ (u : ℕ). value_in tag (with_attribute ops c u ts)) (sym is)
        ∙ ap (value_in tag) (by_vr ops c tag vr ts e changed)
        ∙ put_value c.syntax tag vr (attribute ops c tag) ts element

    step : ((eqb tag t ≡ true) × (tag ≡ t)) ⊎ ((eqb tag t ≡ false) × (tag ≢ t)) → Has (t ∷ tags) tag
        ⊎ (value_in tag ts ≡ Some (trimmed (attribute ops c tag)))
        → Has tags tag ⊎ (value_in tag (with_attribute ops c t ts) ≡ Some (trimmed (attribute ops c tag)))
    step (inl same_tag) was = inr (put_here same_tag.1)
    step (inr apart) (inl (inl is)) = absurd (apart.1 is)
    step (inr apart) (inl (inr later)) = inl later
    step (inr apart) (inr there) = inr (other_kept ops c t tag (correction_vr_of t) ts element apart.1 ∙ there)

values_kept : (ops : List Op) (c : ContentParts) (tag : ℕ) → is_group_length tag ≡ false
    → (is_changed ops c tag ≡ false) ⊎ (correction_vr_of tag ≡ None)
    → (tags : List ℕ) (ts : List Tree) → value_in tag (with_attributes ops c tags ts) ≡ value_in tag ts
values_kept ops c tag element none [] ts = refl
values_kept ops c tag element none (t ∷ tags) ts = values_kept ops c tag element none tags (with_attribute ops c t ts)
    ∙ step (eqb_tells tag t)
  where
    step : ((eqb tag t ≡ true) × (tag ≡ t)) ⊎ ((eqb tag t ≡ false) × (tag ≢ t))
        → value_in tag (with_attribute ops c t ts) ≡ value_in tag ts
    step (inl same_tag) = ap (λ (u : ℕ). value_in tag (with_attribute ops c u ts)) (sym same_tag.1)
        ∙ ap (value_in tag) (not_put ops c tag ts none)
    step (inr apart) = other_kept ops c t tag (correction_vr_of t) ts element apart.1

-- a line of an attribute that may be corrected has its tag among them
abbrev is_listed : Line → Bool
is_listed line = not (is_some (correction_of line.role)) || list_any (λ one. one == line.tag) corrected_tags

listed : BearsOut (λ tag vr role. Has corrected_tags tag) is_listed
listed line entity passed is =
    let at = any_has (λ one. one == line.tag) corrected_tags (subst (λ (o : Option Entity). (not (is_some o)
    || list_any (λ one. one == line.tag) corrected_tags) ≡ true) is passed) in
    subst (λ (t : ℕ). Has corrected_tags t) (eqb-true at.0 line.tag at.2) at.1

-- a tag with a value representation is one of those that may be corrected
has_vr : (tag : ℕ) (vr : List ℕ) → correction_vr_of tag ≡ Some vr → Has corrected_tags tag
has_vr tag vr e = by (correction_of (role_in_table tag)) refl e
  where
    by : (o : Option Entity) → correction_of (role_in_table tag) ≡ o → option_map (λ x. vr_in_table tag) o ≡ Some vr
        → Has corrected_tags tag
    by None is e = absurd cc
    by (Some entity) is e = of_table (λ tag vr role. Has corrected_tags tag) is_listed listed refl tag entity is

pub coerced_has_attributes : CoercedHasAttributes
unfolding coerced
coerced_has_attributes ops c ts tag vr element e changed = values_put ops c tag vr element e changed corrected_tags
    ts (inl (has_vr tag vr e))

pub coerced_keeps_others : CoercedKeepsOthers
unfolding coerced
coerced_keeps_others ops c ts tag element none = values_kept ops c tag element none corrected_tags ts

none_changed : (ops : List Op) (c : ContentParts) (tags : List ℕ)
    → ((tag : ℕ) → Has tags tag → attribute ops c tag ≡ own_value c tag) → list_any (is_changed ops c) tags ≡ false
none_changed ops c [] own = refl
none_changed ops c (tag ∷ tags) own =
    ap (λ (b : Bool). not b || list_any (is_changed ops c) tags) (same_itself (attribute ops c tag) (own_value c tag)
    (own tag (inl refl)))
    ∙ none_changed ops c tags (λ t has. own t (inr has))

pub own_is_not_coerced : OwnIsNotCoerced
own_is_not_coerced ops c own = none_changed ops c corrected_tags own
