-- For which target an attribute can be corrected, as the table of tags tells it.
use Rattle.std.proofs.Common.{◌≡◌, ℕ, ◌<◌, ◌^◌, [], List, Bool, true, false, refl, subst, sym, ap, ◌∙◌}
use Rattle.std.specs.Prelude.{◌&&◌, ◌||◌, not, nat_lt, is_some, ◌==◌, ◌/◌, ◌↔◌, IsTrue, Option, Some, None}
use Rattle.std.specs.List.{list_all}
use Rattle.std.specs.Option.{option_map}
use Rattle.std.proofs.lemmas.Bool.{eqb-true, ltb-true, false≢true, and_parts as both}
use Rattle.dictionary.specs.declared.role.Entity.{Entity}
use Rattle.dictionary.specs.declared.role.Entity.TheVariants.{Patient as a_patient, Study as a_study}
use Rattle.dictionary.specs.declared.role.Entity.TheVariants.{Series as a_series, Instance as an_instance}
use Rattle.dictionary.specs.declared.role.Role.{Role}
use Rattle.dictionary.specs.Elements.{Line, table, vr_in_table, role_in_table}
use Rattle.dictionary.specs.Roles.{correction_of}
use Rattle.dictionary.proofs.Lines.{Claim, BearsOut, of_table}
use Rattle.operation.specs.declared.target.Target.{Target}
use Rattle.operation.specs.declared.target.Target.TheVariants.{Study, Patient, Series}
use Rattle.operation.specs.Parts.{CorrectionParts}
use Rattle.operation.specs.Corrections.{is_correction, is_corrected, is_entity_for, is_tag_for, is_series, IsCorrection}

-- ---- any of them

vr_known : (o : Option Entity) (f : Entity → List ℕ) → is_some o ≡ true → is_some (option_map f o) ≡ true
vr_known None f e = absurd (false≢true e)
vr_known (Some entity) f e = refl

entity_known : (target : Target) (o : Option Entity) → is_entity_for target o ≡ true → is_some o ≡ true
entity_known target None e = absurd (false≢true e)
entity_known target (Some entity) e = refl

-- a tag for a target is one of those that can be corrected
pub tag_corrected : (target : Target) (tag : ℕ) → is_tag_for target tag ≡ true → is_corrected tag ≡ true
tag_corrected target tag e = vr_known (correction_of (role_in_table tag)) (λ entity. vr_in_table tag)
    (entity_known target (correction_of (role_in_table tag)) e)

-- what a line passes whose attribute is for a target
by_line : (P : Claim) (test : Line → Bool) → BearsOut P test → list_all test table ≡ true → (target : Target) (tag : ℕ)
    → is_tag_for target tag ≡ true → P tag (vr_in_table tag) (role_in_table tag)
by_line P test holds all target tag e = by (correction_of (role_in_table tag)) refl e
  where
    by : (o : Option Entity) → correction_of (role_in_table tag) ≡ o → is_entity_for target o ≡ true
        → P tag (vr_in_table tag) (role_in_table tag)
    by None is e = absurd (false≢true e)
    by (Some entity) is e = of_table P test holds all tag entity is

-- it is one of 32 bits, as all tags are
tag_for : (target : Target) (tag : ℕ) → is_tag_for target tag ≡ true → tag < 2 ^ 32
tag_for target tag e = by_line (λ tag vr role. tag < 2 ^ 32) (λ line. nat_lt line.tag (2 ^ 32))
    (λ line entity small is. ltb-true line.tag (2 ^ 32) small) refl target tag e

pub tag_small : (k : CorrectionParts) → IsCorrection k → k.tag < 2 ^ 32
unfolding is_correction
tag_small k is = tag_for k.target k.tag (both _ _ (both _ _ (both _ _ (both _ _ is.lawful).0).0).0).1

-- ---- the tag of a series

-- a line of an attribute of a series is that of its description
abbrev is_description : Line → Bool
is_description line = not (is_entity_for (Series []) (correction_of line.role)) || line.tag == 0x0008_103e

abbrev IsDescription : ℕ → List ℕ → Role → Type 0
IsDescription tag vr role = is_entity_for (Series []) (correction_of role) ≡ true → tag ≡ 0x0008_103e

described : BearsOut IsDescription is_description
described line entity passed is = λ of_series. eqb-true line.tag 0x0008_103e
    (subst (λ (b : Bool). (not b || line.tag == 0x0008_103e) ≡ true) of_series passed)

one_series : (key : List ℕ) (o : Option Entity) → is_entity_for (Series key) o ≡ true
    → is_entity_for (Series []) o ≡ true
one_series key None e = absurd (false≢true e)
one_series key (Some a_patient) e = absurd (false≢true e)
one_series key (Some a_study) e = absurd (false≢true e)
one_series key (Some a_series) e = refl
one_series key (Some an_instance) e = absurd (false≢true e)

-- a series takes no tag but that of its description
pub series_tag : (key : List ℕ) (tag : ℕ) → is_tag_for (Series key) tag ≡ true → tag ≡ 0x0008_103e
series_tag key tag e = by_line IsDescription is_description described refl (Series key) tag e
    (one_series key (correction_of (role_in_table tag)) e)

of_series : (target : Target) (tag : ℕ) → is_tag_for target tag ≡ true → (tag ≡ 0x0008_103e) ↔ IsTrue (is_series target)
unfolding role_in_table
of_series (Study key) tag e = (
  λ is. absurd (false≢true (subst (λ (t : ℕ). is_tag_for (Study key) t ≡ true) is e)),
  λ no. absurd (false≢true no),
)
of_series (Patient key) tag e = (
  λ is. absurd (false≢true (subst (λ (t : ℕ). is_tag_for (Patient key) t ≡ true) is e)),
  λ no. absurd (false≢true no),
)
of_series (Series key) tag e = (λ is. refl, λ yes. series_tag key tag e)

pub described_series : (k : CorrectionParts) → IsCorrection k → (k.tag ≡ 0x0008_103e) ↔ IsTrue (is_series k.target)
unfolding is_correction
described_series k is = of_series k.target k.tag (both _ _ (both _ _ (both _ _ (both _ _ is.lawful).0).0).0).1

-- ---- the group of a patient

abbrev alike : Bool → Bool → Bool
alike true b = b
alike false b = not b

alike_is : (a b : Bool) → alike a b ≡ true → a ≡ b
alike_is true true e = refl
alike_is true false e = absurd (false≢true e)
alike_is false true e = absurd (false≢true e)
alike_is false false e = refl

-- a line of an attribute that can be corrected is of a patient where its tag is of the patient's group
abbrev is_of_its_group : Line → Bool
is_of_its_group line = not (is_some (correction_of line.role))
    || alike (is_entity_for (Patient []) (correction_of line.role)) (line.tag / 65536 == 0x0010)

abbrev IsOfItsGroup : ℕ → List ℕ → Role → Type 0
IsOfItsGroup tag vr role = is_entity_for (Patient []) (correction_of role) ≡ (tag / 65536 == 0x0010)

grouped : BearsOut IsOfItsGroup is_of_its_group
grouped line entity passed is =
    let of_patient = is_entity_for (Patient []) (correction_of line.role) in
    alike_is of_patient (line.tag / 65536 == 0x0010) (subst (λ (o : Option Entity). (not (is_some o)
    || alike of_patient (line.tag / 65536 == 0x0010)) ≡ true) is passed)

one_patient : (key : List ℕ) (o : Option Entity) → is_entity_for (Patient key) o ≡ is_entity_for (Patient []) o
one_patient key None = refl
one_patient key (Some a_patient) = refl
one_patient key (Some a_study) = refl
one_patient key (Some a_series) = refl
one_patient key (Some an_instance) = refl

pub patient_group : (key : List ℕ) (tag : ℕ)
    → is_tag_for (Patient key) tag ≡ (is_corrected tag && tag / 65536 == 0x0010)
patient_group key tag = by (correction_of (role_in_table tag)) refl
  where
    by : (o : Option Entity) → correction_of (role_in_table tag) ≡ o
        → is_entity_for (Patient key) o ≡ (is_some (option_map (λ entity. vr_in_table tag) o) && tag / 65536 == 0x0010)
    by None is = refl
    by (Some entity) is =
        one_patient key (Some entity) ∙ ap (is_entity_for (Patient [])) (sym is)
        ∙ of_table IsOfItsGroup is_of_its_group grouped refl tag entity is
