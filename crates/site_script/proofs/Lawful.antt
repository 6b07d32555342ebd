-- The data sets that the lines of a script make are data sets.
use Rattle.std.proofs.Common.{◌≡◌, ℕ, suc, ◌+◌, ◌%◌, ◌^◌, ◌<◌, ◌≤◌, List, [], ◌∷◌, ◌++◌, length, Bool, true, false}
use Rattle.std.proofs.Common.{cond, Option, Some, None, refl, sym, ap, ◌∙◌, arith, map, length-append, ◌==◌, codes}
use Rattle.std.specs.Prelude.{not, ◌||◌}
use Rattle.dictionary.specs.Elements.{vr_in_table}
use Rattle.dictionary.specs.declared.uids.TheConstants.{CT_IMAGE_STORAGE, KEY_OBJECT_SELECTION_DOCUMENT_STORAGE}
use Rattle.dictionary.specs.declared.titles.TheConstants.{CODING_SCHEME_DCM}
use Rattle.data_set.specs.declared.syntax.Syntax.{Syntax}
use Rattle.data_set.specs.declared.syntax.Syntax.TheVariants.{Implicit}
use Rattle.data_set.specs.declared.fault.SetFault.TheVariants.{Order, Group, Undefined}
use Rattle.data_set.specs.Header.{offence}
use Rattle.dictionary.specs.Tags.{is_above}
use Rattle.data_set.specs.Tags.{is_item_tag, is_reserved_group, is_listed, is_pixel_data}
use Rattle.data_set.specs.Tree.{rows_of}
use Rattle.data_set.specs.Values.{padded, pad_of}
use Rattle.data_set.specs.Vr.{undefined_length, inner_syntax, is_undefined}
use Rattle.data_set.specs.Written.{MayStand, AreRows, IsSet}
use Rattle.std.proofs.lemmas.Bool.{eqb-true}
use Rattle.dictionary.specs.declared.elements.TheConstants.{CODE_VALUE, CODING_SCHEME_DESIGNATOR}
use Rattle.dictionary.specs.declared.elements.TheConstants.{CONCEPT_NAME_CODE_SEQUENCE}
use Rattle.dictionary.specs.declared.elements.TheConstants.{CURRENT_REQUESTED_PROCEDURE_EVIDENCE_SEQUENCE, MODALITY}
use Rattle.dictionary.specs.declared.elements.TheConstants.{PATIENT_ID, PATIENT_NAME, REFERENCED_SERIES_SEQUENCE}
use Rattle.dictionary.specs.declared.elements.TheConstants.{REFERENCED_SOP_INSTANCE_UID, REFERENCED_SOP_SEQUENCE}
use Rattle.dictionary.specs.declared.elements.TheConstants.{SERIES_INSTANCE_UID, SOP_CLASS_UID, SOP_INSTANCE_UID}
use Rattle.dictionary.specs.declared.elements.TheConstants.{STUDY_INSTANCE_UID}
use Rattle.site_script.specs.Sets.{image_elements, note_elements, named, note_series}
use Rattle.site_script.specs.declared.command.ImageLine.{ImageLine}
use Rattle.site_script.specs.declared.command.NoteLine.{NoteLine}

no_end : (size : ℕ) → size < undefined_length → (size == undefined_length) ≡ false
no_end size small = by_tell (size == undefined_length) refl
  where
    by_number : size ≡ undefined_length → ⊥
    by_number e = omega (arith, e, small)

    by_tell : (b : Bool) → (size == undefined_length) ≡ b → (size == undefined_length) ≡ false
    by_tell true e = absurd (by_number (eqb-true size undefined_length e))
    by_tell false e = e

pub leaf_stands : (previous : Option ℕ) (tag : ℕ) (value : List ℕ) → tag < 2 ^ 32 → length value < undefined_length
    → is_item_tag tag ≡ false → is_above previous tag ≡ true → is_reserved_group tag ≡ false → is_listed tag ≡ false
    → MayStand Implicit previous tag None (length value) None
unfolding offence
leaf_stands previous tag value fits small item above reserved listed =
    let size = length value in
    let sized : (size == undefined_length) ≡ false = no_end size small in
    let inner : inner_syntax tag None size ≡ None = ap (λ (b : Bool). cond (b || is_listed tag) (Some Implicit) None)
    sized ∙ ap (λ (b : Bool). cond b (Some Implicit) None) listed in
    record {
      tag_fits = fits;
      suits = tt;
      fits = omega arith;
      faultless =
          ap (λ (o : Option Syntax). cond (is_item_tag tag || not (is_above previous tag)) (Some Order)
          (cond (is_reserved_group tag) (Some Group) (cond (is_undefined tag o size) (Some Undefined) None))) inner
          ∙ ap (λ (b : Bool). cond (b || not (is_above previous tag)) (Some Order)
          (cond (is_reserved_group tag) (Some Group) (cond (size == undefined_length) (Some Undefined) None))) item
          ∙ ap (λ (b : Bool). cond (not b) (Some Order) (cond (is_reserved_group tag) (Some Group)
          (cond (size == undefined_length) (Some Undefined) None))) above
          ∙ ap (λ (b : Bool). cond b (Some Group) (cond (size == undefined_length) (Some Undefined) None)) reserved
          ∙ ap (λ (b : Bool). cond b (Some Undefined) None) sized;
      is_inner = sym inner;
    }

padded_by : (b : Bool) (value : List ℕ) (pad : ℕ) → length (cond b value (value ++ (pad ∷ []))) ≤ length value + 1
padded_by true value pad = omega arith
padded_by false value pad = omega (arith, length-append value (pad ∷ []))

padded_short : (vr value : List ℕ) → length (padded vr value) ≤ length value + 1
padded_short vr value = padded_by (length value % 2 == 0) value (pad_of vr)

-- the most bytes of a value of a script, before it is padded
abbrev pub MOST : ℕ
MOST = 65600

pub valued_stands : (previous : Option ℕ) (tag : ℕ) (value : List ℕ) → tag < 2 ^ 32 → length value ≤ MOST
    → is_item_tag tag ≡ false → is_above previous tag ≡ true → is_reserved_group tag ≡ false → is_listed tag ≡ false
    → MayStand Implicit previous tag None (length (padded (vr_in_table tag) value)) None
valued_stands previous tag value fits short item above reserved listed =
    leaf_stands previous tag (padded (vr_in_table tag) value) fits
    (omega (arith, padded_short (vr_in_table tag) value, short)) item above reserved listed

pub record ImageFits (line : ImageLine) : Type 0 where
  pub study : length line.study ≤ 65536
  pub series : length line.series ≤ 65536
  pub instance : length line.instance ≤ 65536
  pub patient : length line.patient ≤ 65536
  pub name : length line.name ≤ 65536

pub image_lawful : (line : ImageLine) → ImageFits line → IsSet Implicit (image_elements line)
unfolding IsSet image_elements
image_lawful line fits = (
  valued_stands None SOP_CLASS_UID CT_IMAGE_STORAGE (omega arith) (omega arith) refl refl refl refl,
  (
    valued_stands (Some SOP_CLASS_UID) SOP_INSTANCE_UID (line.instance) (omega arith) (omega (arith, fits.instance))
        refl refl refl refl,
    (
      valued_stands (Some SOP_INSTANCE_UID) MODALITY (codes "CT") (omega arith) (omega arith) refl refl refl refl,
      (
        valued_stands (Some MODALITY) PATIENT_NAME (line.name) (omega arith) (omega (arith, fits.name)) refl refl refl
            refl,
        (
          valued_stands (Some PATIENT_NAME) PATIENT_ID (line.patient) (omega arith) (omega (arith, fits.patient)) refl
              refl refl refl,
          (
            valued_stands (Some PATIENT_ID) STUDY_INSTANCE_UID (line.study) (omega arith) (omega (arith, fits.study))
                refl refl refl refl,
            (
              valued_stands (Some STUDY_INSTANCE_UID) SERIES_INSTANCE_UID (line.series) (omega arith)
                  (omega (arith, fits.series)) refl refl refl refl,
              tt,
            ),
          ),
        ),
      ),
    ),
  ),
)

pub node_stands : (previous : Option ℕ) (tag : ℕ) → tag < 2 ^ 32 → is_item_tag tag ≡ false → is_above previous
    tag ≡ true → is_reserved_group tag ≡ false → is_pixel_data tag ≡ false → MayStand Implicit previous tag None
    undefined_length (Some Implicit)
unfolding offence
node_stands previous tag fits item above reserved pixels = record {
  tag_fits = fits;
  suits = tt;
  fits = omega arith;
  faultless =
      ap (λ (b : Bool). cond (b || not (is_above previous tag)) (Some Order) (cond (is_reserved_group tag) (Some Group)
      (cond (is_pixel_data tag) (Some Undefined) None))) item
      ∙ ap (λ (b : Bool). cond (not b) (Some Order) (cond (is_reserved_group tag) (Some Group)
      (cond (is_pixel_data tag) (Some Undefined) None))) above
      ∙ ap (λ (b : Bool). cond b (Some Group) (cond (is_pixel_data tag) (Some Undefined) None)) reserved
      ∙ ap (λ (b : Bool). cond b (Some Undefined) None) pixels;
  is_inner = refl;
}

abbrev pub AllShort : List (List ℕ) → Type 0
AllShort [] = Unit {0}
AllShort (word ∷ words) = (length word ≤ 65536) × AllShort words

images_lawful : (m : ℕ) (uids : List (List ℕ)) → AllShort uids → AreRows (rows_of (map named uids)) (suc m) Implicit
images_lawful m [] short = tt
images_lawful m (uid ∷ uids) (short, more) = (
  (
    valued_stands None REFERENCED_SOP_INSTANCE_UID (uid) (omega arith) (omega (arith, short)) refl refl refl refl,
    tt,
  ),
  images_lawful m uids more,
)

pub record NoteFits (line : NoteLine) : Type 0 where
  pub title : length line.title ≤ 65536
  pub study : length line.study ≤ 65536
  pub note : length line.note ≤ 65536
  pub covers : AllShort line.covers

pub note_lawful : (line : NoteLine) → NoteFits line → IsSet Implicit (note_elements line)
unfolding IsSet note_elements
note_lawful line fits =
    let series : length (line.note ++ codes ".0") ≤ MOST = omega (
      arith,
      length-append line.note (codes ".0"),
      fits.note,
    ) in (
      valued_stands None SOP_CLASS_UID KEY_OBJECT_SELECTION_DOCUMENT_STORAGE (omega arith) (omega arith) refl refl refl
          refl,
      (
        valued_stands (Some SOP_CLASS_UID) SOP_INSTANCE_UID (line.note) (omega arith) (omega (arith, fits.note)) refl
            refl refl refl,
        (
          valued_stands (Some SOP_INSTANCE_UID) MODALITY (codes "KO") (omega arith) (omega arith) refl refl refl refl,
          (
            valued_stands (Some MODALITY) STUDY_INSTANCE_UID (line.study) (omega arith) (omega (arith, fits.study)) refl
                refl refl refl,
            (
              valued_stands (Some STUDY_INSTANCE_UID) SERIES_INSTANCE_UID (note_series line) (omega arith) series refl
                  refl refl refl,
              (
                (
                  Implicit,
                  node_stands (Some SERIES_INSTANCE_UID) CONCEPT_NAME_CODE_SEQUENCE (omega arith) refl refl refl refl,
                  (
                    (
                      valued_stands None CODE_VALUE (line.title) (omega arith) (omega (arith, fits.title)) refl refl
                          refl refl,
                      (
                        valued_stands (Some CODE_VALUE) CODING_SCHEME_DESIGNATOR CODING_SCHEME_DCM (omega arith)
                            (omega arith) refl refl refl refl,
                        tt,
                      ),
                    ),
                    tt,
                  ),
                ),
                (
                  (
                    Implicit,
                    node_stands (Some CONCEPT_NAME_CODE_SEQUENCE) CURRENT_REQUESTED_PROCEDURE_EVIDENCE_SEQUENCE
                        (omega arith) refl refl refl refl,
                    (
                      (
                        (
                          Implicit,
                          node_stands None REFERENCED_SERIES_SEQUENCE (omega arith) refl refl refl refl,
                          (
                            (
                              (
                                Implicit,
                                node_stands None REFERENCED_SOP_SEQUENCE (omega arith) refl refl refl refl,
                                images_lawful 13 line.covers fits.covers,
                              ),
                              (
                                valued_stands (Some REFERENCED_SOP_SEQUENCE) SERIES_INSTANCE_UID (note_series line)
                                    (omega arith) series refl refl refl refl,
                                tt,
                              ),
                            ),
                            tt,
                          ),
                        ),
                        (
                          valued_stands (Some REFERENCED_SERIES_SEQUENCE) STUDY_INSTANCE_UID (line.study) (omega arith)
                              (omega (arith, fits.study)) refl refl refl refl,
                          tt,
                        ),
                      ),
                      tt,
                    ),
                  ),
                  tt,
                ),
              ),
            ),
          ),
        ),
      ),
    )
