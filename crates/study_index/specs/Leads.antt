-- From values to studies: what leads from a value of an attribute to a study.
use Rattle.std.specs.Prelude.{◌≡◌, ◌⊎◌, ℕ, nat_le, List, [], ◌∷◌, ◌++◌, map, length, take, Bool, true, ◌&&◌, ◌||◌, ◌==◌}
use Rattle.std.specs.Prelude.{if◌then◌else◌}
use Rattle.std.specs.List.{filter, list_any}
use Rattle.std.specs.Ordering.{nat_cmp, ordering_then}
use Rattle.std.specs.declared.cmp.Ordering.{Ordering}
use Rattle.std.specs.declared.cmp.Ordering.TheVariants.{Less}
use Rattle.std.specs.BTreeMap.{is_at}
use Rattle.std.specs.BTreeMap.Range.{range_contains}
use Rattle.std.specs.declared.ops.Bound.TheVariants.{Included, Excluded}
use Rattle.std.specs.Char.{to_ascii_uppercase}
use Rattle.dictionary.specs.declared.elements.TheConstants.{ACCESSION_NUMBER, PATIENT_ID, PATIENT_NAME, STUDY_DATE}
use Rattle.dictionary.specs.declared.elements.TheConstants.{STUDY_ID}
use Rattle.operation.specs.declared.op.Op.{Op}
use Rattle.operation.specs.declared.op.Op.TheVariants.{Content as a_content, Correction as a_correction}
use Rattle.operation.specs.declared.target.Target.{Target}
use Rattle.operation.specs.declared.target.Target.TheVariants.{Study, Patient, Series}
use Rattle.operation.specs.Parts.{ContentParts, own_value}
use Rattle.octets.specs.Texts.{same, text_cmp}
use Rattle.archive_model.specs.Contents.{study_of}
use Rattle.join_laws.specs.GrowSet.{union_of, only}

abbrev pub Text : Type 0
Text = List ℕ

-- a tag and a value, and the kind and the key of what it leads to: 1 for a study, 2 for the studies of a stored Patient
-- ID; 0 and 3 are before and behind all that a value leads to
pub record Lead : Type 0 where
  pub tag : ℕ
  pub value : Text
  pub kind : ℕ
  pub key : Text

abbrev pub a_lead : ℕ → Text → ℕ → Text → Lead
a_lead tag value kind key = record { tag = tag; value = value; kind = kind; key = key }

-- the same without its tag
pub record Named : Type 0 where
  pub value : Text
  pub kind : ℕ
  pub key : Text

-- part after part
abbrev pub lead_cmp : Lead → Lead → Ordering
lead_cmp x y = ordering_then (nat_cmp x.tag y.tag) (ordering_then (text_cmp x.value y.value)
    (ordering_then (nat_cmp x.kind y.kind) (text_cmp x.key y.key)))

-- ---- values

-- the attributes from whose values studies are found
abbrev pub led_tags : List ℕ
led_tags = STUDY_DATE ∷ ACCESSION_NUMBER ∷ PATIENT_NAME ∷ PATIENT_ID ∷ STUDY_ID ∷ []

-- a name is led from without its case
abbrev pub is_folded : ℕ → Bool
is_folded tag = tag == PATIENT_NAME

abbrev pub led_byte : Bool → ℕ → ℕ
led_byte folds byte = if folds then to_ascii_uppercase byte else byte

-- a value as it is led from: 64 bytes of it at most
abbrev pub as_led : ℕ → List ℕ → Text
as_led tag value = map (led_byte (is_folded tag)) (take 64 value)

-- ---- the leads of one operation, and of a set

-- a content's own value leads to its study
abbrev pub stored_lead : ContentParts → ℕ → Lead
stored_lead c tag = a_lead tag (as_led tag (own_value c tag)) 1 (take 64 (study_of c))

-- a correction's value leads to its study, or to the studies of its patient; no attribute of a study is one of a series
abbrev pub given_leads : Target → ℕ → Text → List Lead
given_leads (Study key) tag value = only (a_lead tag (as_led tag value) 1 (take 64 key))
given_leads (Patient key) tag value = only (a_lead tag (as_led tag value) 2 (take 64 key))
given_leads (Series key) tag value = []

abbrev pub leads_of : Op → List Lead
leads_of (a_content c) = union_of lead_cmp [] (map (stored_lead c) led_tags)
leads_of (a_correction k) = given_leads k.target k.tag k.value

-- whether some operation gives a lead
abbrev pub is_lead : List Op → Lead → Bool
is_lead ops lead = list_any (λ op. list_any (is_at (lead_cmp lead)) (leads_of op)) ops

-- ---- what they lead to

abbrev pub is_between : Lead → Lead → Lead → Bool
is_between front end lead = range_contains lead_cmp (Included front) (Excluded end) lead

-- a value's front and end
abbrev pub value_front : ℕ → Text → Lead
value_front tag value = a_lead tag value 0 []

abbrev pub value_end : ℕ → Text → Lead
value_end tag value = a_lead tag value 3 []

-- the studies of a stored Patient ID stand side by side
abbrev pub home_front : Text → Lead
home_front patient = a_lead PATIENT_ID patient 1 []

abbrev pub home_end : Text → Lead
home_end patient = a_lead PATIENT_ID patient 2 []

abbrev pub is_key : Text → Lead → Bool
is_key s lead = is_at (text_cmp s) lead.key

abbrev pub is_homed : List Lead → Text → Text → Bool
is_homed leads s patient = list_any (is_key s) (filter (is_between (home_front patient) (home_end patient)) leads)

abbrev pub leads_to : List Lead → Text → Lead → Bool
leads_to leads s lead = if lead.kind == 2 then is_homed leads s lead.key else is_key s lead

-- whether the leads that pass a test come to a study
abbrev pub is_led : (Lead → Bool) → List Lead → Text → Bool
is_led passes leads s = list_any (leads_to leads s) (filter passes leads)

-- ---- walks

-- whether a text begins with a run of bytes
abbrev pub begins_with : List ℕ → List ℕ → Bool
begins_with run text = same run (take (length run) text)

-- whether a run of bytes stands in a text
abbrev pub has_run : List ℕ → List ℕ → Bool
has_run run [] = begins_with run []
has_run run (t ∷ text) = begins_with run (t ∷ text) || has_run run text

-- whether a run may stand in a value, of which 64 bytes at most are known
abbrev pub may_have : Text → Text → Bool
may_have run value = nat_le 64 (length value) || has_run run value

-- a walk of leads: from a front on and before an end those from values in which a needle may stand
pub record LeadWalk : Type 0 where
  pub front : Lead
  pub end : Lead
  pub needle : Text

abbrev pub walk_of : Lead → Lead → Text → LeadWalk
walk_of front end needle = record { front = front; end = end; needle = needle }

abbrev pub is_walked : LeadWalk → Lead → Bool
is_walked walk lead = is_between walk.front walk.end lead && may_have walk.needle lead.value

-- whatever a value of a tag leads to passes a test of leads
abbrev pub IsWithin : (Lead → Bool) → ℕ → Text → Type 0
IsWithin passes tag value = (kind : ℕ) (key : Text) → (kind ≡ 1) ⊎ (kind ≡ 2)
    → passes (a_lead tag (as_led tag value) kind key) ≡ true

-- whatever a value that begins with a text leads to is before a lead
abbrev pub IsBehind : ℕ → Text → Lead → Type 0
IsBehind tag text end = (rest : Text) (kind : ℕ) (key : Text)
    → lead_cmp (a_lead tag (text ++ rest) kind key) end ≡ Less
