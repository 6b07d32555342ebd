-- The contents of a set of operations. In specs the set is the list of its operations, ascending by digest.
use Rattle.std.specs.Prelude.{ℕ, List, Option, Bool, nat_lt, map, length}
use Rattle.std.specs.List.{filter, filter_map, find}
use Rattle.dictionary.specs.declared.elements.TheConstants.{MODALITY, PATIENT_ID, SERIES_INSTANCE_UID}
use Rattle.dictionary.specs.declared.elements.TheConstants.{STUDY_INSTANCE_UID}
use Rattle.operation.specs.declared.op.Op.{Op}
use Rattle.operation.specs.Parts.{ContentParts, own_value}
use Rattle.octets.specs.Texts.{same, ascending}
pub use Rattle.records.specs.Parts.{content_in}

-- the contents of a set
abbrev pub contents : List Op → List ContentParts
contents ops = filter_map content_in ops

-- whether a content has this SOP Instance UID
abbrev pub is_of_instance : List ℕ → ContentParts → Bool
is_of_instance instance c = same c.instance instance

-- the contents of a SOP Instance UID
abbrev pub contents_of : List ℕ → List Op → List ContentParts
contents_of instance ops = filter (is_of_instance instance) (contents ops)

-- the pick of a SOP Instance UID: of its contents the one of least digest, which stands first
abbrev pub pick : List ℕ → List Op → Option ContentParts
pick instance ops = find (is_of_instance instance) (contents ops)

-- the SOP Instance UIDs of a set, ascending
abbrev pub instances : List Op → List (List ℕ)
instances ops = ascending (map (λ c. c.instance) (contents ops))

-- whether a SOP Instance UID has two contents or more
abbrev pub is_flagged : List Op → List ℕ → Bool
is_flagged ops instance = nat_lt 1 (length (contents_of instance ops))

-- the flagged UIDs, ascending
abbrev pub flagged : List Op → List (List ℕ)
flagged ops = filter (is_flagged ops) (instances ops)

-- (0020,000D) Study Instance UID
abbrev pub study_of : ContentParts → List ℕ
study_of c = own_value c STUDY_INSTANCE_UID

-- (0020,000E) Series Instance UID
abbrev pub series_of : ContentParts → List ℕ
series_of c = own_value c SERIES_INSTANCE_UID

-- (0010,0020) Patient ID, as stored
abbrev pub patient_of : ContentParts → List ℕ
patient_of c = own_value c PATIENT_ID

-- (0008,0060) Modality
abbrev pub modality_of : ContentParts → List ℕ
modality_of c = own_value c MODALITY
