-- The studies, as a C-FIND answers them to the called title ARCHIVE.
use Rattle.std.specs.Prelude.{◌≡◌, ℕ, List, [], ◌∷◌, ◌++◌, Option, None, false, length, map, codes, if◌then◌else◌}
use Rattle.std.specs.List.{filter_map}
use Rattle.std.specs.Fmt.{decimal}
use Rattle.dictionary.specs.declared.elements.TheConstants.{NUMBER_OF_STUDY_RELATED_INSTANCES}
use Rattle.dictionary.specs.declared.elements.TheConstants.{NUMBER_OF_STUDY_RELATED_SERIES, PATIENT_ID, PATIENT_NAME}
use Rattle.dictionary.specs.declared.elements.TheConstants.{STUDY_DATE, STUDY_INSTANCE_UID}
use Rattle.data_set.specs.Set.{Set}
use Rattle.data_set.specs.Values.{value_in}
use Rattle.operation.specs.declared.op.Op.{Op}
use Rattle.operation.specs.Parts.{ContentParts, value_or_empty}
use Rattle.archive_model.specs.Contents.{pick, study_of}
use Rattle.archive_model.specs.Groups.{in_study}
use Rattle.archive_model.specs.declared.view.View.TheVariants.{Archive}
use Rattle.dictionary.specs.declared.role.Matching.{Matching}
use Rattle.dictionary.specs.declared.role.Matching.TheVariants.{Dates, WildCard, Name, Answered}
use Rattle.archive_model.specs.declared.asked.Asked.{Asked}
use Rattle.archive_model.specs.declared.query.Query.{Query}
use Rattle.archive_model.specs.declared.key.Level.TheVariants.{Study}
use Rattle.archive_model.specs.Rows.{rows_of}
use Rattle.archive_query.specs.Found.{rows_found}
use Rattle.study_index.specs.Index.{is_short}
use Rattle.site_tables.specs.declared.studies.TakenStudies.{TakenStudies}
use Rattle.site_tables.specs.declared.under.Under.{Under}
use Rattle.site_tables.specs.Under.{pairs, held_under}
use Rattle.site_tables.specs.Rejected.{notes_of, covered_uids}

-- a universal key (PS3.4, C.2.2.2.3)
abbrev pub asked_of : ℕ → Matching → Asked
asked_of tag matching = record { tag = tag; matching = matching; key = [] }

-- the query at STUDY for date, name and Patient ID, and for how many series and instances there are
abbrev pub study_query : Query
study_query = record {
  level = Study;
  study = [];
  series = [];
  asked =
      asked_of STUDY_DATE Dates ∷ asked_of PATIENT_NAME Name ∷ asked_of PATIENT_ID WildCard
      ∷ asked_of NUMBER_OF_STUDY_RELATED_SERIES Answered ∷ asked_of NUMBER_OF_STUDY_RELATED_INSTANCES Answered ∷ [];
  partial = false;
}

-- the pick of a UID, which has at most 64 bytes where there is a content of it
abbrev pub pick_of_short : List Op → List ℕ → Option ContentParts
pick_of_short ops uid = if is_short uid then pick uid ops else None

-- the picks of the UIDs that notes name
abbrev pub rejected_picks : List Op → List ContentParts
rejected_picks ops = filter_map (pick_of_short ops) (covered_uids (notes_of ops))

-- the trimmed value of an element, empty where there is none
abbrev pub value_or_none : ℕ → Set → List ℕ
value_or_none tag set = value_or_empty (value_in tag set.elements)

-- the values of an answered study under some tags, and how many of the rejected are of it
abbrev pub row_with : List ℕ → List ContentParts → Set → List (List ℕ)
row_with tags rejected set =
    map (λ tag. value_or_none tag set) tags
    ++ decimal (length (in_study (value_or_none STUDY_INSTANCE_UID set) rejected)) ∷ []

-- what is told of each study
abbrev pub study_tags : List ℕ
study_tags =
    STUDY_INSTANCE_UID ∷ PATIENT_ID ∷ PATIENT_NAME ∷ STUDY_DATE ∷ NUMBER_OF_STUDY_RELATED_SERIES
    ∷ NUMBER_OF_STUDY_RELATED_INSTANCES ∷ []

-- a content under its study
abbrev pub study_pair : ContentParts → List ℕ × ContentParts
study_pair c = (study_of c, c)

-- the same row, by the contents that lie under the study
abbrev pub row_by : List ℕ → List (Under ContentParts) → Set → List (List ℕ)
row_by tags entries set =
    map (λ tag. value_or_none tag set) tags
    ++ decimal (length (held_under (value_or_none STUDY_INSTANCE_UID set) (pairs entries))) ∷ []

-- the rows of what a C-FIND for all studies answers in ARCHIVE
abbrev pub study_rows : List Op → List (List (List ℕ))
study_rows ops =
    map (row_with study_tags (rejected_picks ops)) (rows_of Archive (codes "ARCHIVE") study_query ops)

-- what a look took for rows of studies: what the rows of a query are made of, and the rejected picks
pub record AreTaken (q : Query) (ops : List Op) (taken : TakenStudies) : Type 0 where
  pub rows : (called : List ℕ) → rows_found called q taken.found ≡ rows_of Archive called q ops
  pub rejected : taken.rejected ≡ rejected_picks ops

-- the rows of all studies, by what was taken
abbrev pub rows_taken : TakenStudies → List (List (List ℕ))
rows_taken taken =
    map (row_with study_tags taken.rejected) (rows_found (codes "ARCHIVE") study_query taken.found)
