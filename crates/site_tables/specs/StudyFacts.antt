-- What is told of a study itself, as a C-FIND answers it to the called title AUDIT, which hides nothing.
use Rattle.std.specs.Prelude.{◌≡◌, ℕ, List, [], ◌∷◌, ◌++◌, false, codes, if◌then◌else◌}
use Rattle.dictionary.specs.declared.elements.TheConstants.{STUDY_DATE, STUDY_TIME, ACCESSION_NUMBER}
use Rattle.dictionary.specs.declared.elements.TheConstants.{MODALITIES_IN_STUDY, REFERRING_PHYSICIAN_NAME}
use Rattle.dictionary.specs.declared.elements.TheConstants.{STUDY_DESCRIPTION, PATIENT_NAME, PATIENT_ID}
use Rattle.dictionary.specs.declared.elements.TheConstants.{PATIENT_BIRTH_DATE, PATIENT_SEX, STUDY_INSTANCE_UID}
use Rattle.dictionary.specs.declared.elements.TheConstants.{STUDY_ID, NUMBER_OF_STUDY_RELATED_SERIES}
use Rattle.dictionary.specs.declared.elements.TheConstants.{NUMBER_OF_STUDY_RELATED_INSTANCES}
use Rattle.dictionary.specs.declared.role.Matching.TheVariants.{Dates, Times, WildCard, Name, Uids, Answered}
use Rattle.octets.specs.Texts.{same}
use Rattle.data_set.specs.Set.{Set}
use Rattle.operation.specs.declared.op.Op.{Op}
use Rattle.archive_model.specs.declared.view.View.TheVariants.{Audit}
use Rattle.archive_model.specs.declared.asked.Asked.{Asked}
use Rattle.archive_model.specs.declared.query.Query.{Query}
use Rattle.archive_model.specs.declared.key.Level.TheVariants.{Study}
use Rattle.archive_model.specs.Rows.{rows_of}
use Rattle.archive_query.specs.Found.{FoundValue, rows_found}
use Rattle.site_tables.specs.declared.study_facts.TheConstants.{DESCRIPTION, REFERRING_PHYSICIAN, ACCESSION}
use Rattle.site_tables.specs.declared.study_facts.StudyFacts.{StudyFacts}
use Rattle.site_tables.specs.Studies.{asked_of, value_or_none}

-- ---- what is asked: universal keys (PS3.4, C.2.2.2.3), and the study

abbrev pub study_keys : List Asked
study_keys =
    asked_of STUDY_DATE Dates ∷ asked_of STUDY_TIME Times ∷ asked_of ACCESSION_NUMBER WildCard
    ∷ asked_of MODALITIES_IN_STUDY Answered ∷ asked_of REFERRING_PHYSICIAN_NAME WildCard
    ∷ asked_of STUDY_DESCRIPTION WildCard ∷ []

abbrev pub patient_keys : List Asked
patient_keys =
    asked_of PATIENT_NAME Name ∷ asked_of PATIENT_ID WildCard ∷ asked_of PATIENT_BIRTH_DATE Dates
    ∷ asked_of PATIENT_SEX WildCard ∷ []

-- the study, by its UID (PS3.4, C.2.2.2.2), its ID, and how many series and instances there are
abbrev pub uid_keys : List ℕ → List Asked
uid_keys uid =
    record { tag = STUDY_INSTANCE_UID; matching = Uids; key = uid } ∷ asked_of STUDY_ID WildCard
    ∷ asked_of NUMBER_OF_STUDY_RELATED_SERIES Answered ∷ asked_of NUMBER_OF_STUDY_RELATED_INSTANCES Answered ∷ []

-- the query at STUDY for a study, in ascending tags
abbrev pub fact_query : List ℕ → Query
fact_query uid = record {
  level = Study;
  study = [];
  series = [];
  asked = study_keys ++ patient_keys ++ uid_keys uid;
  partial = false;
}

-- ---- what is told

-- what an attribute is, and its value
unfoldable pub fact_row : List ℕ → ℕ → Set → List (List ℕ)
fact_row what tag set = what ∷ value_or_none tag set ∷ []

abbrev pub patient_rows : Set → List (List (List ℕ))
patient_rows set =
    fact_row (codes "patient") PATIENT_NAME set
    ∷ fact_row (codes "patient ID") PATIENT_ID set
    ∷ fact_row (codes "birth date") PATIENT_BIRTH_DATE set
    ∷ fact_row (codes "sex") PATIENT_SEX set
    ∷ []

abbrev pub moment_rows : Set → List (List (List ℕ))
moment_rows set =
    fact_row (codes "date") STUDY_DATE set
    ∷ fact_row (codes "time") STUDY_TIME set
    ∷ fact_row DESCRIPTION STUDY_DESCRIPTION set
    ∷ []

abbrev pub order_rows : Set → List (List (List ℕ))
order_rows set =
    fact_row REFERRING_PHYSICIAN REFERRING_PHYSICIAN_NAME set
    ∷ fact_row ACCESSION ACCESSION_NUMBER set
    ∷ fact_row (codes "study ID") STUDY_ID set
    ∷ []

abbrev pub count_rows : Set → List (List (List ℕ))
count_rows set =
    fact_row (codes "modalities") MODALITIES_IN_STUDY set
    ∷ fact_row (codes "series") NUMBER_OF_STUDY_RELATED_SERIES set
    ∷ fact_row (codes "instances") NUMBER_OF_STUDY_RELATED_INSTANCES set
    ∷ []

-- what is told of its patient, of when and what it is, of its order, and of what is in it
unfoldable pub fact_rows : Set → List (List (List ℕ))
fact_rows set = patient_rows set ++ moment_rows set ++ order_rows set ++ count_rows set

-- what an answered study tells of itself
abbrev pub facts_of : Set → StudyFacts
facts_of set = record {
  name = value_or_none PATIENT_NAME set;
  date = value_or_none STUDY_DATE set;
  rows = fact_rows set;
}

-- what is told where nothing is answered
abbrev pub no_facts : StudyFacts
no_facts = record { name = []; date = []; rows = [] }

-- what the first of some answered studies that has this UID tells of itself
abbrev pub facts_among : List ℕ → List Set → StudyFacts
facts_among uid [] = no_facts
facts_among uid (set ∷ sets) =
    if same (value_or_none STUDY_INSTANCE_UID set) uid then facts_of set else facts_among uid sets

-- what a C-FIND for a study tells of it in AUDIT
abbrev pub study_facts : List ℕ → List Op → StudyFacts
study_facts uid ops = facts_among uid (rows_of Audit (codes "AUDIT") (fact_query uid) ops)

-- the same, by what a look took
abbrev pub facts_by : List ℕ → FoundValue → StudyFacts
facts_by uid found = facts_among uid (rows_found (codes "AUDIT") (fact_query uid) found)

-- this is what a C-FIND for a study in AUDIT is made of
abbrev pub IsFound : List ℕ → List Op → FoundValue → Type 0
IsFound uid ops found =
    (called : List ℕ) → rows_found called (fact_query uid) found ≡ rows_of Audit called (fact_query uid) ops
