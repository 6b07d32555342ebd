-- The pages of studies, as a search finds them.
use Rattle.std.specs.Prelude.{◌≡◌, ℕ, ◌-◌, ◌*◌, List, [], ◌∷◌, Bool, false, not, ◌&&◌, cond, length}
use Rattle.std.specs.Prelude.{map, take, drop, codes, Result, Ok, Err}
use Rattle.std.specs.List.{filter, list_any}
use Rattle.dictionary.specs.declared.elements.TheConstants.{ACCESSION_NUMBER, MODALITIES_IN_STUDY}
use Rattle.dictionary.specs.declared.elements.TheConstants.{NUMBER_OF_STUDY_RELATED_INSTANCES}
use Rattle.dictionary.specs.declared.elements.TheConstants.{NUMBER_OF_STUDY_RELATED_SERIES, PATIENT_ID, PATIENT_NAME}
use Rattle.dictionary.specs.declared.elements.TheConstants.{STUDY_DATE, STUDY_INSTANCE_UID}
use Rattle.octets.specs.Padding.{trimmed}
use Rattle.data_set.specs.Set.{Set}
use Rattle.operation.specs.declared.op.Op.{Op}
use Rattle.operation.specs.Parts.{ContentParts}
use Rattle.archive_model.specs.declared.view.View.TheVariants.{Archive}
use Rattle.dictionary.specs.declared.role.Matching.{Matching}
use Rattle.dictionary.specs.declared.role.Matching.TheVariants.{Dates, WildCard, Name, Answered}
use Rattle.key_matching.specs.Matches.{is_universal, is_of_form, matches, parts}
use Rattle.archive_model.specs.declared.asked.Asked.{Asked}
use Rattle.archive_model.specs.declared.query.Query.{Query}
use Rattle.archive_model.specs.declared.key.Level.TheVariants.{Study}
use Rattle.archive_model.specs.Rows.{rows_of}
use Rattle.site_tables.specs.Studies.{value_or_none, row_with, rejected_picks}
use Rattle.archive_page.specs.declared.answer.Answer.{Answer}
use Rattle.archive_page.specs.declared.answer.Status.TheVariants.{BadRequest}
use Rattle.archive_page.specs.declared.links.TheConstants.{PAGE_LENGTH}
use Rattle.archive_page.specs.declared.listing.Listing.{Listing}
use Rattle.archive_page.specs.declared.search.Search.{Search}
use Rattle.archive_page.specs.declared.search.SearchFault.{SearchFault}
use Rattle.archive_page.specs.declared.subject.Form.{Form}
use Rattle.archive_page.specs.Answers.{listing_answer, refusal}
use Rattle.archive_page.specs.Searches.{search_in, words_of}
use Rattle.site_pages.specs.declared.searching.Searched.{Searched}
use Rattle.site_pages.specs.declared.searching.Searched.TheVariants.{Found, Refused}
use Rattle.site_pages.specs.declared.searching.TheConstants.{BAD_DATE}

abbrev pub key_of : ℕ → Matching → List ℕ → Asked
key_of tag matching key = record { tag = tag; matching = matching; key = key }

-- the query at STUDY that a search is, for all that is told of each study (PS3.4, C.6.2.1)
abbrev pub query_of : Search → Query
query_of search = record {
  level = Study;
  study = [];
  series = [];
  asked =
      key_of STUDY_DATE Dates search.date ∷ key_of ACCESSION_NUMBER WildCard search.accession
      ∷ key_of MODALITIES_IN_STUDY Answered [] ∷ key_of PATIENT_NAME Name search.name
      ∷ key_of PATIENT_ID WildCard search.patient ∷ key_of NUMBER_OF_STUDY_RELATED_SERIES Answered []
      ∷ key_of NUMBER_OF_STUDY_RELATED_INSTANCES Answered [] ∷ [];
  partial = false;
}

-- whether the date that is searched for is neither a date nor a range of dates
abbrev pub has_bad_date : Search → Bool
has_bad_date search = not (is_universal search.date) && not (is_of_form Dates search.date)

-- the modalities of an answered study
abbrev pub modalities : Set → List (List ℕ)
modalities set = map trimmed (parts (value_or_none MODALITIES_IN_STUDY set))

-- whether one of them matches a key
abbrev pub has_modality : List ℕ → Set → Bool
has_modality key set = list_any (matches WildCard key) (modalities set)

-- those of some answered studies that have the modality that is searched for
abbrev pub of_modality : Search → List Set → List Set
of_modality search sets = filter (has_modality search.modality) sets

-- the studies that a search finds: what a C-FIND answers to it in ARCHIVE, of its modality
abbrev pub studies_found : Search → List Op → List Set
studies_found search ops = of_modality search (rows_of Archive (codes "ARCHIVE") (query_of search) ops)

-- those that stand on a page, none behind the last
abbrev pub page_of : ℕ → List Set → List Set
page_of page sets = take PAGE_LENGTH (drop ((page - 1) * PAGE_LENGTH) sets)

-- what is told of each study
abbrev pub listed_tags : List ℕ
listed_tags =
    STUDY_INSTANCE_UID ∷ PATIENT_ID ∷ PATIENT_NAME ∷ STUDY_DATE ∷ ACCESSION_NUMBER ∷ MODALITIES_IN_STUDY
    ∷ NUMBER_OF_STUDY_RELATED_SERIES ∷ NUMBER_OF_STUDY_RELATED_INSTANCES ∷ []

-- the page of some studies that a search finds, with how many of the rejected are of each
abbrev pub listing_with : List ContentParts → Search → List Set → Listing
listing_with rejected search sets = record {
  search = search;
  total = length sets;
  rows = map (row_with listed_tags rejected) (page_of search.page sets);
}

-- the page of what a search finds
abbrev pub listing_of : Search → List Op → Listing
listing_of search ops = listing_with (rejected_picks ops) search (studies_found search ops)

-- what a search is answered
abbrev pub answer_to : Form → Search → List Op → Answer
answer_to form search ops =
    cond (has_bad_date search) (refusal BadRequest BAD_DATE) (listing_answer form (listing_of search ops))

abbrev pub studies_at : Form → Result Search SearchFault → List Op → Answer
studies_at form (Err fault) ops = refusal BadRequest (words_of fault)
studies_at form (Ok search) ops = answer_to form search ops

-- what a query for studies is answered: a page of what it finds, or why it says no search
abbrev pub studies_answer : Form → List ℕ → List Op → Answer
studies_answer form query ops = studies_at form (search_in query) ops

-- what a query says: this search, which has no bad date, or this answer over every set, with why it says none
abbrev pub Reads : List ℕ → Searched → Type 0
Reads query (Found search) = (search_in query ≡ Ok search) × (has_bad_date search ≡ false)
Reads query (Refused answer) = (form : Form) (ops : List Op) → answer ≡ studies_answer form query ops
