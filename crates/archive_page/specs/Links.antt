-- The links between the pages of what a search finds, and the paths of the pages of studies.
use Rattle.std.specs.Prelude.{ℕ, ◌+◌, ◌-◌, ◌/◌, List, [], ◌++◌, Bool, ◌==◌, nat_lt, cond, length, codes}
use Rattle.std.specs.Fmt.{decimal}
use Rattle.form_urlencoded.specs.Form.{byte_serialize}
use Rattle.archive_page.specs.declared.links.TheConstants.{PAGE_LENGTH}
use Rattle.archive_page.specs.declared.search.Search.{Search}
use Rattle.archive_page.specs.declared.subject.Form.{Form}
use Rattle.archive_page.specs.declared.subject.Form.TheVariants.{Html, Json}
use Rattle.archive_page.specs.declared.subject.Subject.TheVariants.{Studies}
use Rattle.archive_page.specs.Subjects.{path_of}

-- a key and its value as a form writes it (URL Standard, 5.2), unless it is empty, and what parts it from the next
unfoldable pub pair_text : List ℕ → List ℕ → List ℕ
pair_text name value =
    cond (length value == 0) [] (name ++ codes "=" ++ byte_serialize value ++ codes "&")

-- the keys of a patient that are not empty
unfoldable pub patient_keys : Search → List ℕ
patient_keys search =
    pair_text (codes "PatientName") search.name ++ pair_text (codes "PatientID") search.patient

-- those of a study
unfoldable pub study_keys : Search → List ℕ
study_keys search =
    pair_text (codes "StudyDate") search.date ++ pair_text (codes "AccessionNumber") search.accession
    ++ pair_text (codes "Modality") search.modality

-- the path and the query of a page of what a search finds
unfoldable pub link_to : Form → Search → ℕ → List ℕ
link_to form search page =
    path_of form Studies ++ codes "?" ++ patient_keys search ++ study_keys search ++ codes "page=" ++ decimal page

-- what stands behind the name of a study
abbrev pub suffix_of : Form → List ℕ
suffix_of Html = []
suffix_of Json = codes ".json"

-- the path of the page of a study
unfoldable pub study_path : Form → List ℕ → List ℕ
study_path form uid = codes "/study/" ++ byte_serialize uid ++ suffix_of form

-- how many pages so many studies have, one at least
abbrev pub pages_of : ℕ → ℕ
pages_of total = (total - 1) / PAGE_LENGTH + 1

-- whether a page of so many studies has one behind it
abbrev pub has_next : ℕ → ℕ → Bool
has_next page total = nat_lt page (pages_of total)
