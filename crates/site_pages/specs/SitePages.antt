-- The pages of a site, over the operations that it holds.
use Rattle.std.specs.Prelude.{◌≡◌, ℕ, List, [], ◌∷◌, ◌++◌, map, codes}
use Rattle.std.specs.Fmt.{decimal}
use Rattle.operation.specs.declared.op.Op.{Op}
use Rattle.site_state.specs.declared.counts.Counts.{Counts}
use Rattle.site_state.specs.Site.{counts_of}
use Rattle.site_tables.specs.declared.table.Table.{Table}
use Rattle.archive_page.specs.declared.answer.Answer.{Answer}
use Rattle.archive_page.specs.declared.fact.Fact.{Fact}
use Rattle.archive_page.specs.declared.subject.Form.{Form}
use Rattle.archive_page.specs.declared.subject.Subject.{Subject}
use Rattle.archive_page.specs.Answers.{page_answer}
use Rattle.site_pages.specs.StudiesPages.{studies_answer}
use Rattle.site_pages.specs.StudyPages.{IsStudyPage}
use Rattle.site_pages.specs.TablePages.{IsTablePage}

-- its name, how many operations it holds, and how many of each kind
abbrev pub count_rows : List ℕ → Counts → List (List (List ℕ))
count_rows name counts =
    (codes "name" ∷ name ∷ [])
    ∷ (codes "operations" ∷ decimal counts.operations ∷ [])
    ∷ (codes "contents" ∷ decimal counts.contents ∷ [])
    ∷ (codes "corrections" ∷ decimal counts.corrections ∷ [])
    ∷ []

abbrev pub fact_row : Fact → List (List ℕ)
fact_row fact = fact.what ∷ fact.value ∷ []

-- its name, its counts, and what its server knows of itself
abbrev pub site_rows : List ℕ → List Fact → Counts → List (List (List ℕ))
site_rows name facts counts = count_rows name counts ++ map fact_row facts

-- the page of the site itself
abbrev pub site_answer : List ℕ → List Fact → Form → Counts → Answer
site_answer name facts form counts =
    page_answer Subject.Site form (codes "WHAT" ∷ codes "VALUE" ∷ []) (site_rows name facts counts)

-- the page about a subject, asked with a query, or with the name of a study, of a site of a name whose server knows
-- some facts
abbrev pub IsPage : List ℕ → List Fact → Subject → Form → List ℕ → List Op → Answer → Type 0
IsPage name facts Subject.Site form query ops answer = answer ≡ site_answer name facts form (counts_of ops)
IsPage name facts Subject.Studies form query ops answer = answer ≡ studies_answer form query ops
IsPage name facts Subject.Rejected form query ops answer = IsTablePage Table.Rejected form ops answer
IsPage name facts Subject.Conflicts form query ops answer = IsTablePage Table.Conflicts form ops answer
IsPage name facts Subject.Corrections form query ops answer = IsTablePage Table.Corrections form ops answer
IsPage name facts Subject.Study form query ops answer = IsStudyPage form query ops answer
