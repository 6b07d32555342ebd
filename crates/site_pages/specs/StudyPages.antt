-- The page of a study, as its name in a path asks for it.
use Rattle.std.specs.Prelude.{◌≡◌, ◌==◌, ℕ, List, cond, length}
use Rattle.operation.specs.declared.op.Op.{Op}
use Rattle.site_tables.specs.declared.study.TakenStudy.{TakenStudy}
use Rattle.site_tables.specs.declared.study_facts.StudyFacts.{StudyFacts}
use Rattle.site_tables.specs.Study.{IsTakenStudy, instance_rows, change_rows}
use Rattle.site_tables.specs.StudyFacts.{facts_by}
use Rattle.archive_page.specs.declared.answer.Answer.{Answer}
use Rattle.archive_page.specs.declared.answer.Status.TheVariants.{NotFound}
use Rattle.archive_page.specs.declared.study.StudyPage.{StudyPage}
use Rattle.archive_page.specs.declared.subject.Form.{Form}
use Rattle.archive_page.specs.Answers.{study_answer, refusal}
use Rattle.archive_page.specs.Searches.{text_of}
use Rattle.site_pages.specs.declared.study.TheConstants.{NO_STUDY}

-- the page of a study of which this is told
abbrev pub page_with : List ℕ → StudyFacts → TakenStudy → StudyPage
page_with uid facts taken = record {
  uid = uid;
  name = facts.name;
  date = facts.date;
  facts = facts.rows;
  instances = instance_rows taken;
  corrections = change_rows taken;
}

-- what the page of a study tells, by what was taken of it
abbrev pub study_page : List ℕ → TakenStudy → StudyPage
study_page uid taken = page_with uid (facts_by uid taken.found) taken

-- the page of a study, or that there is none, where there is no instance of it
abbrev pub answer_of : Form → List ℕ → TakenStudy → Answer
answer_of form uid taken =
    cond (length taken.instances == 0) (refusal NotFound NO_STUDY) (study_answer form (study_page uid taken))

-- the page of a study over a set of operations
pub record IsPageOf (form : Form) (uid : List ℕ) (ops : List Op) (answer : Answer) : Type 0 where
  pub taken : TakenStudy
  pub took : IsTakenStudy uid ops taken
  pub page : answer ≡ answer_of form uid taken

-- the page of the study that a name encodes
abbrev pub IsStudyPage : Form → List ℕ → List Op → Answer → Type 0
IsStudyPage form name ops answer = IsPageOf form (text_of name) ops answer
