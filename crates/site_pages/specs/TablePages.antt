-- The tables of a site as pages.
use Rattle.std.specs.Prelude.{◌≡◌, ℕ, List}
use Rattle.operation.specs.declared.op.Op.{Op}
use Rattle.site_tables.specs.declared.table.Table.{Table}
use Rattle.site_tables.specs.Tables.{heading_of, IsTable}
use Rattle.archive_page.specs.declared.answer.Answer.{Answer}
use Rattle.archive_page.specs.declared.subject.Form.{Form}
use Rattle.archive_page.specs.declared.subject.Subject.{Subject}
use Rattle.archive_page.specs.Answers.{page_answer}

-- what the page of a table is about
abbrev pub subject_of : Table → Subject
subject_of Table.Conflicts = Subject.Conflicts
subject_of Table.Rejected = Subject.Rejected
subject_of Table.Corrections = Subject.Corrections
subject_of Table.Studies = Subject.Studies

-- some rows as the page of a table
abbrev pub table_answer : Table → Form → List (List (List ℕ)) → Answer
table_answer table form rows = page_answer (subject_of table) form (heading_of table) rows

-- a page of the rows of a table over a set of operations
pub record IsTablePage (table : Table) (form : Form) (ops : List Op) (answer : Answer) : Type 0 where
  pub rows : List (List (List ℕ))
  pub told : IsTable table ops rows
  pub page : answer ≡ table_answer table form rows
