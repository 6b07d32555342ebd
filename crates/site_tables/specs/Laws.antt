-- What the tables mean: which UIDs have rows, and what is told of a study.
use Rattle.std.specs.Prelude.{◌↔◌, ◌≡◌, ℕ, List, IsTrue}
use Rattle.octets.specs.Members.{Has}
use Rattle.operation.specs.declared.op.Op.{Op}
use Rattle.archive_model.specs.declared.view.View.TheVariants.{Archive}
use Rattle.archive_model.specs.Covered.{is_covered}
use Rattle.archive_query.specs.Found.{FoundValue}
use Rattle.site_tables.specs.Rejected.{notes_of, covered_uids}
use Rattle.site_tables.specs.StudyFacts.{IsFound, facts_by, study_facts}

-- the UIDs that have a row among the rejected are those that are covered in ARCHIVE
abbrev pub RejectedAreCovered : Type 0
RejectedAreCovered = (ops : List Op) (uid : List ℕ) → Has (covered_uids (notes_of ops)) uid
    ↔ IsTrue (is_covered Archive ops uid)

-- what is told of a study, by what a look took, is what a C-FIND for it in AUDIT tells
abbrev pub FactsAreFound : Type 0
FactsAreFound = (uid : List ℕ) (ops : List Op) (found : FoundValue) → IsFound uid ops found
    → facts_by uid found ≡ study_facts uid ops
