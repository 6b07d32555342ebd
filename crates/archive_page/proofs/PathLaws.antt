-- The path of each page leads to it.
use Rattle.std.proofs.Common.{◌≡◌, refl}
use Rattle.archive_page.specs.declared.asked.Asked.TheVariants.{Page}
use Rattle.archive_page.specs.declared.subject.Form.{Form}
use Rattle.archive_page.specs.declared.subject.Form.TheVariants.{Html, Json}
use Rattle.archive_page.specs.declared.subject.Subject.{Subject}
use Rattle.archive_page.specs.declared.subject.Subject.TheVariants.{Site, Studies, Rejected, Conflicts, Corrections}
use Rattle.archive_page.specs.declared.subject.Subject.TheVariants.{Study}
use Rattle.archive_page.specs.Paths.{at}
use Rattle.archive_page.specs.Subjects.{path_of}

pub leads : (subject : Subject) (form : Form) → at (path_of form subject) ≡ Page subject form
leads Site Html = refl
leads Site Json = refl
leads Studies Html = refl
leads Studies Json = refl
leads Rejected Html = refl
leads Rejected Json = refl
leads Conflicts Html = refl
leads Conflicts Json = refl
leads Corrections Html = refl
leads Corrections Json = refl
leads Study Html = refl
leads Study Json = refl
