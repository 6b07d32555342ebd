-- What the pages are about.
use Rattle.std.specs.Prelude.{ℕ, List, codes}
use Rattle.archive_page.specs.declared.subject.Form.{Form}
use Rattle.archive_page.specs.declared.subject.Form.TheVariants.{Html, Json}
use Rattle.archive_page.specs.declared.subject.Subject.{Subject}
use Rattle.archive_page.specs.declared.subject.Subject.TheVariants.{Site, Studies, Rejected, Conflicts, Corrections}
use Rattle.archive_page.specs.declared.subject.Subject.TheVariants.{Study}

-- what stands above a page
abbrev pub title_of : Subject → List ℕ
title_of Site = codes "Site"
title_of Studies = codes "Studies"
title_of Rejected = codes "Rejected"
title_of Conflicts = codes "Conflicts"
title_of Corrections = codes "Corrections"
title_of Study = codes "Study"

-- the path of a page about it in HTML
abbrev pub path_in_html : Subject → List ℕ
path_in_html Site = codes "/"
path_in_html Studies = codes "/studies"
path_in_html Rejected = codes "/rejected"
path_in_html Conflicts = codes "/conflicts"
path_in_html Corrections = codes "/corrections"
path_in_html Study = codes "/study/"

-- and in JSON
abbrev pub path_in_json : Subject → List ℕ
path_in_json Site = codes "/site.json"
path_in_json Studies = codes "/studies.json"
path_in_json Rejected = codes "/rejected.json"
path_in_json Conflicts = codes "/conflicts.json"
path_in_json Corrections = codes "/corrections.json"
path_in_json Study = codes "/study/.json"

-- the path of a page about it
abbrev pub path_of : Form → Subject → List ℕ
path_of Html subject = path_in_html subject
path_of Json subject = path_in_json subject
