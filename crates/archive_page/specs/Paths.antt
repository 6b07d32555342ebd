-- What a request asks for.
use Rattle.std.specs.Prelude.{ℕ, ◌-◌, List, [], Option, Some, None, Bool, ◌||◌, nat_lt, cond, length, take, drop, codes}
use Rattle.octets.specs.Texts.{same}
use Rattle.archive_page.specs.declared.asked.Asked.{Asked}
use Rattle.archive_page.specs.declared.asked.Asked.TheVariants.{Page, Style, Health, Metrics, Nothing, Change}
use Rattle.archive_page.specs.declared.asked.Asked.TheVariants.{Elsewhere}
use Rattle.archive_page.specs.declared.subject.Form.{Form}
use Rattle.archive_page.specs.declared.subject.Form.TheVariants.{Html, Json}
use Rattle.archive_page.specs.declared.subject.Subject.{Subject}
use Rattle.archive_page.specs.declared.subject.Subject.TheVariants.{Site, Studies, Rejected, Conflicts, Corrections}
use Rattle.archive_page.specs.declared.subject.Subject.TheVariants.{Study}
use Rattle.archive_page.specs.Hosts.{is_asked_here}

-- the page in HTML that has a path
abbrev pub html_at : List ℕ → Option Subject
html_at path =
    cond (same path (codes "/")) (Some Site)
    (cond (same path (codes "/studies")) (Some Studies)
    (cond (same path (codes "/rejected")) (Some Rejected)
    (cond (same path (codes "/conflicts")) (Some Conflicts)
    (cond (same path (codes "/corrections")) (Some Corrections) None))))

-- the page in JSON that has a path
abbrev pub json_at : List ℕ → Option Subject
json_at path =
    cond (same path (codes "/site.json")) (Some Site)
    (cond (same path (codes "/studies.json")) (Some Studies)
    (cond (same path (codes "/rejected.json")) (Some Rejected)
    (cond (same path (codes "/conflicts.json")) (Some Conflicts)
    (cond (same path (codes "/corrections.json")) (Some Corrections) None))))

-- what stands behind a word, where a text begins with it
abbrev pub behind : List ℕ → List ℕ → Option (List ℕ)
behind word text =
    cond (nat_lt (length text) (length word)) None
    (cond (same (take (length word) text) word) (Some (drop (length word) text)) None)

-- what stands before a word, where a text ends with it
abbrev pub before : List ℕ → List ℕ → Option (List ℕ)
before word text =
    cond (nat_lt (length text) (length word)) None
    (cond (same (drop (length text - length word) text) word) (Some (take (length text - length word) text)) None)

abbrev pub form_by : Option (List ℕ) → Form
form_by None = Html
form_by (Some front) = Json

abbrev pub study_by : Option (List ℕ) → Asked
study_by None = Nothing
study_by (Some name) = Page Study (form_by (before (codes ".json") name))

-- the page of a study, where a path names one
abbrev pub study_at : List ℕ → Asked
study_at path = study_by (behind (codes "/study/") path)

abbrev pub front_or_all : Option (List ℕ) → List ℕ → List ℕ
front_or_all None name = name
front_or_all (Some front) name = front

abbrev pub name_by : Option (List ℕ) → List ℕ
name_by None = []
name_by (Some name) = front_or_all (before (codes ".json") name) name

-- the name of the study whose page has a path, still encoded, empty where none has
abbrev pub study_name : List ℕ → List ℕ
study_name path = name_by (behind (codes "/study/") path)

-- what else has a path
abbrev pub other_at : List ℕ → Asked
other_at path =
    cond (same path (codes "/style.css")) Style
    (cond (same path (codes "/health")) Health
    (cond (same path (codes "/metrics")) Metrics (study_at path)))

abbrev pub in_json : Option Subject → List ℕ → Asked
in_json (Some subject) path = Page subject Json
in_json None path = other_at path

abbrev pub in_html : Option Subject → List ℕ → Asked
in_html (Some subject) path = Page subject Html
in_html None path = in_json (json_at path) path

-- what has a path
abbrev pub at : List ℕ → Asked
at path = in_html (html_at path) path

-- whether a method asks for what is there, and for no change (RFC 9110, 9.3.1 and 9.3.2)
abbrev pub is_reading : List ℕ → Bool
is_reading method = same method (codes "GET") || same method (codes "HEAD")

-- what a request asks for
abbrev pub asked_of : List ℕ → List ℕ → Asked
asked_of method path = cond (is_reading method) (at path) Change

-- what a request asks for of the site that has these names: nothing of it where its host is another's
abbrev pub asked_at : List (List ℕ) → Option (List ℕ) → List ℕ → List ℕ → Asked
asked_at names host method path = cond (is_asked_here names host) (asked_of method path) Elsewhere
