-- The page of a study.
use Rattle.std.specs.Prelude.{ℕ, List, [], ◌∷◌, ◌++◌, ◌==◌, cond, length, codes}
use Rattle.json.specs.Token.{Token, begin_object, end_object, key}
use Rattle.archive_page.specs.Escaping.{escaped}
use Rattle.archive_page.specs.Tables.{html_table}
use Rattle.archive_page.specs.Values.{string_of, json_table}
use Rattle.archive_page.specs.declared.frame.TheConstants.{HEAD, LINKS, LINK, END, INSTANCES, CORRECTIONS}
use Rattle.archive_page.specs.declared.study.StudyPage.{StudyPage}
use Rattle.archive_page.specs.declared.subject.Form.TheVariants.{Json}
use Rattle.archive_page.specs.declared.subject.Subject.TheVariants.{Study}
use Rattle.archive_page.specs.Links.{study_path}
use Rattle.archive_page.specs.Subjects.{title_of}

-- what stands above the columns of what is told of it
abbrev pub fact_heading : List (List ℕ)
fact_heading = codes "WHAT" ∷ codes "VALUE" ∷ []

-- what stands above the columns of its instances
abbrev pub instance_heading : List (List ℕ)
instance_heading =
    codes "SERIES" ∷ codes "INSTANCE" ∷ codes "TITLES" ∷ codes "NOTES" ∷ codes "SHOWN" ∷ []

-- what stands above the columns of the corrections of its attributes
abbrev pub correction_heading : List (List ℕ)
correction_heading =
    codes "TARGET" ∷ codes "KEY" ∷ codes "TAG" ∷ codes "VALUE" ∷ codes "COUNTER" ∷ codes "SITE" ∷ codes "COUNTS"
    ∷ codes "STORED" ∷ []

-- ---- in HTML

-- its title: the patient's name and the study date, where they are there
unfoldable pub study_title : List ℕ → List ℕ → List ℕ
study_title name date =
    cond (length name == 0) (cond (length date == 0) (title_of Study) (escaped date))
    (cond (length date == 0) (escaped name) (escaped name ++ codes ", " ++ escaped date))

-- what stands above its tables: the title, links as on all pages, and the title again as the heading of the page
unfoldable pub above_study : StudyPage → List ℕ
above_study page =
    HEAD ++ study_title page.name page.date ++ LINKS ++ study_title page.name page.date ++ codes "</h1>\n"

-- its UID, above the tables
unfoldable pub study_line : List ℕ → List ℕ
study_line uid = codes "<p>" ++ escaped uid ++ codes "</p>\n"

-- what is told of it, its instances and the corrections, these two below their titles
unfoldable pub study_tables : StudyPage → List ℕ
study_tables page =
    html_table fact_heading page.facts ++ INSTANCES ++ html_table instance_heading page.instances ++ CORRECTIONS
    ++ html_table correction_heading page.corrections

-- what stands below: a link to the same page in JSON
unfoldable pub below_study : List ℕ → List ℕ
below_study uid = LINK ++ escaped (study_path Json uid) ++ END

-- the page of a study
unfoldable pub study_page : StudyPage → List ℕ
study_page page = above_study page ++ study_line page.uid ++ study_tables page ++ below_study page.uid

-- ---- in JSON

-- its UID, as a member of an object
unfoldable pub study_member : List ℕ → List Token
study_member uid = key (codes "study") ∷ string_of uid ∷ []

-- a table, as a member of an object
unfoldable pub table_member : List ℕ → List (List ℕ) → List (List (List ℕ)) → List Token
table_member name heading rows = key name ∷ json_table heading rows

unfoldable pub facts_member : List (List (List ℕ)) → List Token
facts_member rows = table_member (codes "facts") fact_heading rows

unfoldable pub instances_member : List (List (List ℕ)) → List Token
instances_member rows = table_member (codes "instances") instance_heading rows

unfoldable pub corrections_member : List (List (List ℕ)) → List Token
corrections_member rows = table_member (codes "corrections") correction_heading rows

-- the page of a study
unfoldable pub study_object : StudyPage → List Token
study_object page =
    begin_object
    ∷ (study_member page.uid ++ facts_member page.facts ++ instances_member page.instances
    ++ corrections_member page.corrections ++ end_object ∷ [])
