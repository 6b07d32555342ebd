-- A table as a page in HTML.
use Rattle.std.specs.Prelude.{ℕ, List, ◌++◌, codes}
use Rattle.archive_page.specs.Tables.{html_table}
use Rattle.archive_page.specs.declared.frame.TheConstants.{HEAD, LINKS, LINK, END}
use Rattle.archive_page.specs.declared.subject.Subject.{Subject}
use Rattle.archive_page.specs.declared.subject.Form.TheVariants.{Json}
use Rattle.archive_page.specs.Subjects.{title_of, path_of}

-- what stands above the table: the title, links to all pages but those of single studies, and the title again as the
-- heading of the page
unfoldable pub above_table : Subject → List ℕ
above_table subject = HEAD ++ title_of subject ++ LINKS ++ title_of subject ++ codes "</h1>\n"

-- what stands below it: a link to the same table in JSON
unfoldable pub below_table : Subject → List ℕ
below_table subject = LINK ++ path_of Json subject ++ END

-- a heading and rows below it as a page
unfoldable pub html_page : Subject → List (List ℕ) → List (List (List ℕ)) → List ℕ
html_page subject heading rows = above_table subject ++ html_table heading rows ++ below_table subject
