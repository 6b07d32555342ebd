-- What a request is answered.
use Rattle.std.specs.Prelude.{ℕ, List, [], ◌∷◌, ◌++◌, Option, Some, None, codes}
use Rattle.json.specs.Print.{print}
use Rattle.archive_page.specs.Values.{json_table}
use Rattle.archive_page.specs.declared.answer.Answer.{Answer}
use Rattle.archive_page.specs.declared.answer.Media.{Media}
use Rattle.archive_page.specs.declared.answer.Status.{Status}
use Rattle.archive_page.specs.declared.listing.Listing.{Listing}
use Rattle.archive_page.specs.declared.metrics.Sample.{Sample}
use Rattle.archive_page.specs.declared.study.StudyPage.{StudyPage}
use Rattle.archive_page.specs.declared.style.TheConstants.{STYLE}
use Rattle.archive_page.specs.declared.subject.Form.{Form}
use Rattle.archive_page.specs.declared.subject.Form.TheVariants.{Html, Json}
use Rattle.archive_page.specs.declared.subject.Subject.{Subject}
use Rattle.archive_page.specs.Listings.{listing_page, listing_object}
use Rattle.archive_page.specs.Metrics.{metrics_text}
use Rattle.archive_page.specs.Pages.{html_page}
use Rattle.archive_page.specs.Studies.{study_page, study_object}

-- the number of a status (RFC 9110, 15)
abbrev pub number_of : Status → ℕ
number_of Status.Ok = 200
number_of Status.BadRequest = 400
number_of Status.NotFound = 404
number_of Status.MethodNotAllowed = 405
number_of Status.MisdirectedRequest = 421
number_of Status.ServiceUnavailable = 503

-- an answer that tells a text
abbrev pub told_as : Media → List ℕ → Answer
told_as media text = record { status = Status.Ok; media = media; text = text }

-- a heading and rows below it as a page
abbrev pub page_answer : Subject → Form → List (List ℕ) → List (List (List ℕ)) → Answer
page_answer subject Html heading rows = told_as Media.Html (html_page subject heading rows)
page_answer subject Json heading rows = told_as Media.Json (print (json_table heading rows))

-- a page of what a search for studies finds
abbrev pub listing_answer : Form → Listing → Answer
listing_answer Html listing = told_as Media.Html (listing_page listing)
listing_answer Json listing = told_as Media.Json (print (listing_object listing))

-- a page of a study
abbrev pub study_answer : Form → StudyPage → Answer
study_answer Html page = told_as Media.Html (study_page page)
study_answer Json page = told_as Media.Json (print (study_object page))

-- the style sheet
abbrev pub style_answer : Answer
style_answer = told_as Media.Css STYLE

-- what is counted of the site
abbrev pub metrics_answer : List Sample → Answer
metrics_answer samples = told_as Media.Metrics (metrics_text samples)

-- a refusal, with why in words
abbrev pub refusal : Status → List ℕ → Answer
refusal status words = record { status = status; media = Media.Plain; text = words ++ 10 ∷ [] }

-- that the site takes what it is given, or why it does not
abbrev pub health_answer : Option (List ℕ) → Answer
health_answer None = told_as Media.Plain (codes "ok\n")
health_answer (Some words) = refusal Status.ServiceUnavailable words
