-- What a request is answered, with what a source tells.
use Rattle.std.specs.Prelude.{◌≡◌, ◌⊎◌, ⊤, ℕ, List, [], Option, Some, None, codes}
use Rattle.http.specs.declared.request.Request.{Request}
use Rattle.http.specs.Request.{head_of}
use Rattle.http_header.specs.FieldValue.{FieldValue}
use Rattle.http_header.specs.HeaderMap.{get}
use Rattle.http_uri.specs.Uri.{uri_path, uri_query}
use Rattle.http_server.specs.declared.response.Response.{Response}
use Rattle.archive_page.specs.declared.answer.Answer.{Answer}
use Rattle.archive_page.specs.declared.answer.Status.TheVariants.{NotFound, MethodNotAllowed, MisdirectedRequest}
use Rattle.archive_page.specs.declared.asked.Asked.{Asked}
use Rattle.archive_page.specs.declared.asked.Asked.TheVariants.{Page, Style, Health, Metrics, Nothing, Change}
use Rattle.archive_page.specs.declared.asked.Asked.TheVariants.{Elsewhere}
use Rattle.archive_page.specs.declared.subject.Form.{Form}
use Rattle.archive_page.specs.declared.subject.Subject.{Subject}
use Rattle.archive_page.specs.declared.subject.Subject.TheVariants.{Study}
use Rattle.archive_page.specs.declared.metrics.Sample.{Sample}
use Rattle.archive_page.specs.Answers.{style_answer, health_answer, metrics_answer, refusal}
use Rattle.archive_page.specs.Paths.{asked_at, study_name}
use Rattle.site_pages.specs.declared.pages.TheConstants.{NO_PAGE, NO_CHANGE, NOT_HERE}
use Rattle.site_pages.specs.Responses.{Carries, IsRefused}

-- what a source tells about a subject, asked with a query (RFC 3986, 3.4), or of a study with its name in the path
abbrev pub Tells : Type 0 → Type 1
Tells S = S → Subject → Form → List ℕ → Option Answer → S → Type 0

-- this answer, if any
abbrev pub IsIfAny : Answer → Option Answer → Type 0
IsIfAny answer None = ⊤
IsIfAny answer (Some told) = told ≡ answer

-- what a source tells, why it takes nothing, if so, what it counts, and which names it has
pub record Says (S : Type 0) : Type 1 where
  pub tells : Tells S
  pub fault_of : S → Option (List ℕ)
  pub samples_of : S → List Sample
  pub names_of : S → List (List ℕ)

-- what is told of what is asked, none where it can't be told, and the state behind it; a page alone asks the source
abbrev pub Told : {S : Type 0} → Says S → S → Asked → List ℕ → Option Answer → S → Type 0
Told says old (Page subject form) query told new = says.tells old subject form query told new
Told says old Style query told new = (new ≡ old) × IsIfAny style_answer told
Told says old Health query told new = (new ≡ old) × IsIfAny (health_answer (says.fault_of old)) told
Told says old Metrics query told new = (new ≡ old) × IsIfAny (metrics_answer (says.samples_of old)) told
Told says old Nothing query told new = (new ≡ old) × IsIfAny (refusal NotFound NO_PAGE) told
Told says old Change query told new = (new ≡ old) × IsIfAny (refusal MethodNotAllowed NO_CHANGE) told
Told says old Elsewhere query told new = (new ≡ old) × IsIfAny (refusal MisdirectedRequest NOT_HERE) told

-- a response with what is told, or a refusal where nothing is, or where memory is refused
abbrev pub Responds : Option Answer → Response → Type 0
Responds None response = IsRefused response
Responds (Some answer) response = Carries answer response ⊎ IsRefused response

abbrev pub bytes_if_any : Option FieldValue → Option (List ℕ)
bytes_if_any None = None
bytes_if_any (Some value) = Some value.bytes

-- the host that a request names (RFC 9110, 7.2), if any
abbrev pub host_of : Request (List ℕ) → Option (List ℕ)
host_of request = bytes_if_any (get (head_of request).headers (codes "host"))

-- what a request asks for of the site that has these names
abbrev pub asked_by : List (List ℕ) → Request (List ℕ) → Asked
asked_by names request = asked_at names (host_of request) (head_of request).method (uri_path (head_of request).uri)

-- the query, empty where there is none
abbrev pub these_or_none : Option (List ℕ) → List ℕ
these_or_none None = []
these_or_none (Some query) = query

-- a page of a study is asked for with a name, and all else with a query
abbrev pub words_of : Asked → List ℕ → List ℕ → List ℕ
words_of (Page Study form) name query = name
words_of _ name query = query

-- what a request asks with
abbrev pub words_by : List (List ℕ) → Request (List ℕ) → List ℕ
words_by names request =
    words_of (asked_by names request) (study_name (uri_path (head_of request).uri))
    (these_or_none (uri_query (head_of request).uri))

-- a request is answered with what is told of what it asks for
abbrev pub IsAnswered : {S : Type 0} → Says S → S → Request (List ℕ) → Response → S → Type 0
IsAnswered says old request response new =
    (told : Option Answer)
    × Told says old (asked_by (says.names_of old) request) (words_by (says.names_of old) request) told new
    × Responds told response
