-- An answer as a response of HTTP.
use Rattle.std.specs.Prelude.{ℕ, List, [], ◌∷◌, ◌++◌, codes}
use Rattle.http1.specs.Fields.{Header}
use Rattle.http_server.specs.declared.response.Response.{Response}
use Rattle.http_server.specs.Response.{IsResponse}
use Rattle.archive_page.specs.declared.answer.Answer.{Answer}
use Rattle.archive_page.specs.declared.answer.Media.{Media}
use Rattle.archive_page.specs.Answers.{number_of}

-- the media type of a text (RFC 9110, 8.3.1)
abbrev pub type_of : Media → List ℕ
type_of Media.Html = codes "text/html; charset=utf-8"
type_of Media.Json = codes "application/json"
type_of Media.Css = codes "text/css; charset=utf-8"
type_of Media.Plain = codes "text/plain; charset=utf-8"
type_of Media.Metrics = codes "text/plain; version=0.0.4; charset=utf-8"

-- what the text is, that it is of this moment (RFC 9111, 5.2.2.5), and which methods there are (RFC 9110, 10.2.1)
abbrev pub kind_fields : Media → List Header
kind_fields media =
    (codes "content-type", type_of media)
    ∷ (codes "cache-control", codes "no-store")
    ∷ (codes "allow", codes "GET, HEAD")
    ∷ []

-- that a page loads its style sheet alone (CSP 3), that no other type is guessed, and that the connection ends
abbrev pub guard_fields : List Header
guard_fields =
    (codes "content-security-policy", codes "default-src 'none'; style-src 'self'")
    ∷ (codes "x-content-type-options", codes "nosniff")
    ∷ (codes "connection", codes "close")
    ∷ []

-- a response with an answer's status, media type and text
abbrev pub Carries : Answer → Response → Type 0
Carries answer response =
    IsResponse (number_of answer.status) (kind_fields answer.media ++ guard_fields) answer.text response

-- a response that says nothing but that it can't be told now
abbrev pub IsRefused : Response → Type 0
IsRefused = IsResponse 503 [] []
