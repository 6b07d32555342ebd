-- An answer of the desk as a response of HTTP.
use Rattle.std.specs.Prelude.{List, [], ◌∷◌, ◌⊎◌, codes}
use Rattle.http1.specs.Fields.{Header}
use Rattle.http_server.specs.declared.response.Response.{Response}
use Rattle.http_server.specs.Response.{IsResponse}
use Rattle.site_desk.specs.declared.answer.Answer.{Answer}
use Rattle.site_desk.specs.Answers.{number_of}

-- what the line is, that it is of this moment (RFC 9111, 5.2.2.5), which method there is (RFC 9110, 10.2.1), and that
-- the connection ends
abbrev pub line_fields : List Header
line_fields =
    (codes "content-type", codes "text/plain; charset=utf-8")
    ∷ (codes "cache-control", codes "no-store")
    ∷ (codes "allow", codes "POST")
    ∷ (codes "connection", codes "close")
    ∷ []

-- a response with an answer's status and line
abbrev pub Carries : Answer → Response → Type 0
Carries answer response = IsResponse (number_of answer.status) line_fields answer.line response

-- a response that says nothing but that it can't be told now
abbrev pub IsRefused : Response → Type 0
IsRefused = IsResponse 503 [] []

-- a response with an answer, or one without words, where memory was refused for it
abbrev pub Responds : Answer → Response → Type 0
Responds answer response = Carries answer response ⊎ IsRefused response
