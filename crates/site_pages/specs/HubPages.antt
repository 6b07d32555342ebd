-- What a pass of a running site tells as pages.
use Rattle.std.specs.Prelude.{◌≡◌, ℕ, List, Option}
use Rattle.std.specs.Option.{IfSome}
use Rattle.http.specs.declared.request.Request.{Request}
use Rattle.http_server.specs.declared.response.Response.{Response}
use Rattle.site_state.specs.Site.{Map, ops_of}
use Rattle.site_hub.specs.History.{set_of}
use Rattle.site_hub.specs.Hub.{Seat, HasLooked}
use Rattle.archive_page.specs.declared.answer.Answer.{Answer}
use Rattle.archive_page.specs.declared.fact.Fact.{Fact}
use Rattle.archive_page.specs.declared.metrics.Sample.{Sample}
use Rattle.archive_page.specs.declared.subject.Form.{Form}
use Rattle.archive_page.specs.declared.subject.Subject.{Subject}
use Rattle.site_pages.specs.Telling.{Says, IsAnswered}
use Rattle.site_pages.specs.SitePages.{IsPage}

-- a pass, and what the server of its site knows: its name, the names by which it may be asked, why it takes nothing, if
-- so, further facts, and what it counts
pub record HubSource : Type 0 where
  pub pass : Seat
  pub name : List ℕ
  pub names : List (List ℕ)
  pub fault : Option (List ℕ)
  pub facts : List Fact
  pub samples : List Sample

-- in one look at most, the page over all that is seen behind it, or none; the server knows what it knew
pub record TellsFrom (opening : Map) (old : HubSource) (subject : Subject) (form : Form) (query : List ℕ)
    (told : Option Answer) (new : HubSource) : Type 0 where
  pub looked : HasLooked old.pass new.pass
  pub page : IfSome told
      (λ answer. IsPage old.name old.facts subject form query (ops_of (set_of opening new.pass.seen)) answer)
  pub same : new ≡ record old { pass = new.pass }

-- what it tells of pages
abbrev pub says_from : Map → Says HubSource
says_from opening = record {
  tells = TellsFrom opening;
  fault_of = λ source. source.fault;
  samples_of = λ source. source.samples;
  names_of = λ source. source.names;
}

-- a request is answered with what one look at the running site at most tells of what it asks for
abbrev pub AnswersFrom : Map → HubSource → Request (List ℕ) → Response → HubSource → Type 0
AnswersFrom opening old request response new = IsAnswered (says_from opening) old request response new
