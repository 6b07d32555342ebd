-- What the thread of the desk does.
use Rattle.std.specs.Prelude.{ℕ, List, [], map}
use Rattle.std.specs.Borrow.{Bor}
use Rattle.http_server.specs.Exchange.{Call, Calls, Chain}
use Rattle.http_server.specs.History.{History}
use Rattle.site_state.specs.Site.{Map}
use Rattle.site_desk.specs.declared.stamps.Stamps.{Stamps}
use Rattle.site_desk.specs.Desks.{AtDesk, AnswersAt}
use Rattle.archive_server.specs.Done.{Standing}

-- where a clerk stands at the desk of a site that has these names and makes corrections with these stamps
abbrev pub at_desk : List (Bor (List ℕ)) → Standing → Stamps → AtDesk
at_desk names clerk stamps = record {
  pass = clerk.pass;
  known = clerk.known;
  names = map (λ name. name.now) names;
  site = stamps.site;
  last = stamps.last;
}

-- the requests of a connection were answered at the desk
abbrev pub AreAnswered : Map → AtDesk → AtDesk → History → Type 0
AreAnswered opening before after h =
    Calls (λ old request response new. AnswersAt opening old request response new) before after [] h.calls

-- The desk answered requests, one after another, and did nothing else.
abbrev pub HasAnswered : Map → AtDesk → AtDesk → Type 0
HasAnswered opening before after = (calls : List Call)
    × Chain (λ old request response new. AnswersAt opening old request response new) before calls after

-- A clerk served at the desk of the site of these names and a number, which had made no correction before.
abbrev pub HasCorrected : Map → List (Bor (List ℕ)) → ℕ → Standing → Standing → Type 0
HasCorrected opening names site before after = (left : Stamps)
    × HasAnswered opening (at_desk names before (record { site = site; last = 0 })) (at_desk names after left)
