-- What pages are told from: a look of a pass, and what the server knows of itself.
use Rattle.std.specs.Prelude.{◌≡◌, ◌⊎◌, ℕ, List, [], Option, is_none, map}
use Rattle.std.specs.Borrow.{Bor}
use Rattle.http_server.specs.Exchange.{Calls}
use Rattle.http_server.specs.History.{History}
use Rattle.site_state.specs.declared.counts.Counts.{Counts}
use Rattle.site_state.specs.Site.{Map, counts_of, ops_of}
use Rattle.site_hub.specs.History.{set_of}
use Rattle.site_hub.specs.Hub.{Seat, HasLooked}
use Rattle.archive_page.specs.declared.fact.Fact.{Fact}
use Rattle.archive_page.specs.declared.metrics.Sample.{Sample}
use Rattle.site_pages.specs.declared.facts.Meeting.{Meeting}
use Rattle.site_pages.specs.declared.meters.Meters.{Meters}
use Rattle.site_pages.specs.declared.samples.Reading.{Reading}
use Rattle.site_pages.specs.declared.samples.Sizes.{Sizes}
use Rattle.site_pages.specs.Samples.{samples_in}
use Rattle.site_pages.specs.HubPages.{HubSource, AnswersFrom}

-- what a server knows of itself: why its shelf refuses, if it does, what it has counted, how many seconds ago it began,
-- how much it takes of its machine, its exchanges with each peer and each caller, and what stands on its site's page
pub record Knowledge : Type 0 where
  pub refusal : Option (List ℕ)
  pub meters : Meters
  pub uptime : ℕ
  pub sizes : Sizes
  pub peers : List Meeting
  pub callers : List Meeting
  pub facts : List Fact

-- what is told of a site that holds so many operations, to who measures it
abbrev pub reading_in : Counts → Knowledge → Reading
reading_in counts known = record {
  meters = known.meters;
  contents = counts.contents;
  corrections = counts.corrections;
  takes = is_none known.refusal;
  now = known.uptime;
  sizes = known.sizes;
}

-- Samples of all that is counted over what a pass has seen, or none where that can't be told.
abbrev pub AreSamplesOf : Map → Seat → Knowledge → List Sample → Type 0
AreSamplesOf opening seat known samples =
    (samples ≡ []) ⊎ (samples
    ≡ samples_in (reading_in (counts_of (ops_of (set_of opening seat.seen))) known) known.peers known.callers)

-- A source of pages that is called so, and has these names, was made of a look of a pass, and of what its server knows.
pub record IsSourceOf (opening : Map) (site : List ℕ) (own : List (Bor (List ℕ))) (known : Knowledge) (seat : Seat)
    (source : HubSource) : Type 0 where
  pub looked : HasLooked seat source.pass
  pub name : source.name ≡ site
  pub names : source.names ≡ map (λ name. name.now) own
  pub fault : source.fault ≡ known.refusal
  pub facts : source.facts ≡ known.facts
  pub samples : AreSamplesOf opening source.pass known source.samples

-- each request of a connection was answered from such a source
pub record AreTold (opening : Map) (site : List ℕ) (own : List (Bor (List ℕ))) (known : Knowledge) (seat : Seat)
    (h : History) : Type 0 where
  pub source : HubSource
  pub after : HubSource
  pub made : IsSourceOf opening site own known seat source
  pub calls : Calls (AnswersFrom opening) source after [] h.calls
