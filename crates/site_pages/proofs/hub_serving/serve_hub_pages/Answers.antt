use Rattle.std.proofs.Common.{[], subst}
use Rattle.http_server.specs.Exchange.{Calls}
use Rattle.site_hub.specs.Hub.{HasLooked}
use Rattle.site_pages.specs.HubPages.{HubSource, says_from, AnswersFrom}
use Rattle.site_pages.proofs.LookLaws.{answered_looked, chain_looked, chain_of}
use Rattle.site_pages.proofs.hub_serving.serve_hub_pages.Goals as goal

-- Each answer was a look, or left the pass as it was.
pub returns-clause-looked : goal.returns-clause-looked
returns-clause-looked g c =
    let opening = g.H.HubName.opening in
    let calls = c.serve_pages-served.ensures.served.4 in
    let whole : HasLooked c.new-pages.result.source.pass c.serve_pages-served.new.pages.source.pass =
    chain_looked (λ pages. pages.source.pass) _
    (λ old request response new. answered_looked (λ (source : HubSource). source.pass) (says_from opening)
    (λ o subject form query told n t. t.looked) old.source request response new.source)
    calls.0 c.new-pages.result c.serve_pages-served.new.pages calls.2 in
    rw (c.into_source.ensures) (subst (λ (source : HubSource). HasLooked source.pass
    c.serve_pages-served.new.pages.source.pass) c.new-pages.ensures whole)

-- It is one connection for pages, and each call of it is one of the source.
pub returns-clause-served : goal.returns-clause-served
returns-clause-served g c =
    let served = c.serve_pages-served.ensures.served in
    let answers = AnswersFrom g.H.HubName.opening in
    let told : Calls answers c.new-pages.result.source c.serve_pages-served.new.pages.source [] served.0.calls = (
      served.4.0,
      served.4.1,
      chain_of (λ pages. pages.source) answers served.4.0 c.new-pages.result
          c.serve_pages-served.new.pages served.4.2,
    ) in (
      served.0,
      served.1,
      served.2,
      served.3,
      rw (c.into_source.ensures)
          (subst (λ (source : HubSource). Calls answers source c.serve_pages-served.new.pages.source [] served.0.calls)
          c.new-pages.ensures told),
      served.5,
    )
