use Rattle.archive_server.proofs.PagingLaws.{looked_behind}
use Rattle.archive_server.proofs.told_pages.tell_pages.Goals as goal

-- What is counted is one look, and what is answered comes behind it.
pub returns-clause-looked : goal.returns-clause-looked
returns-clause-looked g c = rw c.pass_of.ensures (looked_behind _ _ _ _ c.counted-samples.ensures.looked
    c.source_of-source.ensures.pass c.serve_hub_pages-source.ensures.looked)

-- The source was made of that look, and of what the server knows; each call is one of it.
pub returns-clause-served : goal.returns-clause-served
returns-clause-served g c =
    let source = c.source_of-source in
    let served = c.serve_hub_pages-source.ensures.served in (
      served.0,
      served.1,
      record {
        source = source.result;
        after = c.serve_hub_pages-source.result.0;
        made = record {
          looked = rw source.ensures.pass c.counted-samples.ensures.looked;
          name = source.ensures.name;
          names = source.ensures.names;
          fault = source.ensures.fault;
          facts = source.ensures.facts;
          samples = rw (source.ensures.pass, source.ensures.samples, c.as_slice.ensures.value)
              c.counted-samples.ensures.counted;
        };
        calls = served.4;
      },
      served.2,
      served.3,
      served.5,
    )
