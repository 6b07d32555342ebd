use Rattle.std.proofs.Common.{refl, take}
use Rattle.archive_query.proofs.TextLeads.{run_behind}
use Rattle.archive_query.proofs.walks.run_at.Goals as goal

-- A run of what stands behind a place is one of the key.
pub returns : goal.returns
returns c =
    let rest = c.behind-rest.result.now in
    run_behind c.args.key.now rest (take c.plain_length-n.result rest) c.args.at c.plain_length-n.result
    c.behind-rest.ensures refl c.plain_length-n.ensures.plain
