use Rattle.std.proofs.Common.{List, ℕ, map, ap, ◌∙◌}
use Rattle.op_log.specs.Heads.{Head}
use Rattle.op_log.specs.Kept.{with_head}
use Rattle.op_log.specs.Places.{head_at, head_by}
use Rattle.op_log.proofs.Settling.{put_in}
use Rattle.op_log.proofs.places.Places.put.Goals as goal

-- The table has one entry for a digest, in the place that the first with it has.
pub returns-clause-put : goal.returns-clause-put
returns-clause-put c =
    let key = c.as_bytes.result.now in
    let place = c.args.place in
    ap (map head_at) c.in_ok-insert.ensures.entries ∙ put_in c.self.inside.table.entries key place
    ∙ ap (λ (hs : List Head). with_head hs (head_by key place)) c.self.view_is
    ∙ ap (λ (d : List ℕ). with_head c.args.self.now (head_by d place)) c.as_bytes.ensures
