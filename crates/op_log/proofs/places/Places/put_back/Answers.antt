use Rattle.std.proofs.Common.{◌≡◌, List, ℕ, None, map, sym, ap, ◌∙◌}
use Rattle.op_log.specs.Heads.{Head}
use Rattle.op_log.specs.Kept.{first_under, with_head}
use Rattle.op_log.specs.Places.{head_at, head_by}
use Rattle.op_log.proofs.Lookups.{absent}
use Rattle.op_log.proofs.Settling.{put_in}
use Rattle.op_log.proofs.places.Places.put_back.Goals as goal

-- A table has room for what is there.
pub unreachable-requires : goal.unreachable-requires
unreachable-requires c =
    let none = absent c.self.inside.table.entries c.as_bytes.result.now c.in-Err.ensures.absent in
    let here : first_under c.args.kept.0 c.args.self.now ≡ None =
    ap (λ (d : List ℕ). first_under d c.args.self.now) (sym c.as_bytes.ensures)
    ∙ ap (first_under c.as_bytes.result.now) (sym c.self.view_is) ∙ none in
    c.requires here

-- It stands in the place of what is there.
pub returns : goal.returns
returns c =
    let key = c.as_bytes.result.now in
    let place = c.args.kept.1 in
    ap (map head_at) c.in-Ok.ensures.entries ∙ put_in c.self.inside.table.entries key place
    ∙ ap (λ (hs : List Head). with_head hs (head_by key place)) c.self.view_is
    ∙ ap (λ (d : List ℕ). with_head c.args.self.now (head_by d place)) c.as_bytes.ensures
