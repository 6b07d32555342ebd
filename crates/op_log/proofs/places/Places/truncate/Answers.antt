use Rattle.std.proofs.Common.{List, take, map, sym, ap, ◌∙◌}
use Rattle.std.proofs.lemmas.List.{take-map}
use Rattle.op_log.specs.Heads.{Head}
use Rattle.op_log.specs.Places.{head_at}
use Rattle.op_log.proofs.places.Places.truncate.Goals as goal

-- The first heads are those of the first entries.
pub returns : goal.returns
returns c =
    ap (map head_at) c.truncate.ensures.entries ∙ sym (take-map head_at c.args.len c.self.inside.table.entries)
    ∙ ap (λ (hs : List Head). take c.args.len hs) c.self.view_is
