use Rattle.std.proofs.Common.{ap, ◌∙◌, Option}
use Rattle.std.specs.Prelude.{is_some}
use Rattle.recent_ops.specs.Recent.{Held}
use Rattle.recent_ops.proofs.Lookups.{shows}
use Rattle.recent_ops.proofs.recent.Recent.holds.Goals as goal

-- What the table has under the digest is the operation with it.
pub returns : goal.returns
returns c =
    c.contains.ensures
    ∙ ap (λ (o : Option Held). is_some o) (shows c.self.inside.ops.entries c.args.self.now c.self.inside.room c.as_bytes.result.now c.args.digest.now
    c.self.invariant.0 c.self.view_is c.as_bytes.ensures)
