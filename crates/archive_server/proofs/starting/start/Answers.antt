use Rattle.std.proofs.Common.{ap, sym, ◌∙◌}
use Rattle.archive_server.specs.Done.{Standing}
use Rattle.archive_server.proofs.CountLaws.{told_alone}
use Rattle.archive_server.proofs.starting.start.Goals as goal

-- With no way to the shelf the pass stays, and want of memory is told.
pub returns-in_default : goal.returns-in_default
returns-in_default g c =
    told_alone _ _ _ (ap (λ (s : Standing). s.pass) c.nothing.ensures.clerk ∙ sym c.requires.before)
    c.nothing.ensures.none.0 c.nothing.ensures.fault
