use Rattle.std.proofs.Common.{sym, ◌∙◌}
use Rattle.archive_server.proofs.DoneLaws.{attends_as}
use Rattle.archive_server.proofs.OnwardLaws.{gone_back}
use Rattle.archive_server.proofs.attending.attend.Goals as goal

-- The association did what `run_association` says, and the pass is the port's.
pub returns-clause-attends : goal.returns-clause-attends
returns-clause-attends g c =
    rw (
      c.new.ensures.pass,
      c.into_parts-pass-2.ensures.same,
      sym (c.new-port.ensures ∙ c.into_parts-pass.ensures.pass),
    )
    (attends_as g.H.HubName.opening _ _ _ _ _ c.run_association-ended.result c.run_association-ended.ensures.ok c.run_association-ended.ensures.err)

-- The clerk learned what was known there.
pub returns-clause-onward : goal.returns-clause-onward
returns-clause-onward g c = gone_back _ _ _ _ _ _ _ (sym c.requires.entry) c.into_parts-pass.ensures.known
    c.learn.ensures.this c.learn.ensures.that c.into_parts-pass-2.ensures.onward c.new.ensures.pass c.new.ensures.known
