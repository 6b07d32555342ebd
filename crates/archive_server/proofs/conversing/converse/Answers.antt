use Rattle.std.proofs.Common.{sym, ◌∙◌}
use Rattle.hub_exchange.specs.Fault.{RefusesLoadAtHub}
use Rattle.hub_exchange.specs.Putting.{IsLent}
use Rattle.archive_server.proofs.DoneLaws.{converses_as}
use Rattle.archive_server.proofs.OnwardLaws.{gone_back}
use Rattle.archive_server.proofs.conversing.converse.Goals as goal

-- The exchange did what `run_exchange` says, and the pass is the holder's.
pub returns-clause-converses : goal.returns-clause-converses
returns-clause-converses g c =
    rw (
      c.new.ensures.pass,
      c.into_parts-pass-2.ensures.same,
      sym (c.new-holder.ensures ∙ c.into_parts-pass.ensures.pass),
    )
    (converses_as g.H.HubName.opening (RefusesLoadAtHub (IsLent g.E.AtLending.lent) g.P.Put.refuses_load
    g.P.Put.has_loaded g.H.HubName.opening) c.args.role _ _ c.run_exchange-ended.result
    c.run_exchange-ended.ensures.ok c.run_exchange-ended.ensures.err)

-- The clerk learned what was known there.
pub returns-clause-onward : goal.returns-clause-onward
returns-clause-onward g c = gone_back _ _ _ _ _ _ _ (sym c.requires.entry) c.into_parts-pass.ensures.known
    c.learn.ensures.this c.learn.ensures.that c.into_parts-pass-2.ensures.onward c.new.ensures.pass c.new.ensures.known
