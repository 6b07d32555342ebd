use Rattle.std.proofs.Common.{sym, ap, ◌∙◌}
use Rattle.association_session.specs.inner.Deeds.{abort_in_outgoing}
use Rattle.association_session.proofs.DeedsLaws.{no_abort}
use Rattle.association_session.proofs.deeds.aborts.Goals as goal

-- Each of these PDUs is a P-DATA-TF.
pub returns-in-Message : goal.returns-in-Message
returns-in-Message c = sym (no_abort c.in-Message.pdus c.see_data.ensures) ∙ ap abort_in_outgoing (sym c.in-Message.is)
