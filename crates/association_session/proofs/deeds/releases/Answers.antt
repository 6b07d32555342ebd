use Rattle.std.proofs.Common.{sym, ap, ◌∙◌}
use Rattle.association_session.specs.inner.Deeds.{release_in_outgoing}
use Rattle.association_session.proofs.DeedsLaws.{no_release}
use Rattle.association_session.proofs.deeds.releases.Goals as goal

-- Each of these PDUs is a P-DATA-TF.
pub returns-in-Message : goal.returns-in-Message
returns-in-Message c = sym (no_release c.in-Message.pdus c.see_data.ensures)
    ∙ ap release_in_outgoing (sym c.in-Message.is)
