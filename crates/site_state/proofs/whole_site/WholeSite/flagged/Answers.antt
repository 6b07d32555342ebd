use Rattle.std.proofs.Common.{ap, ◌∙◌}
use Rattle.archive_model.specs.Contents.{flagged}
use Rattle.site_state.specs.Site.{Map, ops_of}
use Rattle.site_state.proofs.Wholes.{flagged_kept}
use Rattle.site_state.proofs.whole_site.WholeSite.flagged.Goals as goal

-- The records of two contents of one UID are two.
pub returns : goal.returns
returns c =
    c.in_ok-uids.ensures ∙ ap (λ (m : Map). flagged (ops_of m)) c.site.ensures
    ∙ flagged_kept c.args.self.now
