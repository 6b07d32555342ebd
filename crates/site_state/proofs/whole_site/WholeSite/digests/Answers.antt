use Rattle.std.proofs.Common.{ap, ◌∙◌}
use Rattle.site_state.specs.Site.{digests_of}
use Rattle.site_state.proofs.Wholes.{digests_kept}
use Rattle.site_state.proofs.whole_site.WholeSite.digests.Goals as goal

-- The records lie under the same digests.
pub returns : goal.returns
returns c = c.in_ok-digests.ensures ∙ ap digests_of c.site.ensures ∙ digests_kept c.args.self.now
