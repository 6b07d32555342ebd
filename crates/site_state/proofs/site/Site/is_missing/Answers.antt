use Rattle.std.proofs.Common.{ap, sym, ◌∙◌, refl}
use Rattle.std.specs.Prelude.{is_some, not}
use Rattle.site_state.proofs.Maps.{found_at}
use Rattle.site_state.proofs.site.Site.is_missing.Goals as goal

-- The tree lacks the digest exactly where the site holds nothing under it.
pub returns : goal.returns
returns c = ap not (c.contains_key.ensures
    ∙ ap is_some (sym (found_at c.args.self.now c.self.inside.operations.entries c.args.digest.now _ c.self.view_is
    refl)))
