use Rattle.std.proofs.Common.{◌∙◌, ap}
use Rattle.site_state.specs.Union.{union}
use Rattle.site_state.proofs.Unions.{from_nothing}
use Rattle.site_state.proofs.site.Site.copy.Goals as goal

-- Nothing with all that a site holds is what it holds.
pub returns-in-Ok : goal.returns-in-Ok
returns-in-Ok c =
    c.in-Ok.ensures.merged ∙ ap (λ m. union m c.args.self.now) c.new-copy.ensures ∙ from_nothing c.args.self.now
