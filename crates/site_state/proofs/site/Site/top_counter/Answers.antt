use Rattle.std.proofs.Common.{ap, ◌∙◌}
use Rattle.site_state.specs.Site.{ops_of, top_counter_of}
use Rattle.site_state.proofs.site.Site.top_counter.Goals as goal

-- The counter that is kept is the greatest of the corrections that are held.
pub returns : goal.returns
returns c = c.self.invariant.1 ∙ ap (λ m. top_counter_of (ops_of m)) c.self.view_is
