use Rattle.site_state.proofs.Counted.{within, counted}
use Rattle.site_state.proofs.site.Site.counts.Goals as goal

-- Each content is one of the operations.
pub overflow_sub-result : goal.overflow_sub-result
overflow_sub-result c =
    within c.args.self.now c.self.inside.operations.entries c.self.view_is c.len-operations.ensures.ordered
    c.self.invariant.0 c.self.inside.index c.self.invariant.2 _ _ c.len-operations.ensures.len
    c.content_count-contents.ensures

-- What is no content is a correction.
pub returns : goal.returns
returns c =
    counted c.args.self.now c.self.inside.operations.entries c.self.view_is c.len-operations.ensures.ordered
    c.self.invariant.0 c.self.inside.index c.self.invariant.2 _ _ c.len-operations.ensures.len
    c.content_count-contents.ensures
