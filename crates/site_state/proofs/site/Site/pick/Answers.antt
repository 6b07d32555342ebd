use Rattle.std.proofs.Common.{◌∙◌, ap}
use Rattle.site_state.specs.Site.{held_at}
use Rattle.site_state.specs.Hidden.{content_held}
use Rattle.site_state.proofs.Lookups.{none_picked, is_picked}
use Rattle.site_state.proofs.site.Site.pick.Goals as goal

-- Where the index has no pick, there is none.
pub returns-in-None : goal.returns-in-None
returns-in-None c = none_picked c.args.self.now c.index.result.now c.see_lawful.ensures.own c.index.ensures.says
    c.args.uid.now c.in-None.ensures

-- What is held under the digest that it has is the pick.
pub returns-in-Some : goal.returns-in-Some
returns-in-Some c =
    c.content_under.ensures
    ∙ ap (λ d. content_held (held_at c.args.self.now d)) c.digest.ensures
    ∙ is_picked c.args.self.now c.index.result.now c.see_lawful.ensures.own c.index.ensures.says c.args.uid.now
    c.in-Some.picked.now c.in-Some.ensures
