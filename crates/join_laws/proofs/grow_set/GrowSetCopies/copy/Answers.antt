use Rattle.std.proofs.Common.{◌∙◌, ap}
use Rattle.join_laws.specs.GrowSet.{union_of}
use Rattle.join_laws.specs.Proved.Sets.{union_of_none}
use Rattle.join_laws.proofs.grow_set.GrowSetCopies.copy.Goals as goal

-- All keys were put into a set that was empty, so they are the keys.
pub returns : goal.returns
returns g c =
    let keys = c.self.inside.keys in
    c.in_ok-put_all.ensures.ok
    ∙ ap (λ none. union_of g.K.Ord.cmp none keys.keys) c.new-keys.ensures.empty
    ∙ union_of_none g.met.K.Ord.total g.met.K.Exact.exact keys.keys c.in_ok-put_all.ensures.ordered
    ∙ c.self.view_is
