use Rattle.std.proofs.Common.{◌∙◌, ap}
use Rattle.join_laws.specs.MapOf.{map_joined}
use Rattle.join_laws.specs.Proved.Maps.{map_joined_none}
use Rattle.join_laws.proofs.map_of.copied.Goals as goal

-- All entries were put into a map that was empty, so they are the entries.
pub returns : goal.returns
returns g c =
    let entries = c.args.map.now.entries in
    c.in_ok-put_all.ensures.ok
    ∙ ap (λ none. map_joined g.K.Ord.cmp g.J.Join.joined none entries) c.new-copy.ensures.empty
    ∙ map_joined_none g.met.K.Ord.total g.met.K.Exact.exact g.J.Join.joined entries c.in_ok-put_all.ensures.ordered
