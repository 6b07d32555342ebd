use Rattle.join_laws.specs.Proved.Maps.{lookup-map_joined}
use Rattle.join_laws.proofs.laws.maps_are_joined_key_by_key.Goals as goal

-- A key's value in the joined map is the join of its values in both.
pub returns : goal.returns
returns g c = λ key. lookup-map_joined g.met.K.Ord.total g.met.K.Exact.exact g.J.Join.joined key c.args.right.now
    c.args.left.now c.held.ensures.0 c.held-2.ensures.0
