use Rattle.std.proofs.lemmas.List.Elements.{All-same}
use Rattle.join_laws.specs.MapOf.{map_joined}
use Rattle.join_laws.specs.Proved.Maps.{All-map_joined}
use Rattle.join_laws.proofs.map_of.MapOf.join_noted.Goals as goal

-- what both held is held, and so is what two held values come to
pub invariant_of-self-2 : goal.invariant_of-self-2
invariant_of-self-2 g c =
    let Held : g.row.K.Denot × g.row.J.Denot → Type 0 = λ e. g.J.Join.IsHeld e.1 in
    let ours = c.self.inside.map.entries in
    let theirs = c.other.inside.map.entries in
    let held = All-map_joined g.met.K.Ord.total g.met.K.Exact.exact g.met.J.Join.laws theirs ours c.self.invariant
    c.other.invariant in
    All-same Held c.join_maps.new.into.entries (map_joined g.K.Ord.cmp g.J.Join.joined ours theirs)
    c.in_ok-join_maps.ensures.ok held
