use Rattle.std.proofs.lemmas.List.Elements.{All-same}
use Rattle.join_laws.specs.MapOf.{put_joined}
use Rattle.join_laws.specs.Proved.Maps.{All-put_joined}
use Rattle.join_laws.proofs.map_of.MapOfSummaryTuple2.add.Goals as goal

-- what was held is held, and so is the value of an operation
pub invariant_of-self-2 : goal.invariant_of-self-2
invariant_of-self-2 g c =
    let Held : g.row.K.Denot × g.row.J.Denot → Type 0 = λ e. g.J.Join.IsHeld e.1 in
    let ours = c.self.inside.map.entries in
    let key = c.args.op.now.0 in
    let one = g.J.Summary.of_one c.args.op.now.1 in
    let laws = g.met.J.Join.laws in
    let more = g.met.J.Summary.summary_laws in
    let held = All-put_joined g.K.Ord.cmp g.J.Join.joined g.J.Join.IsHeld laws.held key
    one (more.one_held c.args.op.now.1) ours c.self.invariant in
    All-same Held c.add_at.new.into.entries (put_joined g.K.Ord.cmp g.J.Join.joined ours key one)
    c.in_ok-add_at.ensures.ok held
