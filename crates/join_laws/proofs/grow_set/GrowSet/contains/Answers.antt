use Rattle.std.proofs.Common.{◌∙◌, sym, subst, Contains, List}
use Rattle.std.proofs.lemmas.Map.Views.{btree_set_contains_iff}
use Rattle.join_laws.proofs.grow_set.GrowSet.contains.Goals as goal

-- The tree has a key where its list of keys has it.
pub returns : goal.returns
returns g c =
    let key = c.args.key.now in
    let iff = btree_set_contains_iff g.met.K.Ord.total g.met.K.Exact.exact c.self.inside.keys key in
    let Has : List g.row.K.Denot → Type 0 = λ keys. Contains keys key in (
      λ yes. subst Has c.self.view_is (iff.0 (sym c.contains.ensures ∙ yes)),
      λ has. c.contains.ensures ∙ iff.1 (subst Has (sym c.self.view_is) has),
    )
