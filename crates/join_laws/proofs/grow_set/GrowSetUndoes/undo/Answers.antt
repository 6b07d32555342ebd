use Rattle.std.proofs.Common.{◌∙◌, sym, ap}
use Rattle.std.specs.BTreeMap.{is_at}
use Rattle.std.specs.Set.{remove_key}
use Rattle.join_laws.proofs.Undone.{not_true, not_false, remove-insert_key, insert_key_present}
use Rattle.join_laws.proofs.grow_set.GrowSetUndoes.undo.Goals as goal

-- the key was absent, and is taken out
pub returns-then-undo : goal.returns-then-undo
returns-then-undo g c = λ before held absent was.
    let key = c.args.key.now in
    c.remove.ensures.keys
    ∙ ap (remove_key (is_at (g.K.Ord.cmp key))) (c.self.view_is ∙ was)
    ∙ remove-insert_key g.met.K.Ord.total key before (not_true _ (sym c.if-undo.true ∙ absent))

-- the key was there, and stays
pub returns-else-undo : goal.returns-else-undo
returns-else-undo g c = λ before held absent was.
    was ∙ insert_key_present g.met.K.Ord.total c.args.key.now g.met.K.Exact.exact before
    held (not_false _ (sym c.if-undo.false ∙ absent))
