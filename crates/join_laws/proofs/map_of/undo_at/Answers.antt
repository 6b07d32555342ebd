use Rattle.std.proofs.Common.{◌∙◌, ap, subst}
use Rattle.std.specs.BTreeMap.{is_at}
use Rattle.std.specs.Map.{lookup, remove_entry}
use Rattle.std.proofs.lemmas.List.Elements.{All-same}
use Rattle.join_laws.specs.MapOf.{IsUndoAt}
use Rattle.join_laws.proofs.Undone.{remove-put_joined, All-remove_entry}
use Rattle.join_laws.proofs.map_of.undo_at.Goals as goal

-- the key was absent, and its entry is taken out
pub returns-in-None-clause-back : goal.returns-in-None-clause-back
returns-in-None-clause-back g c = λ before held takes eq.
    let test = is_at (g.K.Ord.cmp c.args.key.now) in
    let absent = subst (IsUndoAt g.J.Undoes.TakesBack c.args.op.now (lookup test before)) c.in-None.is takes in
    c.remove.ensures.entries
    ∙ ap (remove_entry test) eq
    ∙ remove-put_joined g.met.K.Ord.total g.J.Join.joined c.args.key.now (g.J.Summary.of_one c.args.op.now) before
    absent

-- what is left were entries before
pub returns-in-None-clause-held : goal.returns-in-None-clause-held
returns-in-None-clause-held g c = λ all.
    let Held : g.row.K.Denot × g.row.J.Denot → Type 0 = λ e. g.J.Join.IsHeld e.1 in
    let test = is_at (g.K.Ord.cmp c.args.key.now) in
    let entries = c.args.map.now.entries in
    All-same Held c.remove.new.self.entries (remove_entry test entries) c.remove.ensures.entries
    (All-remove_entry test Held entries all)
