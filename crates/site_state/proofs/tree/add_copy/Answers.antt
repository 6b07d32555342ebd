use Rattle.std.proofs.Common.{ap, sym, ◌∙◌, [], ◌∷◌}
use Rattle.site_state.specs.Site.{of_entries}
use Rattle.site_state.specs.Union.{union}
use Rattle.site_state.proofs.Unions.{known_entry, new_entry}
use Rattle.site_state.proofs.Journals.{noted, out_again, still_out}
use Rattle.site_state.proofs.tree.add_copy.Goals as goal

-- What is there adds nothing.
pub returns-then-contains_key-clause-ok : goal.returns-then-contains_key-clause-ok
returns-then-contains_key-clause-ok c = known_entry c.args.tree.now.entries c.args.digest.now c.args.op.now
    (sym c.contains_key.ensures ∙ c.if-contains_key.true)

-- The digest was noted, and nothing was put in.
pub returns-in_err-insert-clause-noted : goal.returns-in_err-insert-clause-noted
returns-in_err-insert-clause-noted c =
    noted c.args.added.now.items c.push.new.self.items c.args.digest (of_entries c.args.tree.now.entries)
    (of_entries c.insert.new.self.entries) c.in_ok-push.ensures.items
    (still_out c.args.tree.now.entries c.insert.new.self.entries c.args.digest.now (sym c.contains_key.ensures
    ∙ c.if-contains_key.false) c.in_err-insert.ensures.err)

-- A copy of the operation stands under its digest, and the other operations are left.
pub returns-clause-ok : goal.returns-clause-ok
returns-clause-ok c =
    new_entry c.args.tree.now.entries c.insert.new.self.entries c.args.digest.now c.in_ok-copy.copy
    (sym c.contains_key.ensures ∙ c.if-contains_key.false) c.in_ok-insert.ensures.updates.0
    ∙ ap (λ o. union (of_entries c.args.tree.now.entries) (of_entries ((c.args.digest.now, o) ∷ [])))
    c.in_ok-copy.ensures

-- The digest was noted, and its operation put in.
pub returns-clause-noted : goal.returns-clause-noted
returns-clause-noted c =
    noted c.args.added.now.items c.push.new.self.items c.args.digest (of_entries c.args.tree.now.entries)
    (of_entries c.insert.new.self.entries) c.in_ok-push.ensures.items
    (out_again c.args.tree.now.entries c.insert.new.self.entries c.args.digest.now c.in_ok-copy.copy
    (sym c.contains_key.ensures ∙ c.if-contains_key.false) c.in_ok-insert.ensures.updates.0)
