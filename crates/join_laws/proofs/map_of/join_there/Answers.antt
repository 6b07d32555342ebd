use Rattle.std.proofs.Common.{◌∙◌, ap}
use Rattle.std.specs.BTreeMap.{is_at}
use Rattle.std.specs.Map.{set_value}
use Rattle.std.proofs.lemmas.Map.Steps.{set_value_same}
use Rattle.join_laws.specs.Journal.{undone}
use Rattle.join_laws.proofs.Journals.{undone-written}
use Rattle.join_laws.proofs.map_of.join_there.Goals as goal

-- nothing was written
pub returns-in_err-before-clause-noted : goal.returns-in_err-before-clause-noted
returns-in_err-before-clause-noted g c = λ entries found. ap (undone g.K.Ord.cmp c.args.notes.now.items)
    (set_value_same (is_at (g.K.Ord.cmp c.args.key.now)) entries c.args.there.now found)

-- the note was refused, and nothing was written
pub returns-in_err-push-clause-noted : goal.returns-in_err-push-clause-noted
returns-in_err-push-clause-noted g c = λ entries found.
    ap (λ notes. undone g.K.Ord.cmp notes (set_value (is_at (g.K.Ord.cmp c.args.key.now)) entries c.args.there.now))
    c.in_err-push.ensures.items
    ∙ ap (undone g.K.Ord.cmp c.args.notes.now.items)
    (set_value_same (is_at (g.K.Ord.cmp c.args.key.now)) entries c.args.there.now found)

-- what was there was noted
pub returns-in_err-join_with-clause-noted : goal.returns-in_err-join_with-clause-noted
returns-in_err-join_with-clause-noted g c = λ entries found.
    undone-written g.K.Ord.cmp c.args.notes.now.items c.push.new.self.items c.args.key entries c.args.there.now
    c.in_ok-before.before c.join_with.new.self found c.in_ok-before.ensures c.in_ok-push.ensures.items

-- the last note gives back the value before it
pub returns-clause-noted : goal.returns-clause-noted
returns-clause-noted g c = λ entries found.
    undone-written g.K.Ord.cmp c.args.notes.now.items c.push.new.self.items c.args.key entries c.args.there.now
    c.in_ok-before.before c.join_with.new.self found c.in_ok-before.ensures c.in_ok-push.ensures.items
