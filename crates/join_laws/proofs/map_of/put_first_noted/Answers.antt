use Rattle.std.proofs.Common.{◌∙◌, ap}
use Rattle.std.specs.BTreeMap.{is_at}
use Rattle.std.specs.Map.{remove_entry}
use Rattle.join_laws.proofs.Undone.{remove-put_joined}
use Rattle.join_laws.proofs.Journals.{undone-first, remove_absent}
use Rattle.join_laws.proofs.map_of.put_first_noted.Goals as goal

-- the key was noted as absent, and stayed so
pub returns-in_err-put_first-clause-noted : goal.returns-in_err-put_first-clause-noted
returns-in_err-put_first-clause-noted g c =
    undone-first g.K.Ord.cmp c.args.notes.now.items c.push.new.self.items c.args.key c.args.into.now.entries
    c.put_first.new.into.entries
    (ap (remove_entry (is_at (g.K.Ord.cmp c.args.key.now))) c.in_err-put_first.ensures.refused
    ∙ remove_absent (is_at (g.K.Ord.cmp c.args.key.now)) c.args.into.now.entries c.requires.absent)
    c.in_ok-push.ensures.items

-- the last note takes the entry out again
pub returns-clause-noted : goal.returns-clause-noted
returns-clause-noted g c =
    undone-first g.K.Ord.cmp c.args.notes.now.items c.push.new.self.items c.args.key c.args.into.now.entries
    c.put_first.new.into.entries
    (ap (remove_entry (is_at (g.K.Ord.cmp c.args.key.now))) c.in_ok-put_first.ensures.ok
    ∙ remove-put_joined g.met.K.Ord.total g.J.Join.joined c.args.key.now c.args.value.now c.args.into.now.entries
    c.requires.absent)
    c.in_ok-push.ensures.items
