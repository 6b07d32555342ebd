use Rattle.std.proofs.Common.{◌∙◌, sym, ap}
use Rattle.std.specs.BTreeMap.{is_at}
use Rattle.std.specs.BTreeSet.{insert_key}
use Rattle.std.specs.List.{list_any}
use Rattle.std.specs.Set.{remove_key}
use Rattle.join_laws.proofs.Journals.{taken_out-noted, remove_key_absent}
use Rattle.join_laws.proofs.Undone.{not_true, remove-insert_key}
use Rattle.join_laws.proofs.grow_set.put_noted.Goals as goal

-- the key was noted, and nothing was put in
pub returns-in_err-absent-clause-noted : goal.returns-in_err-absent-clause-noted
returns-in_err-absent-clause-noted g c =
    let keys = c.args.into.now.keys in
    let test = is_at (g.K.Ord.cmp c.args.key.now) in
    let copied = c.in_ok-copy.ensures in
    let absent = ap (λ key. list_any (is_at (g.K.Ord.cmp key)) keys) (sym copied) ∙ c.in_err-absent.ensures.absent in
    let back = ap (remove_key test) c.in_err-absent.ensures.err ∙ remove_key_absent test keys absent in
    taken_out-noted g.K.Ord.cmp c.args.added.now.items c.push.new.self.items c.args.key keys c.insert.new.self.keys
    c.in_ok-push.ensures.items back

-- the key was noted and put in
pub returns-else-not-absent-clause-noted : goal.returns-else-not-absent-clause-noted
returns-else-not-absent-clause-noted g c =
    let keys = c.args.into.now.keys in
    let key = c.args.key.now in
    let test = is_at (g.K.Ord.cmp key) in
    let copied = c.in_ok-copy.ensures in
    let lacked = not_true _ (sym c.if-not-absent.false ∙ c.in_ok-absent.ensures.added) in
    let absent = ap (λ k. list_any (is_at (g.K.Ord.cmp k)) keys) (sym copied) ∙ lacked in
    let put = c.in_ok-absent.ensures.keys ∙ ap (insert_key g.K.Ord.cmp keys) copied in
    let back = ap (remove_key test) put ∙ remove-insert_key g.met.K.Ord.total key keys absent in
    taken_out-noted g.K.Ord.cmp c.args.added.now.items c.push.new.self.items c.args.key keys c.insert.new.self.keys
    c.in_ok-push.ensures.items back
