use Rattle.std.proofs.Common.{sym, Result, Ok, Err, OnErr}
use Rattle.std.specs.BTreeMap.{is_at}
use Rattle.join_laws.proofs.Puts.{put_written, put_same}
use Rattle.join_laws.proofs.map_of.add_undoable.Goals as goal

on_err : {T E P : Type 0} (r : Result T E) → P → OnErr r P
on_err (Ok x) p = tt
on_err (Err e) p = p

-- the key was there, and its value takes in the operation
pub returns-in_ok-add_with_undo-in-Some-clause-ok : goal.returns-in_ok-add_with_undo-in-Some-clause-ok
returns-in_ok-add_with_undo-in-Some-clause-ok g c =
    put_written g.met.K.Ord.total g.J.Join.joined c.args.key.now (g.J.Summary.of_one c.args.op.now)
    c.args.into.now.entries (c.get_mut.follows.lender c.add_with_undo.new.self).entries c.in-Some.there.now
    c.add_with_undo.new.self (c.get_mut.follows.holds c.add_with_undo.new.self).0
    c.in_ok-add_with_undo-in-Some.ensures.ok c.get_mut.ensures.ordered (sym c.in-Some.ensures.value)

-- the value refused the operation, and kept what was there
pub returns-in_err-add_with_undo-in-Some-clause-refused : goal.returns-in_err-add_with_undo-in-Some-clause-refused
returns-in_err-add_with_undo-in-Some-clause-refused g c =
    on_err c.from_residual.result (put_same (is_at (g.K.Ord.cmp c.args.key.now)) c.args.into.now.entries
    (c.get_mut.follows.lender c.add_with_undo.new.self).entries c.in-Some.there.now c.add_with_undo.new.self
    (c.get_mut.follows.holds c.add_with_undo.new.self).0 c.in_err-add_with_undo-in-Some.ensures.refused
    (sym c.in-Some.ensures.value))
