use Rattle.std.proofs.Common.{sym}
use Rattle.std.specs.BTreeMap.{is_at}
use Rattle.std.proofs.lemmas.Result.{on_ok_weaker, on_err_weaker}
use Rattle.join_laws.proofs.Puts.{put_written, put_same}
use Rattle.join_laws.proofs.map_of.add_at.Goals as goal

-- the key was there, and its value takes in the operation
pub returns-in-Some-clause-ok : goal.returns-in-Some-clause-ok
returns-in-Some-clause-ok g c =
    on_ok_weaker c.add.result
    (λ joined. put_written g.met.K.Ord.total g.J.Join.joined c.args.key.now (g.J.Summary.of_one c.args.op.now)
    c.args.into.now.entries (c.get_mut.follows.lender c.add.new.self).entries c.in-Some.there.now
    c.add.new.self (c.get_mut.follows.holds c.add.new.self).0 joined c.get_mut.ensures.ordered
    (sym c.in-Some.ensures.value)) c.add.ensures.ok

-- the value refused the operation, and kept what was there
pub returns-in-Some-clause-refused : goal.returns-in-Some-clause-refused
returns-in-Some-clause-refused g c =
    on_err_weaker c.add.result (λ kept. put_same (is_at (g.K.Ord.cmp c.args.key.now)) c.args.into.now.entries
    (c.get_mut.follows.lender c.add.new.self).entries c.in-Some.there.now c.add.new.self
    (c.get_mut.follows.holds c.add.new.self).0 kept (sym c.in-Some.ensures.value)) c.add.ensures.refused
