use Rattle.std.proofs.lemmas.Result.{IfOk-weaker}
use Rattle.sqlite.specs.Held.{state}
use Rattle.op_shelf.proofs.Keeps.{gains_all, all_up, all_last, all_put}
use Rattle.op_shelf.proofs.Whys.{group_why}
use Rattle.op_shelf.proofs.keep.ShelfKeep.put_many.Goals as goal

-- The entries that were put are those of the group.
pub returns-clause-put : goal.returns-clause-put
returns-clause-put g c up = IfOk-weaker c.put_many.result _ _ (λ kepts put. gains_all (state g.S.Store c.args.self.now)
    (state g.S.Store c.put_many.new.self) c.args.ops.now kepts.items put) (c.put_many.ensures.puts.put up.clean)

-- After Ok each is there, and every crash leaves it.
pub returns-clause-durable : goal.returns-clause-durable
returns-clause-durable g c up = all_put (state g.S.Store c.args.self.now) (state g.S.Store c.put_many.new.self)
    c.args.ops.now c.put_many.result (λ v. v.items) (c.put_many.ensures.puts.put up.clean) (c.put_many.ensures.durable up.clean)

-- A crash leaves what it left before, or that and the group.
pub returns-clause-kept : goal.returns-clause-kept
returns-clause-kept g c up other was =
    all_last (state g.S.Store c.args.self.now) (state g.S.Store c.put_many.new.self) c.args.ops.now c.put_many.result
    (λ v. v.items) up (c.put_many.ensures.puts.put up.clean) (c.put_many.ensures.puts.refused up.clean) c.put_many.ensures.puts.crash
    other was

-- What is up afterwards was up.
pub returns-clause-up : goal.returns-clause-up
returns-clause-up g c up =
    all_up (state g.S.Store c.args.self.now) (state g.S.Store c.put_many.new.self) c.args.ops.now c.put_many.result
    (λ v. v.items) up (c.put_many.ensures.puts.put up.clean) (c.put_many.ensures.puts.refused up.clean) c.put_many.ensures.puts.crash

-- Each fault comes only where it is.
pub returns-clause-why : goal.returns-clause-why
returns-clause-why g c = group_why g.S.Store c.args.self.now c.put_many.new.self c.args.ops.now c.put_many.result c.put_many.ensures.puts
