use Rattle.std.proofs.Common.{rules}
use Rattle.op_shelf.proofs.Groups.{all_left}
use Rattle.sqlite.specs.Held.{state}
use Rattle.op_shelf.proofs.shelf.Shelf.put_many.Goals as goal

-- What is there is what every crash leaves.
pub returns-clause-durable : goal.returns-clause-durable
returns-clause-durable g c clean =
    all_left _ (state g.S.Store c.put_group.new.database) c.args.ops.now
    c.put_group.result (λ v. v.items) (c.put_group.ensures.puts.put clean) (c.put_group.ensures.settled clean)

-- Nothing was done where the table does not stand alone.
pub returns-then-not-is_ready-clause-puts : goal.returns-then-not-is_ready-clause-puts
returns-then-not-is_ready-clause-puts g c = record {
  put = search rules;
  refused = search rules;
  ready = search rules;
  bad_row = search rules;
  store = search rules;
  crash = search rules;
}
