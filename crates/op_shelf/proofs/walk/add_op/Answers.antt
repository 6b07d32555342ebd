use Rattle.std.proofs.Common.{map, refl}
use Rattle.op_shelf.specs.Entries.{entry_of}
use Rattle.op_shelf.proofs.Ops.{entries_more}
use Rattle.op_shelf.proofs.walk.add_op.Goals as goal

-- One operation more is one entry more.
pub returns-clause-added : goal.returns-clause-added
returns-clause-added c = rw c.in_ok-push.ensures.items
    (entries_more c.args.ops.now.items c.in_ok-op.op (map entry_of c.args.ops.now.items) c.args.entry.now refl
    c.in_ok-op.ensures.found)
