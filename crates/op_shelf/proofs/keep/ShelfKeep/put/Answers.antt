use Rattle.sqlite.specs.Held.{state}
use Rattle.op_shelf.proofs.Keeps.{gains, finds_known, was_up, lasts_on}
use Rattle.op_shelf.specs.Entries.{digest_text, entry_of}
use Rattle.op_shelf.proofs.Whys.{entry_why}
use Rattle.op_shelf.proofs.keep.ShelfKeep.put.Goals as goal

-- The entry that was put is that of one operation more.
pub returns-clause-new : goal.returns-clause-new
returns-clause-new g c up new = gains (state g.S.Store c.args.self.now) (state g.S.Store c.put.new.self) c.args.op.now
    (c.put.ensures.new up.clean new)

-- What was found is there, and nothing changed.
pub returns-clause-known : goal.returns-clause-known
returns-clause-known g c up known =
    finds_known (state g.S.Store c.args.self.now) (state g.S.Store c.put.new.self) c.args.op.now
    (c.put.ensures.known up.clean known)

-- A crash leaves what it left before, or that and the entry.
pub returns-clause-kept : goal.returns-clause-kept
returns-clause-kept g c up other was =
    lasts_on (state g.S.Store c.args.self.now) (state g.S.Store c.put.new.self) c.args.op.now c.put.result
    up (c.put.ensures.new up.clean) (c.put.ensures.known up.clean) (c.put.ensures.refused up.clean)
    c.put.ensures.crash other was

-- What is up afterwards was up.
pub returns-clause-up : goal.returns-clause-up
returns-clause-up g c up =
    was_up (state g.S.Store c.args.self.now) (state g.S.Store c.put.new.self) c.args.op.now c.put.result
    up (c.put.ensures.new up.clean) (c.put.ensures.known up.clean) (c.put.ensures.refused up.clean)
    c.put.ensures.crash

-- Each fault comes only where it is.
pub returns-clause-why : goal.returns-clause-why
returns-clause-why g c = entry_why g.S.Store c.args.self.now c.put.new.self (digest_text c.args.op.now) (entry_of c.args.op.now)
    c.put.result c.put.ensures
