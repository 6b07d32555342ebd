use Rattle.hex.specs.Hex.{encode_lower}
use Rattle.sqlite.specs.Held.{state}
use Rattle.op_shelf.specs.States.{rows_of}
use Rattle.op_shelf.proofs.Loads.{exact, was_up, keeps_same, lasts_on}
use Rattle.op_shelf.proofs.Whys.{load_why}
use Rattle.op_shelf.proofs.keep.ShelfKeep.read.Goals as goal

-- What is in the table under the digest is found.
pub returns-clause-exact : goal.returns-clause-exact
returns-clause-exact g c up =
    exact (λ _. encode_lower c.args.digest.now) (rows_of (state g.S.Store c.args.self.now)) c.args.digest.now c.read.result
    (c.read.ensures.none up.clean) (c.read.ensures.found up.clean) c.read.ensures.lawful

-- Each fault comes only where it is.
pub returns-clause-why : goal.returns-clause-why
returns-clause-why g c = load_why g.S.Store c.args.self.now c.read.new.self c.args.digest.now c.read.result
    c.read.ensures.bad_row c.read.ensures.store

-- What is up afterwards was up.
pub returns-clause-up : goal.returns-clause-up
returns-clause-up g c up =
    was_up (state g.S.Store c.args.self.now) (state g.S.Store c.read.new.self) c.read.result up
    (c.read.ensures.same up.clean) (c.read.ensures.refused up.clean) c.read.ensures.crash

-- Nothing changed.
pub returns-clause-same : goal.returns-clause-same
returns-clause-same g c up =
    keeps_same (state g.S.Store c.args.self.now) (state g.S.Store c.read.new.self) c.read.result up
    (c.read.ensures.same up.clean) (c.read.ensures.refused up.clean)

-- A crash leaves what it left before.
pub returns-clause-kept : goal.returns-clause-kept
returns-clause-kept g c up =
    lasts_on (state g.S.Store c.args.self.now) (state g.S.Store c.read.new.self) c.read.result up
    (c.read.ensures.same up.clean) (c.read.ensures.refused up.clean) c.read.ensures.crash
