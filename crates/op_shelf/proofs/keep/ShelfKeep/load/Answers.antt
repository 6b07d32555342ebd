use Rattle.std.proofs.lemmas.Result.{IfOk-weaker}
use Rattle.sqlite.specs.Held.{state}
use Rattle.op_shelf.specs.Entries.{digest_text}
use Rattle.op_shelf.specs.States.{rows_of}
use Rattle.op_shelf.proofs.Loads.{some_held, exact, was_up, keeps_same, lasts_on}
use Rattle.op_shelf.proofs.Whys.{load_why}
use Rattle.op_shelf.proofs.keep.ShelfKeep.load.Goals as goal

-- What is found is in the table.
pub returns-clause-held : goal.returns-clause-held
returns-clause-held g c up = IfOk-weaker c.load.result _ _
    (some_held (rows_of (state g.S.Store c.args.self.now)) c.args.digest.now) (c.load.ensures.found up.clean)

-- What is in the table under the digest is found.
pub returns-clause-exact : goal.returns-clause-exact
returns-clause-exact g c up =
    exact digest_text (rows_of (state g.S.Store c.args.self.now)) c.args.digest.now c.load.result
    (c.load.ensures.none up.clean) (c.load.ensures.found up.clean) c.load.ensures.lawful

-- Each fault comes only where it is.
pub returns-clause-why : goal.returns-clause-why
returns-clause-why g c = load_why g.S.Store c.args.self.now c.load.new.self c.args.digest.now c.load.result
    c.load.ensures.bad_row c.load.ensures.store

-- What is up afterwards was up.
pub returns-clause-up : goal.returns-clause-up
returns-clause-up g c up =
    was_up (state g.S.Store c.args.self.now) (state g.S.Store c.load.new.self) c.load.result up
    (c.load.ensures.same up.clean) (c.load.ensures.refused up.clean) c.load.ensures.crash

-- Nothing changed.
pub returns-clause-same : goal.returns-clause-same
returns-clause-same g c up =
    keeps_same (state g.S.Store c.args.self.now) (state g.S.Store c.load.new.self) c.load.result up
    (c.load.ensures.same up.clean) (c.load.ensures.refused up.clean)

-- A crash leaves what it left before.
pub returns-clause-kept : goal.returns-clause-kept
returns-clause-kept g c up =
    lasts_on (state g.S.Store c.args.self.now) (state g.S.Store c.load.new.self) c.load.result up
    (c.load.ensures.same up.clean) (c.load.ensures.refused up.clean) c.load.ensures.crash
