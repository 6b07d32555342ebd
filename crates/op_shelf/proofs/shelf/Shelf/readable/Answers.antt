use Rattle.std.proofs.Common.{◌≡◌, IfOk, rules, subst}
use Rattle.std.proofs.lemmas.Result.{IfOk-weaker}
use Rattle.sqlite.specs.Held.{state}
use Rattle.op_shelf.specs.Entries.{HasBadRow}
use Rattle.op_shelf.specs.Recording.{AreAllRead}
use Rattle.op_shelf.specs.States.{rows_of}
use Rattle.op_shelf.proofs.Recordings.{whole_read}
use Rattle.op_shelf.proofs.Walks.{unready_looks}
use Rattle.op_shelf.proofs.shelf.Shelf.readable.Goals as goal

-- At one that is not ready nobody looks.
pub returns-then-not-is_ready-clause-looks : goal.returns-then-not-is_ready-clause-looks
returns-then-not-is_ready-clause-looks g c = unready_looks g.S.Store c.args.self.now (λ ready. search (ready, rules))

-- Where no row is none of an operation, all were read.
pub returns-clause-whole : goal.returns-clause-whole
returns-clause-whole g c clean =
    let same : c.self.inside.database ≡ c.args.self.now = search rules in
    let rows = rows_of (state g.S.Store c.self.inside.database) in
    subst (λ h. ¬ HasBadRow (rows_of (state g.S.Store h)) → IfOk c.read_table.result
    (λ told. AreAllRead (rows_of (state g.S.Store h)) told.recorded.items told.unreadable.items)) same
    (λ whole. IfOk-weaker c.read_table.result _ (λ told. AreAllRead rows told.recorded.items told.unreadable.items)
    (λ told it. whole_read rows _ _ it whole) (c.read_table.ensures.read clean))
