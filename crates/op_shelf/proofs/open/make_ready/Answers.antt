use Rattle.std.proofs.Common.{rules}
use Rattle.sqlite.specs.Held.{state}
use Rattle.op_shelf.specs.Migration.{IsOlder}
use Rattle.op_shelf.proofs.Puts.{ready_after, survives_older}
use Rattle.op_shelf.proofs.open.make_ready.Goals as goal

-- The newer table stands alone.
pub returns-then-is_aged-clause-ready : goal.returns-then-is_aged-clause-ready
returns-then-is_aged-clause-ready g c clean =
    ready_after (state g.S.Store c.args.database.now) (state g.S.Store c.migrate.new.database) c.migrate.result
    (c.migrate.ensures.migrated clean)

-- A crash finds what a migration leaves.
pub returns-then-is_aged-clause-crash : goal.returns-then-is_aged-clause-crash
returns-then-is_aged-clause-crash g c =
    let older : IsOlder (state g.S.Store c.args.database.now) = search rules in
    survives_older (state g.S.Store c.args.database.now) (state g.S.Store c.migrate.new.database) older
    c.migrate.ensures.crash
