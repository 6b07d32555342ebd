use Rattle.std.proofs.lemmas.Result.{IfOk-weaker}
use Rattle.sqlite.specs.Held.{state}
use Rattle.op_shelf.proofs.Queries.{counts, plain_kind}
use Rattle.op_shelf.proofs.statements.kind_rows.Goals as goal

-- The text shows rows and writes nothing.
pub select-requires : goal.select-requires
select-requires g c = record { plain = plain_kind (state g.S.Store c.args.database.now).now.schema c.requires.shelf }

-- A row is shown for each entry of the kind.
pub returns-clause-count : goal.returns-clause-count
returns-clause-count g c clean =
    IfOk-weaker c.select.result _ _ (λ rows h. counts (state g.S.Store c.args.database.now)
    (state g.S.Store c.select.new.database) c.requires.shelf rows.items c.args.kind h)
    (rw (c.params-to_sql.ensures, c.from.ensures) at (c.select.ensures.shown clean))

-- The text has the kind as its parameter.
pub returns-clause-cause : goal.returns-clause-cause
returns-clause-cause g c clean = rw (c.params-to_sql.ensures, c.from.ensures) at (c.select.ensures.cause clean)
