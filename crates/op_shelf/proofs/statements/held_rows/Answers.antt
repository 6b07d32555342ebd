use Rattle.std.proofs.lemmas.Result.{IfOk-weaker}
use Rattle.sqlite.specs.Held.{state}
use Rattle.op_shelf.proofs.Queries.{finds, plain_held}
use Rattle.op_shelf.proofs.statements.held_rows.Goals as goal

-- The text shows rows and writes nothing.
pub select-requires : goal.select-requires
select-requires g c = record { plain = plain_held (state g.S.Store c.args.database.now).now.schema c.requires.shelf }

-- What is shown are the entries under the digest.
pub returns-clause-rows : goal.returns-clause-rows
returns-clause-rows g c clean =
    IfOk-weaker c.select.result _ _ (λ rows h. finds (state g.S.Store c.args.database.now)
    (state g.S.Store c.select.new.database) c.requires.shelf rows.items c.args.digest.now h)
    (rw c.params-to_sql.ensures at (c.select.ensures.shown clean))

-- The text has the digest as its parameter.
pub returns-clause-cause : goal.returns-clause-cause
returns-clause-cause g c clean = rw c.params-to_sql.ensures at (c.select.ensures.cause clean)
