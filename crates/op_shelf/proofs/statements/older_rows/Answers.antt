use Rattle.std.proofs.lemmas.Result.{IfOk-weaker}
use Rattle.sqlite.specs.Held.{state}
use Rattle.op_shelf.proofs.Olders.{lists_pairs, plain_older}
use Rattle.op_shelf.proofs.statements.older_rows.Goals as goal

-- The text shows rows and writes nothing.
pub select-requires : goal.select-requires
select-requires g c = record { plain = plain_older (state g.S.Store c.args.database.now).now.schema c.requires.older }

-- What is shown are the pairs of the table.
pub returns-clause-rows : goal.returns-clause-rows
returns-clause-rows g c clean =
    IfOk-weaker c.select.result _ _ (λ rows h. lists_pairs (state g.S.Store c.args.database.now)
    (state g.S.Store c.select.new.database) rows.items c.requires.older h) (c.select.ensures.shown clean)
