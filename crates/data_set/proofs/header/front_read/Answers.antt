use Rattle.std.proofs.Common.{sym}
use Rattle.data_set.proofs.Offences.{sized}
use Rattle.data_set.proofs.header.front_read.Goals as goal

-- A value without items has a length, and so many bytes are there.
pub returns-clause-sized : goal.returns-clause-sized
returns-clause-sized c = λ none. sized c.args.previous _ _ _ (sym c.in_default.ensures) (sym c.if-not-is_within.ensures)
    c.syntax_inside.ensures none
