use Rattle.std.proofs.Common.{sym}
use Rattle.operation.proofs.KeyValueLaws.{short_value}
use Rattle.operation.proofs.key_values.values_under.Goals as goal

-- The value is that of an element whose header spells its length.
pub put-requires-clause-fits : goal.put-requires-clause-fits
put-requires-clause-fits c =
    short_value _ c.args.elements.now c.in-Some.value.now c.requires.fit (sym c.in-Some.ensures)
