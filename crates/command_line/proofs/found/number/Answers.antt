use Rattle.std.specs.contracts.prelude.U32FromStr.TheImpl.{from_str_gives-value}
use Rattle.command_line.proofs.FoundLaws.{number_is}
use Rattle.command_line.proofs.found.number.Goals as goal

-- What is read is the number of the first text.
pub returns : goal.returns
returns c = number_is _ from_str_gives-value.it c.args.found.now c.args.name.now c.get_one.result
    c.get_one.ensures.none c.get_one.ensures.value (λ text read h. h.0)
