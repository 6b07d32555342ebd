use Rattle.std.proofs.Common.{◌∙◌}
use Rattle.command_line.proofs.FoundLaws.{flag_is}
use Rattle.command_line.proofs.found.has.Goals as goal

-- It is there where the first text is `true`.
pub returns : goal.returns
returns c = c.unwrap_or.ensures
    ∙ flag_is _ c.args.found.now c.args.name.now c.get_one.result c.get_one.ensures.none c.get_one.ensures.value
