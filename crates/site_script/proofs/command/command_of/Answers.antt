use Rattle.site_script.proofs.Commanded.{read_lawful}
use Rattle.site_script.proofs.command.command_of.Goals as goal

-- A line that is not too long makes elements that a data set may have.
pub returns-in_ok-words-in-len1-up-clause-lawful : goal.returns-in_ok-words-in-len1-up-clause-lawful
returns-in_ok-words-in-len1-up-clause-lawful c short =
    read_lawful c.args.line.now c.in_ok-words-in-len1-up.words.items c.as_slice.result.now c.command_in.result
    c.as_slice.ensures.value c.in_ok-words-in-len1-up.ensures c.command_in.ensures short
