use Rattle.dimse.proofs.WrittenLaws.{written_again}
use Rattle.dimse.proofs.writer.write_command.Goals as goal

-- The elements that are written ascend, and say the command.
pub returns-clause-again : goal.returns-clause-again
returns-clause-again c = written_again c.args.command.now c.spell.result c.requires.lawful c.requires.room
    c.spell.ensures.exact c.spell.ensures.fits
