use Rattle.dimse.proofs.StepLaws.{refused_at}
use Rattle.dimse.proofs.assembler.take_command_fragment.Goals as goal

-- The whole text is no command set.
pub returns-then-last-clause-refused : goal.returns-then-last-clause-refused
returns-then-last-clause-refused c = refused_at c.args.text c.args.pdv c.close_command.result c.if-last.true
    (rw (← c.in_ok-text.ensures) c.close_command.ensures.refused)
