use Rattle.std.proofs.Common.{◌∙◌, subst}
use Rattle.dimse.specs.Command.{Spells}
use Rattle.dimse.proofs.FragmentLaws.{put_together}
use Rattle.dimse.proofs.FragmentsLaws.{cut_sending}
use Rattle.dimse.proofs.SoundLaws.{sending_fits}
use Rattle.dimse.proofs.fragments.Fragments.of.Goals as goal

-- The command set is sent first, and then the data set.
pub returns-clause-sent : goal.returns-clause-sent
returns-clause-sent c = cut_sending c.args.message.now c.args.max c.size_within.result c.in_ok-text.text
    c.in_ok-shared.field-0 c.size_within.ensures.size c.size_within.ensures.some (c.in_ok-text.ensures.ok
    ∙ c.in_ok-write_command.ensures.exact) c.in_ok-shared.ensures

-- The fragments join to the texts that were cut.
pub returns-clause-again : goal.returns-clause-again
returns-clause-again c =
    put_together c.args.message.now c.args.max _ c.requires.whole
    (subst (λ text. Spells text c.args.message.now.command)
    c.in_ok-write_command.ensures.exact c.in_ok-write_command.ensures.again) (returns-clause-sent c)

-- Each fragment leaves room for its header within the limit.
pub returns-clause-lawful : goal.returns-clause-lawful
returns-clause-lawful c = sending_fits c.args.message.now c.args.max _ c.requires.least (returns-clause-sent c)
