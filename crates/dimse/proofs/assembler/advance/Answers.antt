use Rattle.std.proofs.Common.{◌∙◌}
use Rattle.dimse.proofs.StepLaws.{leads_between}
use Rattle.dimse.proofs.assembler.advance.Goals as goal

-- The first fragment goes on the empty text.
pub returns-in-Between-clause-leads : goal.returns-in-Between-clause-leads
returns-in-Between-clause-leads c = rw c.in-Between.is (leads_between c.of.result c.args.pdv
    c.take_command_fragment.result (c.of.ensures ∙ c.new.ensures.items) c.take_command_fragment.ensures.ok
    c.take_command_fragment.ensures.refused)
