use Rattle.std.proofs.Common.{sym, subst}
use Rattle.pdu.specs.Grammar.{Spells}
use Rattle.pdu.proofs.Again.{spells_again}
use Rattle.pdu.proofs.writer.write_pdu.Goals as goal

-- The text that is written spells the PDU.
pub returns-clause-spelled : goal.returns-clause-spelled
returns-clause-spelled c = subst (Spells c.args.pdu.now) (sym c.in_ok-text.ensures)
    (spells_again c.args.pdu.now c.requires)
