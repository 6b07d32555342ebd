use Rattle.site_simulation.proofs.Lined.{lines_text, output_lines}
use Rattle.site_simulation.proofs.laws.lines_are_parted_by_their_ends.Goals as goal

-- Each byte but an LF goes to the line in hand.
pub returns-clause-text : goal.returns-clause-text
returns-clause-text c = lines_text

-- And an LF prints that line.
pub returns-clause-output : goal.returns-clause-output
returns-clause-output c = output_lines
