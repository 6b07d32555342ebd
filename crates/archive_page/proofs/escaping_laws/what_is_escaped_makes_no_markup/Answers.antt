use Rattle.archive_page.proofs.EscapingLaws.{no_delimiter, no_control, reads_back, utf8_is_read_back}
use Rattle.archive_page.proofs.escaping_laws.what_is_escaped_makes_no_markup.Goals as goal

-- Neither a plain byte nor one of a reference is a delimiter.
pub returns-clause-no_delimiter : goal.returns-clause-no_delimiter
returns-clause-no_delimiter c = no_delimiter

-- Nor is it a control character.
pub returns-clause-no_control : goal.returns-clause-no_control
returns-clause-no_control c = no_control

-- What stands for a byte is read as that byte.
pub returns-clause-reads_back : goal.returns-clause-reads_back
returns-clause-reads_back c = reads_back

-- A value that is UTF-8 is its own text.
pub returns-clause-same : goal.returns-clause-same
returns-clause-same c = utf8_is_read_back
