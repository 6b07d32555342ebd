use Rattle.std.proofs.Common.{ap, sym, codes}
use Rattle.exchange.specs.declared.fault.ExchangeFault.{ExchangeFault}
use Rattle.exchange.specs.Fault.{number_of_exchange}
use Rattle.archive_app.specs.Ending.{fault_line}
use Rattle.archive_app.proofs.output.ending.line_of_exchange.Goals as goal

-- What was read is no frame: the line has its number.
pub returns-in-BadFrame : goal.returns-in-BadFrame
returns-in-BadFrame c = ap (λ (fault : ExchangeFault). fault_line (codes "exchange") (number_of_exchange fault))
    (sym c.in-BadFrame.is)

-- A frame is too long: the line has its number.
pub returns-in-TooLong : goal.returns-in-TooLong
returns-in-TooLong c = ap (λ (fault : ExchangeFault). fault_line (codes "exchange") (number_of_exchange fault))
    (sym c.in-TooLong.is)

-- An operation was not asked for: the line has its number.
pub returns-in-Stranger : goal.returns-in-Stranger
returns-in-Stranger c = ap (λ (fault : ExchangeFault). fault_line (codes "exchange") (number_of_exchange fault))
    (sym c.in-Stranger.is)

-- The connection failed: the line has its number.
pub returns-in-Io : goal.returns-in-Io
returns-in-Io c = ap (λ (fault : ExchangeFault). fault_line (codes "exchange") (number_of_exchange fault))
    (sym c.in-Io.is)

-- Memory ran out: the line has its number.
pub returns-in-Memory : goal.returns-in-Memory
returns-in-Memory c = ap (λ (fault : ExchangeFault). fault_line (codes "exchange") (number_of_exchange fault))
    (sym c.in-Memory.is)

-- There were too many frames: the line has its number.
pub returns-in-Turns : goal.returns-in-Turns
returns-in-Turns c = ap (λ (fault : ExchangeFault). fault_line (codes "exchange") (number_of_exchange fault))
    (sym c.in-Turns.is)

-- The holder refused: the line has its number.
pub returns-in-Refused : goal.returns-in-Refused
returns-in-Refused c = ap (λ (fault : ExchangeFault). fault_line (codes "exchange") (number_of_exchange fault))
    (sym c.in-Refused.is)
