use Rattle.std.proofs.Common.{◌++◌, ◌∷◌, []}
use Rattle.record_log.specs.Entries.{without_notes}
use Rattle.record_log.proofs.Waiting.{given_up_tells}
use Rattle.record_log.proofs.log.RecordLog.add.Goals as goal

-- Memory was refused, and the file is given up.
pub returns-in_default : goal.returns-in_default
returns-in_default g c cs told =
    given_up_tells g.D.Disk c.give_up.new.self (cs ++ without_notes (c.args.content.now ∷ []))
    c.give_up.ensures.given_up c.give_up.ensures.none

pub returns-then-is_err : goal.returns-then-is_err
returns-then-is_err g c cs told =
    given_up_tells g.D.Disk c.give_up-then-is_err.new.self (cs ++ without_notes (c.args.content.now ∷ []))
    c.give_up-then-is_err.ensures.given_up c.give_up-then-is_err.ensures.none
