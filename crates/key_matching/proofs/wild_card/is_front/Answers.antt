use Rattle.std.proofs.Common.{arith, sym}
use Rattle.key_matching.proofs.Runs.{front_too_long}
use Rattle.key_matching.proofs.wild_card.is_front.Goals as goal

-- A run that is longer than the value is no front of it.
pub returns-then-value-run : goal.returns-then-value-run
returns-then-value-run c = sym (front_too_long c.args.folds c.args.run.now c.args.value.now (omega arith))
