use Rattle.std.proofs.Common.{subst, sym}
use Rattle.std.specs.Prelude.{IsUtf8}
use Rattle.archive_app.proofs.HeldLaws.{is_text}
use Rattle.archive_app.proofs.output.held.held_in.Goals as goal

-- What was written is text.
pub returns-in-Err-clause-told : goal.returns-in-Err-clause-told
returns-in-Err-clause-told c = λ n l e. absurd (c.in-Err.ensures.cases.0 (subst IsUtf8 (sym e) (is_text n l)))
