use Rattle.std.proofs.Common.{subst, sym}
use Rattle.std.specs.Prelude.{IsUtf8}
use Rattle.site_desk.proofs.StampLaws.{is_text}
use Rattle.site_desk.proofs.outcome.stamp_in.Goals as goal

-- The line is text.
pub returns-in-Err : goal.returns-in-Err
returns-in-Err c = λ made is e. absurd (c.in-Err.ensures.cases.0 (subst IsUtf8 (sym e) (is_text made is)))
