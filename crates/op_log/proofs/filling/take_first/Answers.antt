use Rattle.std.proofs.Common.{◌≡◌, true, sym, ◌∙◌, subst}
use Rattle.op_log.specs.Records.{head_in}
use Rattle.op_log.specs.Heads.{Head}
use Rattle.op_log.specs.Filling.{IsAlike}
use Rattle.op_log.specs.Kept.{IsBelow}
use Rattle.op_log.proofs.Cutting.{one_head}
use Rattle.op_log.proofs.filling.take_first.Goals as goal

-- No other head stands there, and this one can not be taken.
pub returns-then-not-is_fit-clause-none : goal.returns-then-not-is_fit-clause-none
returns-then-not-is_fit-clause-none c told h rest fit is =
    let mine = c.in-Some.ensures in
    let same = (one_head (head_in c.in-Some.head) h c.in-Some.rest.now rest mine.lawful fit.spelled (sym mine.spelled ∙ is)).0 in
    let below = subst (λ (x : Head). IsBelow c.args.end x) (sym same) fit.below in
    let alike = subst (λ (x : Head). IsAlike c.args.places.now x) (sym same) fit.alike in
    let yes : c.is_fit.result ≡ true = c.is_fit.ensures.fit.1 (below, alike) in
    let no = c.if-not-is_fit.true in
    absurd cc
