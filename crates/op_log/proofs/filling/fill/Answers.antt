use Rattle.std.proofs.Common.{rules, ◌≡◌, ◌<◌, Ok, None, length}
use Rattle.op_log.proofs.Fitting.{no_text, one_more, shorter}
use Rattle.op_log.proofs.filling.fill.Goals as goal

-- Each text of heads that fit goes on with one here.
pub returns-in_default-clause-damaged : goal.returns-in_default-clause-damaged
returns-in_default-clause-damaged c n told heads fit is =
    let none : c.take_first.result ≡ Ok None = search rules in
    let some : 0 < length c.heads.rest.now = search rules in
    no_text c.args.end c.args.places.now c.heads.places c.args.group.now c.heads.rest.now c.heads.invariant some
    (λ h behind it text. c.take_first.ensures.none none h behind it text) heads fit is

-- A head has some bytes.
pub heads-smaller : goal.heads-smaller
heads-smaller c =
    let it = rw c.in-Some.is at c.in_ok-behind.ensures.taken in
    shorter it.head c.heads.rest.now c.in-Some.behind.now it.text_is

-- One head more was taken.
pub heads-preserved : goal.heads-preserved
heads-preserved c =
    let it = rw c.in-Some.is at c.in_ok-behind.ensures.taken in
    one_more c.args.end c.args.places.now c.heads.places c.take_first.new.places c.args.group.now c.heads.rest.now c.in-Some.behind.now c.heads.invariant it
