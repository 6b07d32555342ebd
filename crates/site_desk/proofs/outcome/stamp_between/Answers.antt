use Rattle.std.proofs.Common.{Some, None}
use Rattle.site_desk.proofs.StampLaws.{parts}
use Rattle.site_desk.proofs.outcome.stamp_between.Goals as goal

-- There is a space,
pub returns-in-None : goal.returns-in-None
returns-in-None c = λ made is e. absurd (parts made c.args.text.now None is c.in-None.ensures.cases e)

-- before which the counter stands, and behind it the site.
pub returns-in-Some : goal.returns-in-Some
returns-in-Some c = λ made is e.
    let both = parts made c.args.text.now (Some (c.in-Some.counter, c.in-Some.site)) is c.in-Some.ensures.cases e in
    c.stamp_of.ensures made is both.0 both.1
