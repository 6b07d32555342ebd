use Rattle.std.proofs.Common.{◌∙◌, sym}
use Rattle.std.proofs.lemmas.Result.{err_from_is_err_and}
use Rattle.dimse.proofs.TextLaws.{takes_more, takes_shorter, elements_refused, some_left}
use Rattle.dimse.proofs.element.elements_of.Goals as goal

-- The element at the front goes behind those in hand.
pub loop-rest-preserved : goal.loop-rest-preserved
loop-rest-preserved c =
    rw (c.in_ok-push.ensures.items, c.tag.ensures)
    (takes_more c.args.text.now c.loop-rest.elements.items c.loop-rest.previous c.loop-rest.rest.now
    c.in_ok-element.element c.in_ok-element.after.now c.loop-rest.invariant c.in_ok-element.ensures.found.0
    c.in_ok-element.ensures.found.1)

-- An element has a byte or more.
pub loop-rest-smaller : goal.loop-rest-smaller
loop-rest-smaller c = takes_shorter c.in_ok-element.element c.loop-rest.rest.now c.in_ok-element.after.now
    c.in_ok-element.ensures.found.1

-- Where no element is read at the front, none spells the rest.
pub returns-in_err-element-clause-refused : goal.returns-in_err-element-clause-refused
returns-in_err-element-clause-refused c =
    let p = err_from_is_err_and c.from_residual.result c.from_residual.ensures.1 in
    rw (p.1, p.2)
    (elements_refused c.in_err-element.field-0.0 c.args.text.now c.loop-rest.elements.items c.loop-rest.previous
    c.loop-rest.rest.now c.loop-rest.invariant (some_left c.loop-rest.rest.now (sym c.is_empty.ensures
    ∙ c.loop-rest-test.true)) c.in_err-element.ensures.given)
