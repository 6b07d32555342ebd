use Rattle.std.proofs.Common.{◌≡◌, ◌≢◌, [], arith}
use Rattle.std.proofs.lemmas.List.{nil_from_length}
use Rattle.std.proofs.lemmas.Result.{err_from_is_err_and}
use Rattle.pdu.specs.Reading.{pdv_at, pieces_of}
use Rattle.pdu.proofs.Pieces.{goes_on, ends, is_done}
use Rattle.pdu.proofs.Items.{pdv-shorter}
use Rattle.pdu.proofs.pdv.pdvs_of.Goals as goal

-- A value that is not read is the fault of the whole text.
pub returns-in_err-value : goal.returns-in_err-value
returns-in_err-value c =
    let some : c.loop-rest.rest ≢ [] = λ e. grind (arith, e, c.is_empty.ensures, c.loop-rest-test.true) in
    let p = err_from_is_err_and c.from_residual.result c.from_residual.ensures.1 in
    rw (p.1, p.2) (ends pdv_at pdv-shorter c.loop-rest.values c.loop-rest.rest c.in_err-value.field-0.0
    (pieces_of pdv_at c.args.text) some c.in_err-value.ensures c.loop-rest.invariant)

-- The value at the front goes behind those in hand.
pub loop-rest-preserved : goal.loop-rest-preserved
loop-rest-preserved c =
    let some : c.loop-rest.rest ≢ [] = λ e. grind (arith, e, c.is_empty.ensures, c.loop-rest-test.true) in
    rw c.in_ok-push.ensures.pushed (goes_on pdv_at pdv-shorter c.loop-rest.values c.loop-rest.rest
    (c.in_ok-value.value, c.in_ok-value.after) (pieces_of pdv_at c.args.text) some c.in_ok-value.ensures
    c.loop-rest.invariant)

-- A value has a byte or more.
pub loop-rest-smaller : goal.loop-rest-smaller
loop-rest-smaller c = pdv-shorter c.loop-rest.rest (c.in_ok-value.value, c.in_ok-value.after) c.in_ok-value.ensures

-- The values fill the text.
pub returns : goal.returns
returns c =
    let none : c.loop-rest.rest ≡ [] = nil_from_length c.loop-rest.rest
    (grind (arith, c.is_empty.ensures, c.loop-rest-test.false)) in
    is_done pdv_at c.loop-rest.values c.loop-rest.rest (pieces_of pdv_at c.args.text) none c.loop-rest.invariant
