use Rattle.std.proofs.Common.{◌≡◌, ◌≢◌, [], arith}
use Rattle.std.proofs.lemmas.List.{nil_from_length}
use Rattle.std.proofs.lemmas.Result.{err_from_is_err_and}
use Rattle.pdu.specs.Reading.{item_at, pieces_of}
use Rattle.pdu.proofs.Pieces.{goes_on, ends, is_done}
use Rattle.pdu.proofs.Items.{item-shorter}
use Rattle.pdu.proofs.item.items_of.Goals as goal

-- An item that is not read is the fault of the whole text.
pub returns-in_err-item : goal.returns-in_err-item
returns-in_err-item c =
    let some : c.loop-rest.rest ≢ [] = λ e. grind (arith, e, c.is_empty.ensures, c.loop-rest-test.true) in
    let p = err_from_is_err_and c.from_residual.result c.from_residual.ensures.1 in
    rw (p.1, p.2) (ends item_at item-shorter c.loop-rest.items c.loop-rest.rest c.in_err-item.field-0.0
    (pieces_of item_at c.args.text) some c.in_err-item.ensures c.loop-rest.invariant)

-- The item at the front goes behind those in hand.
pub loop-rest-preserved : goal.loop-rest-preserved
loop-rest-preserved c =
    let some : c.loop-rest.rest ≢ [] = λ e. grind (arith, e, c.is_empty.ensures, c.loop-rest-test.true) in
    rw c.in_ok-push.ensures.pushed (goes_on item_at item-shorter c.loop-rest.items c.loop-rest.rest
    (c.in_ok-item.item, c.in_ok-item.after) (pieces_of item_at c.args.text) some c.in_ok-item.ensures
    c.loop-rest.invariant)

-- An item has a byte or more.
pub loop-rest-smaller : goal.loop-rest-smaller
loop-rest-smaller c = item-shorter c.loop-rest.rest (c.in_ok-item.item, c.in_ok-item.after) c.in_ok-item.ensures

-- The items fill the text.
pub returns : goal.returns
returns c =
    let none : c.loop-rest.rest ≡ [] = nil_from_length c.loop-rest.rest
    (grind (arith, c.is_empty.ensures, c.loop-rest-test.false)) in
    is_done item_at c.loop-rest.items c.loop-rest.rest (pieces_of item_at c.args.text) none c.loop-rest.invariant
