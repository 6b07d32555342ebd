use Rattle.std.proofs.Common.{◌-◌, Ok, Err, map, sym, arith}
use Rattle.std.proofs.lemmas.List.{map_push}
use Rattle.std.proofs.lemmas.Result.{err_from_is_err_and}
use Rattle.octets.proofs.ByteLaws.{told_map, tells_map}
use Rattle.data_set.specs.declared.header.Closing.TheVariants.{Filled}
use Rattle.data_set.specs.Fault.{is_memory}
use Rattle.data_set.specs.Tags.{item_end, sequence_end}
use Rattle.data_set.specs.Texts.{IsElement, IsItem, Elements, Items, Body, after_tag, no_order}
use Rattle.data_set.proofs.Steps.{takes_push, body_open, body_filled, item_step, element_step}
use Rattle.data_set.proofs.reader.+reading.Goals as goal

-- The items of the sequence were read, so the element is a node of them.
pub read_element-returns-in_ok-items-in-Some-clause-exact :
    goal.read_element-returns-in_ok-items-in-Some-clause-exact
read_element-returns-in_ok-items-in-Some-clause-exact t c =
    rw c.sequence.ensures (element_step c.args.depth c.args.syntax c.args.previous c.args.text.now c.in_ok-front.front
    c.in_ok-front.rest.now c.in-Some.inner (Ok (
      map (λ w. w.items) c.in_ok-items-in-Some.items.items,
      c.in_ok-items-in-Some.rest.now,
    )) c.in_ok-front.ensures.stands c.in-Some.is c.in_ok-items-in-Some.ensures.exact)

-- The element just read stands behind those before it, and less is left.
pub read_elements-loop-after-preserved : goal.read_elements-loop-after-preserved
read_elements-loop-after-preserved t c = (
  rw (c.in_ok-push.ensures.items, c.tag.ensures) (takes_push (IsElement c.args.depth c.args.syntax) after_tag
      c.args.closing _ c.args.text.now c.loop-after.elements.items c.loop-after.previous c.loop-after.left.now
      c.in_ok-element.element c.in_ok-element.rest.now c.loop-after.invariant.0 (sym c.in_default.ensures.exact)
      c.in_ok-element.ensures.exact),
  omega (arith, c.in_ok-element.ensures.shorter, c.loop-after.invariant.1),
)

-- An item of undefined length is what its elements come to, up to its end.
pub read_item-returns-then-size-clause-exact : goal.read_item-returns-then-size-clause-exact
read_item-returns-then-size-clause-exact t c = λ previous.
    tells_map is_memory (λ x. (x.0.items, x.1.now)) c.read_elements.result (Elements (c.args.depth - 1) c.args.syntax _
    c.in_ok-size.rest.now) (IsItem c.args.depth c.args.syntax previous c.args.text.now)
    (λ y e. item_step c.args.depth c.args.syntax previous c.args.text.now c.in_ok-size.size c.in_ok-size.rest.now y
    c.in_ok-size.ensures.stands (body_open (Elements (c.args.depth - 1) c.args.syntax) item_end c.in_ok-size.size
    c.in_ok-size.rest.now y c.if-size.true e)) c.read_elements.ensures.exact

-- An item of a length has the fault of its elements.
pub read_item-returns-in_err-elements-clause-exact :
    goal.read_item-returns-in_err-elements-clause-exact
read_item-returns-in_err-elements-clause-exact t c = λ previous.
    let p = err_from_is_err_and c.from_residual-in_err-elements.result c.from_residual-in_err-elements.ensures.1 in
    rw (p.1, p.2) (told_map is_memory c.in_err-elements.field-0.0 (λ f. Elements (c.args.depth - 1) c.args.syntax Filled
    c.split_at.result.0.now (Err f)) (λ f. IsItem c.args.depth c.args.syntax previous c.args.text.now (Err f))
    (λ e. item_step c.args.depth c.args.syntax previous c.args.text.now c.in_ok-size.size c.in_ok-size.rest.now
    (Err c.in_err-elements.field-0.0) c.in_ok-size.ensures.stands
    (body_filled (Elements (c.args.depth - 1) c.args.syntax) item_end c.in_ok-size.size c.in_ok-size.rest.now
    c.split_at.result.0.now c.split_at.result.1.now (Err c.in_err-elements.field-0.0) c.if-size.false
    c.split_at.ensures.front c.split_at.ensures.back e)) c.in_err-elements.ensures.exact)

-- An item of a length has the elements that fill it.
pub read_item-returns-clause-exact : goal.read_item-returns-clause-exact
read_item-returns-clause-exact t c = λ previous.
    item_step c.args.depth c.args.syntax previous c.args.text.now c.in_ok-size.size c.in_ok-size.rest.now
    (Ok (c.in_ok-elements.elements.items, c.split_at.result.1.now)) c.in_ok-size.ensures.stands
    (body_filled (Elements (c.args.depth - 1) c.args.syntax) item_end c.in_ok-size.size c.in_ok-size.rest.now
    c.split_at.result.0.now c.split_at.result.1.now
    (Ok (c.in_ok-elements.elements.items, c.in_ok-elements.field-0-1.now)) c.if-size.false c.split_at.ensures.front
    c.split_at.ensures.back c.in_ok-elements.ensures.exact)

-- The item just read stands behind those before it, and less is left.
pub read_items-loop-after-preserved : goal.read_items-loop-after-preserved
read_items-loop-after-preserved t c =
    let inv = c.loop-after.invariant.0 in (
      (
        no_order c.in_ok-elements.elements.items,
        rw (c.in_ok-push.ensures.items, map_push)
            (takes_push (IsItem c.args.depth c.args.syntax) no_order c.args.closing _ c.args.text.now
            (map (λ w. w.items) c.loop-after.items.items) inv.0 c.loop-after.left.now c.in_ok-elements.elements.items
            c.in_ok-elements.rest.now inv.1 (sym c.in_default.ensures.exact) (c.in_ok-elements.ensures.exact inv.0)),
      ),
      omega (arith, c.in_ok-elements.ensures.shorter, c.loop-after.invariant.1),
    )

-- A sequence of undefined length is what its items come to, up to its end.
pub read_sequence-returns-then-size-eq-UNDEFINED_LENGTH-clause-exact :
    goal.read_sequence-returns-then-size-eq-UNDEFINED_LENGTH-clause-exact
read_sequence-returns-then-size-eq-UNDEFINED_LENGTH-clause-exact t c =
    tells_map is_memory (λ x. (map (λ w. w.items) x.0.items, x.1.now)) c.read_items.result
    (Items c.args.depth c.args.syntax _ c.args.text.now) (Body (Items c.args.depth c.args.syntax) sequence_end
    c.args.size c.args.text.now) (λ y e. body_open (Items c.args.depth c.args.syntax) sequence_end c.args.size
    c.args.text.now y c.if-size-eq-UNDEFINED_LENGTH.true e) c.read_items.ensures.exact

-- A sequence of a length has the fault of its items.
pub read_sequence-returns-in_err-items-clause-exact :
    goal.read_sequence-returns-in_err-items-clause-exact
read_sequence-returns-in_err-items-clause-exact t c =
    let p = err_from_is_err_and c.from_residual.result c.from_residual.ensures.1 in
    rw (p.1, p.2) (told_map is_memory c.in_err-items.field-0.0 (λ f. Items c.args.depth c.args.syntax Filled
    c.split_at.result.0.now (Err f)) (λ f. Body (Items c.args.depth c.args.syntax) sequence_end c.args.size
    c.args.text.now (Err f)) (λ e. body_filled (Items c.args.depth c.args.syntax) sequence_end c.args.size
    c.args.text.now c.split_at.result.0.now c.split_at.result.1.now (Err c.in_err-items.field-0.0)
    c.if-size-eq-UNDEFINED_LENGTH.false c.split_at.ensures.front c.split_at.ensures.back e)
    c.in_err-items.ensures.exact)

-- A sequence of a length has the items that fill it.
pub read_sequence-returns-clause-exact : goal.read_sequence-returns-clause-exact
read_sequence-returns-clause-exact t c =
    body_filled (Items c.args.depth c.args.syntax) sequence_end c.args.size c.args.text.now c.split_at.result.0.now
    c.split_at.result.1.now (Ok (map (λ w. w.items) c.in_ok-items.items.items, c.in_ok-items.field-0-1.now))
    c.if-size-eq-UNDEFINED_LENGTH.false c.split_at.ensures.front c.split_at.ensures.back c.in_ok-items.ensures.exact
