use Rattle.std.proofs.Common.{length, Some, None, ap, sym, arith}
use Rattle.operation.specs.KeyValues.{bytes_in}
use Rattle.operation.proofs.KeyValueLaws.{next_tag, short_value}
use Rattle.operation.proofs.key_values.room_for.Goals as goal
use Rattle.operation.proofs.key_values.room_for.Goals.{in-Some, in_default}

-- A tag with a value has one value more with its bytes, and another tag has none.
pub loop-tag-preserved : goal.loop-tag-preserved
loop-tag-preserved c = elim c.match-value_of.branch [
  | in-Some w ↦
      let value = w.in-Some.value.now in
      let next = next_tag c.args.elements.now c.args.tags.now c.loop-tag.tag-index (Some value) c.loop-tag-test.true
      w.in-Some.ensures in
      let short = short_value _ c.args.elements.now value c.requires.fit (sym w.in-Some.ensures) in (
        omega (arith, ap length next, c.loop-tag.invariant.0, w.values-is),
        omega (arith, ap bytes_in next, c.loop-tag.invariant.1, w.bytes-is),
        omega (arith, c.loop-tag.invariant.2, w.values-is),
        omega (arith, c.loop-tag.invariant.3, w.bytes-is, short),
      )
  | in_default w ↦
      let next = next_tag c.args.elements.now c.args.tags.now c.loop-tag.tag-index None c.loop-tag-test.true
      w.in_default.ensures in (
        omega (arith, ap length next, c.loop-tag.invariant.0, w.values-is),
        omega (arith, ap bytes_in next, c.loop-tag.invariant.1, w.bytes-is),
        omega (arith, c.loop-tag.invariant.2, w.values-is),
        omega (arith, c.loop-tag.invariant.3, w.bytes-is),
      )
]
