use Rattle.std.proofs.Common.{◌≡◌, length, List, [], ◌∷◌, refl, rules, sym, ap}
use Rattle.std.specs.Prelude.{IsTrue}
use Rattle.operation.specs.Parts.{ContentParts}
use Rattle.shelved_site.proofs.Adding.{content_is, left_correction, left_none, left_other, left_taken}
use Rattle.shelved_site.proofs.log_records.are_in_order.Goals as goal
use Rattle.shelved_site.proofs.log_records.are_in_order.Goals.{in-Some+in-Some-behind_told, in-Some+in_default-behind_told, in_default}

-- All are left at first.
pub loop-op-init : goal.loop-op-init
loop-op-init c = (λ order. order, λ order. order)

-- An operation takes the first that is left, which it names, or none.
pub loop-op-preserved : goal.loop-op-preserved
loop-op-preserved c = elim c.match-content.branch [
  | in-Some+in-Some-behind_told w ↦
      let is = content_is c.op-item.result w.in-Some.content.now (sym w.in-Some.ensures) in
      rw w.rest-is (left_taken c.args.told.now c.args.recorded.now c.loop-op.rest.now c.loop-op.op-index c.op-item.result
      w.in-Some.content.now w.in-Some-behind_told.behind.now c.loop-op-test.true c.op-item.is is
      w.in-Some-behind_told.ensures.some c.loop-op.invariant)
  | in-Some+in_default-behind_told w ↦
      let is = content_is c.op-item.result w.in-Some.content.now (sym w.in-Some.ensures) in
      rw w.rest-is (left_other c.args.told.now c.args.recorded.now c.loop-op.rest.now c.loop-op.op-index c.op-item.result
      w.in-Some.content.now c.loop-op-test.true c.op-item.is is
      (w.behind_told.ensures.none w.in_default-behind_told.is) c.loop-op.invariant)
  | in_default w ↦
      rw w.rest-is (left_correction c.args.told.now c.args.recorded.now c.loop-op.rest.now c.loop-op.op-index
      c.op-item.result c.loop-op-test.true c.op-item.is (sym w.in_default.ensures) c.loop-op.invariant)
]

nil_from_length : (cs : List ContentParts) → length cs ≡ 0 → cs ≡ []
nil_from_length [] none = refl
nil_from_length (c ∷ cs) none = absurd cc

-- What is told is in order where none of it is left behind the last operation.
pub returns : goal.returns
returns c =
    let left = left_none c.args.told.now c.args.recorded.now c.loop-op.rest.now c.loop-op.op-index
    c.loop-op-test.false c.loop-op.invariant in
    let yes : IsTrue c.is_empty.result → length c.loop-op.rest.now ≡ 0 = search rules in
    let back : length c.loop-op.rest.now ≡ 0 → IsTrue c.is_empty.result = search rules in (
      λ true. left.1 (nil_from_length c.loop-op.rest.now (yes true)),
      λ order. back (ap length (left.0 order)),
    )
