use Rattle.std.proofs.Common.{List, [], ◌∷◌, length, ◌≡◌, ◌∙◌, ap}
use Rattle.std.specs.Slice.Iter.{iter_rest}
use Rattle.op_log.specs.declared.kept.Kept.{Kept}
use Rattle.shelved_site.proofs.Adding.{all_added, known_passed, new_added, none_first, untold_passed}
use Rattle.shelved_site.proofs.keeping.add_new.Goals as goal
use Rattle.shelved_site.proofs.keeping.add_new.Goals.{in-Some-New, in-Some-Known, in-None}

-- None was added at first.
pub loop-op-init : goal.loop-op-init
loop-op-init g c cs tells =
    none_first g.H.Disk c.args.records.now c.args.ops.now c.args.told.now (iter_rest c.iter-rest.result) cs
    c.iter-rest.ensures.rest tells

nil_from_length : (told : List Kept) → length told ≡ 0 → told ≡ []
nil_from_length [] none = λ i. []
nil_from_length (x ∷ told) none = absurd cc

-- The record of one operation more was added, if it is told to be new.
pub loop-op-preserved : goal.loop-op-preserved
loop-op-preserved g c = elim c.match-next.branch [
  | in-Some-New w ↦ λ cs tells.
      let left = w.in-Some-New.ensures.steps
      ∙ ap (λ (kept : Kept). kept ∷ iter_rest c.next.new.self) w.in-Some-New.field-0-is in
      rw w.records-is (new_added g.H.Disk c.loop-op.records w.add_record.new.records c.args.ops.now c.args.told.now
      (iter_rest c.loop-op.rest) (iter_rest c.next.new.self) c.loop-op.op-index c.op-item.result cs c.loop-op-test.true
      c.op-item.is left w.add_record.ensures (c.loop-op.invariant cs tells))
  | in-Some-Known w ↦ λ cs tells.
      let left = w.in-Some-Known.ensures.steps
      ∙ ap (λ (kept : Kept). kept ∷ iter_rest c.next.new.self) w.in-Some-Known.field-0-is in
      rw w.records-is (known_passed g.H.Disk c.loop-op.records c.args.ops.now c.args.told.now (iter_rest c.loop-op.rest)
      (iter_rest c.next.new.self) c.loop-op.op-index c.op-item.result cs c.loop-op-test.true c.op-item.is left
      (c.loop-op.invariant cs tells))
  | in-None w ↦ λ cs tells.
      let none = nil_from_length (iter_rest c.loop-op.rest) w.in-None.ensures.steps.0 in
      rw w.records-is (untold_passed g.H.Disk c.loop-op.records c.args.ops.now c.args.told.now
      (iter_rest c.loop-op.rest) (iter_rest c.next.new.self) c.loop-op.op-index c.op-item.result cs c.loop-op-test.true
      c.op-item.is none (ap iter_rest w.in-None.ensures.steps.1 ∙ none) (c.loop-op.invariant cs tells))
]

-- All were added that are told to be new.
pub returns : goal.returns
returns g c cs tells =
    all_added g.H.Disk c.loop-op.records c.args.ops.now c.args.told.now (iter_rest c.loop-op.rest) c.loop-op.op-index cs
    c.loop-op-test.false (c.loop-op.invariant cs tells)
