use Rattle.std.proofs.Common.{rules, ◌≡◌, ◌+◌, [], ℕ, List, length, map, take, drop, subst, sym, ap, ◌∙◌, arith}
use Rattle.std.specs.Vec.Iter.{into_iter_items}
use Rattle.std.proofs.lemmas.List.{nil_from_length as nothing_left}
use Rattle.operation.specs.declared.op.Op.{Op}
use Rattle.operation.specs.Spelling.{digest_of}
use Rattle.op_log.specs.Fetched.{AreRead}
use Rattle.op_log.specs.Recorded.{AreRecordedAs}
use Rattle.op_log.specs.Verified.{digests_of}
use Rattle.op_log.proofs.Fetches.{first_read}
use Rattle.op_log.proofs.recording.record_some.Goals as goal

-- None was met.
pub loop-op-init : goal.loop-op-init
loop-op-init c =
    let gives = c.into_iter-op-iterator.ensures.into_iter_gives in
    record {
      left = gives.1 ∙ c.args.ops.ok.0 ∙ ap length (sym gives.0);
      count = ap (λ (ops : List Op). c.args.from + length ops) gives.0;
      told = λ was. was;
      read = λ file it. subst (λ (ops : List Op). AreRead file ops (drop c.args.from c.args.places.now)) (sym gives.0) it;
      all = λ file told was it. was;
    }

-- What was read for the next head is told as damaged only where that is bad.
pub returns-in_err-record_at-clause-damaged : goal.returns-in_err-record_at-clause-damaged
returns-in_err-record_at-clause-damaged c file are n told =
    let heads = c.args.places.now in
    let left = subst (λ (ops : List Op). AreRead file ops (drop c.loop-op.index heads)) c.in-Some.ensures.steps.0 (c.loop-op.invariant.read file are) in
    let first = first_read file heads c.loop-op.index c.in-Some.op (into_iter_items c.next.new.self) left in
    c.in_err-record_at.ensures.damaged file first.head first.at (search rules) n (search rules)

-- One more was recorded.
pub loop-op-preserved : goal.loop-op-preserved
loop-op-preserved c =
    let inv = c.loop-op.invariant in
    let heads = c.args.places.now in
    let steps = c.in-Some.ensures.steps in
    record {
      left = search rules;
      count = search rules;
      told = λ was. c.in_ok-record_at.ensures.told (inv.told was);
      read = λ file it.
          let left = subst (λ (ops : List Op). AreRead file ops (drop c.loop-op.index heads)) steps.0 (inv.read file it) in
          (first_read file heads c.loop-op.index c.in-Some.op (into_iter_items c.next.new.self) left).others;
      all = λ file told was it.
          let left = subst (λ (ops : List Op). AreRead file ops (drop c.loop-op.index heads)) steps.0 (inv.read file it) in
          let first = first_read file heads c.loop-op.index c.in-Some.op (into_iter_items c.next.new.self) left in
          c.in_ok-record_at.ensures.all file told first.head first.at (search rules) (inv.all file told was it);
    }

-- All were.
pub returns-clause-told : goal.returns-clause-told
returns-clause-told c was =
    let inv = c.loop-op.invariant in
    let none : into_iter_items c.loop-op.op-iterator ≡ [] = nothing_left _ (sym inv.left ∙ c.in-None.ensures.steps.0) in
    let all : c.loop-op.index ≡ c.args.from + length c.args.ops.items = omega (arith, inv.count, ap length none) in
    subst (λ (n : ℕ). map digest_of c.loop-op.recorded.items ≡ digests_of (take n c.args.places.now)) all (inv.told was)

-- Each is of its head, or was told so.
pub returns-clause-all : goal.returns-clause-all
returns-clause-all c file told was it =
    let inv = c.loop-op.invariant in
    let none : into_iter_items c.loop-op.op-iterator ≡ [] = nothing_left _ (sym inv.left ∙ c.in-None.ensures.steps.0) in
    let all : c.loop-op.index ≡ c.args.from + length c.args.ops.items = omega (arith, inv.count, ap length none) in
    subst (λ (n : ℕ). AreRecordedAs file told (take n c.args.places.now) c.loop-op.recorded.items) all (inv.all file told was it)
