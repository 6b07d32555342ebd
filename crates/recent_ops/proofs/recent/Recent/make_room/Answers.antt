use Rattle.std.proofs.Common.{◌-◌, ℕ, List, sym, ap, ◌∙◌, arith}
use Rattle.std.specs.Map.{values_of}
use Rattle.lru.specs.LruCache.{LruCache}
use Rattle.recent_ops.specs.Recent.{Held, fitting}
use Rattle.recent_ops.proofs.Fitting.{pops, none_left, all_fit}
use Rattle.recent_ops.proofs.recent.Recent.make_room.Goals as goal

-- The one that goes was counted.
pub overflow_sub-self : goal.overflow_sub-self
overflow_sub-self c =
    let old = c.loop-self.self-inside.ops.entries in
    let kept = c.loop-self.invariant.0 in
    let last : List ℕ × Held = (c.in-Some.field-0-0, c.in-Some.gone) in
    let now = ap (λ (x : LruCache (List ℕ) Held). x.entries) c.pop_lru.ensures.entries in
    let popped = pops old c.pop_lru.new.self.entries last 0 kept.0 (sym c.pop_lru.ensures.value ∙ c.in-Some.is) now in
    let sum = popped.1 in
    let same = ap (λ (h : Held). h.weight) c.gone.view_is in
    let bytes = kept.2 in
    omega (arith, sum, same, bytes)

-- More is held than may stay, so the last does not stay.
pub loop-self-preserved : goal.loop-self-preserved
loop-self-preserved c =
    let most = c.self.inside.room - c.args.weight in
    let old = c.loop-self.self-inside.ops.entries in
    let kept = c.loop-self.invariant.0 in
    let last : List ℕ × Held = (c.in-Some.field-0-0, c.in-Some.gone) in
    let now = ap (λ (x : LruCache (List ℕ) Held). x.entries) c.pop_lru.ensures.entries in
    let popped = pops old c.pop_lru.new.self.entries last most kept.0 (sym c.pop_lru.ensures.value ∙ c.in-Some.is) now in
    let sum = popped.1 in
    let same = ap (λ (h : Held). h.weight) c.gone.view_is in
    let bytes = kept.2 in
    let within = kept.3 in
    let over = c.loop-self-test.true in (
      (
        popped.0,
        ap (λ (x : LruCache (List ℕ) Held). x.cap) c.pop_lru.ensures.entries ∙ kept.1,
        omega (arith, sum, same, bytes),
        omega (arith, within),
      ),
      c.loop-self.invariant.1,
      c.loop-self.invariant.2,
      popped.2 (omega (arith, over, bytes)) ∙ c.loop-self.invariant.3,
    )

-- There is one more, since no bytes are too many where none are held.
pub invariant_of-self-in-None : goal.invariant_of-self-in-None
invariant_of-self-in-None c =
    let kept = c.loop-self.invariant.0 in
    let zero = none_left c.loop-self.self-inside.ops.entries kept.0 (sym c.pop_lru.ensures.value ∙ c.in-None.is) in
    let bytes = kept.2 in
    let over = c.loop-self-test.true in
    absurd (omega (arith, zero, bytes, over))

pub returns-in-None : goal.returns-in-None
returns-in-None c =
    let kept = c.loop-self.invariant.0 in
    let zero = none_left c.loop-self.self-inside.ops.entries kept.0 (sym c.pop_lru.ensures.value ∙ c.in-None.is) in
    let bytes = kept.2 in
    let over = c.loop-self-test.true in
    absurd (omega (arith, zero, bytes, over))

-- What is left fits.
pub returns : goal.returns
returns c =
    let most = c.self.inside.room - c.args.weight in
    let held = values_of c.loop-self.self-inside.ops.entries in
    let bytes = c.loop-self.invariant.0.2 in
    let low = c.loop-self-test.false in
    let fit = all_fit most held (omega (arith, bytes, low)) in
    ap (λ (hs : List Held). record { held = hs; room = c.loop-self.self-inside.room }) (sym fit ∙ c.loop-self.invariant.3)
    ∙ ap (λ (n : ℕ). record { held = fitting most c.args.self.now.held; room = n }) c.loop-self.invariant.1
    ∙ ap (λ (n : ℕ). record { held = fitting n c.args.self.now.held; room = c.args.self.now.room }) c.loop-self.invariant.2
