use Rattle.std.proofs.Common.{◌≡◌, ◌++◌, ◌∷◌, [], cond, sym, ap, ◌∙◌, arith}
use Rattle.std.proofs.lemmas.List.{append-nil}
use Rattle.std.specs.Prelude.{filter}
use Rattle.std.specs.List.{range_with_len}
use Rattle.exchange_frames.specs.declared.reader.TheConstants.{BUCKET_COUNT}
use Rattle.exchange.specs.Buckets.{unequal, is_unequal}
use Rattle.exchange.proofs.Hashed.{kept_next}
use Rattle.exchange.proofs.buckets.unequal.Goals as goal

-- The place is not one of them.
pub loop-place-preserved-then-not-is_unequal : goal.loop-place-preserved-then-not-is_unequal
loop-place-preserved-then-not-is_unequal c =
    let at = c.loop-place.place in
    let test = is_unequal c.args.own.now c.args.theirs.now in
    c.loop-place.invariant
    ∙ sym (kept_next test at ∙ ap (λ b. filter test (range_with_len 0 at) ++ cond b (at ∷ []) [])
    (sym c.is_unequal.ensures ∙ c.if-not-is_unequal.true) ∙ append-nil _)

-- The place is one more.
pub loop-place-preserved : goal.loop-place-preserved
loop-place-preserved c =
    let at = c.loop-place.place in
    let test = is_unequal c.args.own.now c.args.theirs.now in
    c.in_ok-push.ensures.items
    ∙ ap (λ ps. ps ++ at ∷ []) c.loop-place.invariant
    ∙ sym (kept_next test at ∙ ap (λ b. filter test (range_with_len 0 at) ++ cond b (at ∷ []) [])
    (sym c.is_unequal.ensures ∙ c.if-not-is_unequal.false))

-- All places were seen.
pub returns : goal.returns
unfolding unequal
returns c =
    let end : c.loop-place.place ≡ BUCKET_COUNT = omega (arith, c.loop-place-test.false, c.loop-place.auto.place-end) in
    c.of.ensures ∙ c.loop-place.invariant ∙ ap (λ n. filter (is_unequal c.args.own.now c.args.theirs.now)
    (range_with_len 0 n)) end
