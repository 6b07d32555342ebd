use Rattle.std.proofs.Common.{subst, sym, ap, ◌∙◌, length, arith, refl}
use Rattle.std.specs.Prelude.{map}
use Rattle.std.specs.List.{range_with_len}
use Rattle.exchange.specs.Buckets.{bucket_list, bucket_of}
use Rattle.exchange.proofs.Hashed.{HoldFrom, Telling, from_all, next_told, all_told}
use Rattle.exchange.proofs.buckets.finish.Goals as goal

-- No bucket was told.
pub loop-hasher-init : goal.loop-hasher-init
loop-hasher-init c = record {
  long = c.into_iter-hasher-iterator.ensures.into_iter_gives.1 ∙ c.args.hashers.ok.0
      ∙ ap length (sym c.into_iter-hasher-iterator.ensures.into_iter_gives.0);
  told = λ digests all. rw c.in_ok-buckets.ensures.items (all, refl);
}

-- One bucket more is told.
pub loop-hasher-preserved : goal.loop-hasher-preserved
loop-hasher-preserved c = record {
  long = omega (arith, c.loop-hasher.invariant.long, ap length c.in-Some.ensures.steps.0, c.in-Some.ensures.steps.1);
  told = λ digests all.
      rw c.in_ok-push.ensures.items
      (next_told digests c.loop-hasher.buckets.items c.in-Some.hasher _ _ c.of.result
      (subst (λ left. Telling digests c.loop-hasher.buckets.items
      left (length c.into_iter-hasher-iterator.result.rest.items)) c.in-Some.ensures.steps.0
      (c.loop-hasher.invariant.told digests all))
      (λ m holds. c.of.ensures ∙ c.finalize.ensures m holds));
}

-- All are.
pub returns : goal.returns
unfolding bucket_list
returns c = λ digests all.
    let gives = c.into_iter-hasher-iterator.ensures.into_iter_gives.0 in
    let from = subst (λ hs. HoldFrom 0 hs digests) (sym gives) (from_all c.args.hashers.items digests all) in
    let none = sym c.loop-hasher.invariant.long ∙ c.in-None.ensures.steps.0 in
    c.of-2.ensures
    ∙ all_told digests c.loop-hasher.buckets.items _ _ none (c.loop-hasher.invariant.told digests from)
    ∙ ap (λ n. map (bucket_of digests) (range_with_len 0 n)) (ap length gives ∙ all.all)
