use Rattle.std.proofs.Common.{◌≡◌, ◌+◌, ℕ, List, ◌∷◌, drop, subst, sym, ap, ◌∙◌, arith}
use Rattle.std.proofs.lemmas.List.{drop_more, drop_all}
use Rattle.std.specs.Prelude.{IfOk}
use Rattle.exchange.specs.Buckets.{bucket_list}
use Rattle.exchange.proofs.Hashed.{next_fed, all_fed}
use Rattle.exchange.proofs.buckets.buckets_of.Goals as goal

-- One digest more was hashed.
pub loop-bytes-preserved : goal.loop-bytes-preserved
loop-bytes-preserved c =
    let arrays = c.as_arrays-arrays.result.now in
    let i = c.loop-bytes.bytes-index in
    let next : drop i arrays ≡ c.of.result ∷ drop (i + 1) arrays =
    drop_more arrays i _ c.loop-bytes-test.true
    ∙ ap (λ (d : List ℕ). d ∷ drop (i + 1) arrays) (sym c.of.ensures) in
    next_fed _ _ c.of.result (drop i arrays) (drop (i + 1) arrays) arrays c.loop-bytes.invariant next c.feed.ensures.fed

-- All were.
pub returns : goal.returns
returns c =
    let arrays = c.as_arrays-arrays.result.now in
    let i = c.loop-bytes.bytes-index in
    let was = c.loop-bytes.invariant in
    let all = all_fed _ (drop i arrays) arrays was (drop_all i arrays (omega (arith, c.loop-bytes-test.false))) in
    subst (λ digests. IfOk c.finish.result (λ buckets. buckets ≡ bucket_list digests))
    (all ∙ c.as_arrays-arrays.ensures) (c.finish.ensures was.fed was.holds)
