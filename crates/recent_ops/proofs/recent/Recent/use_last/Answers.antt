use Rattle.std.proofs.Common.{ℕ, List, sym, ap, ◌∙◌}
use Rattle.std.specs.Map.{values_of}
use Rattle.lru.specs.LruCache.{LruCache}
use Rattle.recent_ops.specs.Recent.{Held, RecentOps, total_of, used_last}
use Rattle.recent_ops.proofs.Lookups.{again, values, moved, first_of, total_first}
use Rattle.recent_ops.proofs.recent.Recent.use_last.Goals as goal

-- The same operations are held under their digests, so they take the same.
pub invariant_of-self : goal.invariant_of-self
invariant_of-self c =
    let key = c.as_bytes.result.now in
    let old = c.self.inside.ops.entries in
    let new = c.promote.new.self.entries in
    let held = values_of old in
    let is = moved key old new c.self.invariant.0 (ap (λ (x : LruCache (List ℕ) Held). x.entries) c.promote.ensures.entries) in (
      again new (first_of key held) is,
      ap (λ (x : LruCache (List ℕ) Held). x.cap) c.promote.ensures.entries ∙ c.self.invariant.1,
      c.self.invariant.2 ∙ sym (ap total_of (values new (first_of key held) is) ∙ total_first key held),
      c.self.invariant.3,
    )

-- The one with the digest is the first entry.
pub returns : goal.returns
returns c =
    let key = c.as_bytes.result.now in
    let old = c.self.inside.ops.entries in
    let new = c.promote.new.self.entries in
    let is = moved key old new c.self.invariant.0 (ap (λ (x : LruCache (List ℕ) Held). x.entries) c.promote.ensures.entries) in
    let to : List Held → RecentOps = λ hs. record { held = hs; room = c.self.inside.room } in
    ap to (values new (first_of key (values_of old)) is) ∙ ap (used_last key) c.self.view_is
    ∙ ap (λ (d : List ℕ). used_last d c.args.self.now) c.as_bytes.ensures
