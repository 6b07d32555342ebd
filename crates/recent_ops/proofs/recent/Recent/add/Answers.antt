use Rattle.std.proofs.Common.{◌≡◌, ◌<◌, ◌^◌, ◌∷◌, ℕ, List, None, length, ap, ◌∙◌, arith}
use Rattle.std.proofs.lemmas.List.Sums.{sum_by-cons}
use Rattle.std.specs.Map.{values_of}
use Rattle.lru.specs.LruCache.{LruCache}
use Rattle.operation.specs.Spelling.{digest_of}
use Rattle.recent_ops.specs.Recent.{Held, RecentOps, held_under, total_of, first}
use Rattle.recent_ops.proofs.Lookups.{again, values, put_first}
use Rattle.recent_ops.proofs.recent.Recent.add.Goals as goal

-- One more is held, under its digest, and it is counted.
pub invariant_of-self-2 : goal.invariant_of-self-2
invariant_of-self-2 c =
    let h : Held = record { op = c.args.op; weight = c.args.weight } in
    let ops = c.self.inside.ops in
    let held = values_of ops.entries in
    let new = c.put.new.self.entries in
    let len = c.len.ensures.len in
    let most = c.len.ensures.fits in
    let few : length ops.entries < 2 ^ 63 = omega (arith, len, most) in
    let none : held_under (digest_of h.op) held ≡ None = ap (λ (r : RecentOps). held_under (digest_of h.op) r.held) c.self.view_is ∙ c.requires.new in
    let is = ap (λ (x : LruCache (List ℕ) Held). x.entries) c.in_ok-put.ensures.entries
    ∙ put_first ops c.as_bytes.result.now h c.self.invariant.0 c.self.invariant.1 few (c.as_bytes.ensures ∙ c.digest.ensures.own) none in
    let all = ap total_of (values new (h ∷ held) is) ∙ sum_by-cons (λ (x : Held). x.weight) h held in
    let sum = c.self.invariant.2 in
    let fits = c.requires.fits in
    let before = ap (λ (r : RecentOps). total_of r.held) c.self.view_is in
    let room = ap (λ (r : RecentOps). r.room) c.self.view_is in (
      again new (h ∷ held) is,
      ap (λ (x : LruCache (List ℕ) Held). x.cap) c.in_ok-put.ensures.entries ∙ c.self.invariant.1,
      omega (arith, all, sum),
      omega (arith, fits, before, room, sum),
    )

-- It is the first entry.
pub returns-clause-added : goal.returns-clause-added
returns-clause-added c =
    let h : Held = record { op = c.args.op; weight = c.args.weight } in
    let ops = c.self.inside.ops in
    let held = values_of ops.entries in
    let new = c.put.new.self.entries in
    let len = c.len.ensures.len in
    let most = c.len.ensures.fits in
    let few : length ops.entries < 2 ^ 63 = omega (arith, len, most) in
    let none : held_under (digest_of h.op) held ≡ None = ap (λ (r : RecentOps). held_under (digest_of h.op) r.held) c.self.view_is ∙ c.requires.new in
    let is = ap (λ (x : LruCache (List ℕ) Held). x.entries) c.in_ok-put.ensures.entries
    ∙ put_first ops c.as_bytes.result.now h c.self.invariant.0 c.self.invariant.1 few (c.as_bytes.ensures ∙ c.digest.ensures.own) none in
    ap (λ (hs : List Held). record { held = hs; room = c.self.inside.room }) (values new (h ∷ held) is) ∙ ap (first c.args.op c.args.weight) c.self.view_is
