-- Lookups in a table under digests, and what they change.
use Rattle.std.proofs.Common.{◌≡◌, ℕ, ◌+◌, List, [], ◌∷◌, Bool, true, false, cond, nat_eq, map, refl, sym, ◌∙◌, ap, arith, ◌<◌, ◌-◌, ◌^◌, length, take}
use Rattle.std.proofs.Common.{Option, Some, None, IfSome}
use Rattle.std.specs.Prelude.{option_map}
use Rattle.std.specs.Option.{option_map_or}
use Rattle.std.proofs.lemmas.List.Sums.{sum_by-cons}
use Rattle.std.specs.Map.{lookup, lookup_entry, remove_entry, values_of}
use Rattle.std.specs.Cmp.Lexicographic.{pointwise, bytes_decides}
use Rattle.std.proofs.lemmas.List.{take_all}
use Rattle.lru.specs.LruCache.{LruCache, promoted, put_entries}
use Rattle.operation.specs.Spelling.{digest_of}
use Rattle.recent_ops.specs.Recent.{Held, RecentOps, keyed, is_under, held_under, op_under, without, total_of}

-- under their digests, operations are what they were
pub values_of_keyed : (held : List Held) → values_of (map keyed held) ≡ held
values_of_keyed [] = refl
values_of_keyed (h ∷ held) = ap (λ (hs : List Held). h ∷ hs) (values_of_keyed held)

-- a table of operations under their digests is the table of its values
pub again : (entries : List (List ℕ × Held)) (held : List Held) → entries ≡ map keyed held → entries ≡ map keyed (values_of entries)
again entries held is = is ∙ sym (ap (map keyed) (ap values_of is ∙ values_of_keyed held))

-- so the values of such a table are these
pub values : (entries : List (List ℕ × Held)) (held : List Held) → entries ≡ map keyed held → values_of entries ≡ held
values entries held is = ap values_of is ∙ values_of_keyed held

module _ (digest : List ℕ) where
  abbrev pub here : List ℕ → Bool
  here key = pointwise nat_eq digest key

  pub lookup_keyed : (held : List Held) → lookup (pointwise nat_eq digest) (map keyed held) ≡ held_under digest held
  lookup_keyed [] = refl
  lookup_keyed (h ∷ held) = ap (λ (o : Option Held). cond (is_under digest h) (Some h) o) (lookup_keyed held)

  pub entry_keyed : (held : List Held) → lookup_entry (pointwise nat_eq digest) (map keyed held) ≡ option_map keyed (held_under digest held)
  entry_keyed [] = refl
  entry_keyed (h ∷ held) = by (is_under digest h) (entry_keyed held)
    where
      by : (b : Bool) → lookup_entry (pointwise nat_eq digest) (map keyed held) ≡ option_map keyed (held_under digest held)
          → cond b (Some (keyed h)) (lookup_entry (pointwise nat_eq digest) (map keyed held)) ≡ option_map keyed (cond b (Some h) (held_under digest held))
      by true later = refl
      by false later = later

  pub remove_keyed : (held : List Held) → remove_entry (pointwise nat_eq digest) (map keyed held) ≡ map keyed (without digest held)
  remove_keyed [] = refl
  remove_keyed (h ∷ held) = by (is_under digest h) (remove_keyed held)
    where
      by : (b : Bool) → remove_entry (pointwise nat_eq digest) (map keyed held) ≡ map keyed (without digest held)
          → cond b (map keyed held) (keyed h ∷ remove_entry (pointwise nat_eq digest) (map keyed held)) ≡ map keyed (cond b held (h ∷ without digest held))
      by true later = refl
      by false later = ap (λ (es : List (List ℕ × Held)). keyed h ∷ es) later

  -- the operation with the digest goes first
  abbrev pub first_of : List Held → List Held
  first_of held = option_map_or (λ h. h ∷ without digest held) (held_under digest held) held

  pub promoted_keyed : (held : List Held) → promoted (pointwise nat_eq digest) (map keyed held) ≡ map keyed (first_of held)
  promoted_keyed held =
      ap (λ (o : Option (List ℕ × Held)). option_map_or (λ e. e ∷ remove_entry (pointwise nat_eq digest) (map keyed held)) o (map keyed held)) (entry_keyed held)
      ∙ by (held_under digest held)
    where
      by : (o : Option Held) → option_map_or (λ e. e ∷ remove_entry (pointwise nat_eq digest) (map keyed held)) (option_map keyed o) (map keyed held)
          ≡ map keyed (option_map_or (λ h. h ∷ without digest held) o held)
      by None = refl
      by (Some h) = ap (λ (es : List (List ℕ × Held)). keyed h ∷ es) (remove_keyed held)

  -- what is found has the digest
  pub is_of : (held : List Held) (h : Held) → held_under digest held ≡ Some h → digest ≡ digest_of h.op
  is_of [] h is = absurd cc
  is_of (g ∷ held) h is = by (is_under digest g) refl is (is_of held h)
    where
      by : (b : Bool) → is_under digest g ≡ b → cond b (Some g) (held_under digest held) ≡ Some h
          → (held_under digest held ≡ Some h → digest ≡ digest_of h.op) → digest ≡ digest_of h.op
      by true same is later = let it : g ≡ h = cc in (bytes_decides digest (digest_of g.op)).0 same ∙ ap (λ (x : Held). digest_of x.op) it
      by false other is later = later is

  pub told : (held : List Held) → IfSome (op_under digest held) (λ op. digest_of op ≡ digest)
  told held = by (held_under digest held) refl
    where
      by : (o : Option Held) → held_under digest held ≡ o → IfSome (option_map (λ h. h.op) o) (λ op. digest_of op ≡ digest)
      by None is = tt
      by (Some h) is = sym (is_of held h is)

  -- an operation is found where it was, once it is the one used last
  pub still_under : (held : List Held) → held_under digest (first_of held) ≡ held_under digest held
  still_under held = by (held_under digest held) refl
    where
      by : (o : Option Held) → held_under digest held ≡ o → held_under digest (option_map_or (λ h. h ∷ without digest held) o held) ≡ o
      by None is = is
      by (Some h) is = ap (λ (b : Bool). cond b (Some h) (held_under digest (without digest held))) ((bytes_decides digest (digest_of h.op)).1 (is_of held h is))

  total_without : (held : List Held) (h : Held) → held_under digest held ≡ Some h → h.weight + total_of (without digest held) ≡ total_of held
  total_without [] h is = absurd cc
  total_without (g ∷ held) h is = by (is_under digest g) is (total_without held h)
    where
      by : (b : Bool) → cond b (Some g) (held_under digest held) ≡ Some h
          → (held_under digest held ≡ Some h → h.weight + total_of (without digest held) ≡ total_of held)
          → h.weight + total_of (cond b held (g ∷ without digest held)) ≡ total_of (g ∷ held)
      by true is later = let it : g ≡ h = cc in
          ap (λ (x : Held). x.weight + total_of held) (sym it) ∙ sym (sum_by-cons (λ x. x.weight) g held)
      by false is later =
          let front = sum_by-cons (λ (x : Held). x.weight) g (without digest held) in
          let all = sum_by-cons (λ (x : Held). x.weight) g held in
          let rest = later is in
          omega (arith, front, all, rest)

  -- all together take what they took
  pub total_first : (held : List Held) → total_of (first_of held) ≡ total_of held
  total_first held = by (held_under digest held) refl
    where
      by : (o : Option Held) → held_under digest held ≡ o → total_of (option_map_or (λ h. h ∷ without digest held) o held) ≡ total_of held
      by None is = refl
      by (Some h) is = sum_by-cons (λ x. x.weight) h (without digest held) ∙ total_without held h is

  -- a table whose operation with the digest was moved
  pub moved : (old new : List (List ℕ × Held)) → old ≡ map keyed (values_of old) → new ≡ promoted (pointwise nat_eq digest) old
      → new ≡ map keyed (first_of (values_of old))
  moved old new kept is = is ∙ ap (promoted (pointwise nat_eq digest)) kept ∙ promoted_keyed (values_of old)

  -- what a table has under the digest
  pub finds : (entries : List (List ℕ × Held)) → entries ≡ map keyed (values_of entries)
      → lookup (pointwise nat_eq digest) entries ≡ held_under digest (values_of entries)
  finds entries kept = ap (lookup (pointwise nat_eq digest)) kept ∙ lookup_keyed (values_of entries)

-- what a table shows of one digest
pub shows : (entries : List (List ℕ × Held)) (recent : RecentOps) (room : ℕ) (key digest : List ℕ)
    → entries ≡ map keyed (values_of entries) → record { held = values_of entries; room = room } ≡ recent → key ≡ digest
    → lookup (pointwise nat_eq key) entries ≡ held_under digest recent.held
shows entries recent room key digest kept view same =
    finds key entries kept ∙ ap (λ (r : RecentOps). held_under key r.held) view ∙ ap (λ (d : List ℕ). held_under d recent.held) same

-- a table with one entry more
pub put_first : (c : LruCache (List ℕ) Held) (key : List ℕ) (h : Held) → c.entries ≡ map keyed (values_of c.entries) → c.cap ≡ 2 ^ 64 - 1
    → length c.entries < 2 ^ 63 → key ≡ digest_of h.op → held_under (digest_of h.op) (values_of c.entries) ≡ None
    → put_entries (pointwise nat_eq) c key h ≡ map keyed (h ∷ values_of c.entries)
put_first c key h kept cap few is none =
    let held = values_of c.entries in
    let absent : lookup_entry (pointwise nat_eq key) c.entries ≡ None =
    ap (lookup_entry (pointwise nat_eq key)) kept ∙ entry_keyed key held
    ∙ ap (λ (d : List ℕ). option_map keyed (held_under d held)) is ∙ ap (option_map keyed) none in
    ap (λ (o : Option (List ℕ × Held)). option_map_or (λ e. (e.0, h) ∷ remove_entry (pointwise nat_eq key) c.entries) o ((key, h) ∷ take (c.cap - 1) c.entries)) absent
    ∙ ap (λ (es : List (List ℕ × Held)). (key, h) ∷ es) (take_all (c.cap - 1) c.entries (omega (arith, cap, few)) ∙ kept)
    ∙ ap (λ (d : List ℕ). (d, h) ∷ map keyed held) is
