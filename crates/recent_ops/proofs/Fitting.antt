-- The operations that go where room is made.
use Rattle.std.proofs.Common.{◌≡◌, ℕ, suc, ◌+◌, ◌-◌, ◌≤◌, ◌<◌, List, [], ◌∷◌, ◌++◌, length, take, Bool, true, false, cond, map, refl, sym, ◌∙◌, ap, subst, arith}
use Rattle.std.proofs.Common.{Some, None}
use Rattle.std.specs.Prelude.{nat_le, slice_get}
use Rattle.std.proofs.lemmas.List.Sums.{sum_by-cons, sum_by_push}
use Rattle.std.proofs.lemmas.Bool.{leb-true, le-leb}
use Rattle.std.specs.Map.{values_of}
use Rattle.lru.specs.LruCache.{last_entry}
use Rattle.recent_ops.specs.Recent.{Held, keyed, is_under, held_under, total_of, fitting}
use Rattle.recent_ops.proofs.Lookups.{again, values}

-- what operations take, of one more at either end
total_cons : (h : Held) (held : List Held) → total_of (h ∷ held) ≡ h.weight + total_of held
total_cons h held = sum_by-cons (λ x. x.weight) h held

pub total_push : (held : List Held) (h : Held) → total_of (held ++ h ∷ []) ≡ total_of held + h.weight
total_push held h = sum_by_push (λ x. x.weight) held h

-- what fits takes no more
pub fits : (most : ℕ) (held : List Held) → total_of (fitting most held) ≤ most
fits most [] = omega arith
fits most (h ∷ held) = by (nat_le h.weight most) refl (fits (most - h.weight) held)
  where
    by : (b : Bool) → nat_le h.weight most ≡ b → total_of (fitting (most - h.weight) held) ≤ most - h.weight
        → total_of (cond b (h ∷ fitting (most - h.weight) held) []) ≤ most
    by true low rest =
        let sum = total_cons h (fitting (most - h.weight) held) in
        let within = leb-true h.weight most low in
        omega (arith, sum, within, rest)
    by false high rest = omega arith

-- it is a beginning
pub begins : (most : ℕ) (held : List Held) → fitting most held ≡ take (length (fitting most held)) held
begins most [] = refl
begins most (h ∷ held) = by (nat_le h.weight most) (begins (most - h.weight) held)
  where
    by : (b : Bool) → fitting (most - h.weight) held ≡ take (length (fitting (most - h.weight) held)) held
        → cond b (h ∷ fitting (most - h.weight) held) [] ≡ take (length (cond b (h ∷ fitting (most - h.weight) held) [])) (h ∷ held)
    by true later = ap (λ (hs : List Held). h ∷ hs) later
    by false later = refl

-- and no longer one fits
pub longest : (most : ℕ) (stay go : List Held) → total_of stay ≤ most → length stay ≤ length (fitting most (stay ++ go))
longest most [] go low = omega arith
longest most (h ∷ stay) go low =
    let sum = total_cons h stay in
    let within : h.weight ≤ most = omega (arith, sum, low) in
    let later = longest (most - h.weight) stay go (omega (arith, sum, low)) in
    subst (λ (b : Bool). suc (length stay) ≤ length (cond b (h ∷ fitting (most - h.weight) (stay ++ go)) []))
    (sym (le-leb h.weight most within)) (omega (arith, later))

-- where all fit, all stay
pub all_fit : (most : ℕ) (held : List Held) → total_of held ≤ most → fitting most held ≡ held
all_fit most [] low = refl
all_fit most (h ∷ held) low =
    let sum = total_cons h held in
    let within : h.weight ≤ most = omega (arith, sum, low) in
    ap (λ (b : Bool). cond b (h ∷ fitting (most - h.weight) held) []) (le-leb h.weight most within)
    ∙ ap (λ (hs : List Held). h ∷ hs) (all_fit (most - h.weight) held (omega (arith, sum, low)))

-- where not all fit, the last goes
pub last_goes : (most : ℕ) (held : List Held) (h : Held) → most < total_of (held ++ h ∷ []) → fitting most (held ++ h ∷ []) ≡ fitting most held
last_goes most [] h over = by (nat_le h.weight most) refl
  where
    by : (b : Bool) → nat_le h.weight most ≡ b → cond b (h ∷ []) [] ≡ []
    by true low =
        let sum = total_cons h [] in
        let within = leb-true h.weight most low in
        absurd (omega (arith, sum, within, over))
    by false high = refl
last_goes most (g ∷ held) h over =
    by (nat_le g.weight most) refl (last_goes (most - g.weight) held h)
  where
    by : (b : Bool) → nat_le g.weight most ≡ b
        → (most - g.weight < total_of (held ++ h ∷ []) → fitting (most - g.weight) (held ++ h ∷ []) ≡ fitting (most - g.weight) held)
        → cond b (g ∷ fitting (most - g.weight) (held ++ h ∷ [])) [] ≡ cond b (g ∷ fitting (most - g.weight) held) []
    by true low later =
        let sum = total_cons g (held ++ h ∷ []) in
        let within = leb-true g.weight most low in
        ap (λ (hs : List Held). g ∷ hs) (later (omega (arith, sum, within, over)))
    by false high later = refl

-- what is not held is not held among those that stay
pub none_stays : (digest : List ℕ) (most : ℕ) (held : List Held) → held_under digest held ≡ None → held_under digest (fitting most held) ≡ None
none_stays digest most [] none = refl
none_stays digest most (h ∷ held) none =
    by (nat_le h.weight most) (is_under digest h) refl none (none_stays digest (most - h.weight) held)
  where
    by : (b c : Bool) → is_under digest h ≡ c → cond c (Some h) (held_under digest held) ≡ None
        → (held_under digest held ≡ None → held_under digest (fitting (most - h.weight) held) ≡ None)
        → held_under digest (cond b (h ∷ fitting (most - h.weight) held) []) ≡ None
    by true true here none later = absurd cc
    by true false there none later =
        ap (λ (c : Bool). cond c (Some h) (held_under digest (fitting (most - h.weight) held))) there ∙ later none
    by false c here none later = refl

-- the last entry of two or more, and those before it
last_behind : (a b : List ℕ × Held) (es : List (List ℕ × Held)) → last_entry (a ∷ b ∷ es) ≡ last_entry (b ∷ es)
last_behind a b es = ap (slice_get (a ∷ b ∷ es)) one_less
  where
    one_less : suc (suc (length es)) - 1 ≡ suc (suc (length es) - 1)
    one_less = omega arith

front_behind : (a b : List ℕ × Held) (es : List (List ℕ × Held))
    → take (length (a ∷ b ∷ es) - 1) (a ∷ b ∷ es) ≡ a ∷ take (length (b ∷ es) - 1) (b ∷ es)
front_behind a b es = ap (λ (n : ℕ). take n (a ∷ b ∷ es)) one_less
  where
    one_less : suc (suc (length es)) - 1 ≡ suc (suc (length es) - 1)
    one_less = omega arith

-- what a table has before its last entry
record Popped (held : List Held) (last : List ℕ × Held) : Type 0 where
  front : List Held
  is : held ≡ front ++ last.1 ∷ []
  rest : take (length (map keyed held) - 1) (map keyed held) ≡ map keyed front

popped : (held : List Held) (last : List ℕ × Held) → last_entry (map keyed held) ≡ Some last → Popped held last
popped [] last is = absurd cc
popped (h ∷ []) last is =
    let it : keyed h ≡ last = cc in
    record { front = []; is = ap (λ (e : List ℕ × Held). e.1 ∷ []) it; rest = refl }
popped (h ∷ g ∷ held) last is =
    let later = popped (g ∷ held) last (sym (last_behind (keyed h) (keyed g) (map keyed held)) ∙ is) in
    record {
      front = h ∷ later.front;
      is = ap (λ (hs : List Held). h ∷ hs) later.is;
      rest = front_behind (keyed h) (keyed g) (map keyed held) ∙ ap (λ (es : List (List ℕ × Held)). keyed h ∷ es) later.rest;
    }

-- a table that has no last entry is empty
nothing : (held : List Held) → last_entry (map keyed held) ≡ None → total_of held ≡ 0
nothing [] is = refl
nothing (h ∷ []) is = absurd cc
nothing (h ∷ g ∷ held) is =
    absurd (never g held (sym (last_behind (keyed h) (keyed g) (map keyed held)) ∙ is))
  where
    never : (g : Held) (held : List Held) → last_entry (map keyed (g ∷ held)) ≡ None → ⊥
    never g [] is = cc
    never g (f ∷ held) is = never f held (sym (last_behind (keyed g) (keyed f) (map keyed held)) ∙ is)

-- a table without its last entry
pub pops : (old new : List (List ℕ × Held)) (last : List ℕ × Held) (most : ℕ) → old ≡ map keyed (values_of old) → last_entry old ≡ Some last
    → new ≡ take (length old - 1) old
    → (new ≡ map keyed (values_of new)) × (total_of (values_of old) ≡ total_of (values_of new) + last.1.weight)
    × (most < total_of (values_of old) → fitting most (values_of new) ≡ fitting most (values_of old))
pops old new last most kept is then =
    let p = popped (values_of old) last (sym (ap last_entry kept) ∙ is) in
    let rest : new ≡ map keyed p.front = then ∙ ap (λ (es : List (List ℕ × Held)). take (length es - 1) es) kept ∙ p.rest in
    let now = values new p.front rest in (
      again new p.front rest,
      ap total_of p.is ∙ total_push p.front last.1 ∙ ap (λ (hs : List Held). total_of hs + last.1.weight) (sym now),
      λ over. ap (fitting most) now ∙ sym (last_goes most p.front last.1 (subst (λ (hs : List Held). most < total_of hs) p.is over))
          ∙ ap (fitting most) (sym p.is),
    )

-- a table that has none takes nothing
pub none_left : (old : List (List ℕ × Held)) → old ≡ map keyed (values_of old) → last_entry old ≡ None → total_of (values_of old) ≡ 0
none_left old kept is = nothing (values_of old) (sym (ap last_entry kept) ∙ is)
