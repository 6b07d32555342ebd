-- Where runs without `*` match: the first place of each serves, and the last run ends the value.
use Rattle.std.proofs.Common.{◌≡◌, ◌<◌, ◌≤◌, ◌+◌, ◌-◌, ℕ, zero, suc, List, [], ◌∷◌, ◌++◌, length, take, drop, Bool}
use Rattle.std.proofs.Common.{true}
use Rattle.std.proofs.Common.{false, not, ◌&&◌, ◌||◌, ◌==◌, Option, Some, None, refl, sym, ap, ◌∙◌, arith}
use Rattle.std.proofs.Common.{length-drop, get_or}
use Rattle.std.proofs.lemmas.Bool.{eqb-true, eq-eqb, and_from as and_both, false_from_ne_true as never}
use Rattle.std.proofs.lemmas.List.{drop_all}
use Rattle.std.specs.List.{list_all}
use Rattle.std.specs.Cmp.{first_so as and_left, second_so as and_rest}
use Rattle.std.proofs.lemmas.Bool.{and_right as and_off}
use mathlib.Core.Bool.{or-true as or_true, or-false}
use Rattle.memchr.specs.Find.{FindsNeedle, OccursAt}
use Rattle.memchr.proofs.lemmas.MatchLemmas.{OccursAt-split, OccursAt-from_part}
use Rattle.key_matching.specs.WildCard.{star, is_byte_match, is_wild_match}
use Rattle.key_matching.specs.WildCardFront.{IsStarless, is_itself, is_front, IsFirstPlace}
use Rattle.key_matching.proofs.WildCards.{at_star, too_short, or_false}

and_none : (a b c : Bool) → (a && b) ≡ false → (b ≡ false → c ≡ false) → (a && c) ≡ false
and_none true b c h f = f h
and_none false b c h f = refl

-- ---- a front that matches leaves the rest, and one that does not refuses the whole

pub front_is : (folds : Bool) (n : ℕ) (key value : List ℕ) → IsStarless n key → is_front folds (take n key) value ≡ true
    → n ≤ length key → is_wild_match folds key value ≡ is_wild_match folds (drop n key) (drop n value)
front_is folds zero key value s h l = refl
front_is folds (suc n) [] value s h l = absurd (omega arith)
front_is folds (suc n) (k ∷ key) [] s h l = cc
front_is folds (suc n) (k ∷ key) (v ∷ value) s h l =
    let e : (k == star) ≡ false = s.0 in
    let m : is_byte_match folds k v ≡ true = and_left (is_byte_match folds k v) (is_front folds (take n key) value) h in
    let r : is_front folds (take n key) value ≡ true = and_rest (is_byte_match folds k v)
    (is_front folds (take n key) value) h in
    rw (e, m) (front_is folds n key value s.1 r (omega arith))

pub front_not : (folds : Bool) (n : ℕ) (key value : List ℕ) → IsStarless n key → n ≤ length key
    → is_front folds (take n key) value ≡ false → is_wild_match folds key value ≡ false
front_not folds zero key value s l h = cc
front_not folds (suc n) [] value s l h = absurd (omega arith)
front_not folds (suc n) (k ∷ key) [] s l h = let e : (k == star) ≡ false = s.0 in rw e refl
front_not folds (suc n) (k ∷ key) (v ∷ value) s l h =
    let e : (k == star) ≡ false = s.0 in
    rw e (and_none (is_byte_match folds k v) (is_front folds (take n key) value) (is_wild_match folds key value) h
    (λ f. front_not folds n key value s.1 (omega arith) f))

-- a run as long as the value matches as a front of it
pub whole_front : (folds : Bool) (key value : List ℕ) → IsStarless (length key) key → length key ≡ length value
    → is_wild_match folds key value ≡ is_front folds key value
whole_front folds [] [] s h = refl
whole_front folds [] (v ∷ value) s h = absurd (omega (arith, h))
whole_front folds (k ∷ key) [] s h = absurd (omega (arith, h))
whole_front folds (k ∷ key) (v ∷ value) s h =
    let e : (k == star) ≡ false = s.0 in
    rw e (ap (λ b. is_byte_match folds k v && b) (whole_front folds key value s.1 (omega (arith, h))))

-- ---- places that are passed over

pub skipped : (folds : Bool) (n : ℕ) (key value : List ℕ)
    → ((m : ℕ) → m < n → is_wild_match folds key (drop m value) ≡ false)
    → is_wild_match folds (star ∷ key) value ≡ is_wild_match folds (star ∷ key) (drop n value)
skipped folds zero key value none = refl
skipped folds (suc n) key [] none = refl
skipped folds (suc n) key (v ∷ value) none =
    or_false (is_wild_match folds key (v ∷ value)) (is_wild_match folds (star ∷ key) value) (none 0 (omega arith))
    ∙ skipped folds n key value (λ m h. none (suc m) (omega (arith, h)))

-- behind the first place of a run, the next `*` begins
pub at_place : (folds : Bool) (n at : ℕ) (key value : List ℕ) → IsStarless n key → n < length key
    → (get_or key n 0 == star) ≡ true → IsFirstPlace folds (take n key) value (Some at)
    → is_wild_match folds (star ∷ key) value ≡ is_wild_match folds (star ∷ drop (suc n) key) (drop n (drop at value))
at_place folds n at key value s h e first =
    skipped folds at key value (λ m l. front_not folds n key (drop m value) s (omega arith) (first.1 m l))
    ∙ at_star folds n key (drop at value) s h e (front_is folds n key (drop at value) s first.0 (omega arith))

-- a run that stands nowhere refuses the value
pub at_no_place : (folds : Bool) (n : ℕ) (key value : List ℕ) → IsStarless n key → n ≤ length key
    → IsFirstPlace folds (take n key) value None → is_wild_match folds (star ∷ key) value ≡ false
at_no_place folds n key value s h none =
    let refused : (m : ℕ) → m ≤ length value → is_wild_match folds key (drop m value) ≡ false =
    λ m l. front_not folds n key (drop m value) s h (none m l) in
    let past : drop (length value) value ≡ [] = drop_all (length value) value (omega arith) in
    skipped folds (length value) key value (λ m l. refused m (omega (arith, l)))
    ∙ ap (is_wild_match folds (star ∷ key)) past
    ∙ sym (ap (is_wild_match folds key) past)
    ∙ refused (length value) (omega arith)

-- ---- the last run

same_length : (folds : Bool) (key value : List ℕ) → IsStarless (length key) key → (length key < length value)
    → is_wild_match folds key value ≡ false
same_length folds [] [] s h = absurd (omega (arith, h))
same_length folds [] (v ∷ value) s h = refl
same_length folds (k ∷ key) [] s h = absurd (omega (arith, h))
same_length folds (k ∷ key) (v ∷ value) s h =
    let e : (k == star) ≡ false = s.0 in
    rw e (and_off (is_byte_match folds k v) (is_wild_match folds key value)
    (same_length folds key value s.1 (omega (arith, h))))

pub too_few : (folds : Bool) (key value : List ℕ) → IsStarless (length key) key → length value < length key
    → is_wild_match folds (star ∷ key) value ≡ false
too_few folds key value s h = never (is_wild_match folds (star ∷ key) value)
    (λ m. too_short folds (length key) key value s (omega arith) h m)

alone : (folds : Bool) (key value : List ℕ) → IsStarless (length key) key → length key ≡ length value
    → is_wild_match folds (star ∷ key) value ≡ is_front folds key value
alone folds key [] s h = whole_front folds key [] s h
alone folds key (v ∷ value) s h =
    ap (λ b. is_wild_match folds key (v ∷ value) || b) (too_few folds key value s (omega (arith, h)))
    ∙ or-false (is_wild_match folds key (v ∷ value)) ∙ whole_front folds key (v ∷ value) s h

pub at_end : (folds : Bool) (key value : List ℕ) → IsStarless (length key) key → length key ≤ length value
    → is_wild_match folds (star ∷ key) value ≡ is_front folds key (drop (length value - length key) value)
at_end folds key value s h =
    let n = length value - length key in
    skipped folds n key value (λ m l. same_length folds key (drop m value) s (omega (arith, l, length-drop m value)))
    ∙ alone folds key (drop n value) s (omega (arith, length-drop n value))

-- ---- a front, byte by byte

front_short : (folds : Bool) (run value : List ℕ) → is_front folds run value ≡ true → length run ≤ length value
front_short folds [] value h = omega arith
front_short folds (k ∷ run) [] h = cc
front_short folds (k ∷ run) (v ∷ value) h =
    let r = front_short folds run value (and_rest (is_byte_match folds k v) (is_front folds run value) h) in
    omega (arith, r)

pub front_byte : (folds : Bool) (n : ℕ) (run value : List ℕ) → n < length run → n < length value
    → is_byte_match folds (get_or run n 0) (get_or value n 0) ≡ true
    → is_front folds (drop n run) (drop n value) ≡ is_front folds (drop (suc n) run) (drop (suc n) value)
front_byte folds zero [] value h g m = absurd (omega arith)
front_byte folds zero (k ∷ run) [] h g m = absurd (omega arith)
front_byte folds zero (k ∷ run) (v ∷ value) h g m = rw m refl
front_byte folds (suc n) [] value h g m = absurd (omega arith)
front_byte folds (suc n) (k ∷ run) [] h g m = absurd (omega arith)
front_byte folds (suc n) (k ∷ run) (v ∷ value) h g m = front_byte folds n run value (omega arith) (omega arith) m

pub front_other : (folds : Bool) (n : ℕ) (run value : List ℕ) → n < length run → n < length value
    → is_byte_match folds (get_or run n 0) (get_or value n 0) ≡ false
    → is_front folds (drop n run) (drop n value) ≡ false
front_other folds zero [] value h g m = absurd (omega arith)
front_other folds zero (k ∷ run) [] h g m = absurd (omega arith)
front_other folds zero (k ∷ run) (v ∷ value) h g m = rw m refl
front_other folds (suc n) [] value h g m = absurd (omega arith)
front_other folds (suc n) (k ∷ run) [] h g m = absurd (omega arith)
front_other folds (suc n) (k ∷ run) (v ∷ value) h g m = front_other folds n run value (omega arith) (omega arith) m

pub front_end : (folds : Bool) (n : ℕ) (run value : List ℕ) → length run ≤ n
    → is_front folds (drop n run) (drop n value) ≡ true
front_end folds n run value h = ap (λ r. is_front folds r (drop n value)) (drop_all n run h)

pub front_too_long : (folds : Bool) (run value : List ℕ) → length value < length run → is_front folds run value ≡ false
front_too_long folds run value h = never (is_front folds run value)
    (λ e. let r = front_short folds run value e in omega (arith, r, h))

-- ---- runs that match their own bytes alone

pub front_fits : (folds : Bool) (run value : List ℕ) (at : ℕ) → is_front folds run (drop at value) ≡ true
    → at ≤ length value → at + length run ≤ length value
front_fits folds run value at h l =
    let r = front_short folds run (drop at value) h in omega (arith, r, l, length-drop at value)

itself_byte : (k v : ℕ) → is_itself k ≡ true → is_byte_match false k v ≡ true → k ≡ v
itself_byte k v i h = by (k == 0x3f) i h
  where
    by : (b : Bool) → not b ≡ true → (b || k == v) ≡ true → k ≡ v
    by true i h = cc
    by false i h = eqb-true k v h

itself_front : (run value : List ℕ) → list_all is_itself run ≡ true → is_front false run value ≡ true
    → take (length run) value ≡ run
itself_front [] value i h = refl
itself_front (k ∷ run) [] i h = cc
itself_front (k ∷ run) (v ∷ value) i h =
    let one = itself_byte k v (and_left (is_itself k) (list_all is_itself run) i)
    (and_left (is_byte_match false k v) (is_front false run value) h) in
    let more = itself_front run value (and_rest (is_itself k) (list_all is_itself run) i)
    (and_rest (is_byte_match false k v) (is_front false run value) h) in
    ap (λ x. x ∷ take (length run) value) (sym one) ∙ ap (λ (xs : List ℕ). k ∷ xs) more

front_itself : (run rest : List ℕ) → is_front false run (run ++ rest) ≡ true
front_itself [] rest = refl
front_itself (k ∷ run) rest = and_both (is_byte_match false k k) (is_front false run (run ++ rest))
    (ap (λ b. (k == 0x3f) || b) (eq-eqb k k refl) ∙ or_true (k == 0x3f)) (front_itself run rest)

module _ (run value : List ℕ) (itself : list_all is_itself run ≡ true) where
  front_at : (at : ℕ) → OccursAt value run at → is_front false run (drop at value) ≡ true
  front_at at occurs = ap (is_front false run) (OccursAt-split value run at occurs)
      ∙ front_itself run (drop (at + length run) value)

  occurs_at : (at : ℕ) → at ≤ length value → is_front false run (drop at value) ≡ true → OccursAt value run at
  occurs_at at l h = OccursAt-from_part value run at (front_fits false run value at h l)
      (itself_front run (drop at value) itself h)

  not_at : (at : ℕ) → at ≤ length value → (OccursAt value run at → ⊥) → is_front false run (drop at value) ≡ false
  not_at at l none = never (is_front false run (drop at value)) (λ e. none (occurs_at at l e))

  -- what a search for the bytes finds is the first place
  pub found_first : (r : Option ℕ) → FindsNeedle value run 0 r → IsFirstPlace false run value r
  found_first None none = λ n l. not_at n l (none n (omega arith) (omega (arith, l)))
  found_first (Some at) found = (
    front_at at found.1,
    λ n l. not_at n (omega (arith, l, found.0.high)) (found.0.before n (omega arith) l),
  )

  pub found_within : (at : ℕ) → OccursAt value run at → at + length run ≤ length value
  found_within at occurs = occurs.fits
