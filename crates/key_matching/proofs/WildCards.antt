-- What a `*` matches, and the greedy step: the last `*` alone need be tried again.
use Rattle.std.proofs.Common.{◌≡◌, ◌<◌, ◌≤◌, ℕ, zero, suc, List, [], ◌∷◌, length, drop, get_or, Bool, true}
use Rattle.std.proofs.Common.{false, not, ◌&&◌, ◌||◌, ◌==◌, refl, sym, ap, ◌∙◌, arith, inl, inr, drop-cons}
use Rattle.std.proofs.Common.{length-drop, add-zero}
use Rattle.std.proofs.lemmas.Bool.{eqb-true, or_left, or_right, or_cases}
use Rattle.std.proofs.lemmas.List.{drop_all, get_or-drop}
use Rattle.std.proofs.Math.Seq.{drop-nil}
use Rattle.std.specs.Cmp.{second_so as and_right, both_ways as both}
use Rattle.key_matching.specs.WildCard.{star, is_byte_match, is_wild_match}
use Rattle.key_matching.specs.WildCardFront.{IsStarless, IsStuck}

-- ---- one more byte of a front

pub starless_more : (n : ℕ) (key : List ℕ) → n < length key → (get_or key n 0 == star) ≡ false → IsStarless n key
    → IsStarless (suc n) key
starless_more zero [] h e s = tt
starless_more zero (k ∷ key) h e s = (e, tt)
starless_more (suc n) [] h e s = tt
starless_more (suc n) (k ∷ key) h e s = (s.0, starless_more n key (omega arith) e s.1)

pub front_more : (folds : Bool) (n : ℕ) (key value : List ℕ) → n < length key → n < length value
    → (get_or key n 0 == star) ≡ false → is_byte_match folds (get_or key n 0) (get_or value n 0) ≡ true
    → is_wild_match folds (drop n key) (drop n value) ≡ is_wild_match folds (drop (suc n) key) (drop (suc n) value)
front_more folds zero [] value h g e m = absurd (omega arith)
front_more folds zero (k ∷ key) [] h g e m = absurd (omega arith)
front_more folds zero (k ∷ key) (v ∷ value) h g e m = rw (e, m) refl
front_more folds (suc n) [] value h g e m = absurd (omega arith)
front_more folds (suc n) (k ∷ key) [] h g e m = absurd (omega arith)
front_more folds (suc n) (k ∷ key) (v ∷ value) h g e m = front_more folds n key value (omega arith) (omega arith) e m

pub stuck_here : (folds : Bool) (n : ℕ) (key value : List ℕ) → n < length key → n < length value
    → ((get_or key n 0 == star) || not (is_byte_match folds (get_or key n 0) (get_or value n 0))) ≡ true
    → IsStuck folds (drop n key) (drop n value)
stuck_here folds zero [] value h g e = tt
stuck_here folds zero (k ∷ key) [] h g e = tt
stuck_here folds zero (k ∷ key) (v ∷ value) h g e = e
stuck_here folds (suc n) [] value h g e = absurd (omega arith)
stuck_here folds (suc n) (k ∷ key) [] h g e = absurd (omega arith)
stuck_here folds (suc n) (k ∷ key) (v ∷ value) h g e = stuck_here folds n key value (omega arith) (omega arith) e

-- ---- tests

pub or_false : (a b : Bool) → a ≡ false → (a || b) ≡ b
or_false true b h = cc
or_false false b h = refl

-- ---- what a match says of a front

pub front_of : (folds : Bool) (n : ℕ) (key value : List ℕ) → IsStarless n key → n ≤ length key → is_wild_match folds key
    value ≡ true → (n ≤ length value) × (is_wild_match folds (drop n key) (drop n value) ≡ true)
front_of folds zero key value s h m = (omega arith, m)
front_of folds (suc n) [] value s h m = absurd (omega arith)
front_of folds (suc n) (k ∷ key) [] s h m = let e : (k == star) ≡ false = s.0 in let f : false ≡ true = rw e at m in cc
front_of folds (suc n) (k ∷ key) (v ∷ value) s h m =
    let e : (k == star) ≡ false = s.0 in
    let m2 : (is_byte_match folds k v && is_wild_match folds key value) ≡ true = rw e at m in
    let r : (n ≤ length value) × (is_wild_match folds (drop n key) (drop n value) ≡ true) = front_of folds n key value
    s.1 (omega arith) (and_right (is_byte_match folds k v) (is_wild_match folds key value) m2) in
    (omega (arith, r.0), r.1)

-- `*` may leave out one byte more
star_more : (folds : Bool) (key value : List ℕ) → is_wild_match folds (star ∷ key) (drop 1 value) ≡ true
    → is_wild_match folds (star ∷ key) value ≡ true
star_more folds key [] h = h
star_more folds key (v ∷ value) h = or_right (is_wild_match folds key (v ∷ value))
    (is_wild_match folds (star ∷ key) value) h

drop_less : (n : ℕ) (v : ℕ) (value : List ℕ) → drop 1 (drop n (v ∷ value)) ≡ drop n value
drop_less zero v value = refl
drop_less (suc n) v [] = ap (drop 1) (drop-nil n) ∙ sym (drop-nil (suc n))
drop_less (suc n) v (w ∷ value) = drop_less n w value

-- what stands behind a front's `*` is matched by the later `*` wherever the earlier one begins again
greedy_at : (folds : Bool) (n : ℕ) (key rest value : List ℕ) (v : ℕ) → IsStarless n key → n ≤ length key
    → drop n key ≡ star ∷ rest → is_wild_match folds key value ≡ true → is_wild_match folds (star ∷ rest)
    (drop n (v ∷ value)) ≡ true
greedy_at folds n key rest value v s h at m =
    let behind : is_wild_match folds (drop n key) (drop n value) ≡ true = (front_of folds n key value s h m).1 in
    star_more folds rest (drop n (v ∷ value)) (ap (is_wild_match folds (star ∷ rest)) (drop_less n v value)
    ∙ sym (ap (λ k. is_wild_match folds k (drop n value)) at) ∙ behind)

greedy : (folds : Bool) (n : ℕ) (key rest value : List ℕ) (v : ℕ) → IsStarless n key → n ≤ length key
    → drop n key ≡ star ∷ rest → is_wild_match folds (star ∷ key) value ≡ true → is_wild_match folds (star ∷ rest)
    (drop n (v ∷ value)) ≡ true
greedy folds n key rest [] v s h at m = greedy_at folds n key rest [] v s h at m
greedy folds n key rest (w ∷ value) v s h at m =
    elim (or_cases (is_wild_match folds key (w ∷ value)) (is_wild_match folds (star ∷ key) value) m) [
      | inl now ↦ greedy_at folds n key rest (w ∷ value) v s h at now
      | inr later ↦ star_more folds rest (drop n (v ∷ w ∷ value)) (ap (is_wild_match folds (star ∷ rest))
          (drop_less n v (w ∷ value)) ∙ greedy folds n key rest value w s h at later)
    ]

-- a value that is shorter than a front is not matched
pub too_short : (folds : Bool) (n : ℕ) (key value : List ℕ) → IsStarless n key → n ≤ length key → length value < n
    → is_wild_match folds (star ∷ key) value ≡ true → ⊥
too_short folds n key [] s h few m = let r : n ≤ length {A = ℕ} [] = (front_of folds n key [] s h m).0 in
    omega (arith, r)
too_short folds n key (v ∷ value) s h few m =
    elim (or_cases (is_wild_match folds key (v ∷ value)) (is_wild_match folds (star ∷ key) value) m) [
      | inl now ↦ let r : n ≤ length (v ∷ value) = (front_of folds n key (v ∷ value) s h now).0 in omega (arith, r)
      | inr later ↦ too_short folds n key value s h (omega arith) later
    ]

-- ---- a front behind a `*`

pub and_false : (a b : Bool) → not a ≡ true → (a && b) ≡ false
and_false true b h = cc
and_false false b h = refl

star_at : (n : ℕ) (key : List ℕ) → n < length key → (get_or key n 0 == star) ≡ true
    → drop n key ≡ star ∷ drop (suc n) key
star_at n key h e = drop-cons key n 0 h ∙ ap (λ k. k ∷ drop (suc n) key) (eqb-true (get_or key n 0) star e)

pub at_star : (folds : Bool) (n : ℕ) (key value : List ℕ) → IsStarless n key → n < length key
    → (get_or key n 0 == star) ≡ true → is_wild_match folds key value ≡ is_wild_match folds (drop n key) (drop n value)
    → is_wild_match folds (star ∷ key) value ≡ is_wild_match folds (star ∷ drop (suc n) key) (drop n value)
at_star folds n key [] s h e d = d ∙ ap (λ k. is_wild_match folds k (drop n [])) (star_at n key h e)
at_star folds n key (v ∷ value) s h e d =
    let at : drop n key ≡ star ∷ drop (suc n) key = star_at n key h e in
    let here : is_wild_match folds key (v ∷ value) ≡ is_wild_match folds (star ∷ drop (suc n) key)
    (drop n (v ∷ value)) = d ∙ ap (λ k. is_wild_match folds k (drop n (v ∷ value))) at in
    both (is_wild_match folds (star ∷ key) (v ∷ value)) (is_wild_match folds (star ∷ drop (suc n) key)
    (drop n (v ∷ value)))
    (λ m. elim (or_cases (is_wild_match folds key (v ∷ value)) (is_wild_match folds (star ∷ key) value) m) [
      | inl now ↦ sym here ∙ now
      | inr later ↦ greedy folds n key (drop (suc n) key) value v s (omega arith) at later
    ])
    (λ m. or_left (is_wild_match folds key (v ∷ value)) (is_wild_match folds (star ∷ key) value) (here ∙ m))

unmatched : (folds : Bool) (key value : List ℕ) → IsStuck folds key value → 0 < length value
    → (0 < length key → (get_or key 0 0 == star) ≡ false) → is_wild_match folds key value ≡ false
unmatched folds key [] stuck h other = absurd (omega arith)
unmatched folds [] (v ∷ value) stuck h other = refl
unmatched folds (k ∷ key) (v ∷ value) stuck h other =
    let e : (k == star) ≡ false = other (omega arith) in
    let f : not (is_byte_match folds k v) ≡ true = rw e at stuck in
    rw e (and_false (is_byte_match folds k v) (is_wild_match folds key value) f)

-- ---- with no `*` in between

star_free : (n : ℕ) (key : List ℕ) → (n < length key → (get_or key n 0 == star) ≡ false) → 0 < length (drop n key)
    → (get_or (drop n key) 0 0 == star) ≡ false
star_free n key other h = ap (λ k. k == star) (get_or-drop n key 0 0 ∙ ap (λ m. get_or key m 0) (add-zero n))
    ∙ other (omega (arith, length-drop n key))

pub alone_within : (folds : Bool) (n : ℕ) (key value : List ℕ) → n < length value → IsStuck folds (drop n key)
    (drop n value) → (n < length key → (get_or key n 0 == star) ≡ false) → is_wild_match folds key value ≡ is_wild_match
    folds (drop n key) (drop n value) → is_wild_match folds key value ≡ false
alone_within folds n key value g stuck other d = d ∙ unmatched folds (drop n key) (drop n value)
    stuck (omega (arith, length-drop n value)) (star_free n key other)

empty_match : (folds : Bool) (key : List ℕ) → (0 < length key → (get_or key 0 0 == star) ≡ false) → is_wild_match folds
    key [] ≡ (length key == 0)
empty_match folds [] other = refl
empty_match folds (k ∷ key) other = let e : (k == star) ≡ false = other (omega arith) in rw e (sym (grind arith))

pub alone_at_end : (folds : Bool) (n : ℕ) (key value : List ℕ) → n ≤ length key → length value ≤ n
    → (n < length key → (get_or key n 0 == star) ≡ false) → is_wild_match folds key value ≡ is_wild_match
    folds (drop n key) (drop n value) → is_wild_match folds key value ≡ (n == length key)
alone_at_end folds n key value h g other d =
    d ∙ ap (is_wild_match folds (drop n key)) (drop_all n value g) ∙ empty_match folds (drop n key)
    (star_free n key other) ∙ grind (arith, length-drop n key)
