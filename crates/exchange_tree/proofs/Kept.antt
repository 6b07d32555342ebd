-- The kept sums, place by place.
use Rattle.std.proofs.Common.{◌≡◌, ℕ, zero, suc, ◌+◌, ◌<◌, ◌≤◌, List, ◌∷◌, ◌++◌, Option, None, get_or}
use Rattle.std.proofs.Common.{refl, sym, ap, subst, ◌∙◌, arith, append_assoc}
use Rattle.std.proofs.lemmas.List.{append-nil}
use Rattle.std.proofs.lemmas.List.FromFn.{get_or-map-range_with_len}
use Rattle.std.specs.Prelude.{map, slice_set}
use Rattle.std.specs.List.{range_with_len, flat_map}
use Rattle.exchange_tree.specs.declared.nodes.TheConstants.{PLACE_COUNT}
use Rattle.exchange_tree.specs.Nodes.{beneath}
use Rattle.exchange_tree.specs.Sums.{all_places, kept_of, kept_list, node_of, told, told_text, sum_if_any}
use Rattle.exchange_tree.specs.Sums.{SameElsewhere}

-- ---- every place

pub places_are : (n : ℕ) → n ≡ PLACE_COUNT → range_with_len 0 n ≡ all_places
unfolding all_places
places_are n e = ap (range_with_len 0) e

pub kept_is : (digests : List (List ℕ)) (n : ℕ) → n ≡ PLACE_COUNT
    → map (kept_of digests) (range_with_len 0 n) ≡ kept_list digests
unfolding kept_list
kept_is digests n e = ap (map (kept_of digests)) (places_are n e)

pub kept_at : (digests : List (List ℕ)) (n place : ℕ) → n ≡ PLACE_COUNT → place < n
    → get_or (kept_list digests) place None ≡ kept_of digests place
kept_at digests n place e lt =
    ap (λ ks. get_or ks place None) (sym (kept_is digests n e))
    ∙ get_or-map-range_with_len (kept_of digests) 0 n place place None lt (omega arith)

-- ---- one sum is renewed

set_one : (f g : ℕ → Option (List ℕ)) (n a i : ℕ) (v : Option (List ℕ)) → i < n → v ≡ g (a + i)
    → ((k : ℕ) → k < n → (k ≡ i → ⊥) → f (a + k) ≡ g (a + k))
    → slice_set (map f (range_with_len a n)) i v ≡ map g (range_with_len a n)
set_one f g zero a i v lt is same = absurd (omega (arith, lt))
set_one f g (suc n) a zero v lt is same =
    let at : a + 0 ≡ a = omega arith in
    ap (λ x. x ∷ map f (range_with_len (a + 1) n)) (is ∙ ap g at)
    ∙ ap (λ xs. g a ∷ xs) (others f g n (a + 1) (λ k less.
    let next : a + suc k ≡ (a + 1) + k = omega arith in
    ap f (sym next) ∙ same (suc k) (omega (arith, less)) (λ e. omega (arith, e)) ∙ ap g next))
  where
    others : (f g : ℕ → Option (List ℕ)) (n a : ℕ) → ((k : ℕ) → k < n → f (a + k) ≡ g (a + k))
        → map f (range_with_len a n) ≡ map g (range_with_len a n)
    others f g zero a same = refl
    others f g (suc n) a same =
        let at : a + 0 ≡ a = omega arith in
        ap (λ x. x ∷ map f (range_with_len (a + 1) n)) (ap f (sym at) ∙ same 0 (omega arith) ∙ ap g at)
        ∙ ap (λ xs. g a ∷ xs) (others f g n (a + 1) (λ k less.
        let next : a + suc k ≡ (a + 1) + k = omega arith in
        ap f (sym next) ∙ same (suc k) (omega (arith, less)) ∙ ap g next))
set_one f g (suc n) a (suc i) v lt is same =
    let at : a + 0 ≡ a = omega arith in
    let next : a + suc i ≡ (a + 1) + i = omega arith in
    ap (λ x. x ∷ slice_set (map f (range_with_len (a + 1) n)) i v)
    (ap f (sym at) ∙ same 0 (omega arith) (λ e. omega (arith, e)) ∙ ap g at)
    ∙ ap (λ xs. g a ∷ xs) (set_one f g n (a + 1) i v (omega (arith, lt)) (is ∙ ap g next) (λ k less apart.
    let later : a + suc k ≡ (a + 1) + k = omega arith in
    ap f (sym later) ∙ same (suc k) (omega (arith, less)) (λ e. apart (omega (arith, e))) ∙ ap g later))

pub renewed : (kept : List (Option (List ℕ))) (place n : ℕ) (v : Option (List ℕ)) (own before after : List (List ℕ))
    → n ≡ PLACE_COUNT → place < n → v ≡ sum_if_any own → kept ≡ kept_list before → SameElsewhere place before after
    → own ≡ beneath (node_of place) after → slice_set kept place v ≡ kept_list after
renewed kept place n v own before after e lt is was same now =
    ap (λ ks. slice_set ks place v) (was ∙ sym (kept_is before n e))
    ∙ set_one (kept_of before) (kept_of after) n 0 place v lt
    (is ∙ ap sum_if_any now ∙ let at : place ≡ 0 + place = omega arith in ap (kept_of after) at)
    (λ k less apart. let at : k ≡ 0 + k = omega arith in
    ap (kept_of before) (sym at) ∙ ap sum_if_any (same k (subst (λ m. k < m) e less) apart) ∙ ap (kept_of after) at)
    ∙ kept_is after n e

-- ---- kept sums, one behind the other

pub told_more : (kept : List (Option (List ℕ))) (n a place : ℕ) → a + n ≡ place
    → told_text kept (range_with_len a (n + 1))
    ≡ told_text kept (range_with_len a n) ++ told place (get_or kept place None)
told_more kept zero a place e =
    let at : a ≡ place = omega (arith, e) in
    append-nil (told a (get_or kept a None)) ∙ ap (λ p. told p (get_or kept p None)) at
told_more kept (suc n) a place e =
    let long : suc n + 1 ≡ suc (n + 1) = omega arith in
    ap (λ k. told_text kept (range_with_len a k)) long
    ∙ ap (λ rest. told a (get_or kept a None) ++ rest) (told_more kept n (a + 1) place (omega (arith, e)))
    ∙ sym (append_assoc (told a (get_or kept a None)) (told_text kept (range_with_len (a + 1) n))
    (told place (get_or kept place None)))

pub told_same : (digests : List (List ℕ)) (n a count : ℕ) → n ≡ PLACE_COUNT → a + count ≤ n
    → told_text (kept_list digests) (range_with_len a count)
    ≡ flat_map (λ place. told place (kept_of digests place)) (range_with_len a count)
told_same digests n a zero e le = refl
told_same digests n a (suc count) e le =
    ap (λ sum. told a sum ++ told_text (kept_list digests) (range_with_len (a + 1) count))
    (kept_at digests n a e (omega (arith, le)))
    ∙ ap (λ rest. told a (kept_of digests a) ++ rest) (told_same digests n (a + 1) count e (omega (arith, le)))
