-- The bytes that a head leads to.
use Rattle.std.proofs.Common.{◌≡◌, ◌+◌, ◌<◌, ◌≤◌, ℕ, zero, suc, List, [], ◌∷◌, ◌++◌, Bool, true, false, cond, not}
use Rattle.std.proofs.Common.{map, length, take, drop, slice_get, Some, refl, sym, ◌∙◌, ap, arith}
use Rattle.std.proofs.lemmas.List.{length-take-le, length-drop, get_or-take, get_or-drop}
use Rattle.std.proofs.lemmas.Option.{slice_get-map}
use Rattle.std.specs.Option.{option_map}
use Rattle.sqlite_disk.specs.Disk.{Holds}
use Rattle.head_log.proofs.Texts.{once}
use Rattle.op_log.specs.declared.place.Place.{Place}
use Rattle.op_log.specs.Heads.{Head}
use Rattle.op_log.specs.Places.{head_at}
use Rattle.op_log.specs.Verified.{damaged_in, digests_of, is_whole}

-- a file has, at an offset, the bytes that it has there
pub own_bytes : (file : List ℕ) (at n : ℕ) → at + n ≤ length file → Holds file at (take n (drop at file))
own_bytes file at n low =
    let many : length (take n (drop at file)) ≡ n = length-take-le n (drop at file) (omega (arith, low, length-drop at file)) in
    record {
      within = omega (arith, low, many);
      each = λ i few. sym (get_or-take n (drop at file) i 0 (omega (arith, few, many)) ∙ get_or-drop at file i 0);
    }

-- bytes that a file has are those
pub bytes_are : (file : List ℕ) (at n : ℕ) (bytes : List ℕ) → length bytes ≡ n → (0 < n → Holds file at bytes) → bytes ≡ take n (drop at file)
bytes_are file at zero [] many held = refl
bytes_are file at zero (b ∷ bytes) many held = absurd (omega (arith, many))
bytes_are file at (suc n) bytes many held =
    let there = held (omega arith) in
    let low : at + suc n ≤ length file = omega (arith, there.within, many) in
    let long : length (take (suc n) (drop at file)) ≡ suc n = length-take-le (suc n) (drop at file) (omega (arith, low, length-drop at file)) in
    once file at bytes (take (suc n) (drop at file)) (many ∙ sym long) there (own_bytes file at (suc n) low)

-- what stands at an index of a list that was mapped
pub at_in : (entries : List (List ℕ × Place)) (i : ℕ) (e : List ℕ × Place) → slice_get entries i ≡ Some e
    → slice_get (map head_at entries) i ≡ Some (head_at e)
at_in entries i e is = slice_get-map head_at entries i ∙ ap (option_map head_at) is

-- a list up to an index, and what stands there
pub take_more : {X : Type 0} (xs : List X) (i : ℕ) (x : X) → slice_get xs i ≡ Some x → take (i + 1) xs ≡ take i xs ++ x ∷ []
take_more xs i x is = let next : i + 1 ≡ suc i = omega arith in ap (λ (n : ℕ). take n xs) next ∙ take_suc xs i x is
  where
    take_suc : {X : Type 0} (xs : List X) (i : ℕ) (x : X) → slice_get xs i ≡ Some x → take (suc i) xs ≡ take i xs ++ x ∷ []
    take_suc [] i x is = absurd cc
    take_suc {X} (y ∷ ys) zero x is = let same : y ≡ x = cc in ap (λ (z : X). z ∷ []) same
    take_suc {X} (y ∷ ys) (suc i) x is = ap (λ (zs : List X). y ∷ zs) (take_suc ys i x is)

-- the damaged among some heads and one more
pub damaged_more : (file : List ℕ) (heads : List Head) (h : Head)
    → digests_of (damaged_in file (heads ++ h ∷ [])) ≡ digests_of (damaged_in file heads) ++ cond (is_whole file h) [] (h.digest ∷ [])
damaged_more file [] h = by (is_whole file h)
  where
    by : (b : Bool) → digests_of (cond (not b) (h ∷ []) []) ≡ cond b [] (h.digest ∷ [])
    by true = refl
    by false = refl
damaged_more file (x ∷ heads) h = by (damaged_more file heads h) (is_whole file x)
  where
    by : digests_of (damaged_in file (heads ++ h ∷ [])) ≡ digests_of (damaged_in file heads) ++ cond (is_whole file h) [] (h.digest ∷ [])
        → (b : Bool) → digests_of (cond (not b) (x ∷ damaged_in file (heads ++ h ∷ [])) (damaged_in file (heads ++ h ∷ [])))
        ≡ digests_of (cond (not b) (x ∷ damaged_in file heads) (damaged_in file heads)) ++ cond (is_whole file h) [] (h.digest ∷ [])
    by rest true = rest
    by rest false = ap (λ (ds : List (List ℕ)). x.digest ∷ ds) rest

-- one head more is tested, and was whole or not
pub tested_more : (file : List ℕ) (heads : List Head) (i : ℕ) (h : Head) → slice_get heads i ≡ Some h
    → digests_of (damaged_in file (take (i + 1) heads)) ≡ digests_of (damaged_in file (take i heads)) ++ cond (is_whole file h) [] (h.digest ∷ [])
tested_more file heads i h is =
    ap (λ (hs : List Head). digests_of (damaged_in file hs)) (take_more heads i h is) ∙ damaged_more file (take i heads) h
