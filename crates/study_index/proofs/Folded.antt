-- A text of which the first bytes were changed.
use mathlib.Core.Path.{◌≡◌, sym, ap, ◌∙◌}
use mathlib.Core.List.{List, map}
use Prim.Native.Nat.{ℕ, ◌+◌, ◌≤◌, ◌<◌}
use native.Mathlib.Omega.{arith}
use lib.ListN.{length, get_or, set, length-set, length-map, get_or-map}
use lib.Seq.{ext_get_or, get_or-set_same, get_or-set_other}
use borrow.Author.Count.{below_more}

module _ (f : ℕ → ℕ) (fixed : f 0 ≡ 0) where
  mapped_at : (l : List ℕ) (k : ℕ) → get_or (map f l) k 0 ≡ f (get_or l k 0)
  mapped_at l k = ap (get_or (map f l) k) (sym fixed) ∙ get_or-map f l k 0

  -- b is a with the first i bytes changed
  abbrev pub Upto : List ℕ → List ℕ → ℕ → Type 0
  Upto a b i = (length b ≡ length a) × ((k : ℕ) → k < i → get_or b k 0 ≡ f (get_or a k 0))
      × ((k : ℕ) → i ≤ k → get_or b k 0 ≡ get_or a k 0)

  pub one_more : (a b : List ℕ) (i x : ℕ) → i < length b → x ≡ f (get_or b i 0) → Upto a b i
      → Upto a (set b i x) (i + 1)
  one_more a b i x h e u = (
    length-set b i x ∙ u.0,
    below_more (λ k. get_or (set b i x) k 0 ≡ f (get_or a k 0)) i
        (λ k l. get_or-set_other b i k x 0 (omega arith) ∙ u.1 k l)
        (get_or-set_same b i x 0 h ∙ e ∙ ap f (u.2 i (omega arith))),
    λ k l. get_or-set_other b i k x 0 (omega arith) ∙ u.2 k (omega arith),
  )

  pub all_changed : (a b : List ℕ) (i : ℕ) → length a ≤ i → Upto a b i → b ≡ map f a
  all_changed a b i h u = ext_get_or 0 b (map f a) (u.0 ∙ sym (length-map a f))
      (λ k l. u.1 k (omega (arith, u.0)) ∙ sym (mapped_at a k))
