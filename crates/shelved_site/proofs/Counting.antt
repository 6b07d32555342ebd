-- Counting on the way.
use Rattle.std.proofs.Common.{◌≡◌, ◌+◌, ℕ, List, [], ◌∷◌, ◌++◌, Bool, true, false, cond, filter, length}
use Rattle.std.proofs.Common.{refl, ap, arith}
use Rattle.std.specs.Prelude.{◌==◌}
use Rattle.op_log.specs.Heads.{Head}
use Rattle.op_shelf.specs.Entries.{kind_in}
use Rattle.shelved_site.specs.Stores.{count_in}

-- a test of one thing more
abbrev one_if : Bool → ℕ
one_if true = 1
one_if false = 0

count_more : (kind : ℕ) (heads : List Head) (h : Head) → count_in kind (heads ++ h ∷ [])
    ≡ count_in kind heads + one_if (kind_in h.front == kind)
count_more kind [] h = by (kind_in h.front == kind)
  where
    by : (b : Bool) → length (cond b (h ∷ []) []) ≡ 0 + one_if b
    by true = refl
    by false = refl
count_more kind (k ∷ heads) h = by (kind_in k.front == kind) (count_more kind heads h)
  where
    by : (b : Bool) → length (filter (λ (x : Head). kind_in x.front == kind) (heads ++ h ∷ []))
        ≡ count_in kind heads + one_if (kind_in h.front == kind)
        → length (cond b (k ∷ filter (λ (x : Head). kind_in x.front == kind) (heads ++ h ∷ []))
        (filter (λ (x : Head). kind_in x.front == kind) (heads ++ h ∷ [])))
        ≡ length (cond b (k ∷ filter (λ (x : Head). kind_in x.front == kind) heads)
        (filter (λ (x : Head). kind_in x.front == kind) heads)) + one_if (kind_in h.front == kind)
    by true is = omega (arith, is)
    by false is = is

-- one more that has the kind
pub counted_one : (kind n : ℕ) (heads all : List Head) (h : Head) → n ≡ count_in kind heads → all ≡ heads ++ h ∷ []
    → kind_in h.front == kind ≡ true → n + 1 ≡ count_in kind all
counted_one kind n heads all h is more has =
    let both = count_more kind heads h in
    let one : one_if (kind_in h.front == kind) ≡ 1 = ap one_if has in
    omega (arith, is, both, one, ap (λ (hs : List Head). count_in kind hs) more)

-- and one that has not
pub counted_none : (kind n : ℕ) (heads all : List Head) (h : Head) → n ≡ count_in kind heads → all ≡ heads ++ h ∷ []
    → kind_in h.front == kind ≡ false → n ≡ count_in kind all
counted_none kind n heads all h is more has =
    let both = count_more kind heads h in
    let none : one_if (kind_in h.front == kind) ≡ 0 = ap one_if has in
    omega (arith, is, both, none, ap (λ (hs : List Head). count_in kind hs) more)
