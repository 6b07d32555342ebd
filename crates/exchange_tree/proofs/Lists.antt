-- What is kept of lists.
use Rattle.std.proofs.Common.{inl, inr, ◌≡◌, ℕ, zero, suc, ◌+◌, ◌<◌, ◌≤◌, List, [], ◌∷◌, ◌++◌, Bool, true, false, cond}
use Rattle.std.proofs.Common.{eqb, refl, sym, ap, ◌∙◌, arith}
use Rattle.std.proofs.lemmas.List.FromFn.{map-range_with_len_more}
use Rattle.std.specs.Prelude.{map, filter}
use Rattle.std.specs.List.{range_with_len}
use Rattle.octets.specs.Members.{Has}

-- ---- members

kept_one : {X : Type 0} (p : X → Bool) (x y : X) (ys : List X) (b : Bool) → p y ≡ b → p x ≡ true → x ≡ y
    → Has (cond b (y ∷ ys) ys) x
kept_one p x y ys true e passes at = inl at
kept_one p x y ys false e passes at =
    absurd (let clash : true ≡ false = sym passes ∙ ap p at ∙ e in cc)

kept_more : {X : Type 0} (x y : X) (ys : List X) (b : Bool) → Has ys x → Has (cond b (y ∷ ys) ys) x
kept_more x y ys true h = inr h
kept_more x y ys false h = h

-- what passes is kept
pub has_kept : {X : Type 0} (p : X → Bool) (xs : List X) (x : X) → Has xs x → p x ≡ true → Has (filter p xs) x
has_kept p [] x h passes = absurd h
has_kept p (y ∷ ys) x (inl at) passes = kept_one p x y (filter p ys) (p y) refl passes at
has_kept p (y ∷ ys) x (inr h) passes = kept_more x y (filter p ys) (p y) (has_kept p ys x h passes)

first_kept : {X : Type 0} (x y : X) (ys kept : List X) (b : Bool) → (Has kept x → Has ys x)
    → Has (cond b (y ∷ kept) kept) x → Has (y ∷ ys) x
first_kept x y ys kept true rest (inl at) = inl at
first_kept x y ys kept true rest (inr h) = inr (rest h)
first_kept x y ys kept false rest h = inr (rest h)

-- what is kept was there
pub kept_has : {X : Type 0} (p : X → Bool) (xs : List X) (x : X) → Has (filter p xs) x → Has xs x
kept_has p [] x h = absurd h
kept_has p (y ∷ ys) x h = first_kept x y ys (filter p ys) (p y) (kept_has p ys x) h

first_passes : {X : Type 0} (p : X → Bool) (x y : X) (kept : List X) (b : Bool) → p y ≡ b → (Has kept x → p x ≡ true)
    → Has (cond b (y ∷ kept) kept) x → p x ≡ true
first_passes p x y kept true e rest (inl at) = ap p at ∙ e
first_passes p x y kept true e rest (inr h) = rest h
first_passes p x y kept false e rest h = rest h

-- and passes
pub kept_passes : {X : Type 0} (p : X → Bool) (xs : List X) (x : X) → Has (filter p xs) x → p x ≡ true
kept_passes p [] x h = absurd h
kept_passes p (y ∷ ys) x h = first_passes p x y (filter p ys) (p y) refl (kept_passes p ys x) h

pub range_has : (n a p : ℕ) → a ≤ p → p < a + n → Has (range_with_len a n) p
range_has zero a p low high = absurd (omega arith)
range_has (suc n) a p low high = by (eqb p a) refl (range_has n (a + 1) p)
  where
    by : (b : Bool) → eqb p a ≡ b → (a + 1 ≤ p → p < (a + 1) + n → Has (range_with_len (a + 1) n) p)
        → Has (range_with_len a (suc n)) p
    by true e rest = inl (let is : p ≡ a = grind arith in is)
    by false e rest = let later : a + 1 ≤ p = grind arith in inr (rest later (omega arith))

-- ---- the numbers at which something holds

kept_on : (b : Bool) (x : ℕ) (xs ys : List ℕ) → cond b (x ∷ (xs ++ ys)) (xs ++ ys) ≡ cond b (x ∷ xs) xs ++ ys
kept_on true x xs ys = refl
kept_on false x xs ys = refl

kept_from : (test : ℕ → Bool) (place n : ℕ) → filter test (range_with_len place (n + 1)) ≡ filter
    test (range_with_len place n) ++ cond (test (place + n)) ((place + n) ∷ []) []
kept_from test place zero = let e : place ≡ place + 0 = omega arith in ap (λ p. cond (test p) (p ∷ []) []) e
kept_from test place (suc n) =
    let long : suc n + 1 ≡ suc (n + 1) = omega arith in
    let next : (place + 1) + n ≡ place + suc n = omega arith in
    ap (λ k. filter test (range_with_len place k)) long
    ∙ ap (λ ps. cond (test place) (place ∷ ps) ps) (kept_from test (place + 1) n
    ∙ ap (λ p. filter test (range_with_len (place + 1) n) ++ cond (test p) (p ∷ []) []) next)
    ∙ kept_on (test place) place (filter test (range_with_len (place + 1) n)) _

-- one number more
pub kept_next : (test : ℕ → Bool) (n : ℕ) → filter test (range_with_len 0 (n + 1)) ≡ filter test (range_with_len 0 n)
    ++ cond (test n) (n ∷ []) []
kept_next test n = let e : 0 + n ≡ n = omega arith in
    kept_from test 0 n ∙ ap (λ p. filter test (range_with_len 0 n) ++ cond (test p) (p ∷ []) []) e

-- what was told of the numbers below one, and what is told of that one
pub more_told : {X : Type 0} (f : ℕ → X) (n : ℕ) (before after : List X) (x : X) → before ≡ map f (range_with_len 0 n)
    → after ≡ before ++ x ∷ [] → x ≡ f n → after ≡ map f (range_with_len 0 (n + 1))
more_told f n before after x was more is =
    more ∙ ap (λ xs. xs ++ x ∷ []) was ∙ ap (λ y. map f (range_with_len 0 n) ++ y ∷ []) is
    ∙ sym (map-range_with_len_more f 0 n n (omega arith))
