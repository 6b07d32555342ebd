-- Nodes of which each stands before the next: none lies within another.
use Rattle.std.proofs.Common.{◌≡◌, ℕ, ◌<◌, ◌⊎◌, inl, inr, Bool, true, false, cond, not, ltb, eqb, List}
use Rattle.std.proofs.Common.{[], ◌∷◌, length, take}
use Rattle.std.proofs.Common.{refl, sym, ◌∙◌, arith}
use Rattle.std.specs.Ordering.{match_ordering}
use Rattle.std.specs.declared.cmp.Ordering.{Ordering}
use Rattle.std.specs.declared.cmp.Ordering.TheVariants.{Less, Equal, Greater}
use Rattle.std.specs.Cmp.Lexicographic.{pointwise}
use Rattle.std.specs.List.{AllByRecursion, AllPairs}
use Rattle.std.proofs.lemmas.Bool.{ltb-true, eqb-true, lt-ltb, le-ltb, ne_eqb, cases_order, cases_Bool, and_parts}
use Rattle.std.proofs.lemmas.Bool.{and_left, and_right, not-true}
use Rattle.std.proofs.lemmas.Bool.{eq-eqb as eqb_is}
use Rattle.std.proofs.lemmas.List.Elements.{All-from_recursion}
use Rattle.std.proofs.lemmas.List.Kept.{AllPairs-cons}
use Rattle.octets.specs.Texts.{text_cmp}
use Rattle.walk_frames.specs.Nodes.{is_within, is_before}
use Rattle.walk_frames.specs.Entries.{EntryParts}
use Rattle.walk_frames.specs.Walks.{passes_next, all_pass, is_earlier, stand_apart, AreApart}

-- where two nodes first differ, the one has the lesser digit
abbrev pub before : List ℕ → List ℕ → Bool
before [] b = false
before (x ∷ xs) [] = false
before (x ∷ xs) (y ∷ ys) = cond (ltb x y) true (cond (eqb x y) (before xs ys) false)

abbrev first_digit : ℕ → ℕ → Bool → Bool
first_digit x y rest = cond (ltb x y) true (cond (eqb x y) rest false)

differ : (x y : ℕ) → x < y → eqb x y ≡ false
differ x y lt = ne_eqb x y (λ e. omega (arith, e, lt))

differ_back : (x y : ℕ) → y < x → eqb x y ≡ false
differ_back x y lt = ne_eqb x y (λ e. omega (arith, e, lt))

pub same_is : (a b : List ℕ) → is_before a b ≡ before a b
same_is [] [] = refl
same_is [] (y ∷ ys) = refl
same_is (x ∷ xs) [] = refl
same_is (x ∷ xs) (y ∷ ys) = by_order (cases_order x y) (same_is xs ys)
  where
    by_order : (x ≡ y) ⊎ ((x < y) ⊎ (y < x)) → is_before xs ys ≡ before xs ys
        → is_before (x ∷ xs) (y ∷ ys) ≡ before (x ∷ xs) (y ∷ ys)
    by_order (inl e) rest = rw (le-ltb x y (omega (arith, e)), eqb_is x y e) rest
    by_order (inr (inl lt)) rest = rw (lt-ltb x y lt, differ x y lt) refl
    by_order (inr (inr gt)) rest = rw (le-ltb x y (omega (arith, gt)), differ_back x y gt) refl

-- ---- one order

-- which digit decides
pub decided : (x y : ℕ) (rest : Bool) → first_digit x y rest ≡ true → (x < y) ⊎ ((x ≡ y) × (rest ≡ true))
decided x y rest e = by_less (cases_Bool (ltb x y)) (cases_Bool (eqb x y))
  where
    by_less : (ltb x y ≡ true) ⊎ (ltb x y ≡ false) → (eqb x y ≡ true) ⊎ (eqb x y ≡ false)
        → (x < y) ⊎ ((x ≡ y) × (rest ≡ true))
    by_less (inl lt) s = inl (ltb-true x y lt)
    by_less (inr le) (inl s) = inr (eqb-true x y s, rw (le, s) at e)
    by_less (inr le) (inr s) = absurd (cc (rw (le, s) at e))

pub at_once : (x y : ℕ) (rest : Bool) → x < y → first_digit x y rest ≡ true
at_once x y rest lt = rw (lt-ltb x y lt) refl

pub further : (x y : ℕ) (rest : Bool) → x ≡ y → rest ≡ true → first_digit x y rest ≡ true
further x y rest e more = rw (le-ltb x y (omega (arith, e)), eqb_is x y e, more) refl

pub before_then : (a b c : List ℕ) → before a b ≡ true → before b c ≡ true → before a c ≡ true
before_then [] b c p q = absurd cc
before_then (x ∷ xs) [] c p q = absurd cc
before_then (x ∷ xs) (y ∷ ys) [] p q = absurd cc
before_then (x ∷ xs) (y ∷ ys) (z ∷ zs) p q =
    by_digits (decided x y (before xs ys) p) (decided y z (before ys zs) q) (before_then xs ys zs)
  where
    by_digits : (x < y) ⊎ ((x ≡ y) × (before xs ys ≡ true)) → (y < z) ⊎ ((y ≡ z) × (before ys zs ≡ true))
        → (before xs ys ≡ true → before ys zs ≡ true → before xs zs ≡ true) → before (x ∷ xs) (z ∷ zs) ≡ true
    by_digits (inl lt) (inl more) rest = at_once x z (before xs zs) (omega (arith, lt, more))
    by_digits (inl lt) (inr more) rest = at_once x z (before xs zs) (omega (arith, lt, more.0))
    by_digits (inr same) (inl more) rest = at_once x z (before xs zs) (omega (arith, same.0, more))
    by_digits (inr same) (inr more) rest = further x z (before xs zs) (same.0 ∙ more.0) (rest same.1 more.1)

-- what stands before another does not lie within it
not_within : (a b : List ℕ) → before a b ≡ true → is_within a b ≡ false
not_within [] b p = absurd cc
not_within (x ∷ xs) [] p = absurd cc
not_within (x ∷ xs) (y ∷ ys) p = by_digits (decided x y (before xs ys) p) (not_within xs ys)
  where
    by_digits : (x < y) ⊎ ((x ≡ y) × (before xs ys ≡ true)) → (before xs ys ≡ true → is_within xs ys ≡ false)
        → is_within (x ∷ xs) (y ∷ ys) ≡ false
    by_digits (inl lt) rest = and_left (eqb y x) (pointwise eqb ys (take (length ys) xs)) (differ_back y x lt)
    by_digits (inr same) rest = and_right (eqb y x) (pointwise eqb ys (take (length ys) xs)) (rest same.1)

less_and : (o : Ordering) (w : Bool) → match_ordering o (not w) false false ≡ true → (o ≡ Less) × (w ≡ false)
less_and Less w e = (refl, not-true w e)
less_and Equal w e = absurd cc
less_and Greater w e = absurd cc

are_apart : (entry later : EntryParts) → before entry.node later.node ≡ true → AreApart entry later
are_apart entry later p =
    let both = less_and (text_cmp entry.node later.node) (is_within later.node entry.node)
    (same_is entry.node later.node ∙ p) in
    record { less = both.0; within = both.1; around = not_within entry.node later.node p }

-- ---- all later entries

abbrev pub Precedes : EntryParts → EntryParts → Type 0
Precedes entry later = before entry.node later.node ≡ true

lower : (entry later : EntryParts) (entries : List EntryParts) → Precedes entry later
    → AllByRecursion (Precedes later) entries → AllByRecursion (Precedes entry) entries
lower entry later [] p all = tt
lower entry later (e ∷ entries) p all =
    (before_then entry.node later.node e.node p all.0, lower entry later entries p all.1)

pub all_later : (entry : EntryParts) (entries : List EntryParts) → all_pass is_earlier (entry ∷ entries) ≡ true
    → AllByRecursion (Precedes entry) entries
all_later entry [] e = tt
all_later entry (later ∷ entries) e =
    let p = and_parts (is_earlier entry later) (all_pass is_earlier (later ∷ entries)) e in
    let first : Precedes entry later = sym (same_is entry.node later.node) ∙ p.0 in
    (first, lower entry later entries first (all_later later entries p.1))

apart_all : (entry : EntryParts) (entries : List EntryParts) → AllByRecursion (Precedes entry) entries
    → AllByRecursion (AreApart entry) entries
apart_all entry [] all = tt
apart_all entry (later ∷ entries) all = (are_apart entry later all.0, apart_all entry entries all.1)

pairs : (entries : List EntryParts) → all_pass is_earlier entries ≡ true → AllPairs AreApart entries
pairs [] e = λ i j d earlier short. absurd (omega (arith, short))
pairs (entry ∷ entries) e =
    let p = and_parts (passes_next is_earlier entry entries) (all_pass is_earlier entries) e in
    AllPairs-cons AreApart entry entries
    (All-from_recursion (AreApart entry) entries (apart_all entry entries (all_later entry entries e)))
    (pairs entries p.1)

-- None of the entries lies within another.
pub all_apart : (entries : List EntryParts) → stand_apart entries ≡ true → AllPairs AreApart entries
unfolding stand_apart
all_apart entries e = pairs entries e
