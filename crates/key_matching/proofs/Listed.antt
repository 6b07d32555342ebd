-- A bisection of the members of a list, which ascend, finds what is listed.
use Rattle.std.proofs.Common.{◌≡◌, ℕ, zero, suc, ◌<◌, ◌+◌, Bool, true, false, ◌||◌, List, [], ◌∷◌, length}
use Rattle.std.proofs.Common.{get_or, map}
use Rattle.std.proofs.Common.{Result, Ok, Err, refl, sym, ap, subst, ◌∙◌, arith, inl, inr}
use Rattle.std.specs.Prelude.{is_ok, nat_eq, ◌==◌, if◌then◌else◌}
use Rattle.std.proofs.lemmas.Bool.{eq-eqb, cases_lt}
use Rattle.std.specs.List.{list_any, AllByRecursion}
use Rattle.std.specs.List.Sorted.{IsBinarySearchResult, IsSearchInRange, IsSortedBy, IsStrictlySortedBy}
use Rattle.std.specs.Ordering.{is_eq, is_lt, ordering_reverse}
use Rattle.std.specs.declared.cmp.Ordering.TheVariants.{Less}
use Rattle.std.specs.Cmp.Lexicographic.{nat_list_cmp_total, texts_ties}
use Rattle.std.proofs.lemmas.List.Sorted.{searchable_from_sorted}
use Rattle.std.proofs.lemmas.Bool.{false≢true}
use Rattle.std.specs.Cmp.{both_ways as one_truth}
use Rattle.octets.specs.Members.{Has}
use Rattle.octets.specs.Padding.{trimmed}
use Rattle.octets.specs.Texts.{same, text_cmp, ascending}
use Rattle.octets.proofs.TextLemmas.{in_ascending, ascending_holds, tied_texts, ascending_sorted}
use Rattle.dictionary.specs.declared.role.Matching.{Matching}
use Rattle.dictionary.specs.declared.role.Matching.TheVariants.{Dates, Times, WildCard, Name, Uids, Single}
use Rattle.dictionary.specs.declared.role.Matching.TheVariants.{Answered}
use Rattle.key_matching.specs.Matches.{is_same_part, is_universal, parts, matches}
use Rattle.key_matching.specs.Prepared.{is_uids, members_in}

any_at : {X : Type 0} (p : X → Bool) (xs : List X) (i : ℕ) → i < length xs → ((d : X) → p (get_or xs i d) ≡ true)
    → list_any p xs ≡ true
any_at p [] i within holds = absurd (omega arith)
any_at p (x ∷ xs) zero within holds = ap (λ (b : Bool). b || list_any p xs) (holds x)
any_at {X} p (x ∷ xs) (suc i) within holds = later (p x) (any_at p xs i (omega arith) holds)
  where
    later : (b : Bool) → list_any p xs ≡ true → (b || list_any p xs) ≡ true
    later true e = refl
    later false e = e

none_at : {X : Type 0} (p : X → Bool) (xs : List X) → ((k : ℕ) (d : X) → k < length xs → p (get_or xs k d) ≡ false)
    → list_any p xs ≡ false
none_at p [] fails = refl
none_at p (x ∷ xs) fails =
    ap (λ (b : Bool). b || list_any p xs) (fails zero x (omega arith))
    ∙ none_at p xs (λ k d within. fails (suc k) d (omega arith))

-- ---- what ascends can be searched by halves

not_before : (x y : List ℕ) → text_cmp x y ≡ Less → is_lt (text_cmp y x) ≡ false
not_before x y e = ap is_lt (nat_list_cmp_total.antisymm y x ∙ ap ordering_reverse e)

first_below : (x : List ℕ) (xs : List (List ℕ)) (d : List ℕ) → AllByRecursion (λ y. text_cmp x y ≡ Less) xs
    → 0 < length xs → is_lt (text_cmp (get_or xs 0 d) x) ≡ false
first_below x [] d all h = absurd (omega arith)
first_below x (y ∷ xs) d all h = not_before x y all.0

pub sorted : (xs : List (List ℕ)) → IsStrictlySortedBy text_cmp xs → IsSortedBy (λ a b. is_lt (text_cmp a b)) xs
unfolding IsStrictlySortedBy
sorted [] up k d low high = absurd (omega (arith, high))
sorted (x ∷ xs) up zero d low high = first_below x xs d up.0 (omega (arith, high))
sorted (x ∷ xs) up (suc k) d low high =
    let next : suc (k + 1) ≡ suc k + 1 = omega arith in
    subst (λ n. is_lt (text_cmp (get_or (x ∷ xs) n d) (get_or xs k d)) ≡ false) next
    (sorted xs up.1 k d (omega arith) (omega (arith, high)))

-- of what ascends by some text of each: what is found by halves is there
pub found_by_halves : {X : Type 0} (text : X → List ℕ) (xs : List X) (value : List ℕ) (r : Result ℕ ℕ)
    → IsSortedBy (λ a b. is_lt (text_cmp (text a) (text b))) xs → IsSearchInRange r (length xs)
    → IsBinarySearchResult (λ x. text_cmp (text x) value) xs r → is_ok r ≡ list_any (λ x. same (text x) value) xs
found_by_halves text xs value (Ok i) up bound position =
    sym (any_at (λ x. same (text x) value) xs i bound (λ d. texts_ties (text (get_or xs i d)) value
    ∙ ap is_eq (position d)))
found_by_halves text xs value (Err i) up bound position =
    let parts = position (searchable_from_sorted nat_list_cmp_total text xs value up) in
    sym (none_at (λ x. same (text x) value) xs (λ k d within. texts_ties (text (get_or xs k d)) value
    ∙ elim (cases_lt k i) [
      | inl below ↦ ap is_eq (parts.0 k d (omega arith) below)
      | inr above ↦ ap is_eq (parts.1 k d above within)
    ]))

-- ---- in their order, the members are the same

any_is : (value : List ℕ) (xs : List (List ℕ)) → list_any (λ m. same m value) xs ≡ true → Has xs value
any_is value [] e = absurd (false≢true e)
any_is value (x ∷ xs) e = by (same x value) refl e (any_is value xs)
  where
    by : (b : Bool) → same x value ≡ b → (b || list_any (λ m. same m value) xs) ≡ true
        → (list_any (λ m. same m value) xs ≡ true → Has xs value) → Has (x ∷ xs) value
    by true h e more = inl (sym (tied_texts x value h))
    by false h e more = inr (more e)

same_self : (value : List ℕ) → same value value ≡ true
same_self [] = refl
same_self (v ∷ value) = rw (eqb_self v) (same_self value)
  where
    eqb_self : (n : ℕ) → nat_eq n n ≡ true
    eqb_self n = eq-eqb n n refl

is_any : (value : List ℕ) (xs : List (List ℕ)) → Has xs value → list_any (λ m. same m value) xs ≡ true
is_any value [] h = absurd h
is_any value (x ∷ xs) (inl e) = ap (λ (m : List ℕ). same m value || list_any (λ m. same m value) xs) (sym e)
    ∙ ap (λ (b : Bool). b || list_any (λ m. same m value) xs) (same_self value)
is_any value (x ∷ xs) (inr h) = later (same x value) (is_any value xs h)
  where
    later : (b : Bool) → list_any (λ m. same m value) xs ≡ true → (b || list_any (λ m. same m value) xs) ≡ true
    later true e = refl
    later false e = e

pub in_order : (value : List ℕ) (xs : List (List ℕ)) → list_any (λ m. same m value) (ascending xs)
    ≡ list_any (λ m. same m value) xs
in_order value xs = one_truth (list_any (λ m. same m value) (ascending xs)) (list_any (λ m. same m value) xs)
    (λ e. is_any value xs (ascending_holds value xs (any_is value (ascending xs) e)))
    (λ e. is_any value (ascending xs) (in_ascending value xs (any_is value xs e)))

trimmed_parts : (value : List ℕ) (ps : List (List ℕ)) → list_any (λ m. same m value) (map trimmed ps)
    ≡ list_any (is_same_part value) ps
trimmed_parts value [] = refl
trimmed_parts value (p ∷ ps) = ap (λ (b : Bool). is_same_part value p || b) (trimmed_parts value ps)

-- what is found among the members is what the key lists
pub listed : (value key : List ℕ) → list_any (λ m. same m value) (ascending (map trimmed (parts key)))
    ≡ list_any (is_same_part value) (parts key)
listed value key = in_order value (map trimmed (parts key)) ∙ trimmed_parts value (parts key)

-- a list of UIDs matches the values that are found among its members
pub matches_listed : (matching : Matching) (key value : List ℕ) → is_uids matching ≡ true
    → (is_universal key || (length value == 0) || list_any (λ m. same m value) (members_in matching key))
    ≡ matches matching key value
matches_listed Uids key value e = ap (λ (b : Bool). is_universal key || (length value == 0) || b) (listed value key)
matches_listed Dates key value e = absurd (false≢true e)
matches_listed Times key value e = absurd (false≢true e)
matches_listed WildCard key value e = absurd (false≢true e)
matches_listed Name key value e = absurd (false≢true e)
matches_listed Single key value e = absurd (false≢true e)
matches_listed Answered key value e = absurd (false≢true e)

pub members_sorted : (matching : Matching) (key : List ℕ) → IsStrictlySortedBy text_cmp (members_in matching key)
unfolding IsStrictlySortedBy
members_sorted matching key = by (is_uids matching)
  where
    none : IsStrictlySortedBy text_cmp []
    none = tt

    by : (b : Bool) → IsStrictlySortedBy text_cmp (if b then ascending (map trimmed (parts key)) else [])
    by true = ascending_sorted (map trimmed (parts key))
    by false = none
