-- What a stable sort by a key makes of the groups of a list.
use Rattle.std.proofs.Common.{inl, inr, ◌≡◌, ℕ, zero, suc, ◌+◌, ◌<◌, ◌≤◌, Bool, true, false, not, ◌&&◌, cond, List, []}
use Rattle.std.proofs.Common.{◌∷◌, ◌++◌, length, get_or, take, drop, refl, sym, ap, subst, ◌∙◌, Less, Equal, Greater}
use Rattle.std.proofs.Common.{arith, append_assoc, length-drop, ◌-◌, append-nil as append_empty}
use Rattle.std.specs.Prelude.{map}
use Rattle.std.specs.List.{filter}
use Rattle.std.specs.List.Sorted.{IsSortedBy, IsStableBy, ties}
use Rattle.std.specs.Ordering.{ordering_reverse, is_eq, is_lt, is_gt}
use Rattle.std.specs.declared.cmp.Ordering.{Ordering}
use Rattle.std.specs.Cmp.{IsStrictWeakOrder}
use Rattle.std.specs.Cmp.Lexicographic.{nat_list_cmp_total, texts_ties, same_text}
use Rattle.std.proofs.lemmas.Cmp.{upto}
use Rattle.std.proofs.lemmas.List.Elements.{filter-append}
use Rattle.std.proofs.lemmas.List.{take-append-drop, length-take, drop-drop, take_all}
use Rattle.archive_query.specs.Grouping.{under, groups_by, leading, Ascends, IsRun}
use Rattle.archive_model.specs.Texts.{same, text_cmp, put, ascending}
use Rattle.archive_query.proofs.AscendingLaws.{Text, Has, Below, Within, equal_is, itself, same_itself}
use Rattle.archive_query.proofs.AscendingLaws.{less_after, below_has, ascending_has, ascending_same}

-- each has this key
abbrev pub AllAre : {X : Type 0} → (X → Text) → Text → List X → Type 0
AllAre key k [] = Unit {0}
AllAre key k (x ∷ xs) = (key x ≡ k) × AllAre key k xs

-- the key is below that of each
abbrev pub Above : {X : Type 0} → (X → Text) → Text → List X → Type 0
Above key k [] = Unit {0}
Above key k (x ∷ xs) = (text_cmp k (key x) ≡ Less) × Above key k xs

-- ---- same, at unequal texts

less_not_same : (t u : Text) → text_cmp t u ≡ Less → same t u ≡ false
less_not_same t u e = texts_ties t u ∙ ap is_eq e

greater_not_same : (t u : Text) → text_cmp t u ≡ Less → same u t ≡ false
greater_not_same t u e = texts_ties u t ∙ ap is_eq (nat_list_cmp_total.antisymm u t ∙ ap ordering_reverse e)

-- ---- a run of one key, and what comes after it

under_run : {X : Type 0} (key : X → Text) (k : Text) (run : List X) → AllAre key k run → under key k run ≡ run
under_run key k [] are = refl
under_run key k (x ∷ run) (is, are) =
    let test : same (key x) k ≡ true = ap (λ (t : Text). same t k) is ∙ same_itself k in
    rw (test, under_run key k run are) refl

under_above : {X : Type 0} (key : X → Text) (k : Text) (after : List X) → Above key k after → under key k after ≡ []
under_above key k [] above = refl
under_above key k (x ∷ after) (is, above) =
    let test : same (key x) k ≡ false = greater_not_same k (key x) is in
    rw (test, under_above key k after above) refl

under_other : {X : Type 0} (key : X → Text) (k other : Text) (run : List X) → AllAre key k run → text_cmp k other ≡ Less
    → under key other run ≡ []
under_other key k other [] are less = refl
under_other key k other (x ∷ run) (is, are) less =
    let test : same (key x) other ≡ false = ap (λ (t : Text). same t other) is ∙ less_not_same k other less in
    rw (test, under_other key k other run are less) refl

first_under : {X : Type 0} (key : X → Text) (k : Text) (run after : List X) → AllAre key k run → Above key k after
    → under key k (run ++ after) ≡ run
first_under {X} key k run after are above =
    filter-append (λ x. same (key x) k) run after
    ∙ ap (λ (ys : List X). ys ++ under key k after) (under_run key k run are)
    ∙ ap (λ (ys : List X). run ++ ys) (under_above key k after above)
    ∙ append_empty run

later_under : {X : Type 0} (key : X → Text) (k other : Text) (run after : List X) → AllAre key k run
    → text_cmp k other ≡ Less → under key other (run ++ after) ≡ under key other after
later_under {X} key k other run after are less =
    filter-append (λ x. same (key x) other) run after
    ∙ ap (λ (ys : List X). ys ++ under key other after) (under_other key k other run are less)

-- the keys above are above as a list
below_keys : {X : Type 0} (key : X → Text) (k : Text) (after : List X) → Above key k after → Below k (map key after)
below_keys key k [] above = tt
below_keys key k (x ∷ after) (is, above) = (is, below_keys key k after above)

below_of : (k : Text) (ts : List Text) → ((t : Text) → Has ts t → text_cmp k t ≡ Less) → Below k ts
below_of k [] each = tt
below_of k (t ∷ ts) each = (each t (inl refl), below_of k ts (λ u has. each u (inr has)))

below_ascending : {X : Type 0} (key : X → Text) (k : Text) (after : List X) → Above key k after
    → Below k (ascending (map key after))
below_ascending key k after above =
    below_of k (ascending (map key after)) (λ t has. below_has k t (map key after) (below_keys key k after above)
    (ascending_has (map key after) t has))

put_front : (k : Text) (ts : List Text) → Below k ts → put k ts ≡ k ∷ ts
put_front k [] below = refl
put_front k (t ∷ ts) (less, below) = rw less refl

put_there : (k : Text) (ts : List Text) → put k (k ∷ ts) ≡ k ∷ ts
put_there k ts = rw (itself k) refl

-- the keys of a run and of what comes after it, ascending
run_keys : {X : Type 0} (key : X → Text) (k : Text) (x : X) (run after : List X) → key x ≡ k → AllAre key k run
    → Above key k after → ascending (map key (x ∷ (run ++ after))) ≡ k ∷ ascending (map key after)
run_keys key k x [] after is are above =
    ap (λ (t : Text). put t (ascending (map key after))) is ∙ put_front k (ascending (map key after))
    (below_ascending key k after above)
run_keys key k x (y ∷ run) after is (is', are) above =
    ap (λ (t : Text). put t (ascending (map key (y ∷ (run ++ after))))) is
    ∙ ap (put k) (run_keys key k y run after is' are above)
    ∙ put_there k (ascending (map key after))

map_alike : {Y : Type 0} (f g : Text → Y) (ts : List Text) → ((t : Text) → Has ts t → f t ≡ g t) → map f ts ≡ map g ts
map_alike f g [] each = refl
map_alike {Y} f g (t ∷ ts) each =
    ap (λ (y : Y). y ∷ map f ts) (each t (inl refl)) ∙ ap (λ (ys : List Y). g t ∷ ys)
    (map_alike f g ts (λ u has. each u (inr has)))

-- a run of one key is the first group, and the groups of what comes after it are the others
pub run_is_group : {X : Type 0} (key : X → Text) (k : Text) (x : X) (run after : List X) → key x ≡ k → AllAre key k run
    → Above key k after → groups_by key ((x ∷ run) ++ after) ≡ (x ∷ run) ∷ groups_by key after
run_is_group {X} key k x run after is are above =
    let all : List X = (x ∷ run) ++ after in
    let keys = ascending (map key after) in
    let whole : AllAre key k (x ∷ run) = (is, are) in
    ap (map (λ t. under key t all)) (run_keys key k x run after is are above)
    ∙ ap (λ (g : List X). g ∷ map (λ t. under key t all) keys) (first_under key k (x ∷ run) after whole above)
    ∙ ap (λ (gs : List (List X)). (x ∷ run) ∷ gs) (map_alike (λ t. under key t all) (λ t. under key t after)
    keys (λ t has. later_under key k t (x ∷ run) after whole (below_has k t keys (below_ascending key k after above)
    has)))

-- ---- the order of the keys of a sorted list

-- the key is above none of these
abbrev pub AtLeast : {X : Type 0} → (X → Text) → Text → List X → Type 0
AtLeast key k [] = Unit {0}
AtLeast key k (x ∷ xs) = (is_gt (text_cmp k (key x)) ≡ false) × AtLeast key k xs

abbrev pub key_lt : {X : Type 0} → (X → Text) → X → X → Bool
key_lt key x y = is_lt (text_cmp (key x) (key y))

turned_lt : (o : Ordering) → is_gt (ordering_reverse o) ≡ is_lt o
turned_lt Less = refl
turned_lt Equal = refl
turned_lt Greater = refl

pub ascends_tail : {X : Type 0} (key : X → Text) (x : X) (xs : List X) → Ascends key (x ∷ xs) → Ascends key xs
ascends_tail key x [] up = tt
ascends_tail key x (y ∷ xs) up = up.1

pub sorted_ascends : {X : Type 0} (key : X → Text) (xs : List X) → IsSortedBy (key_lt key) xs → Ascends key xs
sorted_ascends key [] sorted = tt
sorted_ascends key (x ∷ []) sorted = tt
sorted_ascends {X} key (x ∷ y ∷ xs) sorted = (
  ap is_gt (nat_list_cmp_total.antisymm (key x) (key y)) ∙ turned_lt (text_cmp (key y) (key x))
      ∙ sorted 0 x (omega arith) (omega arith),
  sorted_ascends key (y ∷ xs) (λ k d low high.
      let next : suc k + 1 ≡ suc (k + 1) = omega arith in
      subst (λ (m : ℕ). key_lt key (get_or (x ∷ y ∷ xs) m d) (get_or (x ∷ y ∷ xs) (suc k) d) ≡ false)
      next (sorted (suc k) d (omega arith) (omega arith))),
)

at_least_after : {X : Type 0} (key : X → Text) (k : Text) (x : X) (xs : List X) → is_gt (text_cmp k (key x)) ≡ false
    → Ascends key (x ∷ xs) → AtLeast key k xs
at_least_after key k x [] from up = tt
at_least_after key k x (y ∷ xs) from up =
    let next : is_gt (text_cmp k (key y)) ≡ false = upto nat_list_cmp_total k (key x) (key y) from up.0 in
    (next, at_least_after key k y xs next up.1)

not_above_itself : (t : Text) → is_gt (text_cmp t t) ≡ false
not_above_itself t = ap is_gt (itself t)

pub at_least_first : {X : Type 0} (key : X → Text) (x : X) (xs : List X) → Ascends key (x ∷ xs) → AtLeast key (key x) xs
at_least_first key x xs up = at_least_after key (key x) x xs (not_above_itself (key x)) up

less_by : (o : Ordering) (k t : Text) → text_cmp k t ≡ o → is_gt o ≡ false → same t k ≡ false → text_cmp k t ≡ Less
less_by Less k t e at other = e
less_by Equal k t e at other = let is : k ≡ t = equal_is k t e in
    let yes : same t k ≡ true = ap (λ (u : Text). same t u) is ∙ same_itself t in absurd cc
less_by Greater k t e at other = absurd cc

pub less_unless_same : (k t : Text) → is_gt (text_cmp k t) ≡ false → same t k ≡ false → text_cmp k t ≡ Less
less_unless_same k t at other = less_by (text_cmp k t) k t refl at other

less_on_by : (o : Ordering) (k t u : Text) → text_cmp t u ≡ o → text_cmp k t ≡ Less → is_gt o ≡ false
    → text_cmp k u ≡ Less
less_on_by Less k t u e less at = less_after k t u less e
less_on_by Equal k t u e less at = subst (λ (v : Text). text_cmp k v ≡ Less) (equal_is t u e) less
less_on_by Greater k t u e less at = absurd cc

above_after : {X : Type 0} (key : X → Text) (k t : Text) (xs : List X) → text_cmp k t ≡ Less → AtLeast key t xs
    → Above key k xs
above_after key k t [] less at = tt
above_after key k t (x ∷ xs) less at = (
  less_on_by (text_cmp t (key x)) k t (key x) refl less at.0,
  above_after key k t
      xs less at.1,
)

-- ---- the run at the front of a sorted list

abbrev pub run_of : {X : Type 0} → (X → Text) → Text → List X → ℕ
run_of key k xs = leading (λ x. same (key x) k) xs

run_are_by : {X : Type 0} (b : Bool) (key : X → Text) (k : Text) (x : X) (xs : List X) → same (key x) k ≡ b
    → AllAre key k (take (run_of key k xs) xs) → AllAre key k (take (cond b (run_of key k xs + 1) 0) (x ∷ xs))
run_are_by {X} true key k x xs e are =
    let n = run_of key k xs in
    let next : suc n ≡ n + 1 = omega arith in
    subst (λ (m : ℕ). AllAre key k (take m (x ∷ xs))) next (same_text (key x) k (sym e), are)
run_are_by false key k x xs e are = tt

pub run_are : {X : Type 0} (key : X → Text) (k : Text) (xs : List X) → AllAre key k (take (run_of key k xs) xs)
run_are key k [] = tt
run_are key k (x ∷ xs) = run_are_by (same (key x) k) key k x xs refl (run_are key k xs)

after_above_by : {X : Type 0} (b : Bool) (key : X → Text) (k : Text) (x : X) (xs : List X) → same (key x) k ≡ b
    → AtLeast key k (x ∷ xs) → Ascends key (x ∷ xs) → Above key k (drop (run_of key k xs) xs)
    → Above key k (drop (cond b (run_of key k xs + 1) 0) (x ∷ xs))
after_above_by {X} true key k x xs e at up above =
    let n = run_of key k xs in
    let next : suc n ≡ n + 1 = omega arith in
    subst (λ (m : ℕ). Above key k (drop m (x ∷ xs))) next above
after_above_by false key k x xs e at up above =
    let less = less_unless_same k (key x) at.0 e in
    (less, above_after key k (key x) xs less (at_least_first key x xs up))

pub after_above : {X : Type 0} (key : X → Text) (k : Text) (xs : List X) → AtLeast key k xs → Ascends key xs
    → Above key k (drop (run_of key k xs) xs)
after_above key k [] at up = tt
after_above key k (x ∷ xs) at up = after_above_by (same (key x) k) key k x xs refl at
    up (after_above key k xs at.1 (ascends_tail key x xs up))

-- ---- a stable sort keeps the groups

filter_alike : {X : Type 0} (p q : X → Bool) (xs : List X) → ((x : X) → p x ≡ q x) → filter p xs ≡ filter q xs
filter_alike p q [] e = refl
filter_alike {X} p q (x ∷ xs) e =
    ap (λ (b : Bool). cond b (x ∷ filter p xs) (filter p xs)) (e x) ∙ ap (λ (ys : List X). cond (q x) (x ∷ ys) ys)
    (filter_alike p q xs e)

neither : (o : Ordering) → not (is_lt o) && not (is_lt (ordering_reverse o)) ≡ is_eq (ordering_reverse o)
neither Less = refl
neither Equal = refl
neither Greater = refl

ties_same : {X : Type 0} (key : X → Text) (x y : X) → ties (key_lt key) x y ≡ same (key y) (key x)
ties_same key x y =
    let back = nat_list_cmp_total.antisymm (key y) (key x) in
    ap (λ (o : Ordering). not (is_lt (text_cmp (key x) (key y))) && not (is_lt o)) back
    ∙ neither (text_cmp (key x) (key y))
    ∙ sym (texts_ties (key y) (key x) ∙ ap is_eq back)

under_stable : {X : Type 0} (key : X → Text) (xs ys : List X) → IsStableBy (key_lt key) xs ys → (x : X)
    → under key (key x) ys ≡ under key (key x) xs
under_stable key xs ys stable x =
    sym (filter_alike (ties (key_lt key) x) (λ y. same (key y) (key x)) ys (ties_same key x))
    ∙ stable x
    ∙ filter_alike (ties (key_lt key) x) (λ y. same (key y) (key x)) xs (ties_same key x)

key_is : {X : Type 0} (key : X → Text) (xs : List X) (t : Text) → Has (map key xs) t → (x : X) × (t ≡ key x)
key_is key [] t has = absurd has
key_is key (x ∷ xs) t (inl is) = (x, is)
key_is key (x ∷ xs) t (inr has) = key_is key xs t has

-- some element stands under a key that is there, and only under such a key
abbrev Some_of : {X : Type 0} → List X → Type 0
Some_of [] = ⊥
Some_of (x ∷ xs) = Unit {0}

has_some_by : {X : Type 0} (b : Bool) (key : X → Text) (t : Text) (x : X) (xs : List X) → same (key x) t ≡ b
    → Has (map key (x ∷ xs)) t → (Has (map key xs) t → Some_of (under key t xs))
    → Some_of (cond b (x ∷ under key t xs) (under key t xs))
has_some_by true key t x xs e has more = tt
has_some_by false key t x xs e (inl is) more = let yes : same (key x) t ≡ true = ap (same (key x)) is
    ∙ same_itself (key x) in absurd cc
has_some_by false key t x xs e (inr has) more = more has

has_some : {X : Type 0} (key : X → Text) (xs : List X) (t : Text) → Has (map key xs) t → Some_of (under key t xs)
has_some key [] t has = absurd has
has_some key (x ∷ xs) t has = has_some_by (same (key x) t) key t x xs refl has (has_some key xs t)

some_has_by : {X : Type 0} (b : Bool) (key : X → Text) (t : Text) (x : X) (xs : List X) → same (key x) t ≡ b
    → (Some_of (under key t xs) → Has (map key xs) t) → Some_of (cond b (x ∷ under key t xs) (under key t xs))
    → Has (map key (x ∷ xs)) t
some_has_by true key t x xs e more some = inl (sym (same_text (key x) t (sym e)))
some_has_by false key t x xs e more some = inr (more some)

some_has : {X : Type 0} (key : X → Text) (xs : List X) (t : Text) → Some_of (under key t xs) → Has (map key xs) t
some_has key [] t some = absurd some
some_has key (x ∷ xs) t some = some_has_by (same (key x) t) key t x xs refl (some_has key xs t) some

keys_within : {X : Type 0} (key : X → Text) (xs ys : List X) → ((x : X) → under key (key x) xs ≡ under key (key x) ys)
    → Within (map key xs) (map key ys)
keys_within {X} key xs ys alike t has =
    let (x, is) = key_is key xs t has in
    let there : under key t xs ≡ under key t ys = subst (λ (u : Text). under key u xs ≡ under key u ys) (sym is)
    (alike x) in
    some_has key ys t (subst Some_of there (has_some key xs t has))

-- the groups of a list are those of the list sorted
pub sorted_groups : {X : Type 0} (key : X → Text) (xs ys : List X) → IsStableBy (key_lt key) xs ys
    → groups_by key ys ≡ groups_by key xs
sorted_groups {X} key xs ys stable =
    let alike : (x : X) → under key (key x) ys ≡ under key (key x) xs = under_stable key xs ys stable in
    let back : (x : X) → under key (key x) xs ≡ under key (key x) ys = λ x. sym (alike x) in
    let keys : ascending (map key ys) ≡ ascending (map key xs) = ascending_same (map key ys) (map key xs)
    (keys_within key ys xs alike) (keys_within key xs ys back) in
    map_alike (λ t. under key t ys) (λ t. under key t xs) (ascending (map key ys)) (λ t has.
    let x = key_is key ys t (ascending_has (map key ys) t has) in
    subst (λ (u : Text). under key u ys ≡ under key u xs) (sym x.1) (alike x.0))
    ∙ ap (map (λ t. under key t xs)) keys

pub key_lt_order : {X : Type 0} (key : X → Text) → IsStrictWeakOrder (key_lt key)
key_lt_order key = record {
  one_way = λ x y less. one_way_by (text_cmp (key x) (key y)) (key x) (key y) refl less;
  chain = λ x y z a b. chain_by (key x) (key y) (key z) a b;
}
  where
    one_way_by : (o : Ordering) (s t : Text) → text_cmp s t ≡ o → is_lt o ≡ true → is_lt (text_cmp t s) ≡ false
    one_way_by Less s t e less = ap is_lt (nat_list_cmp_total.antisymm t s ∙ ap ordering_reverse e)
    one_way_by Equal s t e less = absurd cc
    one_way_by Greater s t e less = absurd cc

    turned_gt : (o : Ordering) → is_lt (ordering_reverse o) ≡ is_gt o
    turned_gt Less = refl
    turned_gt Equal = refl
    turned_gt Greater = refl

    as_gt : (s t : Text) → is_lt (text_cmp s t) ≡ is_gt (text_cmp t s)
    as_gt s t = ap is_lt (nat_list_cmp_total.antisymm s t) ∙ turned_gt (text_cmp t s)

    chain_by : (s t u : Text) → is_lt (text_cmp s t) ≡ false → is_lt (text_cmp t u) ≡ false
        → is_lt (text_cmp s u) ≡ false
    chain_by s t u a b = as_gt s u ∙ upto nat_list_cmp_total u t s (sym (as_gt t u) ∙ b) (sym (as_gt s t) ∙ a)

pub ascends_drop : {X : Type 0} (key : X → Text) (n : ℕ) (xs : List X) → Ascends key xs → Ascends key (drop n xs)
ascends_drop key zero xs up = up
ascends_drop key (suc n) [] up = up
ascends_drop key (suc n) (x ∷ xs) up = ascends_drop key n xs (ascends_tail key x xs up)

-- one group more, at the front of what is left
pub record Step {X : Type 0} (key : X → Text) (n : ℕ) (xs : List X) : Type 0 where
  pub more : 0 < n
  pub first : groups_by key xs ≡ take n xs ∷ groups_by key (drop n xs)
  pub up : Ascends key (drop n xs)

step_by : {X : Type 0} (key : X → Text) (k : Text) (x : X) (xs : List X) (n : ℕ) → key x ≡ k
    → run_of key k (x ∷ xs) ≡ suc n → Ascends key (x ∷ xs) → Step key (suc n) (x ∷ xs)
step_by {X} key k x xs n is runs up =
    let are : AllAre key k (x ∷ take n xs) = subst (λ (m : ℕ). AllAre key k (take m (x ∷ xs)))
    runs (run_are key k (x ∷ xs)) in
    let at : AtLeast key k (x ∷ xs) = (
      ap (λ (t : Text). is_gt (text_cmp k t)) is ∙ not_above_itself k,
      subst (λ (t : Text). AtLeast key t xs) is (at_least_first key x xs up),
    ) in
    let above : Above key k (drop n xs) = subst (λ (m : ℕ). Above key k (drop m (x ∷ xs)))
    runs (after_above key k (x ∷ xs) at up) in
    record {
      more = omega arith;
      first = ap (λ (zs : List X). groups_by key (x ∷ zs)) (sym (take-append-drop n xs)) ∙ run_is_group key k
          x (take n xs) (drop n xs) is are.1 above;
      up = ascends_drop key (suc n) (x ∷ xs) up;
    }

run_suc : {X : Type 0} (key : X → Text) (k : Text) (x : X) (xs : List X) → key x ≡ k → run_of key k (x ∷ xs) ≡ suc
    (run_of key k xs)
run_suc key k x xs is =
    let test : same (key x) k ≡ true = ap (λ (t : Text). same t k) is ∙ same_itself k in
    let next : run_of key k xs + 1 ≡ suc (run_of key k xs) = omega arith in
    rw test next

pub group_step : {X : Type 0} (key : X → Text) (k : Text) (x : X) (xs : List X) (n : ℕ) → 0 < length xs
    → x ≡ get_or xs 0 x → k ≡ key x → n ≡ run_of key k xs → Ascends key xs → Step key n xs
group_step key k x [] n some first is runs up = absurd (omega arith)
group_step {X} key k x (y ∷ xs) n some first is runs up =
    let here : key y ≡ k = sym (is ∙ ap key first) in
    subst (λ (m : ℕ). Step key m (y ∷ xs)) (sym (runs ∙ run_suc key k y xs here)) (step_by key k y xs (run_of key k xs)
    here (run_suc key k y xs here) up)

pub run_from_step : {X : Type 0} (key : X → Text) (n : ℕ) (xs : List X) → n ≤ length xs → Step key n xs
    → IsRun key (take n xs) xs
run_from_step {X} key n xs within step =
    let long : n ≡ length (take n xs) = omega (arith, length-take n xs) in
    let P : ℕ → Type 0 = λ m. (0 < m) × (take n xs ≡ take m xs) × (m ≤ length xs)
    × (groups_by key xs ≡ take n xs ∷ groups_by key (drop m xs)) × Ascends key (drop m xs) in
    let parts : P (length (take n xs)) = subst P long (step.more, refl, within, step.first, step.up) in
    record { some = parts.0; front = parts.1; within = parts.2; group = parts.3; up = parts.4 }

-- a group more is done
pub next_group : {X : Type 0} (key : X → Text) (done all_groups : List (List X)) (start : ℕ) (run all : List X)
    → done ++ groups_by key (drop start all) ≡ all_groups → IsRun key run (drop start all) → (done ++ run ∷ [])
    ++ groups_by key (drop (start + length run) all) ≡ all_groups
next_group {X} key done all_groups start run all so_far is =
    append_assoc done (run ∷ []) (groups_by key (drop (start + length run) all))
    ∙ ap (λ (ys : List X). done ++ (run ∷ groups_by key ys)) (sym (drop-drop (length run) start all))
    ∙ ap (λ (gs : List (List X)). done ++ gs) (sym is.group)
    ∙ so_far

-- the same where the rest of a slice is what is left of it
pub rest_run : {X : Type 0} (key : X → Text) (start : ℕ) (run all : List X) → start ≤ length all
    → IsRun key run (take (length all - start) (drop start all)) → IsRun key run (drop start all)
rest_run {X} key start run all within is =
    let whole : take (length all - start) (drop start all) ≡ drop start all = take_all (length all - start)
    (drop start all) (omega (arith, length-drop start all)) in
    subst (λ (ys : List X). IsRun key run ys) whole is
