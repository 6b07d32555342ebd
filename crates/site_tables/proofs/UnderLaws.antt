-- What lies under a UID stays in a stable sort, and stands between two partition points.
use Rattle.std.proofs.Common.{◌≡◌, ℕ, zero, suc, ◌+◌, ◌-◌, ◌≤◌, Bool, true, false, cond, List, [], ◌∷◌, ◌++◌}
use Rattle.std.proofs.Common.{length, take, drop}
use Rattle.std.proofs.Common.{map, refl, sym, ap, subst, ◌∙◌, arith, not, ltb, Result, Ok, Err, OnOk, IfOk}
use Rattle.std.specs.Prelude.{◌&&◌}
use Rattle.std.specs.List.{filter, AllWithin, All}
use Rattle.std.specs.List.Sorted.{IsSortedBy, IsStableBy, IsPartitionedBy, IsPartitionPoint, IsNonDecreasingBy, ties}
use Rattle.std.specs.Ordering.{is_eq, is_lt, is_le, ordering_reverse, ordering_index}
use Rattle.std.specs.declared.cmp.Ordering.{Ordering}
use Rattle.std.specs.declared.cmp.Ordering.TheVariants.{Less, Equal, Greater}
use Rattle.std.specs.Cmp.{IsStrictWeakOrder}
use Rattle.std.specs.Cmp.Lexicographic.{nat_list_cmp_total, texts_ties}
use Rattle.std.proofs.lemmas.Bool.{ltb-true, ltb-false, false≢true, true≢false}
use Rattle.std.proofs.lemmas.List.{drop-take, map-append}
use Rattle.std.proofs.lemmas.List.MinMax.{ranks_by}
use Rattle.std.proofs.lemmas.List.Sorted.{searchable_from_sorted}
use Rattle.std.proofs.lemmas.List.Elements.{filter_passes, filter-append}
use Rattle.octets.specs.Texts.{same, text_cmp}
use Rattle.site_tables.specs.declared.under.Under.{Under}
use Rattle.site_tables.specs.Under.{pair_of, pairs, is_at, held_under, AreInOrder, Holds}
use Rattle.octets.proofs.TextLemmas.{tied_texts}

-- ---- by a text of each

-- whether x stands before y
abbrev pub is_before : {X : Type 0} → (X → List ℕ) → X → X → Bool
is_before text x y = is_lt (text_cmp (text x) (text y))

pub before_order : {X : Type 0} (text : X → List ℕ) → IsStrictWeakOrder (is_before text)
before_order text = ranks_by nat_list_cmp_total text

neither : (o : Ordering) → (not (is_lt (ordering_reverse o)) && not (is_lt o)) ≡ is_eq o
neither Less = refl
neither Equal = refl
neither Greater = refl

-- of two that tie the texts are the same
tied : {X : Type 0} (text : X → List ℕ) (x y : X) → ties (is_before text) x y ≡ same (text y) (text x)
tied text x y =
    ap (λ (o : Ordering). not (is_lt o) && not (is_lt (text_cmp (text y) (text x))))
    (nat_list_cmp_total.antisymm (text x) (text y)) ∙ neither (text_cmp (text y) (text x))
    ∙ sym (texts_ties (text y) (text x))

pub filter_each : {X : Type 0} (p q : X → Bool) → ((x : X) → p x ≡ q x) → (xs : List X) → filter p xs ≡ filter q xs
filter_each p q e [] = refl
filter_each {X} p q e (x ∷ xs) =
    ap (λ (b : Bool). cond b (x ∷ filter p xs) (filter p xs)) (e x) ∙ ap (λ (ys : List X). cond (q x) (x ∷ ys) ys)
    (filter_each p q e xs)

pub filter_of_map : {X Y : Type 0} (f : X → Y) (p : Y → Bool) (xs : List X)
    → filter p (map f xs) ≡ map f (filter (λ x. p (f x)) xs)
filter_of_map f p [] = refl
filter_of_map {X} {Y} f p (x ∷ xs) = by (p (f x)) (filter_of_map f p xs)
  where
    by : (b : Bool) → filter p (map f xs) ≡ map f (filter (λ x. p (f x)) xs)
        → cond b (f x ∷ filter p (map f xs)) (filter p (map f xs))
        ≡ map f (cond b (x ∷ filter (λ x. p (f x)) xs) (filter (λ x. p (f x)) xs))
    by true rest = ap (λ (ys : List Y). f x ∷ ys) rest
    by false rest = rest

-- a stable sort by a text leaves those of one text in their order
pub stays : {X : Type 0} (text : X → List ℕ) (uid : List ℕ) (xs ys : List X) → IsStableBy (is_before text) xs ys
    → filter (λ x. same (text x) uid) ys ≡ filter (λ x. same (text x) uid) xs
stays {X} text uid xs ys stable = by (filter is xs) (filter is ys) refl refl
  where
    is : X → Bool
    is x = same (text x) uid

    from : (z : X) → is z ≡ true → filter is ys ≡ filter is xs
    from z has =
        let alike : (x : X) → ties (is_before text) z x ≡ is x =
        λ x. tied text z x ∙ ap (λ (t : List ℕ). same (text x) t) (tied_texts (text z) uid has)
        in
        sym (filter_each (ties (is_before text) z) is alike ys) ∙ stable z
        ∙ filter_each (ties (is_before text) z) is alike xs

    heads : (zs us : List X) (z : X) → filter is zs ≡ z ∷ us → is z ≡ true
    heads zs us z e = subst (λ (fs : List X). All (λ x. is x ≡ true) fs) e (filter_passes is zs) zero z (omega arith)

    by : (us vs : List X) → filter is xs ≡ us → filter is ys ≡ vs → filter is ys ≡ filter is xs
    by [] [] e f = f ∙ sym e
    by [] (z ∷ vs) e f = from z (heads ys vs z f)
    by (z ∷ us) vs e f = from z (heads xs us z e)

-- what passes a test stands between two places, before and behind which nothing does
pub between : {X : Type 0} (p : X → Bool) (xs : List X) (i n j : ℕ) → j ≡ i + n → j ≤ length xs
    → AllWithin (λ x. p x ≡ false) xs 0 i → AllWithin (λ x. p x ≡ true) xs i j
    → AllWithin (λ x. p x ≡ false) xs j (length xs) → take n (drop i xs) ≡ filter p xs
between p [] zero zero j is end before here behind = refl
between p [] zero (suc n) j is end before here behind = absurd (omega arith)
between p [] (suc i) n j is end before here behind = absurd (omega arith)
between {X} p (x ∷ xs) zero zero j is end before here behind =
    between p xs zero zero 0 (omega arith) (omega arith) (λ k d low high. absurd (omega (arith, low, high)))
    (λ k d low high. absurd (omega (arith, low, high)))
    (λ k d low high. behind (suc k) d (omega arith) (omega (arith, high)))
    ∙ ap (λ (b : Bool). cond b (x ∷ filter p xs) (filter p xs)) (sym (behind zero x (omega arith) (omega arith)))
between {X} p (x ∷ xs) zero (suc n) j is end before here behind =
    ap (λ (ys : List X). x ∷ ys)
    (between p xs zero n n (omega arith) (omega arith) (λ k d low high. absurd (omega (arith, low, high)))
    (λ k d low high. here (suc k) d (omega arith) (omega (arith, high)))
    (λ k d low high. behind (suc k) d (omega (arith, low)) (omega (arith, high))))
    ∙ ap (λ (b : Bool). cond b (x ∷ filter p xs) (filter p xs)) (sym (here zero x (omega arith) (omega arith)))
between {X} p (x ∷ xs) (suc i) n j is end before here behind =
    between p xs i n (i + n) refl (omega arith) (λ k d low high. before (suc k) d (omega arith) (omega (arith, high)))
    (λ k d low high. here (suc k) d (omega (arith, low)) (omega (arith, high)))
    (λ k d low high. behind (suc k) d (omega (arith, low)) (omega (arith, high)))
    ∙ ap (λ (b : Bool). cond b (x ∷ filter p xs) (filter p xs)) (sym (before zero x (omega arith) (omega arith)))

-- ---- by halves

rises : {X : Type 0} (text : X → List ℕ) (xs : List X) (uid : List ℕ) → IsSortedBy (is_before text) xs
    → IsNonDecreasingBy (λ x. ordering_index (text_cmp (text x) uid)) xs
rises text xs uid up = searchable_from_sorted nat_list_cmp_total text xs uid up

least : (a b : Ordering) → ordering_index a ≤ ordering_index b → is_lt b ≡ true → is_lt a ≡ true
least Less b up e = refl
least Equal Less up e = absurd (omega (arith, up))
least Equal Equal up e = e
least Equal Greater up e = e
least Greater Less up e = absurd (omega (arith, up))
least Greater Equal up e = e
least Greater Greater up e = e

most : (a b : Ordering) → ordering_index a ≤ ordering_index b → is_le b ≡ true → is_le a ≡ true
most Less b up e = refl
most Equal b up e = refl
most Greater Less up e = absurd (omega (arith, up))
most Greater Equal up e = absurd (omega (arith, up))
most Greater Greater up e = e

pub parted_before : {X : Type 0} (text : X → List ℕ) (xs : List X) (uid : List ℕ) → IsSortedBy (is_before text) xs
    → IsPartitionedBy (λ x. is_lt (text_cmp (text x) uid)) xs
parted_before text xs uid up i j d le within e = least _ _ (rises text xs uid up i j d le within) e

pub parted_up_to : {X : Type 0} (text : X → List ℕ) (xs : List X) (uid : List ℕ) → IsSortedBy (is_before text) xs
    → IsPartitionedBy (λ x. is_le (text_cmp (text x) uid)) xs
parted_up_to text xs uid up i j d le within e = most _ _ (rises text xs uid up i j d le within) e

abbrev pub IsPoint : {X : Type 0} → (X → Bool) → List X → ℕ → Type 0
IsPoint p xs i = IsPartitionPoint (λ x. p x ≡ true) (λ x. p x ≡ false) xs i

lt_le : (o : Ordering) → is_lt o ≡ true → is_le o ≡ true
lt_le Less e = refl
lt_le Equal e = absurd (false≢true e)
lt_le Greater e = absurd (false≢true e)

lt_eq : (o : Ordering) → is_lt o ≡ true → is_eq o ≡ false
lt_eq Less e = refl
lt_eq Equal e = absurd (false≢true e)
lt_eq Greater e = refl

le_eq : (o : Ordering) → is_lt o ≡ false → is_le o ≡ true → is_eq o ≡ true
le_eq Less e f = absurd (true≢false e)
le_eq Equal e f = refl
le_eq Greater e f = f

gt_eq : (o : Ordering) → is_le o ≡ false → is_eq o ≡ false
gt_eq Less e = absurd (true≢false e)
gt_eq Equal e = absurd (true≢false e)
gt_eq Greater e = refl

-- the place behind those up to a text is not before the place behind those before it
pub points_rise : {X : Type 0} (text : X → List ℕ) (xs : List X) (uid : List ℕ) (i j : ℕ) → i ≤ length xs
    → IsPoint (λ x. is_lt (text_cmp (text x) uid)) xs i → IsPoint (λ x. is_le (text_cmp (text x) uid)) xs j → i ≤ j
points_rise {X} text [] uid i j end first last = omega (arith, end)
points_rise {X} text (x ∷ xs) uid i j end first last = by (ltb j i) refl
  where
    by : (b : Bool) → ltb j i ≡ b → i ≤ j
    by true e =
        let low = ltb-true j i e in
        absurd (true≢false (sym (lt_le _ (first.0 j x (omega arith) low))
        ∙ last.1 j x (omega arith) (omega (arith, low, end))))
    by false e = ltb-false j i e

pub run_is : {X : Type 0} (text : X → List ℕ) (xs : List X) (uid : List ℕ) (i j : ℕ) → i ≤ j → j ≤ length xs
    → IsPoint (λ x. is_lt (text_cmp (text x) uid)) xs i → IsPoint (λ x. is_le (text_cmp (text x) uid)) xs j
    → drop i (take j xs) ≡ filter (λ x. same (text x) uid) xs
run_is {X} text xs uid i j up end first last =
    let whole : i + (j - i) ≡ j = omega (arith, up) in
    ap (λ (n : ℕ). drop i (take n xs)) (sym whole) ∙ drop-take i (j - i) xs
    ∙ between (λ x. same (text x) uid) xs i (j - i) j (omega (arith, up)) end
    (λ k d low high. texts_ties _ uid ∙ lt_eq _ (first.0 k d low high))
    (λ k d low high. texts_ties _ uid ∙ le_eq _ (first.1 k d low (omega (arith, high, end)))
    (last.0 k d (omega arith) high))
    (λ k d low high. texts_ties _ uid ∙ gt_eq _ (last.1 k d low high))

pub on_ok : {X E P Q : Type 0} (r : Result X E) → (P → Q) → OnOk r P → OnOk r Q
on_ok (Ok x) f p = f p
on_ok (Err e) f p = tt

pub map_of_map : {X Y Z : Type 0} (g : Y → Z) (f : X → Y) (xs : List X) → map g (map f xs) ≡ map (λ x. g (f x)) xs
map_of_map g f [] = refl
map_of_map {X} {Y} {Z} g f (x ∷ xs) = ap (λ (zs : List Z). g (f x) ∷ zs) (map_of_map g f xs)

pub if_ok : {X E : Type 0} {P Q : X → Type 0} (r : Result X E) → ((x : X) → P x → Q x) → IfOk r P → IfOk r Q
if_ok (Ok x) f p = f x p
if_ok (Err e) f p = tt

-- ---- what holds pairs

pub holds_sorted : {T : Type 0} (xs ys : List (Under T)) → AreInOrder ys
    → IsStableBy (is_before (λ (e : Under T). e.uid.now)) xs ys → Holds (pairs xs) ys
holds_sorted {T} xs ys up stable = record {
  order = up;
  each = λ uid. ap (λ (ps : List (List ℕ × T)). map (λ p. p.1) ps)
      (filter_of_map pair_of (is_at uid) ys
      ∙ ap (λ (es : List (Under T)). map pair_of es) (stays (λ (e : Under T). e.uid.now) uid xs ys stable)
      ∙ sym (filter_of_map pair_of (is_at uid) xs));
}

pub map_each : {X Y : Type 0} (f g : X → Y) → ((x : X) → f x ≡ g x) → (xs : List X) → map f xs ≡ map g xs
map_each f g e [] = refl
map_each {X} {Y} f g e (x ∷ xs) =
    ap (λ (y : Y). y ∷ map f xs) (e x) ∙ ap (λ (ys : List Y). g x ∷ ys) (map_each f g e xs)

pub held_append : {T : Type 0} (uid : List ℕ) (xs ys : List (List ℕ × T))
    → held_under uid (xs ++ ys) ≡ held_under uid xs ++ held_under uid ys
held_append {T} uid xs ys =
    ap (λ (ps : List (List ℕ × T)). map (λ p. p.1) ps) (filter-append (is_at uid) xs ys)
    ∙ map-append (λ (p : List ℕ × T). p.1) (filter (is_at uid) xs) (filter (is_at uid) ys)
