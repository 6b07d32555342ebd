-- Where an asked digest stands, and what is told of it.
use Rattle.std.proofs.Common.{◌≡◌, ◌≢◌, ℕ, zero, suc, ◌<◌, ◌≤◌, List, [], ◌∷◌, ◌++◌, Bool, true, false, cond}
use Rattle.std.proofs.Common.{Option, Some, None, Result, Ok, Err, length, get_or, replicate, refl, sym, ap, ◌∙◌}
use Rattle.std.proofs.Common.{arith, inl, inr}
use Rattle.std.specs.Prelude.{◌||◌, ◌==◌, slice_set}
use Rattle.std.specs.List.Sorted.{IsBinarySearchResult, IsSearchInRange, IsStrictlySortedBy}
use Rattle.std.specs.Map.{set_value}
use Rattle.std.specs.BTreeMap.{is_at}
use Rattle.std.specs.Option.{option_map}
use Rattle.std.specs.Ordering.{is_eq, ordering_index, ordering_reverse}
use Rattle.std.specs.Result.{result_ok}
use Rattle.std.proofs.lemmas.Map.Keys.{Less-from_sorted}
use Rattle.std.specs.declared.cmp.Ordering.{Ordering}
use Rattle.std.specs.declared.cmp.Ordering.TheVariants.{Less, Equal, Greater}
use Rattle.std.specs.Cmp.Lexicographic.{nat_list_cmp_total, texts_ties, same_text}
use Rattle.std.proofs.lemmas.List.{get_or_default}
use Rattle.std.proofs.lemmas.Bool.{cases_lt as split}
use Rattle.std.proofs.lemmas.Cmp.{is_eq_index as eq_index}
use Rattle.octets.specs.Texts.{text_cmp}
use Rattle.site_state.specs.Site.{digest_cmp}
use Rattle.exchange_frames.specs.Spelling.{ascends}
use Rattle.exchange.specs.Asked.{asked_of, place_in}
use Rattle.exchange.specs.Round.{asked_in, is_among}
use Rattle.exchange.proofs.Said.{ascends_sorted}

-- ---- comparing both ways

turned_eq : (o : Ordering) → is_eq (ordering_reverse o) ≡ is_eq o
turned_eq Less = refl
turned_eq Equal = refl
turned_eq Greater = refl

flip : (a b : List ℕ) → is_at (digest_cmp a) b ≡ is_at (text_cmp b) a
flip a b = ap is_eq (nat_list_cmp_total.antisymm a b) ∙ turned_eq (text_cmp b a)

-- ---- where a digest stands

-- what is told in a place
abbrev pub told_at : List Bool → Option ℕ → Option Bool
told_at gs place = option_map (λ i. get_or gs i false) place

later : (b : Bool) (g : Bool) (gs : List Bool) (place : Option ℕ) → (rest : Option Bool) → rest ≡ told_at gs place
    → cond b (Some g) rest ≡ told_at (g ∷ gs) (cond b (Some 0) (option_map (λ i. suc i) place))
later true g gs place rest e = refl
later false g gs None rest e = e
later false g gs (Some i) rest e = e

pub told_of : (digest : List ℕ) (ds : List (List ℕ)) (gs : List Bool) → length gs ≡ length ds
    → asked_in digest (asked_of ds gs) ≡ told_at gs (place_in digest ds)
told_of digest [] gs same = refl
told_of digest (d ∷ ds) [] same = absurd (omega (arith, same))
told_of digest (d ∷ ds) (g ∷ gs) same =
    ap (λ (b : Bool). cond b (Some g) (asked_in digest (asked_of ds gs))) (flip digest d)
    ∙ later (is_at (text_cmp d) digest) g gs (place_in digest ds) (asked_in digest (asked_of ds gs))
    (told_of digest ds gs (omega (arith, same)))

-- a place has what is told of it turned to true
abbrev pub told_then : List Bool → Option ℕ → List Bool
told_then gs None = gs
told_then gs (Some i) = slice_set gs i true

set_later : (b : Bool) (d : List ℕ) (g : Bool) (ds : List (List ℕ)) (gs : List Bool) (place : Option ℕ)
    (rest : List (List ℕ × Bool)) → rest ≡ asked_of ds (told_then gs place)
    → cond b ((d, true) ∷ asked_of ds gs) ((d, g) ∷ rest)
    ≡ asked_of (d ∷ ds) (told_then (g ∷ gs) (cond b (Some 0) (option_map (λ i. suc i) place)))
set_later true d g ds gs place rest e = refl
set_later false d g ds gs None rest e = ap (λ (es : List (List ℕ × Bool)). (d, g) ∷ es) e
set_later false d g ds gs (Some i) rest e = ap (λ (es : List (List ℕ × Bool)). (d, g) ∷ es) e

pub marked : (digest : List ℕ) (ds : List (List ℕ)) (gs : List Bool) → length gs ≡ length ds
    → set_value (is_at (digest_cmp digest)) (asked_of ds gs) true ≡ asked_of ds (told_then gs (place_in digest ds))
marked digest [] gs same = refl
marked digest (d ∷ ds) [] same = absurd (omega (arith, same))
marked digest (d ∷ ds) (g ∷ gs) same =
    ap (λ (b : Bool). cond b ((d, true) ∷ asked_of ds gs) ((d, g) ∷ set_value (is_at (digest_cmp digest))
    (asked_of ds gs) true)) (flip digest d)
    ∙ set_later (is_at (text_cmp d) digest) d g ds gs (place_in digest ds) _ (marked digest ds gs (omega (arith, same)))

one_later : (b : Bool) (place : Option ℕ) (n : ℕ) → ((i : ℕ) → place ≡ Some i → i < n)
    → (i : ℕ) → cond b (Some 0) (option_map (λ i. suc i) place) ≡ Some i → i < suc n
one_later true place n within i e = grind (arith, e)
one_later false None n within i e = absurd cc
one_later false (Some k) n within i e =
    let less : k < n = within k refl in
    let is : Some (suc k) ≡ Some i = e in
    grind (arith, less, is)

-- a place is one of the list's
pub place_within : (digest : List ℕ) (ds : List (List ℕ)) (i : ℕ) → place_in digest ds ≡ Some i → i < length ds
place_within digest [] i e = absurd cc
place_within digest (d ∷ ds) i e =
    one_later (is_at (text_cmp d) digest) (place_in digest ds) (length ds) (place_within digest ds) i e

-- ---- how it is found

pub no_place : (digest : List ℕ) (ds : List (List ℕ))
    → ((k : ℕ) (d : List ℕ) → k < length ds → is_at (text_cmp (get_or ds k d)) digest ≡ false)
    → place_in digest ds ≡ None
no_place digest [] none = refl
no_place digest (d ∷ ds) none =
    ap (λ (b : Bool). cond b (Some 0) (option_map (λ i. suc i) (place_in digest ds))) (none 0 d (omega arith))
    ∙ ap (λ (p : Option ℕ). option_map (λ i. suc i) p) (no_place digest ds
    (λ k e lt. none (suc k) e (omega (arith, lt))))

pub at_place : (digest : List ℕ) (ds : List (List ℕ)) (i : ℕ) → i < length ds
    → ((k : ℕ) (d : List ℕ) → k < i → is_at (text_cmp (get_or ds k d)) digest ≡ false)
    → ((d : List ℕ) → is_at (text_cmp (get_or ds i d)) digest ≡ true) → place_in digest ds ≡ Some i
at_place digest [] i lt none here = absurd (omega (arith, lt))
at_place digest (d ∷ ds) zero lt none here =
    ap (λ (b : Bool). cond b (Some 0) (option_map (λ i. suc i) (place_in digest ds))) (here d)
at_place digest (d ∷ ds) (suc i) lt none here =
    ap (λ (b : Bool). cond b (Some 0) (option_map (λ i. suc i) (place_in digest ds))) (none 0 d (omega arith))
    ∙ ap (λ (p : Option ℕ). option_map (λ i. suc i) p)
    (at_place digest ds i (omega (arith, lt)) (λ k e l. none (suc k) e (omega (arith, l))) here)

-- ---- more that is asked for

front_told : (b c : Bool) (rest old : Option Bool) → rest ≡ cond c (Some false) old
    → cond b (Some false) rest ≡ cond (b || c) (Some false) old
front_told true c rest old e = refl
front_told false c rest old e = e

pub more_asked : (digest : List ℕ) (want ds : List (List ℕ)) (gs : List Bool)
    → asked_in digest (asked_of (want ++ ds) (replicate (length want) false ++ gs))
    ≡ cond (is_among digest want) (Some false) (asked_in digest (asked_of ds gs))
more_asked digest [] ds gs = refl
more_asked digest (w ∷ want) ds gs =
    ap (λ (b : Bool). cond b (Some false) (asked_in digest
    (asked_of (want ++ ds) (replicate (length want) false ++ gs))))
    (flip digest w)
    ∙ front_told (is_at (text_cmp w) digest) (is_among digest want) _ _ (more_asked digest want ds gs)

-- ---- by halves

less_equal : (a b x : List ℕ) → text_cmp a b ≡ Less → text_cmp b x ≡ Equal → text_cmp a x ≡ Less
less_equal a b x less equal =
    nat_list_cmp_total.antisymm a x
    ∙ ap ordering_reverse (sym (nat_list_cmp_total.congr b x a equal) ∙ nat_list_cmp_total.antisymm b a
    ∙ ap ordering_reverse less)

most_two : (o : Ordering) → ordering_index o ≤ 2
most_two Less = omega arith
most_two Equal = omega arith
most_two Greater = omega arith

ranked_by : (a b x : List ℕ) → text_cmp a b ≡ Less → (o : Ordering) → text_cmp b x ≡ o
    → ordering_index (text_cmp a x) ≤ ordering_index (text_cmp b x)
ranked_by a b x less Less e =
    omega (arith, ap ordering_index (nat_list_cmp_total.trans a b x less e))
ranked_by a b x less Equal e = omega (arith, ap ordering_index (less_equal a b x less e))
ranked_by a b x less Greater e = omega (arith, ap ordering_index e, most_two (text_cmp a x))

ranked : (ds : List (List ℕ)) (x : List ℕ) → IsStrictlySortedBy text_cmp ds → (i j : ℕ) (d : List ℕ) → i ≤ j
    → j < length ds → ordering_index (text_cmp (get_or ds i d) x) ≤ ordering_index (text_cmp (get_or ds j d) x)
ranked ds x sorted i j d le lt = elim (split i j) [
  | inl below ↦ ranked_by (get_or ds i d) (get_or ds j d) x
      (Less-from_sorted text_cmp ds i j d sorted below lt) (text_cmp (get_or ds j d) x) refl
  | inr above ↦
      let is : i ≡ j = omega (arith, le, above) in
      rw is (omega arith)
]

pub halved : (ds : List (List ℕ)) (x : List ℕ) (r : Result ℕ ℕ) → ascends text_cmp ds ≡ true
    → IsSearchInRange r (length ds) → IsBinarySearchResult (λ y. text_cmp y x) ds r → result_ok r ≡ place_in x ds
halved ds x (Ok i) rise bound position =
    let sorted = ascends_sorted text_cmp nat_list_cmp_total ds rise in
    sym (at_place x ds i bound (λ k d lt. ap is_eq (less_equal (get_or ds k d) (get_or ds i d) x
    (Less-from_sorted text_cmp ds k i d sorted lt bound) (position d))) (λ d. ap is_eq (position d)))
halved ds x (Err i) rise bound position =
    let sorted = ascends_sorted text_cmp nat_list_cmp_total ds rise in
    let parts = position (ranked ds x sorted) in
    sym (no_place x ds (λ k d lt. elim (split k i) [
      | inl below ↦ ap is_eq (parts.0 k d (omega arith) below)
      | inr above ↦ ap is_eq (parts.1 k d above lt)
    ]))

-- ---- what is told of all

-- what was compared and is equal is here
pub is_here : (ds : List (List ℕ)) (i : ℕ) (x : List ℕ) → i < length ds → (e : List ℕ)
    → (ordering_index (text_cmp (get_or ds i e) x) == 1) ≡ true
    → (d : List ℕ) → is_at (text_cmp (get_or ds i d)) x ≡ true
is_here ds i x lt e equal d =
    ap (λ (y : List ℕ). is_eq (text_cmp y x)) (get_or_default ds i d e lt) ∙ eq_index (text_cmp (get_or ds i e) x)
    ∙ equal

same_from : (a b : List ℕ) → is_at (text_cmp a) b ≡ true → a ≡ b
same_from a b e = same_text a b (sym (texts_ties a b ∙ e))

here_later : (b : Bool) (place : Option ℕ) (x d : List ℕ) (ds : List (List ℕ)) → (b ≡ true → d ≡ x)
    → ((i : ℕ) → place ≡ Some i → (e : List ℕ) → get_or ds i e ≡ x)
    → (i : ℕ) → cond b (Some 0) (option_map (λ i. suc i) place) ≡ Some i → (e : List ℕ) → get_or (d ∷ ds) i e ≡ x
here_later true place x d ds here rest zero is e = here refl
here_later true place x d ds here rest (suc i) is e = absurd cc
here_later false None x d ds here rest i is e = absurd cc
here_later false (Some k) x d ds here rest zero is e = absurd cc
here_later false (Some k) x d ds here rest (suc i) is e = let one : k ≡ i = grind (arith, is) in rest i (ap Some one) e

-- what stands in a digest's place is the digest
pub place_is : (x : List ℕ) (ds : List (List ℕ)) (i : ℕ) → place_in x ds ≡ Some i → (e : List ℕ) → get_or ds i e ≡ x
place_is x [] i is e = absurd cc
place_is x (d ∷ ds) i is e =
    here_later (is_at (text_cmp d) x) (place_in x ds) x d ds (same_from d x) (place_is x ds) i is e

-- where none is told as not given, none is
pub none_left : (ds : List (List ℕ)) (gs : List Bool) → length gs ≡ length ds
    → ((i : ℕ) (e : List ℕ) → i < length ds → get_or gs i false ≡ false
    → asked_in (get_or ds i e) (asked_of ds gs) ≢ Some false)
    → (x : List ℕ) → asked_in x (asked_of ds gs) ≢ Some false
none_left ds gs same none x is = by (place_in x ds) refl (sym (told_of x ds gs same) ∙ is)
  where
    by : (place : Option ℕ) → place_in x ds ≡ place → told_at gs place ≡ Some false → ⊥
    by None at told = absurd cc
    by (Some i) at told =
        let not : get_or gs i false ≡ false = grind (arith, told) in
        none i x (place_within x ds i at) not
        (ap (λ (d : List ℕ). asked_in d (asked_of ds gs)) (place_is x ds i at x) ∙ is)
