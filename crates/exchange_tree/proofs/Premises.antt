-- The premise of a step, from pairs of texts that SHA-256 tells apart.
use Rattle.std.proofs.Common.{inl, inr, ◌≡◌, ℕ, zero, suc, ◌+◌, ◌*◌, ◌<◌, ◌≤◌, List, [], ◌∷◌, ◌++◌, Bool, true, false}
use Rattle.std.proofs.Common.{Option, Some, None, length, get_or, take, drop, refl, sym, ap, subst, ◌∙◌, arith}
use Rattle.std.proofs.Common.{eqb, length-append}
use Rattle.std.proofs.lemmas.Bool.{false≢true, eqb-true}
use Rattle.std.proofs.lemmas.List.{take_at, drop_at}
use Rattle.std.proofs.lemmas.List.Kept.{IsStrictlySortedBy-filter}
use Rattle.std.specs.Prelude.{◌/◌, ◌%◌, nat_lt}
use Rattle.std.specs.Ordering.{nat_cmp}
use Rattle.std.specs.declared.cmp.Ordering.TheVariants.{Less}
use Rattle.std.specs.List.{flat_map, range_with_len, AllByRecursion}
use Rattle.std.specs.List.Sorted.{IsStrictlySortedBy}
use Rattle.sha2.specs.Sha256.{sha256}
use Rattle.sha2.proofs.Facts256.{length-sha256}
use Rattle.octets.specs.Members.{Has}
use Rattle.octets.specs.Texts.{text_cmp}
use Rattle.octets.proofs.TextLemmas.{same_ascending, ascends_from_sorted}
use Rattle.exchange_frames.specs.Spelling.{digests_text, AreDigests}
use Rattle.exchange_frames.specs.Reading.{cut}
use Rattle.exchange_frames.proofs.Lists.{cut_again}
use Rattle.exchange_tree.specs.declared.nodes.TheConstants.{CHILD_COUNT, PLACE_COUNT}
use Rattle.exchange_tree.specs.Nodes.{begins, digits_of, is_beneath, beneath, child, IsDigest}
use Rattle.exchange_tree.specs.Sums.{node_of, place_text, all_places, kept_of, sum_if_any, told, places_beneath}
use Rattle.exchange_tree.specs.Sums.{hashed}
use Rattle.exchange_tree.specs.Premise.{AreDigestsInOrder, AreTold, HashesTell, ToldHashesTell}
use Rattle.exchange_tree.specs.Taking.{place_of}
use Rattle.exchange_tree.proofs.Beginnings.{both_true, and_true, begins_less}
use Rattle.exchange_tree.proofs.Lists.{has_kept, kept_has, kept_passes, range_has}
use Rattle.exchange_tree.proofs.Places.{hashed_upper, hashed_lower}
use Rattle.exchange_tree.proofs.Takings.{taken_in_place}

-- ---- digests in a text

text_long : (ds : List (List ℕ)) → AreDigests ds → length (digests_text ds) ≡ 32 * length ds
text_long [] are = refl
text_long (d ∷ ds) are =
    let rest = text_long ds are.1 in
    let first : length d ≡ 32 = are.0 in
    omega (arith, length-append d (digests_text ds), rest, first)

one_text : (xs ys : List (List ℕ)) → AreDigests xs → AreDigests ys → digests_text xs ≡ digests_text ys → xs ≡ ys
one_text xs ys are too e =
    let long : length xs ≡ length ys = omega (arith, text_long xs are, text_long ys too, ap length e) in
    sym (cut_again xs are) ∙ ap (λ t. cut (length xs) t) e ∙ ap (λ n. cut n (digests_text ys)) long
    ∙ cut_again ys too

all_digests : (ds : List (List ℕ)) → ((d : List ℕ) → Has ds d → IsDigest d) → AreDigests ds
all_digests [] each = tt
all_digests (d ∷ ds) each = ((each d (inl refl)).long, all_digests ds (λ x h. each x (inr h)))

beneath_digests : (node : List ℕ) (ds : List (List ℕ)) → AreDigestsInOrder ds → AreDigests (beneath node ds)
beneath_digests node ds are =
    all_digests (beneath node ds) (λ d h. are.each d (kept_has (is_beneath node) ds d h))

-- digests of one kept sum are one list
one_sum : (xs ys : List (List ℕ)) → AreDigests xs → AreDigests ys → AreTold (digests_text xs) (digests_text ys)
    → sum_if_any xs ≡ sum_if_any ys → xs ≡ ys
one_sum [] [] are too tell e = refl
one_sum [] (y ∷ ys) are too tell e = absurd (let clash : None ≡ Some (sha256 (digests_text (y ∷ ys))) = e in cc)
one_sum (x ∷ xs) [] are too tell e = absurd (let clash : Some (sha256 (digests_text (x ∷ xs))) ≡ None = e in cc)
one_sum (x ∷ xs) (y ∷ ys) are too tell e =
    let sums : Some (sha256 (digests_text (x ∷ xs))) ≡ Some (sha256 (digests_text (y ∷ ys))) = e in
    let same : sha256 (digests_text (x ∷ xs)) ≡ sha256 (digests_text (y ∷ ys)) = cc in
    one_text (x ∷ xs) (y ∷ ys) are too (tell same)

-- ---- kept sums in a text

AllLong : (ℕ → Option (List ℕ)) → Type 0
AllLong f = (p : ℕ) (s : List ℕ) → f p ≡ Some s → length s ≡ 32

kept_long : (ds : List (List ℕ)) (s : List ℕ) → sum_if_any ds ≡ Some s → length s ≡ 32
kept_long [] s e = absurd (let clash : None ≡ Some s = e in cc)
kept_long (d ∷ ds) s e =
    let sums : Some (sha256 (digests_text (d ∷ ds))) ≡ Some s = e in
    let same : sha256 (digests_text (d ∷ ds)) ≡ s = cc in
    ap length (sym same) ∙ length-sha256 (digests_text (d ∷ ds))

abbrev texts : (ℕ → Option (List ℕ)) → List ℕ → List ℕ
texts f ps = flat_map (λ p. told p (f p)) ps

apart : (p q : ℕ) → nat_cmp p q ≡ Less → q / 256 ≡ p / 256 → q % 256 ≡ p % 256 → ⊥
apart p q less high low =
    let same : q ≡ p = omega (arith, high, low) in
    let clash : nat_cmp p p ≡ Less = subst (λ k. nat_cmp p k ≡ Less) same less in
    grind (arith, clash)

-- a text of later places does not begin with this one
not_first : (f : ℕ → Option (List ℕ)) (p : ℕ) (ps x : List ℕ) → AllByRecursion (λ q. nat_cmp p q ≡ Less) ps
    → texts f ps ≡ place_text p ++ x → ⊥
not_first f p [] x above e = let clash : [] ≡ p / 256 ∷ p % 256 ∷ x = e in absurd cc
not_first f p (q ∷ ps) x above e = by (f q) e (not_first f p ps x above.1)
  where
    by : (a : Option (List ℕ)) → told q a ++ texts f ps ≡ place_text p ++ x → (texts f ps ≡ place_text p ++ x → ⊥) → ⊥
    by None e rest = rest e
    by (Some s) e rest =
        apart p q above.0 (ap (λ l. get_or l 0 0) e) (ap (λ l. get_or l 1 0) e)

first_told : (p : ℕ) (a b : Option (List ℕ)) (xs ys : List ℕ) → ((s : List ℕ) → a ≡ Some s → length s ≡ 32)
    → ((s : List ℕ) → b ≡ Some s → length s ≡ 32) → ((x : List ℕ) → xs ≡ place_text p ++ x → ⊥)
    → ((x : List ℕ) → ys ≡ place_text p ++ x → ⊥) → told p a ++ xs ≡ told p b ++ ys → (a ≡ b) × (xs ≡ ys)
first_told p None None xs ys long too none not e = (refl, e)
first_told p None (Some t) xs ys long too none not e = absurd (none (t ++ ys) e)
first_told p (Some s) None xs ys long too none not e = absurd (not (s ++ xs) (sym e))
first_told p (Some s) (Some t) xs ys long too none not e =
    let rest : s ++ xs ≡ t ++ ys = ap (drop 2) e in (
      ap (λ k. Some k) (sym (take_at s xs 32 (long s refl)) ∙ ap (take 32) rest ∙ take_at t ys 32 (too t refl)),
      sym (drop_at s xs 32 (long s refl)) ∙ ap (drop 32) rest ∙ drop_at t ys 32 (too t refl),
    )

-- a text of kept sums is read in one way
read_once : (f g : ℕ → Option (List ℕ)) (ps : List ℕ) → AllLong f → AllLong g → IsStrictlySortedBy nat_cmp ps
    → texts f ps ≡ texts g ps → (p : ℕ) → Has ps p → f p ≡ g p
unfolding AllLong IsStrictlySortedBy
read_once f g [] long too sorted e p h = absurd h
read_once f g (q ∷ ps) long too sorted e p h =
    by (first_told q (f q) (g q) (texts f ps) (texts g ps) (long q) (too q) (λ x. not_first f q ps x sorted.0)
    (λ x. not_first g q ps x sorted.0) e) h (read_once f g ps long too sorted.1)
  where
    by : ((f q ≡ g q) × (texts f ps ≡ texts g ps)) → Has (q ∷ ps) p
        → (texts f ps ≡ texts g ps → (p : ℕ) → Has ps p → f p ≡ g p) → f p ≡ g p
    by both (inl at) rest = ap f at ∙ both.0 ∙ ap g (sym at)
    by both (inr h) rest = rest both.1 p h

-- ---- places ascend

range_above : (n a b : ℕ) → a < b → AllByRecursion (λ y. nat_cmp a y ≡ Less) (range_with_len b n)
range_above zero a b lt = tt
range_above (suc n) a b lt =
    let less : nat_cmp a b ≡ Less = grind (arith, lt) in (less, range_above n a (b + 1) (omega (arith, lt)))

range_sorted : (n a : ℕ) → IsStrictlySortedBy nat_cmp (range_with_len a n)
unfolding IsStrictlySortedBy
range_sorted zero a = tt
range_sorted (suc n) a = (range_above n a (a + 1) (omega arith), range_sorted n (a + 1))

places_sorted : (n : ℕ) → n ≡ PLACE_COUNT → IsStrictlySortedBy nat_cmp all_places
unfolding all_places
places_sorted n e = subst (λ m. IsStrictlySortedBy nat_cmp (range_with_len 0 m)) e (range_sorted n 0)

all_has : (n p : ℕ) → n ≡ PLACE_COUNT → p < n → Has all_places p
unfolding all_places
all_has n p e lt = subst (λ m. Has (range_with_len 0 m) p) e (range_has n 0 p (omega arith) (omega (arith, lt)))

-- ---- a node that is a front of another

begins_both : (node more digits : List ℕ) → length node ≤ length more → begins node digits ≡ true
    → begins more digits ≡ true → begins node more ≡ true
begins_both [] more digits le e f = refl
begins_both (n ∷ ns) [] digits le e f = absurd (omega (arith, le))
begins_both (n ∷ ns) (m ∷ ms) [] le e f = absurd (false≢true e)
begins_both (n ∷ ns) (m ∷ ms) (d ∷ ds) le e f =
    let mine = both_true (eqb d n) (begins ns ds) e in
    let other = both_true (eqb d m) (begins ms ds) f in
    let same : m ≡ n = sym (eqb-true d m other.0) ∙ eqb-true d n mine.0 in
    let at : eqb m n ≡ true = grind (arith, same) in
    and_true (eqb m n) (begins ns ms) at (begins_both ns ms ds (omega (arith, le)) mine.1 other.1)

-- ---- the premise

module _ (own theirs : List (List ℕ)) (node : List ℕ) (mine : AreDigestsInOrder own) (other : AreDigestsInOrder theirs)
    (tell : HashesTell own theirs node) where
  below : (digit : ℕ) → digit < CHILD_COUNT → 4 ≤ length (child node digit)
      → hashed own (child node digit) ≡ hashed theirs (child node digit)
      → beneath (child node digit) own ≡ beneath (child node digit) theirs
  below digit lt le e =
      one_text (beneath (child node digit) own) (beneath (child node digit) theirs)
      (beneath_digests (child node digit) own mine) (beneath_digests (child node digit) theirs other)
      (hashed_lower own (child node digit) le ∙ e ∙ sym (hashed_lower theirs (child node digit) le))

  -- the kept sums of each place beneath the child are equal
  kept_same : (c : List ℕ) → length c < 4 → hashed own c ≡ hashed theirs c
      → (p : ℕ) → Has (places_beneath c) p → kept_of own p ≡ kept_of theirs p
  unfolding AllLong
  kept_same c lt e p h =
      read_once (kept_of own) (kept_of theirs) (places_beneath c)
      (λ q s is. kept_long (beneath (node_of q) own) s is) (λ q s is. kept_long (beneath (node_of q) theirs) s is)
      (IsStrictlySortedBy-filter nat_cmp (λ q. begins c (node_of q)) all_places (places_sorted 65536 refl))
      (hashed_upper own c lt ∙ e ∙ sym (hashed_upper theirs c lt)) p h

  place_same : (digit p : ℕ) → length (child node digit) < 4 → hashed own (child node digit)
      ≡ hashed theirs (child node digit) → p < 65536 → begins (child node digit) (node_of p) ≡ true
      → beneath (node_of p) own ≡ beneath (node_of p) theirs
  place_same digit p lt e small under =
      one_sum (beneath (node_of p) own) (beneath (node_of p) theirs) (beneath_digests (node_of p) own mine)
      (beneath_digests (node_of p) theirs other)
      (tell.places p (let long = length-append node (digit ∷ []) in omega (arith, lt, long)) small
      (begins_less node (digit ∷ []) (node_of p) under))
      (kept_same (child node digit) lt e p
      (has_kept (λ q. begins (child node digit) (node_of q)) all_places p (all_has 65536 p refl small) under))

-- what is beneath a node of some places in one set is in another that is equal in each place
there_too : (c : List ℕ) (own theirs : List (List ℕ)) → AreDigestsInOrder own → length c < 4
    → ((p : ℕ) → p < 65536 → begins c (node_of p) ≡ true → beneath (node_of p) own ≡ beneath (node_of p) theirs)
    → (d : List ℕ) → Has (beneath c own) d → Has (beneath c theirs) d
there_too c own theirs mine lt same d h =
    let has = kept_has (is_beneath c) own d h in
    let under = kept_passes (is_beneath c) own d h in
    let is = mine.each d has in
    let at = taken_in_place.own d is in
    let equal = same (place_of d) (taken_in_place.bound d is)
    (begins_both c (node_of (place_of d)) (digits_of d) (omega (arith, lt)) under at) in
    let found = subst (λ ds. Has ds d) equal (has_kept (is_beneath (node_of (place_of d))) own d has at) in
    has_kept (is_beneath c) theirs d (kept_has (is_beneath (node_of (place_of d))) theirs d found) under

sorted_beneath : (c : List ℕ) (ds : List (List ℕ)) → AreDigestsInOrder ds → IsStrictlySortedBy text_cmp (beneath c ds)
sorted_beneath c ds are = IsStrictlySortedBy-filter text_cmp (is_beneath c) ds are.ascending

pub told_hashes_tell : ToldHashesTell
told_hashes_tell own theirs node mine other tell digit lt sums =
    by (nat_lt (length (child node digit)) 4) refl
  where
    e : hashed own (child node digit) ≡ hashed theirs (child node digit)
    e = tell.children digit lt sums

    by : (b : Bool) → nat_lt (length (child node digit)) 4 ≡ b
        → beneath (child node digit) own ≡ beneath (child node digit) theirs
    by false at = below own theirs node mine other tell digit lt (grind (arith, at)) e
    by true at =
        let low : length (child node digit) < 4 = grind (arith, at) in
        let same = λ (p : ℕ). place_same own theirs node mine other tell digit p low e in
        same_ascending (beneath (child node digit) own) (beneath (child node digit) theirs)
        (ascends_from_sorted _ (sorted_beneath (child node digit) own mine))
        (ascends_from_sorted _ (sorted_beneath (child node digit) theirs other))
        (there_too (child node digit) own theirs mine low (λ p small under. same p small under))
        (there_too (child node digit) theirs own other low (λ p small under. sym (same p small under)))
