-- The places beneath a node.
use Rattle.std.proofs.Common.{inl, inr, ◌≡◌, ℕ, zero, suc, ◌+◌, ◌*◌, ◌<◌, ◌≤◌, List, [], ◌∷◌, Bool, true, false, cond}
use Rattle.std.proofs.Common.{eqb, length, get_or, Option, Some, None, refl, sym, ap, ◌∙◌, arith}
use Rattle.std.proofs.lemmas.Bool.{false≢true, eqb-true}
use Rattle.std.specs.Prelude.{◌⊎◌, ◌&&◌, ◌/◌, ◌%◌, nat_lt, filter, if◌then◌else◌}
use Rattle.std.specs.List.{list_all, range_with_len, flat_map}
use Rattle.exchange_tree.specs.declared.nodes.TheConstants.{PLACE_COUNT}
use Rattle.exchange_tree.specs.Nodes.{begins, beneath}
use Rattle.exchange_tree.specs.Sums.{node_of, place_text, ArePlacesOf, places_beneath, kept_of, kept_list}
use Rattle.exchange_tree.specs.Sums.{sum_if_any, told, told_text}
use Rattle.exchange_tree.specs.Sums.{upper_text, hashed}
use Rattle.octets.specs.Bytes.{IsBytes}
use Rattle.sha2.specs.Sha256.{sha256}
use Rattle.exchange_frames.specs.Spelling.{digests_text}
use Rattle.exchange_tree.proofs.Beginnings.{both_true, and_true, digits_small}
use Rattle.exchange_tree.proofs.Orders.{three}
use Rattle.exchange_tree.proofs.Kept.{places_are, told_same, kept_at}

-- ---- a range of numbers is kept

abbrev IsKept : (ℕ → Bool) → ℕ → ℕ → Type 0
IsKept test n a = (lo count : ℕ) → a ≤ lo → lo + count ≤ a + n → ((p : ℕ) → a ≤ p → p < lo → test p ≡ false)
    → ((p : ℕ) → lo ≤ p → p < lo + count → test p ≡ true) → ((p : ℕ) → lo + count ≤ p → p < a + n → test p ≡ false)
    → filter test (range_with_len a n) ≡ range_with_len lo count

kept_range : (test : ℕ → Bool) (n a : ℕ) → IsKept test n a
kept_range test zero a lo zero low high before within behind = refl
kept_range test zero a lo (suc m) low high before within behind = absurd (omega (arith, low, high))
kept_range test (suc n) a lo count low high before within behind =
    by count (three a lo) high within behind (kept_range test n (a + 1))
  where
    by : (count : ℕ) → (a < lo) ⊎ ((a ≡ lo) ⊎ (lo < a)) → lo + count ≤ a + suc n
        → ((p : ℕ) → lo ≤ p → p < lo + count → test p ≡ true)
        → ((p : ℕ) → lo + count ≤ p → p < a + suc n → test p ≡ false) → IsKept test n (a + 1)
        → cond (test a) (a ∷ filter test (range_with_len (a + 1) n)) (filter test (range_with_len (a + 1) n))
        ≡ range_with_len lo count
    by count (inl lt) high within behind rest =
        ap (λ b. cond b (a ∷ filter test (range_with_len (a + 1) n)) (filter test (range_with_len (a + 1) n)))
        (before a (omega arith) lt)
        ∙ rest lo count (omega (arith, lt)) (omega (arith, high)) (λ p l m. before p (omega (arith, l)) m) within
        (λ p l m. behind p l (omega (arith, m)))
    by zero (inr (inl at)) high within behind rest =
        ap (λ b. cond b (a ∷ filter test (range_with_len (a + 1) n)) (filter test (range_with_len (a + 1) n)))
        (behind a (omega (arith, at)) (omega arith))
        ∙ rest (a + 1) 0 (omega arith) (omega arith) (λ p l m. absurd (omega (arith, l, m)))
        (λ p l m. absurd (omega (arith, l, m))) (λ p l m. behind p (omega (arith, at, l)) (omega (arith, m)))
    by (suc c) (inr (inl at)) high within behind rest =
        let next : a + 1 ≡ lo + 1 = omega (arith, at) in
        ap (λ b. cond b (a ∷ filter test (range_with_len (a + 1) n)) (filter test (range_with_len (a + 1) n)))
        (within a (omega (arith, at)) (omega (arith, at)))
        ∙ ap (λ ps. a ∷ ps) (rest (a + 1) c (omega arith) (omega (arith, high, at))
        (λ p l m. absurd (omega (arith, l, m)))
        (λ p l m. within p (omega (arith, at, l)) (omega (arith, at, m)))
        (λ p l m. behind p (omega (arith, at, l)) (omega (arith, m))))
        ∙ ap (λ p. p ∷ range_with_len (a + 1) c) at ∙ ap (λ k. lo ∷ range_with_len k c) next
    by count (inr (inr gt)) high within behind rest = absurd (omega (arith, low, gt))

pub not_so : (b : Bool) → (b ≡ true → ⊥) → b ≡ false
not_so true never = absurd (never refl)
not_so false never = refl

-- the places of a node are the range
pub range_of_places : (node : List ℕ) (first count n : ℕ) → n ≡ PLACE_COUNT → ArePlacesOf node first count
    → range_with_len first count ≡ places_beneath node
range_of_places node first count n e are =
    sym (ap (filter test) (sym (places_are n e))
    ∙ kept_range test n 0 first count (omega arith) (omega (arith, e, are.bound))
    (λ p l m. not_so (test p) (λ is. let found = are.only p (omega (arith, are.bound, m)) is in
    omega (arith, found.0, m)))
    are.all
    (λ p l m. not_so (test p) (λ is. let found = are.only p (omega (arith, e, m)) is in
    omega (arith, found.1, l))))
  where
    test : ℕ → Bool
    test place = begins node (node_of place)

-- ---- which places those of a node are

pub eqb_from : (a b : ℕ) → a ≡ b → eqb a b ≡ true
eqb_from a b e = grind arith

small_one : (a : ℕ) (rest : Bool) → (nat_lt a 16 && rest) ≡ true → a < 16
small_one a rest e = let small = (both_true (nat_lt a 16) rest e).0 in grind (arith, small)

abbrev pub AreDigits : List ℕ → Type 0
AreDigits node = list_all (λ d. nat_lt d 16) node ≡ true

pub places_0 : (node : List ℕ) → length node < 1 → ArePlacesOf node 0 65536
places_0 [] lt = record {
  bound = omega arith;
  all = λ p l m. refl;
  only = λ p lt e. (omega arith, omega (arith, lt));
}
places_0 (a ∷ ns) lt = absurd (omega (arith, lt))

pub places_1 : (node : List ℕ) → AreDigits node → 1 ≤ length node → length node < 2
    → ArePlacesOf node (get_or node 0 0 * 4096) 4096
places_1 [] are ge lt = absurd (omega (arith, ge))
places_1 (a ∷ []) are ge lt =
    let small = small_one a true are in record {
      bound = omega (arith, small);
      all = λ p l m. and_true (eqb (p / 256 / 16) a) true (eqb_from _ _ (omega (arith, l, m))) refl;
      only = λ p lt e.
          let at = eqb-true _ _ (both_true (eqb (p / 256 / 16) a) true e).0 in
          (omega (arith, at), omega (arith, at));
    }
places_1 (a ∷ b ∷ ns) are ge lt = absurd (omega (arith, lt))

small_more : (a : ℕ) (rest : Bool) → (nat_lt a 16 && rest) ≡ true → rest ≡ true
small_more a rest e = (both_true (nat_lt a 16) rest e).1

pub places_2 : (node : List ℕ) → AreDigits node → 2 ≤ length node → length node < 3
    → ArePlacesOf node (get_or node 0 0 * 4096 + get_or node 1 0 * 256) 256
places_2 [] are ge lt = absurd (omega (arith, ge))
places_2 (a ∷ []) are ge lt = absurd (omega (arith, ge))
places_2 (a ∷ b ∷ []) are ge lt =
    let small_a = small_one a (nat_lt b 16 && true) are in
    let small_b = small_one b true (small_more a (nat_lt b 16 && true) are) in record {
      bound = omega (arith, small_a, small_b);
      all = λ p l m. and_true (eqb (p / 256 / 16) a) _ (eqb_from _ _ (omega (arith, l, m, small_b)))
          (and_true (eqb (p / 256 % 16) b) true (eqb_from _ _ (omega (arith, l, m, small_b))) refl);
      only = λ p lt e.
          let first = both_true (eqb (p / 256 / 16) a) (eqb (p / 256 % 16) b && true) e in
          let at_a = eqb-true _ _ first.0 in
          let at_b = eqb-true _ _ (both_true (eqb (p / 256 % 16) b) true first.1).0 in
          (omega (arith, at_a, at_b), omega (arith, at_a, at_b));
    }
places_2 (a ∷ b ∷ c ∷ ns) are ge lt = absurd (omega (arith, lt))

pub places_3 : (node : List ℕ) → AreDigits node → 3 ≤ length node → length node < 4
    → ArePlacesOf node (get_or node 0 0 * 4096 + get_or node 1 0 * 256 + get_or node 2 0 * 16) 16
places_3 [] are ge lt = absurd (omega (arith, ge))
places_3 (a ∷ []) are ge lt = absurd (omega (arith, ge))
places_3 (a ∷ b ∷ []) are ge lt = absurd (omega (arith, ge))
places_3 (a ∷ b ∷ c ∷ []) are ge lt =
    let rest_a = small_more a (nat_lt b 16 && (nat_lt c 16 && true)) are in
    let small_a = small_one a (nat_lt b 16 && (nat_lt c 16 && true)) are in
    let small_b = small_one b (nat_lt c 16 && true) rest_a in
    let small_c = small_one c true (small_more b (nat_lt c 16 && true) rest_a) in record {
      bound = omega (arith, small_a, small_b, small_c);
      all = λ p l m. and_true (eqb (p / 256 / 16) a) _ (eqb_from _ _ (omega (arith, l, m, small_b, small_c)))
          (and_true (eqb (p / 256 % 16) b) _ (eqb_from _ _ (omega (arith, l, m, small_b, small_c)))
          (and_true (eqb (p % 256 / 16) c) true (eqb_from _ _ (omega (arith, l, m, small_b, small_c))) refl));
      only = λ p lt e.
          let first = both_true (eqb (p / 256 / 16) a) (eqb (p / 256 % 16) b && (eqb (p % 256 / 16) c && true)) e in
          let second = both_true (eqb (p / 256 % 16) b) (eqb (p % 256 / 16) c && true) first.1 in
          let at_a = eqb-true _ _ first.0 in
          let at_b = eqb-true _ _ second.0 in
          let at_c = eqb-true _ _ (both_true (eqb (p % 256 / 16) c) true second.1).0 in
          (omega (arith, at_a, at_b, at_c), omega (arith, at_a, at_b, at_c));
    }
places_3 (a ∷ b ∷ c ∷ d ∷ ns) are ge lt = absurd (omega (arith, lt))

pub places_4 : (node : List ℕ) → AreDigits node → 4 ≤ length node → length node ≤ 4
    → ArePlacesOf node (get_or node 0 0 * 4096 + get_or node 1 0 * 256 + get_or node 2 0 * 16 + get_or node 3 0) 1
places_4 [] are ge lt = absurd (omega (arith, ge))
places_4 (a ∷ []) are ge lt = absurd (omega (arith, ge))
places_4 (a ∷ b ∷ []) are ge lt = absurd (omega (arith, ge))
places_4 (a ∷ b ∷ c ∷ []) are ge lt = absurd (omega (arith, ge))
places_4 (a ∷ b ∷ c ∷ d ∷ []) are ge lt =
    let rest_c = nat_lt d 16 && true in
    let rest_b = nat_lt c 16 && rest_c in
    let more_a = small_more a (nat_lt b 16 && rest_b) are in
    let more_b = small_more b rest_b more_a in
    let small_a = small_one a (nat_lt b 16 && rest_b) are in
    let small_b = small_one b rest_b more_a in
    let small_c = small_one c rest_c more_b in
    let small_d = small_one d true (small_more c rest_c more_b) in record {
      bound = omega (arith, small_a, small_b, small_c, small_d);
      all = λ p l m.
          let at : p ≡ a * 4096 + b * 256 + c * 16 + d = omega (arith, l, m) in
          and_true (eqb (p / 256 / 16) a) _ (eqb_from _ _ (omega (arith, at, small_b, small_c, small_d)))
          (and_true (eqb (p / 256 % 16) b) _ (eqb_from _ _ (omega (arith, at, small_b, small_c, small_d)))
          (and_true (eqb (p % 256 / 16) c) _ (eqb_from _ _ (omega (arith, at, small_c, small_d)))
          (and_true (eqb (p % 256 % 16) d) true (eqb_from _ _ (omega (arith, at, small_d))) refl)));
      only = λ p lt e.
          let tail_c = eqb (p % 256 % 16) d && true in
          let tail_b = eqb (p % 256 / 16) c && tail_c in
          let first = both_true (eqb (p / 256 / 16) a) (eqb (p / 256 % 16) b && tail_b) e in
          let second = both_true (eqb (p / 256 % 16) b) tail_b first.1 in
          let third = both_true (eqb (p % 256 / 16) c) tail_c second.1 in
          let at_a = eqb-true _ _ first.0 in
          let at_b = eqb-true _ _ second.0 in
          let at_c = eqb-true _ _ third.0 in
          let at_d = eqb-true _ _ (both_true (eqb (p % 256 % 16) d) true third.1).0 in
          (omega (arith, at_a, at_b, at_c, at_d), omega (arith, at_a, at_b, at_c, at_d));
    }
places_4 (a ∷ b ∷ c ∷ d ∷ e ∷ ns) are ge lt = absurd (omega (arith, lt))

-- a place has a node
pub some_place : (node : List ℕ) (first count : ℕ) → AreDigits node → length node ≡ 4 → ArePlacesOf node first count
    → 0 < count
some_place node first count digits long are =
    let own = places_4 node digits (omega (arith, long)) (omega (arith, long)) in
    let place = get_or node 0 0 * 4096 + get_or node 1 0 * 256 + get_or node 2 0 * 16 + get_or node 3 0 in
    let found = are.only place (omega (arith, own.bound)) (own.all place (omega arith) (omega arith)) in
    omega (arith, found.0, found.1)

-- ---- a node that is none

begins_small : (node digits : List ℕ) → ((i : ℕ) → get_or digits i 0 < 16) → begins node digits ≡ true → AreDigits node
begins_small [] digits small e = refl
begins_small (n ∷ ns) [] small e = absurd (false≢true e)
begins_small (n ∷ ns) (d ∷ ds) small e =
    let both = both_true (eqb d n) (begins ns ds) e in
    let at = eqb-true d n both.0 in
    let first : d < 16 = small 0 in
    let low : nat_lt n 16 ≡ true = grind (arith, at, first) in
    and_true (nat_lt n 16) _ low (begins_small ns ds (λ i. small (suc i)) both.1)

place_bytes : (place : ℕ) → place < 65536 → IsBytes (place_text place)
place_bytes place lt zero = omega (arith, lt)
place_bytes place lt (suc zero) = omega arith
place_bytes place lt (suc (suc i)) = omega arith

pub no_places : (node : List ℕ) → list_all (λ d. nat_lt d 16) node ≡ false → ArePlacesOf node 0 0
no_places node none = record {
  bound = omega arith;
  all = λ p l m. absurd (omega (arith, m));
  only = λ p lt e. absurd (false≢true (sym none
      ∙ begins_small node (node_of p) (digits_small (place_text p) (place_bytes p lt)) e));
}

-- ---- the sum of a node by kept sums

pub upper_is : (node : List ℕ) (first count n : ℕ) (digests : List (List ℕ)) (kept : List (Option (List ℕ)))
    → n ≡ PLACE_COUNT → ArePlacesOf node first count → kept ≡ kept_list digests
    → sha256 (told_text kept (range_with_len first count)) ≡ sha256 (upper_text digests node)
upper_is node first count n digests kept e are is =
    ap (λ ks. sha256 (told_text ks (range_with_len first count))) is
    ∙ ap sha256 (told_same digests n first count e (omega (arith, e, are.bound))
    ∙ ap (flat_map (λ place. told place (kept_of digests place))) (range_of_places node first count n e are))

begins_whole : (node digits : List ℕ) → length node ≡ length digits → begins node digits ≡ true → digits ≡ node
begins_whole [] [] long e = refl
begins_whole [] (d ∷ ds) long e = absurd (omega (arith, long))
begins_whole (n ∷ ns) [] long e = absurd (false≢true e)
begins_whole (n ∷ ns) (d ∷ ds) long e =
    let both = both_true (eqb d n) (begins ns ds) e in
    ap (λ k. k ∷ ds) (eqb-true d n both.0) ∙ ap (λ ks. n ∷ ks) (begins_whole ns ds (omega (arith, long)) both.1)

pub place_is : (node : List ℕ) (first n : ℕ) (digests : List (List ℕ)) (kept : List (Option (List ℕ)))
    → n ≡ PLACE_COUNT → length node ≡ 4 → (count : ℕ) → 0 < count → ArePlacesOf node first count
    → kept ≡ kept_list digests → get_or kept first None ≡ sum_if_any (beneath node digests)
place_is node first n digests kept e long count some are is =
    ap (λ ks. get_or ks first None) is ∙ kept_at digests n first e (omega (arith, e, are.bound, some))
    ∙ ap (λ k. sum_if_any (beneath k digests))
    (begins_whole node (node_of first) long (are.all first (omega arith) (omega (arith, some))))

pub sum_is : (digests : List (List ℕ)) (sum : List ℕ) → Some sum ≡ sum_if_any digests
    → sum ≡ sha256 (digests_text digests)
sum_is [] sum e = absurd (let clash : Some sum ≡ None = e in cc)
sum_is (d ∷ ds) sum e = let same : Some sum ≡ Some (sha256 (digests_text (d ∷ ds))) = e in cc

pub sum_of_none : (digests : List (List ℕ)) → None ≡ sum_if_any digests → digests ≡ []
sum_of_none [] e = refl
sum_of_none (d ∷ ds) e = absurd (let clash : None ≡ Some (sha256 (digests_text (d ∷ ds))) = e in cc)

-- ---- what is hashed

pub hashed_upper : (digests : List (List ℕ)) (node : List ℕ) → length node < 4
    → upper_text digests node ≡ hashed digests node
unfolding hashed
hashed_upper digests node lt =
    let low : nat_lt (length node) 4 ≡ true = grind (arith, lt) in
    ap (λ b. if b then upper_text digests node else digests_text (beneath node digests)) (sym low)

pub hashed_lower : (digests : List (List ℕ)) (node : List ℕ) → 4 ≤ length node
    → digests_text (beneath node digests) ≡ hashed digests node
unfolding hashed
hashed_lower digests node le =
    let high : nat_lt (length node) 4 ≡ false = grind (arith, le) in
    ap (λ b. if b then upper_text digests node else digests_text (beneath node digests)) (sym high)
