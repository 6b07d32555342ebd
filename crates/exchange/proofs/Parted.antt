-- By each exchange in parts two sites come to hold the same in one place more.
use Rattle.std.proofs.Common.{inl, inr, ◌≡◌, ◌≤◌, ◌<◌, ◌+◌, ℕ, zero, suc, List, [], ◌∷◌, Bool, true, false, cond}
use Rattle.std.proofs.Common.{length, take}
use Rattle.std.proofs.Common.{Some, get_or, arith, refl, sym, ap, subst, ◌∙◌}
use Rattle.std.proofs.lemmas.Bool.{eqb-true, and_parts as both_true, not-false as negated}
use Rattle.std.specs.Prelude.{◌⊎◌, ◌==◌, filter, not, nat_lt}
use Rattle.std.specs.Cmp.Lexicographic.{nat_list_cmp_total}
use Rattle.std.specs.List.{range_with_len, list_all}
use Rattle.std.specs.List.Sorted.{IsStrictlySortedBy}
use Rattle.std.specs.Ordering.{ordering_reverse}
use Rattle.std.specs.declared.cmp.Ordering.TheVariants.{Less, Greater}
use Rattle.std.proofs.lemmas.List.Kept.{IsStrictlySortedBy-filter}
use Rattle.sha2.specs.Sha256.{sha256}
use Rattle.octets.specs.Members.{Has}
use Rattle.archive_model.proofs.ModelLaws.{same_is, same_itself}
use Rattle.archive_model.proofs.MemberLaws.{any_has, has_all, has_any, has_filter, filter_has, filter_map_has}
use Rattle.operation.specs.declared.op.Op.{Op}
use Rattle.site_state.specs.Site.{Map, IsSite, held_at, digest_cmp}
use Rattle.site_state.specs.Union.{Agree}
use Rattle.site_state.proofs.Maps.{same_sites}
use Rattle.exchange_frames.specs.Spelling.{digests_text}
use Rattle.exchange.specs.declared.version.Version.TheVariants.{Two}
use Rattle.exchange.specs.Held.{place_of, is_in, offered, offered_in, lacked, given, if_spoken}
use Rattle.exchange.specs.Buckets.{bucket_list, is_unequal, unequal}
use Rattle.exchange.specs.Laws.{BucketsTell, digests_at}
use Rattle.exchange.specs.RunLaws.{differing}
use Rattle.exchange_frames.specs.declared.reader.TheConstants.{MOST_DIGESTS}
use Rattle.exchange.specs.Parts.{IsWhole, place_behind, whole_places, tells_of, is_seen_whole}
use Rattle.exchange.specs.PartLaws.{FittingTells, SeenFits, IsPart, EachPlaceFits, AgreeBelow, PartsEnd, part_of}
use Rattle.exchange.proofs.Fittings.{fitting_few, fitting_from, of_fitting, not_more}
use Rattle.exchange.proofs.PartLaws.{fitting_has}
use Rattle.exchange.proofs.Places.{first_le}
use Rattle.exchange.proofs.Said.{of_all, offered_sorted, offered_in_sorted, offered_small}
use Rattle.exchange.proofs.Rounds.{offered_has, own_digest, had_is_held, same_option, spoken_some}
use Rattle.exchange.proofs.Bucketed.{offered_held, bucket_at, range_has, in_range, eqb_itself}

pub fitting_tells : FittingTells
fitting_tells = record { few = fitting_few; only = fitting_from; whole = fitting_has }

-- ---- lists that ascend and have the same members

not_both : (x y : List ℕ) → digest_cmp x y ≡ Less → digest_cmp y x ≡ Less → ⊥
not_both x y there back =
    let clash : Less ≡ Greater = sym there ∙ nat_list_cmp_total.antisymm x y ∙ ap ordering_reverse back in absurd cc

same_ascending : (xs ys : List (List ℕ)) → IsStrictlySortedBy digest_cmp xs → IsStrictlySortedBy digest_cmp ys
    → ((d : List ℕ) → Has xs d → Has ys d) → ((d : List ℕ) → Has ys d → Has xs d) → xs ≡ ys
unfolding IsStrictlySortedBy
same_ascending [] [] rise too there back = refl
same_ascending [] (y ∷ ys) rise too there back = absurd (back y (inl refl))
same_ascending (x ∷ xs) [] rise too there back = absurd (there x (inl refl))
same_ascending (x ∷ xs) (y ∷ ys) rise too there back =
    ap (λ z. z ∷ xs) heads ∙ ap (λ zs. y ∷ zs) (same_ascending xs ys rise.1 too.1 on off)
  where
    above : (d : List ℕ) → Has xs d → digest_cmp x d ≡ Less
    above d h = of_all (λ z. digest_cmp x z ≡ Less) xs rise.0 d h

    above_too : (d : List ℕ) → Has ys d → digest_cmp y d ≡ Less
    above_too d h = of_all (λ z. digest_cmp y z ≡ Less) ys too.0 d h

    by : (x ≡ y) ⊎ Has ys x → (y ≡ x) ⊎ Has xs y → x ≡ y
    by (inl e) k = e
    by (inr h) (inl e) = sym e
    by (inr h) (inr k) = absurd (not_both x y (above y k) (above_too x h))

    heads : x ≡ y
    heads = by (there x (inl refl)) (back y (inl refl))

    on : (d : List ℕ) → Has xs d → Has ys d
    on d h = later (there d (inr h))
      where
        later : (d ≡ y) ⊎ Has ys d → Has ys d
        later (inl e) =
            let less = subst (λ (z : List ℕ). digest_cmp x z ≡ Less) (e ∙ sym heads) (above d h) in
            absurd (not_both x x less less)
        later (inr k) = k

    off : (d : List ℕ) → Has ys d → Has xs d
    off d h = later (back d (inr h))
      where
        later : (d ≡ x) ⊎ Has xs d → Has xs d
        later (inl e) =
            let less = subst (λ (z : List ℕ). digest_cmp y z ≡ Less) (e ∙ heads) (above_too d h) in
            absurd (not_both y y less less)
        later (inr k) = k

-- ---- the first place of some digests

fewer : (f g : List ℕ → Bool) (xs : List (List ℕ)) → length (filter g (filter f xs)) ≤ length (filter g xs)
fewer f g [] = omega arith
fewer f g (x ∷ xs) = by (f x) (g x) refl (fewer f g xs)
  where
    by : (a b : Bool) → g x ≡ b → length (filter g (filter f xs)) ≤ length (filter g xs)
        → length (filter g (cond a (x ∷ filter f xs) (filter f xs))) ≤ length (cond b (x ∷ filter g xs) (filter g xs))
    by true true e less = subst (λ (c : Bool). length (cond c (x ∷ filter g (filter f xs)) (filter g (filter f xs)))
        ≤ length (x ∷ filter g xs)) (sym e) (omega (arith, less))
    by true false e less = subst (λ (c : Bool). length (cond c (x ∷ filter g (filter f xs)) (filter g (filter f xs)))
        ≤ length (filter g xs)) (sym e) less
    by false true e less = omega (arith, less)
    by false false e less = less

has_get : (k : ℕ) (xs : List (List ℕ)) → k < length xs → Has xs (get_or xs k [])
has_get k [] lt = absurd (omega (arith, lt))
has_get zero (x ∷ xs) lt = inl refl
has_get (suc k) (x ∷ xs) lt = inr (has_get k xs (omega (arith, lt)))

is_place : (a n : ℕ) → n ≤ a → a ≤ n → (a == n) ≡ true
is_place a n low high = grind arith

-- where more digests than so many begin with no later byte, so many do in the first place
crowded : (n k : ℕ) (ds : List (List ℕ)) → IsStrictlySortedBy digest_cmp ds
    → ((d : List ℕ) → Has ds d → n ≤ place_of d) → k < length ds → place_of (get_or ds k []) ≤ n
    → k < length (digests_at n ds)
unfolding IsStrictlySortedBy
crowded n k [] rise low lt high = absurd (omega (arith, lt))
crowded n zero (x ∷ ds) rise low lt high =
    subst (λ (b : Bool). 0 < length (cond b (x ∷ digests_at n ds) (digests_at n ds)))
    (sym (is_place (place_of x) n (low x (inl refl)) high)) (omega arith)
crowded n (suc k) (x ∷ ds) rise low lt high =
    subst (λ (b : Bool). suc k < length (cond b (x ∷ digests_at n ds) (digests_at n ds)))
    (sym (is_place (place_of x) n (low x (inl refl)) (omega (arith, high, before))))
    (omega (arith, crowded n k ds rise.1 (λ d h. low d (inr h)) (omega (arith, lt)) high))
  where
    before : place_of x ≤ place_of (get_or ds k [])
    before = first_le x (get_or ds k []) (of_all (λ z. digest_cmp x z ≡ Less) ds rise.0 (get_or ds k [])
        (has_get k ds (omega (arith, lt))))

decide : (a b : ℕ) → (a ≤ b) ⊎ (b < a)
decide a b = by (nat_lt b a) refl
  where
    by : (t : Bool) → nat_lt b a ≡ t → (a ≤ b) ⊎ (b < a)
    by true e = inr (grind arith)
    by false e = inl (grind arith)

-- so a place of which no more than fit are held is told whole, if it is the first
first_whole : (most n : ℕ) (ds : List (List ℕ)) → IsStrictlySortedBy digest_cmp ds
    → ((d : List ℕ) → Has ds d → n ≤ place_of d) → length (digests_at n ds) ≤ most → IsWhole most ds n
first_whole most n ds rise low few = by (decide (length ds) most)
  where
    by : (length ds ≤ most) ⊎ (most < length ds) → IsWhole most ds n
    by (inl fit) = inl fit
    by (inr more) = further (decide (place_of (get_or ds most [])) n)
      where
        further : (place_of (get_or ds most []) ≤ n) ⊎ (n < place_of (get_or ds most [])) → IsWhole most ds n
        further (inl high) = absurd (omega (arith, few, crowded n most ds rise low more high))
        further (inr lt) = inr lt

-- ---- what is seen to be told whole

-- where fewer than so many are the first so many, they are all
taken_all : {X : Type 0} (n : ℕ) (xs : List X) → length (take n xs) < n → length xs ≤ n
taken_all zero xs lt = absurd (omega (arith, lt))
taken_all (suc n) [] lt = omega arith
taken_all (suc n) (x ∷ xs) lt = omega (arith, taken_all n xs (omega (arith, lt)))

is_less : (a b : ℕ) → nat_lt a b ≡ true → a < b
is_less a b e = grind arith

-- of the place that does not fit whole nothing is told
not_told : (most : ℕ) (digests : List (List ℕ)) (p : ℕ) → p ≡ place_behind most digests
    → tells_of (whole_places most digests) p ≡ true → ⊥
not_told most digests p is tells =
    let d = any_has (λ x. place_of x == p) (whole_places most digests) tells in
    let kept = filter_has (λ x. not (place_of x == place_behind most digests)) (take most digests) d.0 d.1 in
    let same : (place_of d.0 == place_behind most digests) ≡ true =
    subst (λ (q : ℕ). (place_of d.0 == q) ≡ true) is d.2 in
    let clash : false ≡ true = ap not (sym same) ∙ kept.1 in absurd cc

-- A HAVE that is seen to have all has all.
pub seen_fits : SeenFits
seen_fits places digests each = of_fitting (λ ds. is_seen_whole places ds ≡ true → length digests ≤ MOST_DIGESTS)
    MOST_DIGESTS digests (λ e seen. not_more MOST_DIGESTS (length digests) e)
    (λ seen. taken_all MOST_DIGESTS digests (is_less _ _ (both_true _ _ seen).0))
    (λ seen. by (decide (length digests) MOST_DIGESTS) (both_true _ _ seen).1)
  where
    by : (length digests ≤ MOST_DIGESTS) ⊎ (MOST_DIGESTS < length digests)
        → list_all (tells_of (whole_places MOST_DIGESTS digests)) places ≡ true → length digests ≤ MOST_DIGESTS
    by (inl few) all = few
    by (inr more) all =
        let first = each (get_or digests MOST_DIGESTS []) (has_get MOST_DIGESTS digests more) in
        let p = any_has (λ x. x == place_behind MOST_DIGESTS digests) places first in
        absurd (not_told MOST_DIGESTS digests p.0 (eqb-true p.0 (place_behind MOST_DIGESTS digests) p.2)
        (has_all (tells_of (whole_places MOST_DIGESTS digests)) places p.0 all p.1))

-- ---- half an exchange

of_place : (a n : ℕ) → (a == n) ≡ true → a ≡ n
of_place a n e = eqb-true a n e

-- what two sets hold of a place in which they hold the same
same_at : (n p : ℕ) (a b : Map) → AgreeBelow n a b → p < n
    → digests_at p (offered Two a) ≡ digests_at p (offered Two b)
same_at n p a b agree lt = same_ascending (digests_at p (offered Two a)) (digests_at p (offered Two b))
    (IsStrictlySortedBy-filter digest_cmp at (offered Two a) (offered_sorted Two a))
    (IsStrictlySortedBy-filter digest_cmp at (offered Two b) (offered_sorted Two b))
    (λ d h. let f = filter_has at (offered Two a) d h in
    let op = offered_held Two a d f.0 in
    has_filter at (offered Two b) d
    (offered_has Two b d op.0 ((agree d op.0 (below d f.1)).0 op.1) refl) f.1)
    (λ d h. let f = filter_has at (offered Two b) d h in
    let op = offered_held Two b d f.0 in
    has_filter at (offered Two a) d
    (offered_has Two a d op.0 ((agree d op.0 (below d f.1)).1 op.1) refl) f.1)
  where
    at : List ℕ → Bool
    at d = place_of d == p

    below : (d : List ℕ) → (place_of d == p) ≡ true → place_of d < n
    below d e = omega (arith, lt, of_place (place_of d) p e)

module _ (most n : ℕ) (offering asking after : Map) (own : IsSite offering) (agree : Agree offering after)
    (tell : BucketsTell (offered Two asking) (offered Two offering)) (fits : EachPlaceFits most offering)
    (half : IsPart most offering asking after) (below : AgreeBelow n asking offering) where
  abbrev mine : List (List ℕ)
  mine = bucket_list (offered Two asking)

  abbrev theirs : List (List ℕ)
  theirs = bucket_list (offered Two offering)

  abbrev places : List ℕ
  places = differing Two asking (offered Two offering)

  abbrev told : List (List ℕ)
  told = offered_in Two places offering

  -- a place in which both hold the same does not differ
  equal_there : (p : ℕ) → p < n → p < 256 → is_unequal mine theirs p ≡ false
  equal_there p lt small = ap not (same_itself _ _ (bucket_at (offered Two asking) p small
      ∙ ap (λ (ds : List (List ℕ)). sha256 (digests_text ds)) (same_at n p asking offering below lt)
      ∙ sym (bucket_at (offered Two offering) p small)))

  -- so what differs is in no place before
  low : (d : List ℕ) → Has told d → n ≤ place_of d
  unfolding unequal
  low d h =
      let f = filter_has (is_in places) (offered Two offering) d h in
      let q = any_has (λ x. x == place_of d) places f.1 in
      let was = filter_has (is_unequal mine theirs) (range_with_len 0 256) q.0 q.1 in
      let small : q.0 < 0 + 256 = in_range 256 0 q.0 was.0 in
      by q.0 (of_place q.0 (place_of d) q.2) was.1 (omega (arith, small)) (decide n (place_of d))
    where
      by : (q : ℕ) → q ≡ place_of d → is_unequal mine theirs q ≡ true → q < 256
          → (n ≤ place_of d) ⊎ (place_of d < n) → n ≤ place_of d
      by q is differs small (inl le) = le
      by q is differs small (inr lt) =
          let clash : true ≡ false = sym differs ∙ equal_there q (omega (arith, lt, is)) small in absurd cc

  -- what is held in the places up to the first that differs is held by the other then
  up_to : (d : List ℕ) (op : Op) → place_of d < n + 1 → held_at offering d ≡ Some op → held_at after d ≡ Some op
  unfolding unequal
  up_to d op lt e = by (is_unequal mine theirs (place_of d)) refl
    where
      there : Has (offered Two offering) d
      there = offered_has Two offering d op e refl

      small : place_of d < 256
      small = offered_small Two offering own d there

      by : (b : Bool) → is_unequal mine theirs (place_of d) ≡ b → held_at after d ≡ Some op
      by true differs =
          let shown = has_filter (is_unequal mine theirs) (range_with_len 0 256) (place_of d)
          (range_has 256 0 (place_of d) (omega arith) (omega (arith, small))) differs in
          let offer = has_filter (is_in places) (offered Two offering) d there
          (has_any (λ q. q == place_of d) places (place_of d) shown (eqb_itself (place_of d))) in
          let is : place_of d ≡ n = omega (arith, low d offer, lt) in
          let few = fewer (is_in places) (λ x. place_of x == n) (offered Two offering) in
          let whole = first_whole most n told (offered_in_sorted Two places offering) low
          (omega (arith, few, fits n)) in
          had_is_held Two offering offering asking after own (λ x o h. h) agree (part_of most asking offering)
          half.answered d op e refl
          (fitting_has most told d (offered_in_sorted Two places offering) offer
          (subst (λ (p : ℕ). IsWhole most told p) (sym is) whole)) (held_at asking d) refl
      by false same =
          let equal = sym (bucket_at (offered Two asking) (place_of d) small) ∙ same_is _ _ (negated _ same)
          ∙ bucket_at (offered Two offering) (place_of d) small in
          let shared = subst (λ xs. Has xs d) (sym (tell (place_of d) small equal))
          (has_filter (λ x. place_of x == place_of d) (offered Two offering) d there (eqb_itself (place_of d))) in
          let found = offered_held Two asking d (filter_has (λ x. place_of x == place_of d) (offered Two asking)
          d shared).0 in
          let kept = half.answered.grown d found.0 found.1 in
          kept ∙ ap Some (sym (agree d op found.0 e kept))

  -- what was added the other held
  added : IsSite after → (d : List ℕ) (op : Op) → held_at after d ≡ Some op
      → (held_at asking d ≡ Some op) ⊎ (held_at offering d ≡ Some op)
  added own_after d op e = by (half.only d op e)
    where
      by : (held_at asking d ≡ Some op) ⊎ Has (given Two (lacked asking (part_of most asking offering)) offering) op
          → (held_at asking d ≡ Some op) ⊎ (held_at offering d ≡ Some op)
      by (inl was) = inl was
      by (inr h) =
          let made = filter_map_has (λ x. if_spoken Two (held_at offering x))
          (lacked asking (part_of most asking offering)) op h in
          let held_there = spoken_some (held_at offering made.0) op made.2 in
          inr (ap (held_at offering) (own_digest after own_after d op e
          ∙ sym (own_digest offering own made.0 op held_there)) ∙ held_there)

-- ---- a whole one

module _ (most n : ℕ) (a b b_after a_after : Map) (own_a : IsSite a) (own_b : IsSite b) (own_b_after : IsSite b_after)
    (own_a_after : IsSite a_after) (agree : Agree a b_after) (agree_after : Agree b_after a_after)
    (tell : BucketsTell (offered Two b) (offered Two a)) (tell_after : BucketsTell (offered Two a) (offered Two b_after))
    (fits : EachPlaceFits most a) (fits_after : EachPlaceFits most b_after) (first : IsPart most a b b_after)
    (second : IsPart most b_after a a_after) (below : AgreeBelow n a b) where
  below_back : AgreeBelow n b a
  below_back d op lt = let two = below d op lt in (two.1, two.0)

  to_b : (d : List ℕ) (op : Op) → place_of d < n + 1 → held_at a d ≡ Some op → held_at b_after d ≡ Some op
  to_b = up_to most n a b b_after own_a agree tell fits first below_back

  -- the caller still holds the same as the callee in the places before
  below_after : AgreeBelow n a b_after
  below_after d op lt = (
    to_b d op (omega (arith, lt)),
    λ e. by (added most n a b b_after own_a agree tell fits first
        below_back own_b_after d op e),
  )
    where
      by : (held_at b d ≡ Some op) ⊎ (held_at a d ≡ Some op) → held_at a d ≡ Some op
      by (inl was) = (below d op lt).1 was
      by (inr was) = was

  to_a : (d : List ℕ) (op : Op) → place_of d < n + 1 → held_at b_after d ≡ Some op → held_at a_after d ≡ Some op
  to_a = up_to most n b_after a a_after own_b_after agree_after tell_after fits_after second below_after

  pub next_agrees : AgreeBelow (n + 1) a_after b_after
  next_agrees d op lt = (
    λ e. by (added most n b_after a a_after own_b_after agree_after tell_after fits_after second
        below_after own_a_after d op e),
    to_a d op lt,
  )
    where
      by : (held_at a d ≡ Some op) ⊎ (held_at b_after d ≡ Some op) → held_at b_after d ≡ Some op
      by (inl was) = to_b d op lt was
      by (inr was) = was

-- ---- all places

small_place : (m : Map) → IsSite m → (d : List ℕ) (op : Op) → held_at m d ≡ Some op → place_of d < 256
small_place m own d op e = offered_small Two m own d (offered_has Two m d op e refl)

pub parts_end : PartsEnd
parts_end = record {
  next = next_agrees;
  last = λ a b own_a own_b agree. same_sites a b (λ d. same_option (held_at a d) (held_at b d)
      (λ op e. (agree d op (small_place a own_a d op e)).0 e) (λ op e. (agree d op (small_place b own_b d op e)).1 e));
}
