-- What a round says is a frame.
use Rattle.std.proofs.Common.{inl, inr, ◌≡◌, ◌≤◌, ◌<◌, ◌+◌, ℕ, zero, suc, List, [], ◌∷◌, Bool, true, false}
use Rattle.std.proofs.Common.{cond, length, arith, refl, sym, ap, subst, ◌∙◌, map}
use Rattle.std.specs.Prelude.{filter, ◌&&◌}
use Rattle.std.specs.Cmp.{IsTotalOrder}
use Rattle.std.specs.FinMap.{entries, entries_sorted}
use Rattle.std.specs.List.{AllByRecursion, range_with_len}
use Rattle.std.specs.List.Sorted.{IsStrictlySortedBy}
use Rattle.std.specs.Map.{keys_of}
use Rattle.std.specs.Ordering.{nat_cmp, match_ordering}
use Rattle.std.specs.declared.cmp.Ordering.{Ordering}
use Rattle.std.specs.declared.cmp.Ordering.TheVariants.{Less, Equal, Greater}
use Rattle.std.proofs.lemmas.Cmp.{nat_list_cmp_total}
use Rattle.std.proofs.lemmas.List.FromFn.{length-range_with_len}
use Rattle.std.proofs.lemmas.List.Kept.{IsStrictlySortedBy-filter}
use Rattle.sha2.proofs.Facts256.{length-sha256}
use Rattle.octets.specs.Members.{Has}
use Rattle.octets.specs.Texts.{text_cmp}
use Rattle.archive_model.proofs.MemberLaws.{filter_has}
use Rattle.operation.proofs.DigestLaws.{digest_long}
use Rattle.operation.specs.declared.op.Op.{Op}
use Rattle.site_state.specs.Site.{Map, IsSite, digest_cmp}
use Rattle.site_state.proofs.Tops.{ascend}
use Rattle.exchange_frames.specs.declared.frame.Frame.TheVariants.{Have, Want, Buckets, Differ}
use Rattle.exchange_frames.specs.declared.reader.TheConstants.{BUCKET_COUNT, MOST_DIGESTS}
use Rattle.exchange_frames.specs.Spelling.{ascends, AreDigests, IsFrame}
use Rattle.exchange.specs.declared.version.Version.{Version}
use Rattle.exchange.specs.declared.version.Version.TheVariants.{Two}
use Rattle.exchange.specs.Held.{is_spoken, place_of, is_in, is_lacking, offered, offered_in, lacked, HasDigests}
use Rattle.exchange.specs.Buckets.{bucket_of, bucket_list, is_unequal, unequal}
use Rattle.exchange.specs.Laws.{RoundSaysFrames}
use Rattle.exchange.specs.Parts.{told_in}
use Rattle.exchange.proofs.Fittings.{kept_few, fitting_few, fitting_from, fitting_sorted}
use Rattle.exchange.proofs.Bucketed.{offered_held, place_small}
use Rattle.exchange.proofs.Rounds.{own_digest}
use Rattle.exchange.proofs.Recorded.{site_digests}

-- ---- digests

-- what holds of each member holds of all
pub all_of : {X : Type 0} (P : X → Type 0) (xs : List X) → ((x : X) → Has xs x → P x) → AllByRecursion P xs
all_of P [] each = tt
all_of P (x ∷ xs) each = (each x (inl refl), all_of P xs (λ y h. each y (inr h)))

pub of_all : {X : Type 0} (P : X → Type 0) (xs : List X) → AllByRecursion P xs → (x : X) → Has xs x → P x
of_all P [] all x h = absurd h
of_all P (y ∷ ys) all x (inl e) = subst P (sym e) all.0
of_all P (y ∷ ys) all x (inr h) = of_all P ys all.1 x h

all_spoken : (es : List (List ℕ × Op)) → filter (λ e. is_spoken Two e.1) es ≡ es
all_spoken [] = refl
all_spoken (e ∷ es) = ap (λ xs. e ∷ xs) (all_spoken es)

offered_long : (version : Version) (m : Map) → HasDigests m → (d : List ℕ) → Has (offered version m) d → length d ≡ 32
offered_long version m own d h =
    let there = offered_held version m d h in
    let at = own d there.0 there.1 in
    ap length (sym at.1) ∙ digest_long at.0

pub offered_small : (version : Version) (m : Map) → IsSite m → (d : List ℕ) → Has (offered version m) d
    → place_of d < 256
offered_small version m own d h =
    let there = offered_held version m d h in
    subst (λ (x : List ℕ). place_of x < 256) (sym (own_digest m own d there.0 there.1)) (place_small there.0)

-- so do the digests of a set
pub keys_long : (m : Map) → IsSite m → AllByRecursion (λ d. length d ≡ 32) (keys_of (entries m))
keys_long m own = all_of (λ d. length d ≡ 32) (keys_of (entries m))
    (λ d h. offered_long Two m (site_digests m own) d (subst (λ (es : List (List ℕ × Op)). Has (keys_of es) d)
    (sym (all_spoken (entries m))) h))

-- ---- lists that ascend

sorted_ascends : {X : Type 0} (cmp : X → X → Ordering) (xs : List X) → IsStrictlySortedBy cmp xs
    → ascends cmp xs ≡ true
unfolding IsStrictlySortedBy
sorted_ascends cmp [] sorted = refl
sorted_ascends cmp (x ∷ []) sorted = refl
sorted_ascends cmp (x ∷ y ∷ xs) sorted =
    ap (λ (o : Ordering). match_ordering o true false false && ascends cmp (y ∷ xs)) sorted.0.0
    ∙ sorted_ascends cmp (y ∷ xs) sorted.1

less_and : (o : Ordering) (b : Bool) → (match_ordering o true false false && b) ≡ true → (o ≡ Less) × (b ≡ true)
less_and Less b e = (refl, e)
less_and Equal b e = absurd cc
less_and Greater b e = absurd cc

above_too : {X : Type 0} (cmp : X → X → Ordering) (order : IsTotalOrder cmp) (x y : X) (ys : List X) → cmp x y ≡ Less
    → AllByRecursion (λ z. cmp y z ≡ Less) ys → AllByRecursion (λ z. cmp x z ≡ Less) ys
above_too cmp order x y [] less above = tt
above_too cmp order x y (z ∷ ys) less above =
    (order.trans x y z less above.0, above_too cmp order x y ys less above.1)

pub ascends_sorted : {X : Type 0} (cmp : X → X → Ordering) (order : IsTotalOrder cmp) (xs : List X)
    → ascends cmp xs ≡ true → IsStrictlySortedBy cmp xs
unfolding IsStrictlySortedBy
ascends_sorted cmp order [] e = tt
ascends_sorted cmp order (x ∷ []) e = (tt, tt)
ascends_sorted cmp order (x ∷ y ∷ xs) e =
    let both = less_and (cmp x y) (ascends cmp (y ∷ xs)) e in
    let rest = ascends_sorted cmp order (y ∷ xs) both.1 in
    ((both.0, above_too cmp order x y xs both.0 rest.0), rest)

kept_above_one : (b : Bool) (x : List ℕ) (e : List ℕ × Op) (es : List (List ℕ × Op)) → digest_cmp x e.0 ≡ Less
    → AllByRecursion (λ y. digest_cmp x y ≡ Less) (keys_of es)
    → AllByRecursion (λ y. digest_cmp x y ≡ Less) (keys_of (cond b (e ∷ es) es))
kept_above_one true x e es first rest = (first, rest)
kept_above_one false x e es first rest = rest

kept_above : (p : List ℕ × Op → Bool) (x : List ℕ) (es : List (List ℕ × Op))
    → AllByRecursion (λ y. digest_cmp x y ≡ Less) (keys_of es)
    → AllByRecursion (λ y. digest_cmp x y ≡ Less) (keys_of (filter p es))
kept_above p x [] above = tt
kept_above p x (e ∷ es) above = kept_above_one (p e) x e (filter p es) above.0 (kept_above p x es above.1)

kept_sorted_one : (b : Bool) (e : List ℕ × Op) (es : List (List ℕ × Op))
    → AllByRecursion (λ y. digest_cmp e.0 y ≡ Less) (keys_of es) → IsStrictlySortedBy digest_cmp (keys_of es)
    → IsStrictlySortedBy digest_cmp (keys_of (cond b (e ∷ es) es))
unfolding IsStrictlySortedBy
kept_sorted_one true e es first rest = (first, rest)
kept_sorted_one false e es first rest = rest

kept_sorted : (p : List ℕ × Op → Bool) (es : List (List ℕ × Op)) → IsStrictlySortedBy digest_cmp (keys_of es)
    → IsStrictlySortedBy digest_cmp (keys_of (filter p es))
unfolding IsStrictlySortedBy
kept_sorted p [] sorted = tt
kept_sorted p (e ∷ es) sorted = kept_sorted_one (p e) e (filter p es) (kept_above p e.0 es sorted.0)
    (kept_sorted p es sorted.1)

pub offered_sorted : (version : Version) (m : Map) → IsStrictlySortedBy digest_cmp (offered version m)
offered_sorted version m = kept_sorted (λ e. is_spoken version e.1) (entries m)
    (ascend (entries m) (entries_sorted m))

range_above : (n a b : ℕ) → a < b → AllByRecursion (λ y. nat_cmp a y ≡ Less) (range_with_len b n)
range_above zero a b lt = tt
range_above (suc n) a b lt = (grind arith, range_above n a (b + 1) (omega (arith, lt)))

range_sorted : (n a : ℕ) → IsStrictlySortedBy nat_cmp (range_with_len a n)
unfolding IsStrictlySortedBy
range_sorted zero a = tt
range_sorted (suc n) a = (range_above n a (a + 1) (omega arith), range_sorted n (a + 1))

-- ---- frames

have_is : (version : Version) (m : Map) → HasDigests m → length (offered version m) ≤ MOST_DIGESTS
    → IsFrame (Have (offered version m))
have_is version m own short = record {
  short = short;
  whole = all_of (λ d. length d ≡ 32) (offered version m) (offered_long version m own);
  ascending = sorted_ascends text_cmp (offered version m) (offered_sorted version m);
}

pub offered_in_sorted : (version : Version) (places : List ℕ) (m : Map)
    → IsStrictlySortedBy text_cmp (offered_in version places m)
offered_in_sorted version places m =
    IsStrictlySortedBy-filter text_cmp (is_in places) (offered version m) (offered_sorted version m)

have_in_is : (version : Version) (places : List ℕ) (m : Map) → HasDigests m
    → length (offered_in version places m) ≤ MOST_DIGESTS → IsFrame (Have (offered_in version places m))
have_in_is version places m own short = record {
  short = short;
  whole = all_of (λ d. length d ≡ 32) (offered_in version places m)
      (λ d h. offered_long version m own d (filter_has (is_in places) (offered version m) d h).0);
  ascending = sorted_ascends text_cmp (offered_in version places m)
      (offered_in_sorted version places m);
}

-- of some places it is, however many are held there
part_is : (version : Version) (places : List ℕ) (m : Map) → HasDigests m → IsFrame (Have (told_in version places m))
part_is version places m own = record {
  short = fitting_few MOST_DIGESTS (offered_in version places m);
  whole = all_of (λ d. length d ≡ 32) (told_in version places m)
      (λ d h. offered_long version m own d (filter_has (is_in places) (offered version m) d
      (fitting_from MOST_DIGESTS (offered_in version places m) d h)).0);
  ascending = sorted_ascends text_cmp (told_in version places m)
      (fitting_sorted MOST_DIGESTS (offered_in version places m) (offered_in_sorted version places m));
}

buckets_long : (digests : List (List ℕ)) (places : List ℕ) → AreDigests (map (bucket_of digests) places)
buckets_long digests [] = tt
buckets_long digests (p ∷ places) = (length-sha256 _, buckets_long digests places)

buckets_many : (digests : List (List ℕ)) (places : List ℕ) → length (map (bucket_of digests) places) ≡ length places
buckets_many digests [] = refl
buckets_many digests (p ∷ places) = ap suc (buckets_many digests places)

buckets_are : (digests : List (List ℕ)) → IsFrame (Buckets (bucket_list digests))
unfolding bucket_list
buckets_are digests = (
  buckets_many digests (range_with_len 0 BUCKET_COUNT) ∙ length-range_with_len 0 BUCKET_COUNT,
  buckets_long digests (range_with_len 0 BUCKET_COUNT),
)

differ_is : (own theirs : List (List ℕ)) → IsFrame (Differ (unequal own theirs))
unfolding unequal
differ_is own theirs = (
  omega (
    arith,
    kept_few (is_unequal own theirs) (range_with_len 0 BUCKET_COUNT),
    length-range_with_len 0 BUCKET_COUNT,
  ),
  sorted_ascends nat_cmp (filter (is_unequal own theirs) (range_with_len 0 BUCKET_COUNT))
      (IsStrictlySortedBy-filter nat_cmp (is_unequal own theirs) (range_with_len 0 BUCKET_COUNT)
      (range_sorted BUCKET_COUNT 0)),
)

want_is : (m : Map) (have : List (List ℕ)) → IsFrame (Have have) → IsFrame (Want (lacked m have))
want_is m have is = record {
  short = omega (arith, kept_few (is_lacking m) have, is.short);
  whole = all_of (λ d. length d ≡ 32) (lacked m have)
      (λ d h. of_all (λ x. length x ≡ 32) have is.whole d (filter_has (is_lacking m) have d h).0);
  ascending = sorted_ascends text_cmp (lacked m have)
      (IsStrictlySortedBy-filter text_cmp (is_lacking m) have
      (ascends_sorted text_cmp nat_list_cmp_total have is.ascending));
}

pub round_says_frames : RoundSaysFrames
round_says_frames = record {
  offer = have_is;
  offer_in = have_in_is;
  part = part_is;
  buckets = buckets_are;
  differ = differ_is;
  want = want_is;
}
