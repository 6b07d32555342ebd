-- What a round by buckets gives.
use Rattle.std.proofs.Common.{inl, inr, ◌≡◌, ℕ, zero, suc, ◌+◌, ◌<◌, ◌≤◌, List, [], ◌∷◌, Bool, true, false, cond}
use Rattle.std.proofs.Common.{Option, Some, get_or, refl, sym, ap, subst, ◌∙◌, arith, eqb}
use Rattle.std.specs.Prelude.{◌==◌, map, filter, not}
use Rattle.std.specs.List.{range_with_len}
use Rattle.std.specs.Map.{keys_of}
use Rattle.std.specs.BTreeMap.{is_at}
use Rattle.std.specs.Ordering.{is_eq}
use Rattle.std.specs.Cmp.{tied_itself}
use Rattle.std.specs.Cmp.Lexicographic.{nat_list_cmp_total}
use Rattle.std.specs.FinMap.{entries}
use Rattle.std.proofs.lemmas.Bool.{not-false as negated}
use Rattle.octets.specs.Members.{Has}
use Rattle.archive_model.proofs.ModelLaws.{same_is, same_itself}
use Rattle.archive_model.proofs.MemberLaws.{has_any, has_filter, filter_has}
use Rattle.operation.specs.declared.op.Op.{Op}
use Rattle.operation.specs.Spelling.{digest_of}
use Rattle.operation.proofs.DigestLaws.{digest_is_bytes}
use Rattle.site_state.specs.Site.{Map, held_at, digest_cmp}
use Rattle.site_state.proofs.Maps.{held}
use Rattle.site_state.proofs.Unions.{held_entries}
use Rattle.exchange_frames.specs.declared.reader.TheConstants.{BUCKET_COUNT}
use Rattle.exchange.specs.declared.version.Version.{Version}
use Rattle.exchange.specs.Held.{is_spoken, place_of, is_in, spoken_of, offered}
use Rattle.exchange.specs.Buckets.{bucket_of, bucket_list, is_unequal, unequal}
use Rattle.exchange.specs.Laws.{RoundByBucketsGivesAll, EqualDigestsTell, EqualPlacesTell, NoPlaceIsEqual}
use Rattle.exchange.proofs.Rounds.{offered_has, own_digest, had_is_held}

-- ---- places

-- a digest begins with a byte
pub place_small : (op : Op) → place_of (digest_of op) < BUCKET_COUNT
place_small op = digest_is_bytes op 0

pub range_has : (n a p : ℕ) → a ≤ p → p < a + n → Has (range_with_len a n) p
range_has zero a p low high = absurd (omega arith)
range_has (suc n) a p low high = by (eqb p a) refl (range_has n (a + 1) p)
  where
    by : (b : Bool) → eqb p a ≡ b → (a + 1 ≤ p → p < (a + 1) + n → Has (range_with_len (a + 1) n) p)
        → Has (range_with_len a (suc n)) p
    by true e rest = inl (let is : p ≡ a = grind arith in is)
    by false e rest = let later : a + 1 ≤ p = grind arith in inr (rest later (omega arith))

told_at : (f : ℕ → List ℕ) (n a p : ℕ) → p < n → get_or (map f (range_with_len a n)) p [] ≡ f (a + p)
told_at f zero a p lt = absurd (omega arith)
told_at f (suc n) a zero lt = let e : a ≡ a + 0 = omega arith in ap f e
told_at f (suc n) a (suc p) lt = let e : (a + 1) + p ≡ a + suc p = omega arith in told_at f n (a + 1) p (omega arith)
    ∙ ap f e

pub bucket_at : (ds : List (List ℕ)) (p : ℕ) → p < BUCKET_COUNT → get_or (bucket_list ds) p [] ≡ bucket_of ds p
unfolding bucket_list
bucket_at ds p lt = let e : 0 + p ≡ p = omega arith in told_at (bucket_of ds) BUCKET_COUNT 0 p lt ∙ ap (bucket_of ds) e

-- ---- members

pub eqb_itself : (n : ℕ) → eqb n n ≡ true
eqb_itself n = grind arith

held_first : (d : List ℕ) (e : List ℕ × Op) (rest : Option Op) → d ≡ e.0 → cond (is_at (digest_cmp d) e.0) (Some e.1)
    rest ≡ Some e.1
held_first d e rest at = ap (λ b. cond b (Some e.1) rest) (ap (λ k. is_at (digest_cmp d) k) (sym at)
    ∙ ap is_eq (tied_itself nat_list_cmp_total d))

held_later : (b : Bool) (o : Op) (r : Option Op) → (p : Op) × (r ≡ Some p) → (p : Op) × (cond b (Some o) r ≡ Some p)
held_later true o r found = (o, refl)
held_later false o r found = found

spoken_part : (version : Version) (d : List ℕ) (e : List ℕ × Op) (es ks : List (List ℕ × Op)) (b : Bool)
    → Has (keys_of (cond b (e ∷ ks) ks)) d → (Has (keys_of ks) d → (p : Op) × (held es d ≡ Some p)) → (p : Op)
    × (held (e ∷ es) d ≡ Some p)
spoken_part version d e es ks true (inl at) rest = (e.1, held_first d e (held es d) at)
spoken_part version d e es ks true (inr h) rest = held_later (is_at (digest_cmp d) e.0) e.1 (held es d) (rest h)
spoken_part version d e es ks false h rest = held_later (is_at (digest_cmp d) e.0) e.1 (held es d) (rest h)

spoken_held : (version : Version) (d : List ℕ) (es : List (List ℕ × Op)) → Has (spoken_of version es) d → (p : Op)
    × (held es d ≡ Some p)
spoken_held version d [] h = absurd h
spoken_held version d (e ∷ es) h = spoken_part version d e es (filter (λ x. is_spoken version x.1) es)
    (is_spoken version e.1) h (spoken_held version d es)

-- what is offered is held
pub offered_held : (version : Version) (m : Map) (d : List ℕ) → Has (offered version m) d → (p : Op)
    × (held_at m d ≡ Some p)
offered_held version m d h = let found = spoken_held version d (entries m) h in
    (found.0, sym (held_entries m d) ∙ found.1)

pub round_by_buckets_gives_all : RoundByBucketsGivesAll
unfolding unequal
round_by_buckets_gives_all version offering showing giving comparing asking after own to_showing to_giving to_asking
    agree tell answered d op there spoken = by (is_unequal own_buckets their_buckets place) refl
  where
    own_buckets : List (List ℕ)
    own_buckets = bucket_list (offered version comparing)

    their_buckets : List (List ℕ)
    their_buckets = bucket_list (offered version offering)

    place : ℕ
    place = place_of d

    small : place < BUCKET_COUNT
    small = subst (λ x. place_of x < BUCKET_COUNT) (sym (own_digest offering own d op there)) (place_small op)

    by : (b : Bool) → is_unequal own_buckets their_buckets place ≡ b → held_at after d ≡ Some op
    by true e =
        let shown = has_filter (is_unequal own_buckets their_buckets) (range_with_len 0 BUCKET_COUNT)
        place (range_has BUCKET_COUNT 0 place (omega arith) (omega (arith, small))) e in
        let offers = has_filter (is_in (filter (is_unequal own_buckets their_buckets) (range_with_len 0 BUCKET_COUNT)))
        (offered version showing) d (offered_has version showing d op (to_showing d op there) spoken)
        (has_any (λ q. q == place) _ place shown (eqb_itself place)) in
        had_is_held version offering giving asking after own (λ x o h. to_giving x o (to_showing x o h)) agree _
        answered d op there spoken offers (held_at asking d) refl
    by false e =
        let is_same = same_is _ _ (negated _ e) in
        let equal = sym (bucket_at (offered version comparing) place small) ∙ is_same
        ∙ bucket_at (offered version offering) place small in
        let offers = has_filter (λ x. place_of x == place) (offered version offering)
        d (offered_has version offering d op there spoken) (eqb_itself place) in
        let shared = subst (λ xs. Has xs d) (sym (tell place small equal)) offers in
        let found = offered_held version comparing d (filter_has (λ x. place_of x == place) (offered version comparing)
        d shared).0 in
        let kept = answered.grown d found.0 (to_asking d found.0 found.1) in
        kept ∙ ap Some (sym (agree d op found.0 there kept))

-- ---- what meets the premise

pub equal_digests_tell : EqualDigestsTell
equal_digests_tell digests place small equal = refl

pub equal_places_tell : EqualPlacesTell
equal_places_tell own theirs same place small equal = same place small

-- ---- buckets that differ nowhere

-- what passes no test passes it nowhere
none_passes : (f : ℕ → Bool) (xs : List ℕ) → filter f xs ≡ [] → (p : ℕ) → Has xs p → f p ≡ false
none_passes f xs none p h = by (f p) refl
  where
    by : (b : Bool) → f p ≡ b → f p ≡ false
    by false e = e
    by true e = absurd (subst (λ (l : List ℕ). Has l p) none (has_filter f xs p h e))

none_passed : (f : ℕ → Bool) (xs : List ℕ) → ((p : ℕ) → f p ≡ false) → filter f xs ≡ []
none_passed f [] fails = refl
none_passed f (x ∷ xs) fails =
    ap (λ b. cond b (x ∷ filter f xs) (filter f xs)) (fails x) ∙ none_passed f xs fails

same_map : (f g : ℕ → List ℕ) (xs : List ℕ) → ((p : ℕ) → Has xs p → f p ≡ g p) → map f xs ≡ map g xs
same_map f g [] same = refl
same_map f g (x ∷ xs) same =
    ap (λ y. y ∷ map f xs) (same x (inl refl)) ∙ ap (λ ys. g x ∷ ys) (same_map f g xs (λ p h. same p (inr h)))

pub in_range : (n a p : ℕ) → Has (range_with_len a n) p → p < a + n
in_range zero a p h = absurd h
in_range (suc n) a p (inl e) = omega (arith, e)
in_range (suc n) a p (inr h) = let last = in_range n (a + 1) p h in omega (arith, last)

module _ (own theirs : List (List ℕ)) where
  nowhere_equal : unequal (bucket_list own) (bucket_list theirs) ≡ [] → bucket_list own ≡ bucket_list theirs
  unfolding unequal bucket_list
  nowhere_equal none = same_map (bucket_of own) (bucket_of theirs) (range_with_len 0 BUCKET_COUNT) at
    where
      at : (p : ℕ) → Has (range_with_len 0 BUCKET_COUNT) p → bucket_of own p ≡ bucket_of theirs p
      at p h =
          let small = in_range BUCKET_COUNT 0 p h in
          let passes = none_passes (is_unequal (bucket_list own) (bucket_list theirs)) (range_with_len 0 BUCKET_COUNT)
          none p h in
          sym (bucket_at own p small) ∙ same_is _ _ (negated _ passes) ∙ bucket_at theirs p small

  equal_nowhere : bucket_list own ≡ bucket_list theirs → unequal (bucket_list own) (bucket_list theirs) ≡ []
  unfolding unequal
  equal_nowhere equal = none_passed (is_unequal (bucket_list own) (bucket_list theirs)) (range_with_len 0 BUCKET_COUNT)
      (λ p. ap not (same_itself _ _ (ap (λ (l : List (List ℕ)). get_or l p []) equal)))

pub no_place_is_equal : NoPlaceIsEqual
no_place_is_equal own theirs = (nowhere_equal own theirs, equal_nowhere own theirs)
