-- What a walk comes to: the places of the picks, each once, ascending.
use Rattle.std.specs.Prelude.{◌≡◌, Bool, true, false, List, [], ◌∷◌, ◌++◌, Option, None, Some, map, ◌⊎◌}
use Rattle.std.proofs.Common.{refl, sym, ap, ◌∙◌, subst, inl, inr}
use mathlib.Core.Bool.{true≢false}
use Rattle.std.specs.Prelude.{◌&&◌}
use Rattle.std.specs.List.{filter, filter_map, AllByRecursion}
use Rattle.std.specs.List.Sorted.{IsStrictlySortedBy}
use Rattle.std.specs.Map.{keys_of}
use Rattle.std.specs.Option.{option_map}
use Rattle.std.specs.Ordering.{nat_cmp, is_gt, ordering_then}
use Rattle.std.specs.declared.cmp.Ordering.{Ordering}
use Rattle.std.specs.declared.cmp.Ordering.TheVariants.{Less, Equal, Greater}
use Rattle.std.specs.BTreeMap.{is_at}
use Rattle.std.specs.Cmp.Lexicographic.{nat_list_cmp_total}
use Rattle.std.proofs.lemmas.Cmp.{tied_itself}
use Rattle.std.proofs.lemmas.Bool.{and_parts as and_both}
use Rattle.std.specs.Cmp.{both_ways}
use Rattle.octets.specs.Members.{Has}
use Rattle.octets.specs.Texts.{same, text_cmp}
use Rattle.octets.proofs.TextLemmas.{in_ascending}
use Rattle.operation.specs.declared.op.Op.{Op}
use Rattle.operation.specs.Parts.{ContentParts}
use Rattle.archive_model.specs.Contents.{pick, contents, instances}
use Rattle.archive_model.proofs.MemberLaws.{any_has, has_any, map_has, has_map, filter_map_has, has_filter_map}
use Rattle.archive_model.proofs.MemberLaws.{filter_has, has_filter}
use Rattle.archive_model.proofs.ModelLaws.{pick_is_content, same_is, same_itself}
use Rattle.join_laws.specs.Laws.{IsExact}
use Rattle.join_laws.specs.GrowSet.{union_of}
use Rattle.join_laws.specs.Proved.Sets.{sorted-union, has-union}
use Rattle.study_index.specs.Keys.{has}
use Rattle.study_index.specs.Index.{IndexValue, pick_of}
use Rattle.study_index.specs.Definition.{IsIndexOf}
use Rattle.study_index.specs.Live.{Text, Pick, Place, a_pick, a_place, place_cmp, place_of, pick_at, HasStudy}
use Rattle.study_index.specs.Live.{HasSeries, HasInstance}
use Rattle.study_index.specs.Live.{IsPast, instance_of}
use Rattle.study_index.specs.Walk.{IsWalk, IsWalkOfStudy, IsWalkOf, visited_in_series, visited_in_study, visited}
use Rattle.study_index.specs.Walk.{place_in, places_of}
use Rattle.study_index.specs.Proved.Picks.{text_exact, place_exact, place_total}
use Rattle.study_index.proofs.KeyLaws.{at_itself, same_key}
use Rattle.study_index.proofs.Trees.{same_places}

-- ---- lists

module _ {X : Type 0} where
  all_has : (P : X → Type 0) (xs : List X) (x : X) → AllByRecursion P xs → Has xs x → P x
  all_has P [] x all h = absurd h
  all_has P (y ∷ xs) x all (inl e) = subst P (sym e) all.0
  all_has P (y ∷ xs) x all (inr h) = all_has P xs x all.1 h

  has_all : (P : X → Type 0) (xs : List X) → ((x : X) → Has xs x → P x) → AllByRecursion P xs
  has_all P [] each = tt
  has_all P (x ∷ xs) each = (each x (inl refl), has_all P xs (λ y h. each y (inr h)))

  has_either : (xs ys : List X) (x : X) → Has (xs ++ ys) x → Has xs x ⊎ Has ys x
  has_either [] ys x h = inr h
  has_either (y ∷ xs) ys x (inl e) = inl (inl e)
  has_either (y ∷ xs) ys x (inr h) = elim (has_either xs ys x h) [ inl a ↦ inl (inr a) | inr b ↦ inr b ]

  front_has : (xs ys : List X) (x : X) → Has xs x → Has (xs ++ ys) x
  front_has [] ys x h = absurd h
  front_has (y ∷ xs) ys x (inl e) = inl e
  front_has (y ∷ xs) ys x (inr h) = inr (front_has xs ys x h)

  back_has : (xs ys : List X) (x : X) → Has ys x → Has (xs ++ ys) x
  back_has [] ys x h = h
  back_has (y ∷ xs) ys x h = inr (back_has xs ys x h)

  -- a list that ascends behind another, where all of the one are below all of the other
  sorted_both : (R : X → X → Ordering) (xs ys : List X) → IsStrictlySortedBy R xs → IsStrictlySortedBy R ys
      → ((x y : X) → Has xs x → Has ys y → R x y ≡ Less) → IsStrictlySortedBy R (xs ++ ys)
  unfolding IsStrictlySortedBy
  sorted_both R [] ys s t less = t
  sorted_both R (x ∷ xs) ys s t less = (
    has_all (λ y. R x y ≡ Less) (xs ++ ys)
        (λ y h. elim (has_either xs ys y h)
        [ inl a ↦ all_has (λ z. R x z ≡ Less) xs y s.0 a | inr b ↦ less x y (inl refl) b ]),
    sorted_both R xs ys s.1 t (λ u v a b. less u v (inr a) b),
  )

-- a key that is found is one of them
member : {K : Type 0} {R : K → K → Ordering} → IsExact R → (ks : List K) (k : K) → has R ks k ≡ true → Has ks k
member {K} {R} exact ks k h =
    let found = any_has (is_at (R k)) ks h in
    subst (Has ks) (sym (same_key exact k found.0 found.2)) found.1

key_has : {V : Type 0} (es : List (Text × V)) (e : Text × V) → Has es e → Has (keys_of es) e.0
key_has [] e h = absurd h
key_has {V} (x ∷ es) e (inl s) = inl (ap (λ (y : Text × V). y.0) s)
key_has (x ∷ es) e (inr h) = inr (key_has es e h)

has_key : {V : Type 0} (es : List (Text × V)) (k : Text) → Has (keys_of es) k → (e : Text × V) × Has es e × (k ≡ e.0)
has_key [] k h = absurd h
has_key (x ∷ es) k (inl s) = (x, inl refl, s)
has_key (x ∷ es) k (inr h) = let at = has_key es k h in (at.0, inr at.1, at.2)

-- ---- steps, each of which is the next

past_after : (after : Option Text) (u v : Text) → IsPast after u → text_cmp u v ≡ Less → IsPast after v
past_after None u v past less = tt
past_after (Some a) u v past less = nat_list_cmp_total.trans a u v past less

module _ (Is : Text → Type 0) where
  -- what is come to is one of them, and past where the walk began
  walked : (after : Option Text) (us : List Text) → IsWalk Is after us → (u : Text) → Has us u → IsPast after u × Is u
  walked after [] w u h = absurd h
  walked after (v ∷ us) w u (inl e) = (subst (IsPast after) (sym e) w.0.1, subst Is (sym e) w.0.0)
  walked after (v ∷ us) w u (inr h) =
      let later = walked (Some v) us w.1 u h in
      (past_after after v u w.0.1 later.0, later.1)

  walked_up : (after : Option Text) (us : List Text) → IsWalk Is after us → IsStrictlySortedBy text_cmp us
  unfolding IsStrictlySortedBy
  walked_up after [] w = tt
  walked_up after (v ∷ us) w = (
    has_all (λ u. text_cmp v u ≡ Less) us (λ u h. (walked (Some v) us w.1 u h).0),
    walked_up (Some v) us w.1,
  )

  -- and each of them that is past is come to
  all_walked : (after : Option Text) (us : List Text) → IsWalk Is after us → (u : Text) → Is u → IsPast after u
      → Has us u
  all_walked after [] w u is past = absurd (w u is past)
  all_walked after (v ∷ us) w u is past =
      by (text_cmp v u) refl (w.0.2 u is past) (λ less. all_walked (Some v) us w.1 u is less)
    where
      by : (o : Ordering) → text_cmp v u ≡ o → is_gt o ≡ false → (text_cmp v u ≡ Less → Has us u) → Has (v ∷ us) u
      by Less e g later = inr (later e)
      by Equal e g later = inl (sym (text_exact v u e))
      by Greater e g later = absurd (true≢false g)

-- ---- places

itself : (t : Text) → text_cmp t t ≡ Equal
itself t = tied_itself nat_list_cmp_total t

abbrev at : Text → Text → Text → Place
at = a_place

less_study : (s t r q i j : Text) → text_cmp s t ≡ Less → place_cmp (at s r i) (at t q j) ≡ Less
less_study s t r q i j h =
    ap (λ o. ordering_then o (ordering_then (nat_cmp 0 0) (ordering_then (text_cmp r q) (ordering_then (nat_cmp 0 0)
    (text_cmp i j))))) h

less_series : (s r q i j : Text) → text_cmp r q ≡ Less → place_cmp (at s r i) (at s q j) ≡ Less
less_series s r q i j h =
    ap (λ o. ordering_then o (ordering_then (nat_cmp 0 0) (ordering_then (text_cmp r q) (ordering_then (nat_cmp 0 0)
    (text_cmp i j))))) (itself s)
    ∙ ap (λ o. ordering_then o (ordering_then (nat_cmp 0 0) (text_cmp i j))) h

less_instance : (s r i j : Text) → text_cmp i j ≡ Less → place_cmp (at s r i) (at s r j) ≡ Less
less_instance s r i j h =
    ap (λ o. ordering_then o (ordering_then (nat_cmp 0 0) (ordering_then (text_cmp r r) (ordering_then (nat_cmp 0 0)
    (text_cmp i j))))) (itself s)
    ∙ ap (λ o. ordering_then o (ordering_then (nat_cmp 0 0) (text_cmp i j))) (itself r)
    ∙ h

-- ---- what is come to ascends

series_up : (study series : Text) (is : List Text) → IsStrictlySortedBy text_cmp is → IsStrictlySortedBy
    place_cmp (visited_in_series study series is)
unfolding IsStrictlySortedBy
series_up study series [] up = tt
series_up study series (i ∷ is) up = (
  has_all (λ q. place_cmp (at study series i) q ≡ Less) (visited_in_series study series is)
      (λ q h. let of = map_has (at study series) is q h in
      ap (place_cmp (at study series i)) of.2
      ∙ less_instance study series i of.0 (all_has (λ j. text_cmp i j ≡ Less) is of.0 up.0 of.1)),
  series_up study series is up.1,
)

in_study : (study : Text) (ss : List (Text × List Text)) (q : Place) → Has (visited_in_study study ss) q
    → (s : Text × List Text) × (i : Text) × Has ss s × Has s.1 i × (q ≡ a_place study s.0 i)
in_study study [] q h = absurd h
in_study study (s ∷ ss) q h =
    elim (has_either (visited_in_series study s.0 s.1) (visited_in_study study ss) q h) [
      | inl a ↦ let of = map_has (at study s.0) s.1 q a in (s, of.0, inl refl, of.1, of.2)
      | inr b ↦ let of = in_study study ss q b in (of.0, of.1, inr of.2, of.3, of.4)
    ]

study_up : (study : Text) (ss : List (Text × List Text)) → IsStrictlySortedBy text_cmp (keys_of ss)
    → AllByRecursion (λ s. IsStrictlySortedBy text_cmp s.1) ss → IsStrictlySortedBy place_cmp
    (visited_in_study study ss)
unfolding IsStrictlySortedBy
study_up study [] up each = tt
study_up study (s ∷ ss) up each =
    sorted_both place_cmp (visited_in_series study s.0 s.1) (visited_in_study study ss)
    (series_up study s.0 s.1 each.0) (study_up study ss up.1 each.1) below
  where
    below : (p q : Place) → Has (visited_in_series study s.0 s.1) p → Has (visited_in_study study ss) q
        → place_cmp p q ≡ Less
    below p q h k =
        let this = map_has (at study s.0) s.1 p h in
        let of = in_study study ss q k in
        ap (λ (x : Place). place_cmp x q) this.2
        ∙ ap (place_cmp (at study s.0 this.0)) of.4
        ∙ less_series study s.0 of.0.0 this.0 of.1 (all_has (λ t. text_cmp s.0 t ≡ Less) (keys_of ss)
        of.0.0 up.0 (key_has ss of.0 of.2))

abbrev Walk : Type 0
Walk = List (Text × List (Text × List Text))

in_walk : (walk : Walk) (q : Place) → Has (visited walk) q → (t : Text × List (Text × List Text)) × Has walk t
    × Has (visited_in_study t.0 t.1) q
in_walk [] q h = absurd h
in_walk (t ∷ ts) q h =
    elim (has_either (visited_in_study t.0 t.1) (visited ts) q h) [
      | inl a ↦ (t, inl refl, a)
      | inr b ↦ let of = in_walk ts q b in (of.0, inr of.1, of.2)
    ]

walk_up : (walk : Walk) → IsStrictlySortedBy text_cmp (keys_of walk) → AllByRecursion
    (λ t. IsStrictlySortedBy place_cmp (visited_in_study t.0 t.1)) walk → IsStrictlySortedBy place_cmp (visited walk)
unfolding IsStrictlySortedBy
walk_up [] up each = tt
walk_up (t ∷ ts) up each =
    sorted_both place_cmp (visited_in_study t.0 t.1) (visited ts) each.0 (walk_up ts up.1 each.1) below
  where
    below : (p q : Place) → Has (visited_in_study t.0 t.1) p → Has (visited ts) q → place_cmp p q ≡ Less
    below p q h k =
        let this = in_study t.0 t.1 p h in
        let later = in_walk ts q k in
        let of = in_study later.0.0 later.0.1 q later.2 in
        ap (λ (x : Place). place_cmp x q) this.4
        ∙ ap (place_cmp (at t.0 this.0.0 this.1)) of.4
        ∙ less_study t.0 later.0.0 this.0.0 of.0.0 this.1 of.1 (all_has (λ u. text_cmp t.0 u ≡ Less) (keys_of ts)
        later.0.0 up.0 (key_has ts later.0 later.1))

-- ---- what is come to

put_study : (study : Text) (ss : List (Text × List Text)) (s : Text × List Text) (i : Text) → Has ss s → Has s.1 i
    → Has (visited_in_study study ss) (at study s.0 i)
put_study study [] s i h k = absurd h
put_study study (r ∷ ss) s i (inl e) k =
    front_has (visited_in_series study r.0 r.1) (visited_in_study study ss) (at study s.0 i)
    (subst (λ (x : Text × List Text). Has (visited_in_series study x.0 x.1) (at study s.0 i)) e
    (has_map (at study s.0) s.1 i k))
put_study study (r ∷ ss) s i (inr h) k =
    back_has (visited_in_series study r.0 r.1) (visited_in_study study ss) (at study s.0 i)
    (put_study study ss s i h k)

put_walk : (walk : Walk) (t : Text × List (Text × List Text)) (q : Place) → Has walk t
    → Has (visited_in_study t.0 t.1) q → Has (visited walk) q
put_walk [] t q h k = absurd h
put_walk (u ∷ ts) t q (inl e) k =
    front_has (visited_in_study u.0 u.1) (visited ts) q
    (subst (λ (x : Text × List (Text × List Text)). Has (visited_in_study x.0 x.1) q) e k)
put_walk (u ∷ ts) t q (inr h) k = back_has (visited_in_study u.0 u.1) (visited ts) q (put_walk ts t q h k)

module _ (picks : List (Text × Option Pick)) (walk : Walk) (w : IsWalkOf picks walk) where
  all_up : IsStrictlySortedBy place_cmp (visited walk)
  all_up =
      walk_up walk (walked_up (HasStudy picks) None (keys_of walk) w.0)
      (has_all (λ t. IsStrictlySortedBy place_cmp (visited_in_study t.0 t.1)) walk (λ t h.
      let of = all_has (λ x. IsWalkOfStudy picks x.0 x.1) walk t w.1 h in
      study_up t.0 t.1 (walked_up (HasSeries picks t.0) None (keys_of t.1) of.0)
      (has_all (λ s. IsStrictlySortedBy text_cmp s.1) t.1 (λ s k.
      walked_up (HasInstance picks t.0 s.0) None s.1
      (all_has (λ x. IsWalk (HasInstance picks t.0 x.0) None x.1) t.1 s of.1 k)))))

  -- a place that is come to is that of a pick
  come_to : (q : Place) → Has (visited walk) q → (digest : Text) × (pick_at q.instance picks ≡ Some
      (a_pick digest q.study q.series)) × (q ≡ a_place q.study q.series q.instance)
  come_to q h =
      let t = in_walk walk q h in
      let of = all_has (λ x. IsWalkOfStudy picks x.0 x.1) walk t.0 w.1 t.1 in
      let s = in_study t.0.0 t.0.1 q t.2 in
      let steps = all_has (λ x. IsWalk (HasInstance picks t.0.0 x.0) None x.1) t.0.1 s.0 of.1 s.2 in
      let is = (walked (HasInstance picks t.0.0 s.0.0) None s.0.1 steps s.1 s.3).1 in (
        is.0,
        subst (λ (x : Place). pick_at x.instance picks ≡ Some (a_pick is.0 x.study x.series)) (sym s.4) is.1,
        subst (λ (x : Place). x ≡ a_place x.study x.series x.instance) (sym s.4) refl,
      )

  -- and that of each pick is come to
  comes_to : (digest study series instance : Text) → pick_at instance picks ≡ Some (a_pick digest study series)
      → Has (visited walk) (a_place study series instance)
  comes_to digest study series instance e =
      let t = has_key walk study (all_walked (HasStudy picks) None (keys_of walk) w.0 study
      (instance, digest, series, e) tt) in
      let of = all_has (λ x. IsWalkOfStudy picks x.0 x.1) walk t.0 w.1 t.1 in
      let there : pick_at instance picks ≡ Some (a_pick digest t.0.0 series) = e
      ∙ ap (λ (x : Text). Some (a_pick digest x series)) t.2 in
      let s = has_key t.0.1 series (all_walked (HasSeries picks t.0.0) None (keys_of t.0.1) of.0 series
      (instance, digest, there) tt) in
      let steps = all_has (λ x. IsWalk (HasInstance picks t.0.0 x.0) None x.1) t.0.1 s.0 of.1 s.1 in
      let one = all_walked (HasInstance picks t.0.0 s.0.0) None s.0.1 steps instance
      (digest, there ∙ ap (λ (x : Text). Some (a_pick digest t.0.0 x)) s.2) tt in
      put_walk walk t.0 (at study series instance) t.1
      (subst (λ (x : Text). Has (visited_in_study t.0.0 t.0.1) (at x series instance)) (sym t.2)
      (subst (λ (x : Text). Has (visited_in_study t.0.0 t.0.1) (at t.0.0 x instance)) (sym s.2)
      (put_study t.0.0 t.0.1 s.0 instance s.1 one)))

-- ---- the places of a set

instance_has : (ops : List Op) (uid : Text) (c : ContentParts) → pick uid ops ≡ Some c → Has (instances ops) uid
instance_has ops uid c e =
    let is = pick_is_content uid ops c e in
    subst (Has (instances ops)) is.1
    (in_ascending c.instance (map (λ (x : ContentParts). x.instance) (contents ops))
    (has_map (λ (x : ContentParts). x.instance) (contents ops) c is.0))

pub places_up : (ops : List Op) → IsStrictlySortedBy place_cmp (places_of ops)
unfolding IsStrictlySortedBy
places_up ops = sorted-union place_total (filter_map (place_in ops) (instances ops)) [] tt

placed : {X Y : Type 0} (f : X → Y) (r : Option X) (y : Y) → option_map f r ≡ Some y → (x : X) × (r ≡ Some x)
    × (f x ≡ y)
placed f None y e = absurd cc
placed f (Some x) y e = (x, refl, let s : f x ≡ y = cc in s)

abbrev spots : List Op → List Place
spots ops = filter_map (place_in ops) (instances ops)

module _ (ops : List Op) (index : IndexValue) (is : IsIndexOf ops index) where
  -- a pick has its place
  has_spot : (digest study series instance : Text) → pick_at instance index.picks ≡ Some (a_pick digest study series)
      → Has (spots ops) (a_place study series instance)
  has_spot digest study series instance e =
      let c = placed pick_of (pick instance ops) (a_pick digest study series) (sym (is.picks instance) ∙ e) in
      has_filter_map (place_in ops) (instances ops) instance (at study series instance)
      (instance_has ops instance c.0 c.1)
      (ap (option_map (λ x. place_of instance (pick_of x))) c.1
      ∙ ap (λ (p : Pick). Some (place_of instance p)) c.2)

  -- and a place its pick
  spot_has : (q : Place) → Has (spots ops) q → (digest : Text) × (pick_at q.instance index.picks ≡ Some
      (a_pick digest q.study q.series)) × (q ≡ a_place q.study q.series q.instance)
  spot_has q h =
      let of = filter_map_has (place_in ops) (instances ops) q h in
      let c = placed (λ x. place_of of.0 (pick_of x)) (pick of.0 ops) q of.2 in
      let there : pick_at of.0 index.picks ≡ Some (pick_of c.0) = is.picks of.0 ∙ ap (option_map pick_of) c.1 in (
        (pick_of c.0).digest,
        subst (λ (x : Place). pick_at x.instance index.picks ≡ Some
            (a_pick (pick_of c.0).digest x.study x.series)) c.2 there,
        subst (λ (x : Place). x ≡ a_place x.study x.series x.instance) c.2 refl,
      )

  module _ (walk : Walk) (w : IsWalkOf index.picks walk) where
    there : (q : Place) → has place_cmp (visited walk) q ≡ true → has place_cmp (places_of ops) q ≡ true
    there q h =
        let of = come_to index.picks walk w q (member place_exact (visited walk) q h) in
        has-union place_total place_exact q (spots ops) []
        ∙ has_any (is_at (place_cmp q)) (spots ops) q
        (subst (Has (spots ops)) (sym of.2) (has_spot of.0 q.study q.series q.instance of.1)) (at_itself place_total q)

    back : (q : Place) → has place_cmp (places_of ops) q ≡ true → has place_cmp (visited walk) q ≡ true
    back q h =
        let of = spot_has q (member place_exact (spots ops) q
        (sym (has-union place_total place_exact q (spots ops) []) ∙ h)) in
        has_any (is_at (place_cmp q)) (visited walk) q
        (subst (Has (visited walk)) (sym of.2) (comes_to index.picks walk w of.0 q.study q.series q.instance of.1))
        (at_itself place_total q)

    pub all_places : visited walk ≡ places_of ops
    all_places = same_places (visited walk) (places_of ops) (all_up index.picks walk w) (places_up ops)
        (λ q. both_ways (has place_cmp (visited walk) q) (has place_cmp (places_of ops) q) (there q) (back q))

-- ---- there is a walk

less_itself : (t : Text) → text_cmp t t ≡ Less → ⊥
less_itself t e = let f = itself t in cc

-- some texts, ascending, each once
abbrev rising : List Text → List Text
rising ts = union_of text_cmp [] ts

module _ (Is : Text → Type 0) where
  steps_from : (after : Option Text) (us : List Text) → IsStrictlySortedBy text_cmp us
      → ((u : Text) → Has us u → IsPast after u × Is u) → ((u : Text) → Is u → IsPast after u → Has us u)
      → IsWalk Is after us
  unfolding IsStrictlySortedBy
  steps_from after [] up these all = all
  steps_from after (v ∷ us) up these all =
      let first = these v (inl refl) in
      let above : (u : Text) → Has us u → text_cmp v u ≡ Less = λ u h. all_has (λ x. text_cmp v x ≡ Less) us u up.0
      h in (
        (first.1, first.0, λ u is past. no_less u above (all u is past)),
        steps_from (Some v) us up.1 (λ u h. (above u h, (these u (inr h)).1))
            (λ u is less. behind u less (all u is (past_after after v u first.0 less))),
      )
    where
      no_less : (u : Text) → ((x : Text) → Has us x → text_cmp v x ≡ Less) → Has (v ∷ us) u
          → is_gt (text_cmp v u) ≡ false
      no_less u above (inl e) = ap (λ (x : Text). is_gt (text_cmp v x)) e ∙ ap is_gt (itself v)
      no_less u above (inr h) = ap is_gt (above u h)

      behind : (u : Text) → text_cmp v u ≡ Less → Has (v ∷ us) u → Has us u
      behind u less (inl e) = absurd (less_itself v (ap (text_cmp v) (sym e) ∙ less))
      behind u less (inr h) = h

  steps : (ts : List Text) → ((u : Text) → Has ts u → Is u) → ((u : Text) → Is u → Has ts u)
      → IsWalk Is None (rising ts)
  unfolding IsStrictlySortedBy
  steps ts these all =
      steps_from None (rising ts) (sorted-union nat_list_cmp_total ts [] tt)
      (λ u h. (
        tt,
        these u (member text_exact ts u (sym (has-union nat_list_cmp_total text_exact u ts [])
            ∙ has_any (is_at (text_cmp u)) (rising ts) u h (at_itself nat_list_cmp_total u))),
      ))
      (λ u is past. member text_exact (rising ts) u (has-union nat_list_cmp_total text_exact u ts []
      ∙ has_any (is_at (text_cmp u)) ts u (all u is) (at_itself nat_list_cmp_total u)))

keys_with : {V : Type 0} (f : Text → V) (ts : List Text) → keys_of (map (λ t. (t, f t)) ts) ≡ ts
keys_with f [] = refl
keys_with f (t ∷ ts) = ap (λ (us : List Text). t ∷ us) (keys_with f ts)

all_with : {X Y : Type 0} (P : Y → Type 0) (f : X → Y) → ((x : X) → P (f x)) → (xs : List X)
    → AllByRecursion P (map f xs)
all_with P f each [] = tt
all_with P f each (x ∷ xs) = (each x, all_with P f each xs)

module _ (ops : List Op) (index : IndexValue) (is : IsIndexOf ops index) where
  abbrev of_study : Text → Place → Bool
  of_study study q = same q.study study

  abbrev of_series : Text → Text → Place → Bool
  of_series study series q = same q.study study && same q.series series

  abbrev studies : List Text
  studies = map (λ q. q.study) (spots ops)

  abbrev series_of : Text → List Text
  series_of study = map (λ q. q.series) (filter (of_study study) (spots ops))

  abbrev instances_of : Text → Text → List Text
  instances_of study series = map instance_of (filter (of_series study series) (spots ops))

  abbrev in_series : Text → Text → Text × List Text
  in_series study series = (series, rising (instances_of study series))

  abbrev series_walk : Text → List (Text × List Text)
  series_walk study = map (in_series study) (rising (series_of study))

  abbrev whole : Walk
  whole = map (λ study. (study, series_walk study)) (rising studies)

  instance_steps : (study series : Text) → IsWalk (HasInstance index.picks study series) None
      (rising (instances_of study series))
  instance_steps study series = steps (HasInstance index.picks study series) (instances_of study series)
      (λ u h. let q = map_has instance_of (filter (of_series study series) (spots ops)) u h in
      let within = filter_has (of_series study series) (spots ops) q.0 q.1 in
      let both = and_both (same q.0.study study) (same q.0.series series) within.1 in
      let of = spot_has ops index is q.0 within.0 in (
        of.0,
        ap (λ (x : Text). pick_at x index.picks) q.2 ∙ of.1
            ∙ ap (λ (x : Text). Some (a_pick of.0 x q.0.series)) (same_is q.0.study study both.0)
            ∙ ap (λ (x : Text). Some (a_pick of.0 study x)) (same_is q.0.series series both.1),
      ))
      (λ u has. has_map instance_of (filter (of_series study series) (spots ops)) (at study series u)
      (has_filter (of_series study series) (spots ops) (at study series u)
      (has_spot ops index is has.0 study series u has.1)
      (ap (λ b. b && same series series) (same_itself study study refl) ∙ same_itself series series refl)))

  series_steps : (study : Text) → IsWalk (HasSeries index.picks study) None (rising (series_of study))
  series_steps study = steps (HasSeries index.picks study) (series_of study)
      (λ u h. let q = map_has (λ (x : Place). x.series) (filter (of_study study) (spots ops)) u h in
      let within = filter_has (of_study study) (spots ops) q.0 q.1 in
      let of = spot_has ops index is q.0 within.0 in (
        q.0.instance,
        of.0,
        of.1 ∙ ap (λ (x : Text). Some (a_pick of.0 x q.0.series)) (same_is q.0.study study within.1)
            ∙ ap (λ (x : Text). Some (a_pick of.0 study x)) (sym q.2),
      ))
      (λ u has. has_map (λ (x : Place). x.series) (filter (of_study study) (spots ops)) (at study u has.0)
      (has_filter (of_study study) (spots ops) (at study u has.0) (has_spot ops index is has.1 study u has.0 has.2)
      (same_itself study study refl)))

  study_steps : IsWalk (HasStudy index.picks) None (rising studies)
  study_steps = steps (HasStudy index.picks) studies
      (λ u h. let q = map_has (λ (x : Place). x.study) (spots ops) u h in
      let of = spot_has ops index is q.0 q.1 in
      (q.0.instance, of.0, q.0.series, of.1 ∙ ap (λ (x : Text). Some (a_pick of.0 x q.0.series)) (sym q.2)))
      (λ u has. has_map (λ (x : Place). x.study) (spots ops) (at u has.2 has.0)
      (has_spot ops index is has.1 u has.2 has.0
      has.3))

  pub a_walk : (walk : Walk) × IsWalkOf index.picks walk
  a_walk = (
    whole,
    (
      subst (IsWalk (HasStudy index.picks) None) (sym (keys_with series_walk (rising studies))) study_steps,
      all_with (λ t. IsWalkOfStudy index.picks t.0 t.1) (λ study. (study, series_walk study)) (λ study. (
        subst (IsWalk (HasSeries index.picks study) None)
            (sym (keys_with (λ series. rising (instances_of study series)) (rising (series_of study))))
            (series_steps study),
        all_with (λ s. IsWalk (HasInstance index.picks study s.0) None s.1) (in_series study)
            (instance_steps study) (rising (series_of study)),
      )) (rising studies),
    ),
  )
