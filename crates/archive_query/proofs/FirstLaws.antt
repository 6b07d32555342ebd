-- The first that is shown of each series stands for all that is shown of it.
use Rattle.std.proofs.Common.{◌≡◌, ℕ, ◌<◌, Bool, true, false, List, [], ◌∷◌, ◌++◌, take, length, Option, Some}
use Rattle.std.proofs.Common.{None, zero, suc, refl, sym, ap, subst, ◌∙◌, inl, inr, ◌⊎◌, arith}
use Rattle.std.specs.Prelude.{◌&&◌, nat_lt, is_some, if◌then◌else◌}
use Rattle.std.proofs.lemmas.Bool.{false≢true, ltb-true, and_parts}
use Rattle.std.proofs.lemmas.List.{take_all}
use Rattle.std.proofs.lemmas.List.Kept.{IsStrictlySortedBy-filter}
use Rattle.std.specs.List.{flat_map, cons_option, AllByRecursion}
use Rattle.std.specs.List.Sorted.{IsStrictlySortedBy}
use Rattle.std.specs.Map.{keys_of}
use Rattle.std.specs.Option.{option_map}
use Rattle.std.specs.Ordering.{is_gt, ordering_then}
use Rattle.std.specs.declared.cmp.Ordering.TheVariants.{Less}
use Rattle.octets.specs.Members.{Has as IsOne}
use Rattle.octets.specs.Texts.{same, text_cmp}
use Rattle.operation.specs.declared.op.Op.{Op}
use Rattle.operation.specs.Parts.{ContentParts}
use Rattle.archive_model.specs.declared.view.View.{View}
use Rattle.archive_model.specs.Contents.{study_of, series_of}
use Rattle.archive_model.specs.Shown.{shown_at}
use Rattle.archive_model.proofs.MemberLaws.{has_filter, filter_has}
use Rattle.archive_model.proofs.ModelLaws.{same_is, pick_is_content}
use Rattle.study_index.specs.Live.{Pick, Place, a_pick, a_place, place_cmp, place_of, instance_of, pick_at, tree_of}
use Rattle.study_index.specs.Live.{front_of, end_of}
use Rattle.study_index.specs.Live.{is_between, places_in_study}
use Rattle.study_index.specs.Proved.Picks.{place_total, place_exact}
use Rattle.study_index.proofs.Studies.{between_of}
use Rattle.study_index.proofs.Trees.{sorted-tree_of}
use Rattle.study_index.proofs.Walks.{listed, picked, IsListed}
use Rattle.study_index.proofs.KeyLaws.{at_itself, same_key}
use Rattle.std.specs.BTreeMap.{is_at}
use Rattle.archive_model.proofs.MemberLaws.{any_has, has_any}
use Rattle.study_index.specs.Index.{IndexValue, pick_of}
use Rattle.study_index.specs.Definition.{IsIndexOf}
use Rattle.archive_query.specs.Firsts.{is_in_series, firsts, firsts_in_study}
use Rattle.archive_query.proofs.AscendingLaws.{Text, itself}
use Rattle.archive_query.proofs.CandidateLaws.{shown_pick}

-- ---- members

has_left : {X : Type 0} (xs ys : List X) (x : X) → IsOne xs x → IsOne (xs ++ ys) x
has_left [] ys x h = absurd h
has_left (y ∷ xs) ys x (inl e) = inl e
has_left (y ∷ xs) ys x (inr h) = inr (has_left xs ys x h)

has_right : {X : Type 0} (xs ys : List X) (x : X) → IsOne ys x → IsOne (xs ++ ys) x
has_right [] ys x h = h
has_right (y ∷ xs) ys x h = inr (has_right xs ys x h)

has_append : {X : Type 0} (xs ys : List X) (x : X) → IsOne (xs ++ ys) x → IsOne xs x ⊎ IsOne ys x
has_append [] ys x h = inr h
has_append (y ∷ xs) ys x (inl e) = inl (inl e)
has_append (y ∷ xs) ys x (inr h) = elim (has_append xs ys x h) [ inl m ↦ inl (inr m) | inr m ↦ inr m ]

pub has_flat : {X Y : Type 0} (f : X → List Y) (xs : List X) (x : X) (y : Y) → IsOne xs x → IsOne (f x) y
    → IsOne (flat_map f xs) y
has_flat f [] x y h m = absurd h
has_flat f (z ∷ xs) x y (inl e) m = has_left (f z) (flat_map f xs) y (subst (λ w. IsOne (f w) y) e m)
has_flat f (z ∷ xs) x y (inr h) m = has_right (f z) (flat_map f xs) y (has_flat f xs x y h m)

pub flat_has : {X Y : Type 0} (f : X → List Y) (xs : List X) (y : Y) → IsOne (flat_map f xs) y
    → (x : X) × IsOne xs x × IsOne (f x) y
flat_has f [] y h = absurd h
flat_has f (z ∷ xs) y h = elim (has_append (f z) (flat_map f xs) y h) [
  | inl m ↦ (z, inl refl, m)
  | inr m ↦ let at = flat_has f xs y m in (at.0, inr at.1, at.2)
]

-- ---- texts of which 64 bytes are known

short_whole : (text : Text) (known : Text) → take 64 text ≡ known → length known < 64 → take 64 text ≡ text
short_whole text known e short = take_all 64 text (omega (arith, below 64 text (subst (λ (t : Text). length t < 64) (sym e) short)))
  where
    below : (n : ℕ) (t : Text) → length (take n t) < n → length t < n
    below zero t l = absurd (omega (arith, l))
    below (suc n) [] l = omega arith
    below (suc n) (x ∷ t) l = omega (arith, below n t (omega (arith, l)))

whole_is : (a b known : Text) → take 64 a ≡ known → take 64 b ≡ known → length known < 64 → a ≡ b
whole_is a b known e f short = sym (short_whole a known e short) ∙ e ∙ sym f ∙ short_whole b known f short

-- ---- what stands for what

pub record IsFor (d c : ContentParts) : Type 0 where
  pub study : study_of d ≡ study_of c
  pub series : series_of d ≡ series_of c
  pub low : is_gt (text_cmp d.instance c.instance) ≡ false

for_itself : (c : ContentParts) → IsFor c c
for_itself c = record { study = refl; series = refl; low = ap is_gt (itself c.instance) }

module _ (view : View) (ops : List Op) (index : IndexValue) (is : IsIndexOf ops index)
    (up : IsStrictlySortedBy text_cmp (keys_of index.picks)) where
  abbrev shown : Text → Option ContentParts
  shown = shown_at view ops

  abbrev picks : List (Text × Option Pick)
  picks = index.picks

  pub own : (uid : Text) (c : ContentParts) → shown uid ≡ Some c → c.instance ≡ uid
  own uid c e = (pick_is_content uid ops c (shown_pick view ops uid c e)).1

  pub picked_as : (uid : Text) (c : ContentParts) → shown uid ≡ Some c → pick_at uid picks ≡ Some (pick_of c)
  picked_as uid c e = is.picks uid ∙ ap (option_map pick_of) (shown_pick view ops uid c e)

  -- what is shown at a place is of its study and its series
  known_study : (p : Place) → IsListed picks up p → (c : ContentParts) → shown (instance_of p) ≡ Some c
      → take 64 (study_of c) ≡ p.study
  known_study p l c e = let tie : Some (pick_of c) ≡ Some (a_pick l.digest p.study p.series) =
      sym (picked_as (instance_of p) c e) ∙ l.pick in let s : pick_of c ≡ a_pick l.digest p.study p.series = cc in
      ap (λ (q : Pick). q.study) s

  known_series : (p : Place) → IsListed picks up p → (c : ContentParts) → shown (instance_of p) ≡ Some c
      → take 64 (series_of c) ≡ p.series
  known_series p l c e = let tie : Some (pick_of c) ≡ Some (a_pick l.digest p.study p.series) =
      sym (picked_as (instance_of p) c e) ∙ l.pick in let s : pick_of c ≡ a_pick l.digest p.study p.series = cc in
      ap (λ (q : Pick). q.series) s

  -- a place behind another of its series has a greater instance
  behind : (l p : Place) → IsListed picks up l → IsListed picks up p → l.study ≡ p.study → l.series ≡ p.series
      → place_cmp l p ≡ Less → text_cmp (instance_of l) (instance_of p) ≡ Less
  behind l p l_is p_is study series less =
      sym (ap (λ o. ordering_then o (text_cmp (instance_of l) (instance_of p)))
      (ap (text_cmp l.series) (sym series) ∙ itself l.series))
      ∙ sym (ap (λ o. ordering_then o (ordering_then (text_cmp l.series p.series) (text_cmp (instance_of l)
      (instance_of p))))
      (ap (text_cmp l.study) (sym study) ∙ itself l.study))
      ∙ sym (ap (λ (q : Place). place_cmp q (a_place p.study p.series (instance_of p))) l_is.place)
      ∙ sym (ap (place_cmp l) p_is.place) ∙ less

  -- two places of one series, of which one was shown before
  stands : (l p : Place) → IsListed picks up l → IsListed picks up p → is_in_series (Some l) p ≡ true
      → place_cmp l p ≡ Less → (d c : ContentParts) → shown (instance_of l) ≡ Some d → shown (instance_of p) ≡ Some c
      → IsFor d c
  stands l p l_is p_is one less d c e f =
      let a = and_parts (same l.study p.study && same l.series p.series && nat_lt (length p.study) 64)
      (nat_lt (length p.series) 64) one in
      let b = and_parts (same l.study p.study && same l.series p.series) (nat_lt (length p.study) 64) a.0 in
      let g = and_parts (same l.study p.study) (same l.series p.series) b.0 in
      let study : l.study ≡ p.study = same_is l.study p.study g.0 in
      let series : l.series ≡ p.series = same_is l.series p.series g.1 in
      record {
        study = whole_is (study_of d) (study_of c) p.study (known_study l l_is d e ∙ study) (known_study p p_is c f)
            (ltb-true (length p.study) 64 b.1);
        series = whole_is (series_of d) (series_of c) p.series (known_series l l_is d e ∙ series)
            (known_series p p_is c f) (ltb-true (length p.series) 64 a.1);
        low = ap (λ (t : Text). is_gt (text_cmp t c.instance)) (own (instance_of l) d e)
            ∙ ap (λ (t : Text). is_gt (text_cmp (instance_of l) t)) (own (instance_of p) c f)
            ∙ ap is_gt (behind l p l_is p_is study series less);
      }

  -- ---- along the places

  -- the place that was taken last, whose content is shown, stands before all that come
  abbrev IsLast : Option Place → List Place → Type 0
  IsLast None ps = Unit {0}
  IsLast (Some l) ps = IsListed picks up l × ((p : Place) → IsOne ps p → place_cmp l p ≡ Less)
      × ((d : ContentParts) × (shown (instance_of l) ≡ Some d))

  abbrev IsTaken : Option Place → ContentParts → Type 0
  IsTaken None d = ⊥
  IsTaken (Some l) d = shown (instance_of l) ≡ Some d

  last_tail : (last : Option Place) (p : Place) (ps : List Place) → IsLast last (p ∷ ps) → IsLast last ps
  last_tail None p ps i = tt
  last_tail (Some l) p ps i = (i.0, (λ q h. i.1 q (inr h)), i.2)

  above_all : (p : Place) (ps : List Place) → AllByRecursion (λ q. place_cmp p q ≡ Less) ps → (q : Place) → IsOne ps q
      → place_cmp p q ≡ Less
  above_all p [] all q h = absurd h
  above_all p (r ∷ ps) all q (inl e) = ap (place_cmp p) e ∙ all.0
  above_all p (r ∷ ps) all q (inr h) = above_all p ps all.1 q h

  -- one of these, or what was taken last, stands for a content
  abbrev Stands : Option Place → ContentParts → List ContentParts → Type 0
  Stands last c cs = (d : ContentParts) × IsFor d c × (IsOne cs d ⊎ IsTaken last d)

  -- the next place is of the series of the one that was taken last
  in_series : (r : Option Place) (q : Place) (ps : List Place) → is_in_series r q ≡ true → IsLast r (q ∷ ps)
      → ((p : Place) → IsOne (q ∷ ps) p → IsListed picks up p) → (p : Place) → IsOne (q ∷ ps) p
      → (c : ContentParts) → shown (instance_of p) ≡ Some c
      → (IsOne ps p → Stands r c (firsts shown r ps)) → Stands r c (firsts shown r ps)
  in_series None q ps one j all p h c e more = absurd (false≢true one)
  in_series (Some l) q ps one j all p (inl s) c e more = (
    j.2.0,
    stands l q j.0 (all q (inl refl)) one (j.1 q (inl refl)) j.2.0 c j.2.1
        (ap (λ (x : Place). shown (instance_of x)) (sym s) ∙ e),
    inr j.2.1,
  )
  in_series (Some l) q ps one j all p (inr m) c e more = more m

  -- what stands behind a place that was taken
  behind_taken : (last : Option Place) (q : Place) (ps : List Place) (d c : ContentParts) → shown (instance_of q) ≡ Some d
      → Stands (Some q) c (firsts shown (Some q) ps) → Stands last c (d ∷ firsts shown (Some q) ps)
  behind_taken last q ps d c g at = (at.0, at.1, by at.2)
    where
      by : IsOne (firsts shown (Some q) ps) at.0 ⊎ IsTaken (Some q) at.0
          → IsOne (d ∷ firsts shown (Some q) ps) at.0 ⊎ IsTaken last at.0
      by (inl k) = inl (inr k)
      by (inr k) = let t : Some at.0 ≡ Some d = sym k ∙ g in let u : at.0 ≡ d = cc in inl (inl u)

  -- the next place is of another series
  fresh : (last : Option Place) (q : Place) (ps : List Place) (r : Option ContentParts) → shown (instance_of q) ≡ r
      → (p : Place) → IsOne (q ∷ ps) p → (c : ContentParts) → shown (instance_of p) ≡ Some c
      → (IsOne ps p → Stands last c (firsts shown last ps))
      → ((d : ContentParts) → shown (instance_of q) ≡ Some d → IsOne ps p → Stands (Some q) c (firsts shown (Some q) ps))
      → Stands last c (cons_option r (firsts shown (if is_some r then Some q else last) ps))
  fresh last q ps None g p (inl s) c e more next =
      let t : None ≡ Some c = sym g ∙ ap (λ (x : Place). shown (instance_of x)) (sym s) ∙ e in absurd cc
  fresh last q ps None g p (inr m) c e more next = more m
  fresh last q ps (Some d) g p (inl s) c e more next =
      let t : Some d ≡ Some c = sym g ∙ ap (λ (x : Place). shown (instance_of x)) (sym s) ∙ e in
      let u : c ≡ d = cc in (c, for_itself c, inl (inl u))
  fresh last q ps (Some d) g p (inr m) c e more next = behind_taken last q ps d c g (next d g m)

  -- either way
  one_place : (last : Option Place) (q : Place) (ps : List Place) (c : ContentParts) (b : Bool)
      → is_in_series last q ≡ b
      → (is_in_series last q ≡ true → Stands last c (firsts shown last ps))
      → Stands last c (cons_option (shown (instance_of q))
      (firsts shown (if is_some (shown (instance_of q)) then Some q else last) ps))
      → Stands last c (if b then firsts shown last ps else cons_option (shown (instance_of q))
      (firsts shown (if is_some (shown (instance_of q)) then Some q else last) ps))
  one_place last q ps c true one within apart = within one
  one_place last q ps c false one within apart = apart

  pub along : (last : Option Place) (ps : List Place) → IsStrictlySortedBy place_cmp ps
      → ((p : Place) → IsOne ps p → IsListed picks up p) → IsLast last ps → (p : Place) → IsOne ps p
      → (c : ContentParts) → shown (instance_of p) ≡ Some c → Stands last c (firsts shown last ps)
  unfolding IsStrictlySortedBy
  along last [] sorted all i p h c e = absurd h
  along last (q ∷ ps) sorted all i p h c e =
      let more : IsOne ps p → Stands last c (firsts shown last ps) = λ m. along last ps sorted.1 (λ x k. all x (inr k)) (last_tail last q ps i) p m c e in
      one_place last q ps c (is_in_series last q) refl
      (λ one. in_series last q ps one i all p h c e more)
      (fresh last q ps (shown (instance_of q)) refl p h c e more
      (λ d g m. along (Some q) ps sorted.1 (λ x k. all x (inr k)) (all q (inl refl), above_all q ps sorted.0, (d, g))
      p m c e))

  -- what is taken is shown at one of the places
  abbrev OfPlace : List Place → ContentParts → Type 0
  OfPlace ps d = (p : Place) × IsOne ps p × (shown (instance_of p) ≡ Some d)

  of_more : (q : Place) (ps : List Place) (d : ContentParts) → OfPlace ps d → OfPlace (q ∷ ps) d
  of_more q ps d at = (at.0, inr at.1, at.2)

  of_fresh : (last : Option Place) (q : Place) (ps : List Place) (d : ContentParts) (r : Option ContentParts)
      → shown (instance_of q) ≡ r
      → IsOne (cons_option r (firsts shown (if is_some r then Some q else last) ps)) d
      → ((l : Option Place) → IsOne (firsts shown l ps) d → OfPlace ps d) → OfPlace (q ∷ ps) d
  of_fresh last q ps d None g m more = of_more q ps d (more last m)
  of_fresh last q ps d (Some x) g (inl s) more = (q, inl refl, g ∙ ap Some (sym s))
  of_fresh last q ps d (Some x) g (inr m) more = of_more q ps d (more (Some q) m)

  of_one : (last : Option Place) (q : Place) (ps : List Place) (d : ContentParts) (b : Bool)
      → IsOne (if b then firsts shown last ps else cons_option (shown (instance_of q))
      (firsts shown (if is_some (shown (instance_of q)) then Some q else last) ps)) d
      → ((l : Option Place) → IsOne (firsts shown l ps) d → OfPlace ps d) → OfPlace (q ∷ ps) d
  of_one last q ps d true m more = of_more q ps d (more last m)
  of_one last q ps d false m more = of_fresh last q ps d (shown (instance_of q)) refl m more

  pub taken_of : (last : Option Place) (ps : List Place) (d : ContentParts) → IsOne (firsts shown last ps) d
      → OfPlace ps d
  taken_of last [] d h = absurd h
  taken_of last (q ∷ ps) d h = of_one last q ps d (is_in_series last q) h (λ l m. taken_of l ps d m)

  -- ---- of a study, and of all

  listed_place : (p : Place) → IsOne (tree_of picks) p → IsListed picks up p
  listed_place p h = picked picks up p (has_any (is_at (place_cmp p)) (tree_of picks) p h (at_itself place_total p))

  place_here : (uid : Text) (c : ContentParts) → shown uid ≡ Some c → IsOne (tree_of picks) (place_of uid (pick_of c))
  place_here uid c e =
      let q = place_of uid (pick_of c) in
      let at = any_has (is_at (place_cmp q)) (tree_of picks) (listed picks up (pick_of c).digest (pick_of c).study
      (pick_of c).series uid (picked_as uid c e)) in
      subst (IsOne (tree_of picks)) (sym (same_key place_exact q at.0 at.2)) at.1

  taken : (ps : List Place) (c : ContentParts) → Stands None c (firsts shown None ps)
      → (d : ContentParts) × IsFor d c × IsOne (firsts shown None ps) d
  taken ps c at = by at.2
    where
      by : IsOne (firsts shown None ps) at.0 ⊎ IsTaken None at.0
          → (d : ContentParts) × IsFor d c × IsOne (firsts shown None ps) d
      by (inl h) = (at.0, at.1, h)
      by (inr h) = absurd h

  pub stands_in_study : (uid : Text) (c : ContentParts) → shown uid ≡ Some c
      → (d : ContentParts) × IsFor d c × IsOne (firsts_in_study shown picks (take 64 (study_of c))) d
  stands_in_study uid c e =
      let study = take 64 (study_of c) in
      let p = place_of uid (pick_of c) in
      taken (places_in_study study picks) c (along None (places_in_study study picks)
      (IsStrictlySortedBy-filter place_cmp (is_between (front_of study) (end_of study)) (tree_of picks)
      (sorted-tree_of picks))
      (λ q h. listed_place q (filter_has (is_between (front_of study) (end_of study)) (tree_of picks) q h).0) tt
      p (has_filter (is_between (front_of study) (end_of study)) (tree_of picks) p (place_here uid c e)
      (between_of study (take 64 (series_of c)) uid)) c e)

  pub stands_in_all : (uid : Text) (c : ContentParts) → shown uid ≡ Some c
      → (d : ContentParts) × IsFor d c × IsOne (firsts shown None (tree_of picks)) d
  stands_in_all uid c e = taken (tree_of picks) c (along None (tree_of picks) (sorted-tree_of picks) listed_place tt
      (place_of uid (pick_of c)) (place_here uid c e) c e)

  -- what is taken is shown at its own UID
  pub taken_shown : (ps : List Place) (d : ContentParts) → IsOne (firsts shown None ps) d → shown d.instance ≡ Some d
  taken_shown ps d h =
      let at = taken_of None ps d h in
      ap shown (own (instance_of at.0) d at.2) ∙ at.2
