-- What follows a study, a series or an instance in the list of places.
use Rattle.std.specs.Prelude.{◌≡◌, true, false, ◌||◌, List, [], ◌∷◌, Option, None, Some}
use Rattle.std.proofs.Common.{refl, sym, ap, ◌∙◌}
use mathlib.Core.Bool.{true≢false}
use Rattle.std.specs.List.Sorted.{IsStrictlySortedBy}
use Rattle.std.specs.Map.{keys_of}
use Rattle.std.specs.Cmp.Lexicographic.{nat_list_cmp_total}
use Rattle.std.specs.Ordering.{nat_cmp, is_gt, ordering_then, ordering_reverse}
use Rattle.std.specs.declared.cmp.Ordering.{Ordering}
use Rattle.std.specs.declared.cmp.Ordering.TheVariants.{Less, Equal, Greater}
use Rattle.std.specs.declared.ops.Bound.{Bound}
use Rattle.std.specs.BTreeMap.Range.{IsFromStart, IsLeBy}
use Rattle.std.proofs.lemmas.Cmp.{tied_itself}
use Rattle.octets.specs.Texts.{text_cmp}
use Rattle.study_index.specs.Keys.{has}
use Rattle.study_index.specs.Live.{Text, Pick, Place, a_pick, a_place, place_cmp, pick_at, tree_of, HasStudy}
use Rattle.study_index.specs.Live.{HasSeries, HasInstance}
use Rattle.study_index.specs.Live.{end_of, end_of_series, IsPast, IsNext, study_start, series_start, instance_start}
use Rattle.study_index.specs.Proved.Picks.{text_exact, place_total}
use Rattle.study_index.proofs.KeyLaws.{at_itself}
use Rattle.study_index.proofs.Trees.{has-tree_of, stands, at_of}

-- ---- orders

-- what the first part decides
less_first : (a b : Ordering) → a ≡ Less → ordering_then a b ≡ Less
less_first a b h = ap (λ o. ordering_then o b) h

less_second : (a b : Ordering) → a ≡ Equal → b ≡ Less → ordering_then a b ≡ Less
less_second a b h k = ap (λ o. ordering_then o b) h ∙ k

gt_second : (a b : Ordering) → a ≡ Equal → is_gt b ≡ false → is_gt (ordering_then a b) ≡ false
gt_second a b h k = ap (λ o. is_gt (ordering_then o b)) h ∙ k

-- the first part of what is less is no greater
first_of_less : (a b : Ordering) → ordering_then a b ≡ Less → is_gt a ≡ false
first_of_less Less b h = refl
first_of_less Equal b h = refl
first_of_less Greater b h = absurd cc

first_of_le : (a b : Ordering) → is_gt (ordering_then a b) ≡ false → is_gt a ≡ false
first_of_le Less b h = refl
first_of_le Equal b h = refl
first_of_le Greater b h = absurd (true≢false h)

-- and where it decides nothing, the second part does
second_of_less : (a b : Ordering) → a ≡ Equal → ordering_then a b ≡ Less → b ≡ Less
second_of_less a b e h = sym (ap (λ o. ordering_then o b) e) ∙ h

second_of_le : (a b : Ordering) → a ≡ Equal → is_gt (ordering_then a b) ≡ false → is_gt b ≡ false
second_of_le a b e h = sym (ap (λ o. is_gt (ordering_then o b)) e) ∙ h

-- an end stands behind all that stands in it
past_end : (a : Ordering) → ordering_then a Greater ≡ Less → a ≡ Less
past_end Less h = refl
past_end Equal h = absurd cc
past_end Greater h = absurd cc

itself : (t : Text) → text_cmp t t ≡ Equal
itself t = tied_itself nat_list_cmp_total t

equal_texts : (s t : Text) → s ≡ t → text_cmp s t ≡ Equal
equal_texts s t h = ap (text_cmp s) (sym h) ∙ itself s

none_first : (t : Text) → is_gt (text_cmp [] t) ≡ false
none_first [] = refl
none_first (x ∷ xs) = refl

neither : (o : Ordering) → is_gt o ≡ false → is_gt (ordering_reverse o) ≡ false → o ≡ Equal
neither Less h k = absurd (true≢false k)
neither Equal h k = refl
neither Greater h k = absurd (true≢false h)

-- of two texts neither of which is greater
same_text : (s t : Text) → is_gt (text_cmp s t) ≡ false → is_gt (text_cmp t s) ≡ false → s ≡ t
same_text s t h k = text_exact s t (neither (text_cmp s t) h (ap is_gt (sym (nat_list_cmp_total.antisymm t s)) ∙ k))

-- ---- a place is in the list exactly where a pick stands there
module _ (picks : List (Text × Option Pick)) (s : IsStrictlySortedBy text_cmp (keys_of picks)) where
  abbrev listed_at : Text → Text → Text → Place
  listed_at study series instance = a_place study series instance

  pub listed : (digest study series instance : Text) → pick_at instance picks ≡ Some (a_pick digest study series)
      → has place_cmp (tree_of picks) (a_place study series instance) ≡ true
  listed digest study series instance h =
      has-tree_of picks s (a_place study series instance)
      ∙ ap (stands (a_place study series instance)) h
      ∙ ap (λ b. b || false) (at_itself place_total (a_place study series instance))

  -- what the list has is a place of a pick
  pub record IsListed (q : Place) : Type 0 where
    pub digest : Text
    pub pick : pick_at q.instance picks ≡ Some (a_pick digest q.study q.series)
    pub place : q ≡ a_place q.study q.series q.instance

  pub picked : (q : Place) → has place_cmp (tree_of picks) q ≡ true → IsListed q
  picked q h = by (pick_at q.instance picks) refl (sym (has-tree_of picks s q) ∙ h)
    where
      by : (o : Option Pick) → pick_at q.instance picks ≡ o → stands q o ≡ true → IsListed q
      by None l m = absurd (true≢false (sym m))
      by (Some p) l m =
          let at = at_of q p m in
          let study : p.study ≡ q.study = sym (ap (λ (x : Place). x.study) at) in
          let series : p.series ≡ q.series = sym (ap (λ (x : Place). x.series) at) in
          record {
            digest = p.digest;
            pick = l ∙ ap (λ (t : Text). Some (a_pick p.digest t p.series)) study ∙ ap
                (λ (t : Text). Some (a_pick p.digest q.study t)) series;
            place = at ∙ ap (λ (t : Text). a_place t p.series q.instance) study
                ∙ ap (λ (t : Text). a_place q.study t q.instance) series;
          }

  abbrev IsLeast : Place → Bound Place → Type 0
  IsLeast p start = (q : Place) → IsFromStart place_cmp start q → has place_cmp (tree_of picks) q ≡ true
      → IsLeBy place_cmp p q

  abbrev IsNone : Bound Place → Type 0
  IsNone start = (q : Place) → IsFromStart place_cmp start q → has place_cmp (tree_of picks) q ≡ false

  -- ---- studies
  study_from : (after : Option Text) (q : Place) → IsPast after q.study → IsFromStart place_cmp (study_start after) q
  study_from None q h = tt
  study_from (Some a) q h = less_first (text_cmp a q.study) _ h

  study_past : (after : Option Text) (p : Place) → IsListed p → IsFromStart place_cmp (study_start after) p
      → IsPast after p.study
  study_past None p l h = tt
  study_past (Some a) p l h = past_end (text_cmp a p.study) (sym (ap (place_cmp (end_of a)) (IsListed.place l))
      ∙ h)

  pub no_study : (after : Option Text) → IsNone (study_start after) → IsNext (HasStudy picks) after None
  no_study after none uid there past =
      let q : Place = a_place uid there.2 there.0 in
      true≢false (sym (listed there.1 uid there.2 there.0 there.3) ∙ none q (study_from after q past))

  pub a_study : (after : Option Text) (p : Place) → IsFromStart place_cmp (study_start after) p
      → has place_cmp (tree_of picks) p ≡ true → IsLeast p (study_start after) → IsNext (HasStudy picks)
      after (Some p.study)
  a_study after p from there least = (
    (p.instance, IsListed.digest (picked p there), p.series, IsListed.pick (picked p there)),
    study_past after p (picked p there) from,
    λ uid has past.
        let q : Place = a_place uid has.2 has.0 in
        first_of_le (text_cmp p.study uid) _ (least q (study_from after q past) (listed has.1 uid has.2 has.0 has.3)),
  )

  -- ---- series of a study
  series_from : (study : Text) (after : Option Text) (series instance : Text) → IsPast after series
      → IsFromStart place_cmp (series_start study after) (a_place study series instance)
  series_from study None series instance h =
      gt_second (text_cmp study study) _ (itself study) (by (text_cmp [] series) refl (none_first series))
    where
      by : (o : Ordering) → text_cmp [] series ≡ o → is_gt o ≡ false
          → is_gt (ordering_then (text_cmp [] series) (ordering_then (nat_cmp 0 0) (text_cmp [] instance))) ≡ false
      by Less e g = ap (λ o. is_gt (ordering_then o (ordering_then (nat_cmp 0 0) (text_cmp [] instance)))) e
      by Equal e g = ap (λ o. is_gt (ordering_then o (ordering_then (nat_cmp 0 0) (text_cmp [] instance)))) e
          ∙ none_first instance
      by Greater e g = absurd (true≢false g)
  series_from study (Some a) series instance h = less_second (text_cmp study study) _ (itself study)
      (less_first (text_cmp a series) _ h)

  series_past : (study : Text) (after : Option Text) (p : Place) → IsListed p
      → IsFromStart place_cmp (series_start study after) p → p.study ≡ study → IsPast after p.series
  series_past study None p l h at = tt
  series_past study (Some a) p l h at =
      past_end (text_cmp a p.series)
      (second_of_less (text_cmp study p.study) _ (equal_texts study p.study (sym at))
      (sym (ap (place_cmp (end_of_series study a)) (IsListed.place l)) ∙ h))

  series_above : (study : Text) (after : Option Text) (p : Place) → IsFromStart place_cmp (series_start study after) p
      → is_gt (text_cmp study p.study) ≡ false
  series_above study None p h = first_of_le (text_cmp study p.study) _ h
  series_above study (Some a) p h = first_of_less (text_cmp study p.study) _ h

  pub no_series : (study : Text) (after : Option Text) → IsNone (series_start study after)
      → IsNext (HasSeries picks study) after None
  no_series study after none uid there past =
      true≢false (sym (listed there.1 study uid there.0 there.2) ∙ none (a_place study uid there.0)
      (series_from study after uid there.0 past))

  pub other_study : (study : Text) (after : Option Text) (p : Place) → (p.study ≡ study → ⊥)
      → IsFromStart place_cmp (series_start study after) p → IsLeast p (series_start study after)
      → IsNext (HasSeries picks study) after None
  other_study study after p apart from least uid has past =
      let q : Place = a_place study uid has.0 in
      apart (same_text p.study study (first_of_le (text_cmp p.study study) _
      (least q (series_from study after uid has.0 past)
      (listed has.1 study uid has.0 has.2))) (series_above study after p from))

  pub a_series : (study : Text) (after : Option Text) (p : Place) → p.study ≡ study
      → IsFromStart place_cmp (series_start study after) p → has place_cmp (tree_of picks) p ≡ true
      → IsLeast p (series_start study after)
      → IsNext (HasSeries picks study) after (Some p.series)
  a_series study after p at from there least = (
    (
      p.instance,
      IsListed.digest (picked p there),
      IsListed.pick (picked p there)
          ∙ ap (λ (t : Text). Some (a_pick (IsListed.digest (picked p there)) t p.series)) at,
    ),
    series_past study after p (picked p there) from at,
    λ uid has past.
        let q : Place = a_place study uid has.0 in
        let le = second_of_le (text_cmp p.study study) _ (equal_texts p.study study at)
        (least q (series_from study after uid has.0 past) (listed has.1 study uid has.0 has.2)) in
        first_of_le (text_cmp p.series uid) _ (second_of_le (nat_cmp p.study_end 0) _
        (stands_there p (picked p there)) le),
  )
    where
      stands_there : (q : Place) → IsListed q → nat_cmp q.study_end 0 ≡ Equal
      stands_there q l = ap (λ (x : Place). nat_cmp x.study_end 0) (IsListed.place l)

  -- ---- instances of a series
  instance_from : (study series : Text) (after : Option Text) (instance : Text) → IsPast after instance
      → IsFromStart place_cmp (instance_start study series after) (a_place study series instance)
  instance_from study series None instance h = gt_second (text_cmp study study) _ (itself study)
      (gt_second (text_cmp series series) _ (itself series) (none_first instance))
  instance_from study series (Some a) instance h = less_second (text_cmp study study) _ (itself study)
      (less_second (text_cmp series series) _ (itself series) h)

  studies_above : (study series : Text) (after : Option Text) (p : Place)
      → IsFromStart place_cmp (instance_start study series after) p → is_gt (text_cmp study p.study) ≡ false
  studies_above study series None p h = first_of_le (text_cmp study p.study) _ h
  studies_above study series (Some a) p h = first_of_less (text_cmp study p.study) _ h

  series_of_study_above : (study series : Text) (after : Option Text) (p : Place) → IsListed p → p.study ≡ study
      → IsFromStart place_cmp (instance_start study series after) p → is_gt (text_cmp series p.series) ≡ false
  series_of_study_above study series None p l at h =
      first_of_le (text_cmp series p.series) _
      (second_of_le (text_cmp study p.study) _ (equal_texts study p.study (sym at))
      (sym (ap (λ (x : Place). is_gt (place_cmp (a_place study series []) x)) (IsListed.place l)) ∙ h))
  series_of_study_above study series (Some a) p l at h =
      first_of_less (text_cmp series p.series) _
      (second_of_less (text_cmp study p.study) _ (equal_texts study p.study (sym at))
      (sym (ap (place_cmp (a_place study series a)) (IsListed.place l)) ∙ h))

  instance_past : (study series : Text) (after : Option Text) (p : Place) → IsListed p
      → IsFromStart place_cmp (instance_start study series after) p → p.study ≡ study → p.series ≡ series
      → IsPast after p.instance
  instance_past study series None p l h at of = tt
  instance_past study series (Some a) p l h at of =
      second_of_less (text_cmp series p.series) _ (equal_texts series p.series (sym of))
      (second_of_less (text_cmp study p.study) _ (equal_texts study p.study (sym at))
      (sym (ap (place_cmp (a_place study series a)) (IsListed.place l)) ∙ h))

  pub no_instance : (study series : Text) (after : Option Text) → IsNone (instance_start study series after)
      → IsNext (HasInstance picks study series) after None
  no_instance study series after none uid there past =
      true≢false (sym (listed there.0 study series uid there.1) ∙ none (a_place study series uid)
      (instance_from study series after uid past))

  pub not_in_study : (study series : Text) (after : Option Text) (p : Place) → (p.study ≡ study → ⊥)
      → IsFromStart place_cmp (instance_start study series after) p → IsLeast p (instance_start study series after)
      → IsNext (HasInstance picks study series) after None
  not_in_study study series after p apart from least uid has past =
      let q : Place = a_place study series uid in
      apart (same_text p.study study (first_of_le (text_cmp p.study study)
      _ (least q (instance_from study series after uid past) (listed has.0 study series uid has.1)))
      (studies_above study series after p from))

  -- behind the study and the number 0 of a listed place, the series decides
  behind_study : (p : Place) (study series uid : Text) → IsListed p → p.study ≡ study
      → IsLeBy place_cmp p (a_place study series uid)
      → is_gt (ordering_then (text_cmp p.series series) (ordering_then (nat_cmp p.series_end 0)
      (text_cmp p.instance uid)))
      ≡ false
  behind_study p study series uid l at le = second_of_le (nat_cmp p.study_end 0) _
      (ap (λ (x : Place). nat_cmp x.study_end 0)
      (IsListed.place l)) (second_of_le (text_cmp p.study study) _ (equal_texts p.study study at) le)

  pub not_in_series : (study series : Text) (after : Option Text) (p : Place) → p.study ≡ study
      → (p.series ≡ series → ⊥)
      → IsFromStart place_cmp (instance_start study series after) p → has place_cmp (tree_of picks) p ≡ true
      → IsLeast p (instance_start study series after) → IsNext (HasInstance picks study series) after None
  not_in_series study series after p at apart from there least uid has past =
      let q : Place = a_place study series uid in
      let le = least q (instance_from study series after uid past) (listed has.0 study series uid has.1) in
      apart (same_text p.series series (first_of_le (text_cmp p.series series)
      _ (behind_study p study series uid (picked p there) at le)) (series_of_study_above study series after
      p (picked p there) at from))

  pub an_instance : (study series : Text) (after : Option Text) (p : Place) → p.study ≡ study → p.series ≡ series
      → IsFromStart place_cmp (instance_start study series after) p → has place_cmp (tree_of picks) p ≡ true
      → IsLeast p (instance_start study series after) → IsNext (HasInstance picks study series) after (Some p.instance)
  an_instance study series after p at of from there least =
      let l = picked p there in (
        (
          IsListed.digest l,
          IsListed.pick l ∙ ap (λ (t : Text). Some (a_pick (IsListed.digest l) t p.series)) at
              ∙ ap (λ (t : Text). Some (a_pick (IsListed.digest l) study t)) of,
        ),
        instance_past study series after p l from at of,
        λ uid has past.
            let q : Place = a_place study series uid in
            let le = behind_study p study series uid l at (least q (instance_from study series after uid past)
            (listed has.0 study series uid has.1)) in
            second_of_le (nat_cmp p.series_end 0) _ (ap (λ (x : Place). nat_cmp x.series_end 0) (IsListed.place l))
            (second_of_le (text_cmp p.series series) _ (equal_texts p.series series of) le),
      )
