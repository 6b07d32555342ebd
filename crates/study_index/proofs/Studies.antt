-- The instances of a study, and those of a series of it, by the places between its front and its end.
use Rattle.std.specs.Prelude.{◌≡◌, Bool, true, false, not, ◌&&◌, ◌||◌, List, [], ◌∷◌, Option, None, Some, map, cond}
use Rattle.std.proofs.Common.{refl, sym, ap, ◌∙◌, subst}
use mathlib.Core.Bool.{true≢false}
use Rattle.std.specs.List.{filter}
use Rattle.std.specs.List.Sorted.{IsStrictlySortedBy}
use Rattle.std.specs.Map.{keys_of, lookup}
use Rattle.std.specs.Ordering.{is_le, is_gt, ordering_then, ordering_reverse}
use Rattle.std.specs.declared.cmp.Ordering.{Ordering}
use Rattle.std.specs.declared.cmp.Ordering.TheVariants.{Less, Equal, Greater}
use Rattle.std.specs.BTreeMap.{is_at}
use Rattle.std.specs.Cmp.Lexicographic.{nat_list_cmp_total}
use Rattle.std.proofs.lemmas.Cmp.{tied_itself}
use Rattle.std.proofs.lemmas.Bool.{and_parts as and_both}
use Rattle.std.specs.Cmp.{both_ways}
use Rattle.octets.specs.Members.{Has}
use Rattle.octets.specs.Texts.{same, text_cmp}
use Rattle.archive_model.proofs.MemberLaws.{any_has, has_any, filter_has, has_filter, map_has, has_map}
use Rattle.archive_model.proofs.ModelLaws.{same_is, same_itself}
use Rattle.study_index.specs.Keys.{has}
use Rattle.study_index.specs.Live.{Text, Pick, Place, a_pick, a_place, place_cmp, instance_of, flat, pick_at, tree_of}
use Rattle.study_index.specs.Live.{is_of_study}
use Rattle.study_index.specs.Live.{front_of, end_of, is_between, is_of_series, front_of_series, end_of_series}
use Rattle.study_index.specs.Proved.Picks.{text_exact, place_exact, place_total}
use Rattle.study_index.proofs.KeyLaws.{at_itself, same_key}
use Rattle.study_index.proofs.Walks.{picked, listed, IsListed}

-- ---- orders

le_first : (a b : Ordering) → is_le (ordering_then a b) ≡ true → is_gt a ≡ false
le_first Less b h = refl
le_first Equal b h = refl
le_first Greater b h = absurd (true≢false (sym h))

not_past : (a : Ordering) → not (is_le (ordering_then a Greater)) ≡ true → is_gt (ordering_reverse a) ≡ false
not_past Less h = absurd (true≢false (sym h))
not_past Equal h = refl
not_past Greater h = refl

neither : (o : Ordering) → is_gt o ≡ false → is_gt (ordering_reverse o) ≡ false → o ≡ Equal
neither Less h k = absurd (true≢false k)
neither Equal h k = refl
neither Greater h k = absurd (true≢false h)

le_none : (t : Text) (o : Ordering) → is_le o ≡ true → is_le (ordering_then (text_cmp [] t) o) ≡ true
le_none [] o h = h
le_none (x ∷ xs) o h = refl

itself : (t : Text) → text_cmp t t ≡ Equal
itself t = tied_itself nat_list_cmp_total t

-- what lies between the front and the end of a study is of it
of_between : (study : Text) (q : Place) → q ≡ a_place q.study q.series q.instance → is_between (front_of study)
    (end_of study) q ≡ true → study ≡ q.study
of_between study q is h =
    let both = and_both _ _ (sym (ap (is_between (front_of study) (end_of study)) is) ∙ h) in
    text_exact study q.study (neither (text_cmp study q.study) (le_first (text_cmp study q.study) _ both.0)
    (not_past (text_cmp study q.study) both.1))

-- and what is of it lies there
pub between_of : (study series instance : Text) → is_between (front_of study) (end_of study)
    (a_place study series instance) ≡ true
between_of study series instance =
    ap (λ o. is_le (ordering_then o (ordering_then (text_cmp [] series) (text_cmp [] instance))) &&
    not (is_le (ordering_then o Greater))) (itself study)
    ∙ ap (λ b. b && true) (le_none series (text_cmp [] instance) (le_text instance))
  where
    le_text : (t : Text) → is_le (text_cmp [] t) ≡ true
    le_text [] = refl
    le_text (x ∷ xs) = refl

-- the front of a study is no later than its end
pub front_before_end : (study : Text) → is_gt (place_cmp (front_of study) (end_of study)) ≡ false
front_before_end study = ap (λ o. is_gt (ordering_then o Less)) (itself study)

-- ---- the same of a series

both_equal : (a b c : Ordering) → is_le (ordering_then a (ordering_then b c)) ≡ true
    → not (is_le (ordering_then a (ordering_then b Greater))) ≡ true → (a ≡ Equal) × (b ≡ Equal)
both_equal Less b c h k = absurd (true≢false (sym k))
both_equal Equal Less c h k = absurd (true≢false (sym k))
both_equal Equal Equal c h k = (refl, refl)
both_equal Equal Greater c h k = absurd (true≢false (sym h))
both_equal Greater b c h k = absurd (true≢false (sym h))

le_text : (t : Text) → is_le (text_cmp [] t) ≡ true
le_text [] = refl
le_text (x ∷ xs) = refl

of_between_series : (study series : Text) (q : Place) → q ≡ a_place q.study q.series q.instance
    → is_between (front_of_series study series) (end_of_series study series) q ≡ true
    → (study ≡ q.study) × (series ≡ q.series)
of_between_series study series q is h =
    let both = and_both _ _ (sym (ap (is_between (front_of_series study series) (end_of_series study series)) is) ∙ h)
    in
    let equal = both_equal (text_cmp study q.study) (text_cmp series q.series) (text_cmp [] q.instance) both.0 both.1 in
    (text_exact study q.study equal.0, text_exact series q.series equal.1)

between_of_series : (study series instance : Text) → is_between (front_of_series study series)
    (end_of_series study series) (a_place study series instance) ≡ true
between_of_series study series instance =
    ap (λ o. is_le (ordering_then o (ordering_then (text_cmp series series) (text_cmp [] instance))) &&
    not (is_le (ordering_then o (ordering_then (text_cmp series series) Greater)))) (itself study)
    ∙ ap (λ o. is_le (ordering_then o (text_cmp [] instance)) && not (is_le (ordering_then o Greater))) (itself series)
    ∙ ap (λ b. b && true) (le_text instance)

pub series_front_before_end : (study series : Text) → is_gt (place_cmp (front_of_series study series)
    (end_of_series study series)) ≡ false
series_front_before_end study series =
    ap (λ o. is_gt (ordering_then o (ordering_then (text_cmp series series) Less))) (itself study)
    ∙ ap (λ o. is_gt (ordering_then o Less)) (itself series)

module _ (picks : List (Text × Option Pick)) (s : IsStrictlySortedBy text_cmp (keys_of picks)) where
  -- the instances of the places of a study are those whose pick is of it
  pub has_study : (study uid : Text) → has text_cmp
      (map instance_of (filter (is_between (front_of study) (end_of study)) (tree_of picks))) uid ≡ is_of_study
      study (pick_at uid picks)
  has_study study uid = both_ways _ _ there back
    where
      there : has text_cmp (map instance_of (filter (is_between (front_of study) (end_of study)) (tree_of picks)))
          uid ≡ true → is_of_study study (pick_at uid picks) ≡ true
      there h =
          let at = any_has (is_at (text_cmp uid)) _ h in
          let is : uid ≡ at.0 = same_key text_exact uid at.0 at.2 in
          let of = map_has instance_of (filter (is_between (front_of study) (end_of study)) (tree_of picks)) at.0 at.1
          in
          let q = of.0 in
          let within = filter_has (is_between (front_of study) (end_of study)) (tree_of picks) q of.1 in
          let l = picked picks s q (has_any (is_at (place_cmp q)) (tree_of picks) q within.0 (at_itself place_total q))
          in
          ap (λ u. is_of_study study (pick_at u picks)) (is ∙ of.2)
          ∙ ap (is_of_study study) (IsListed.pick l)
          ∙ same_itself q.study study (sym (of_between study q (IsListed.place l) within.1))

      back : is_of_study study (pick_at uid picks) ≡ true
          → has text_cmp (map instance_of (filter (is_between (front_of study) (end_of study)) (tree_of picks)))
          uid ≡ true
      back h = by (pick_at uid picks) refl h
        where
          by : (r : Option Pick) → pick_at uid picks ≡ r → is_of_study study r ≡ true
              → has text_cmp (map instance_of (filter (is_between (front_of study) (end_of study)) (tree_of picks)))
              uid ≡ true
          by None e g = absurd (true≢false (sym g))
          by (Some p) e g =
              let of : p.study ≡ study = same_is p.study study g in
              let q : Place = a_place study p.series uid in
              let at = any_has (is_at (place_cmp q)) (tree_of picks)
              (listed picks s p.digest study p.series uid
              (e ∙ ap (λ (t : Text). Some (a_pick p.digest t p.series)) of)) in
              let there : Has (tree_of picks) q = subst (Has (tree_of picks)) (sym (same_key place_exact q at.0 at.2))
              at.1 in
              has_any (is_at (text_cmp uid)) _ uid (has_map instance_of _
              q (has_filter (is_between (front_of study) (end_of study)) (tree_of picks) q
              there (between_of study p.series uid))) (at_itself nat_list_cmp_total uid)

  abbrev within_series : Text → Text → List Place
  within_series study series = filter (is_between (front_of_series study series) (end_of_series study series))
      (tree_of picks)

  -- the instances of the places of a series are those whose pick is of it
  pub has_series : (study series uid : Text) → has text_cmp (map instance_of (within_series study series)) uid
      ≡ is_of_series study series (pick_at uid picks)
  has_series study series uid = both_ways _ _ there back
    where
      between : Place → Bool
      between = is_between (front_of_series study series) (end_of_series study series)

      there : has text_cmp (map instance_of (within_series study series)) uid ≡ true
          → is_of_series study series (pick_at uid picks) ≡ true
      there h =
          let at = any_has (is_at (text_cmp uid)) _ h in
          let is : uid ≡ at.0 = same_key text_exact uid at.0 at.2 in
          let of = map_has instance_of (within_series study series) at.0 at.1 in
          let q = of.0 in
          let within = filter_has between (tree_of picks) q of.1 in
          let l = picked picks s q (has_any (is_at (place_cmp q)) (tree_of picks) q within.0 (at_itself place_total q))
          in
          let both = of_between_series study series q (IsListed.place l) within.1 in
          ap (λ u. is_of_series study series (pick_at u picks)) (is ∙ of.2)
          ∙ ap (is_of_series study series) (IsListed.pick l)
          ∙ ap (λ b. b && same q.series series) (same_itself q.study study (sym both.0))
          ∙ same_itself q.series series (sym both.1)

      back : is_of_series study series (pick_at uid picks) ≡ true
          → has text_cmp (map instance_of (within_series study series)) uid ≡ true
      back h = by (pick_at uid picks) refl h
        where
          by : (r : Option Pick) → pick_at uid picks ≡ r → is_of_series study series r ≡ true
              → has text_cmp (map instance_of (within_series study series)) uid ≡ true
          by None e g = absurd (true≢false (sym g))
          by (Some p) e g =
              let both = and_both _ _ g in
              let of : p.study ≡ study = same_is p.study study both.0 in
              let in_it : p.series ≡ series = same_is p.series series both.1 in
              let q : Place = a_place study series uid in
              let at = any_has (is_at (place_cmp q)) (tree_of picks)
              (listed picks s p.digest study series uid (e ∙ ap (λ (t : Text). Some (a_pick p.digest t p.series)) of
              ∙ ap (λ (t : Text). Some (a_pick p.digest study t)) in_it)) in
              let there : Has (tree_of picks) q = subst (Has (tree_of picks)) (sym (same_key place_exact q at.0 at.2))
              at.1 in
              has_any (is_at (text_cmp uid)) _ uid (has_map instance_of _
              q (has_filter between (tree_of picks) q there (between_of_series study series uid)))
              (at_itself nat_list_cmp_total uid)

-- an instance that has a pick is listed
pub pick_listed : (picks : List (Text × Option Pick)) (uid : Text) (p : Pick) → pick_at uid picks ≡ Some p
    → has text_cmp (keys_of picks) uid ≡ true
pick_listed [] uid p e = absurd cc
pick_listed (x ∷ picks) uid p e = by (is_at (text_cmp uid) x.0) (pick_listed picks uid p) e
  where
    by : (b : Bool) → (flat (lookup (is_at (text_cmp uid)) picks) ≡ Some p → has text_cmp (keys_of picks) uid ≡ true)
        → flat (cond b (Some x.1) (lookup (is_at (text_cmp uid)) picks)) ≡ Some p
        → (b || has text_cmp (keys_of picks) uid) ≡ true
    by true more g = refl
    by false more g = more g
