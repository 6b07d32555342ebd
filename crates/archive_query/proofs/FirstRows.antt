-- The rows of what is shown first of each series are all rows, where no count is asked.
use Rattle.std.proofs.Common.{◌≡◌, ℕ, Bool, true, false, List, [], ◌∷◌, map, take, Option, Some, None, refl, sym, ap}
use Rattle.std.proofs.Common.{subst, ◌∙◌}
use Rattle.std.specs.Prelude.{◌&&◌, ◌||◌, not}
use Rattle.std.specs.List.{filter, filter_map, find, cons_option}
use Rattle.std.specs.List.Sorted.{IsStrictlySortedBy}
use Rattle.std.specs.BTreeMap.{is_at}
use Rattle.std.specs.Map.{keys_of}
use Rattle.std.specs.Option.{option_map}
use Rattle.std.specs.Ordering.{is_gt}
use Rattle.dictionary.specs.declared.elements.TheConstants.{STUDY_INSTANCE_UID}
use Rattle.octets.specs.Members.{Has as IsOne}
use Rattle.octets.specs.Texts.{same, text_cmp, ascending}
use Rattle.operation.specs.declared.op.Op.{Op}
use Rattle.operation.specs.Parts.{ContentParts}
use Rattle.archive_model.specs.declared.view.View.{View}
use Rattle.archive_model.specs.Attributes.{attribute}
use Rattle.archive_model.specs.Contents.{contents, instances, study_of, series_of}
use Rattle.archive_model.specs.Shown.{shown, shown_at}
use Rattle.archive_model.proofs.MemberLaws.{any_has, filter_has, has_filter, has_map, map_has, filter_map_has}
use Rattle.archive_model.proofs.MemberLaws.{has_filter_map}
use Rattle.archive_model.proofs.ModelLaws.{same_itself, pick_is_content}
use Rattle.study_index.specs.Live.{tree_of, places_in_study}
use Rattle.study_index.specs.Proved.Picks.{text_exact}
use Rattle.study_index.proofs.KeyLaws.{same_key}
use Rattle.study_index.specs.Index.{IndexValue}
use Rattle.study_index.specs.Definition.{IsIndexOf, AreLawful}
use Rattle.archive_model.specs.declared.asked.Asked.{Asked}
use Rattle.archive_model.specs.declared.query.Query.{Query}
use Rattle.archive_model.specs.declared.key.Level.TheVariants.{Study}
use Rattle.archive_model.specs.Key.{has_study_above, has_series_above}
use Rattle.archive_model.specs.Rows.{uid_at, is_named, named, rows_among, rows_of}
use Rattle.archive_query.specs.Candidates.{is_list_of, members_of, listed_of, listed_tag, AreWalked}
use Rattle.archive_query.specs.Firsts.{is_counted, firsts_in_study, firsts_of}
use Rattle.archive_query.specs.Found.{AreEnough}
use Rattle.archive_query.specs.Grouping.{under, groups_by, Ascends}
use Rattle.archive_query.proofs.AscendingLaws.{Text, Rises, Below, ascending_rises, has_ascending}
use Rattle.archive_query.proofs.CandidateLaws.{one_has, has_one, is_kept, is_study_match, kept_by, kept_at}
use Rattle.archive_query.proofs.CandidateLaws.{shown_pick, rows_of_kept}
use Rattle.archive_query.proofs.CandidateLaws.{is_walked_study, walked_to}
use Rattle.dictionary.specs.declared.role.Matching.TheVariants.{Uids}
use Rattle.key_matching.specs.Matches.{matches}
use Rattle.archive_query.proofs.FirstLaws.{IsFor, has_flat, flat_has, own, stands_in_study, stands_in_all, taken_shown}
use Rattle.archive_query.proofs.GroupingLaws.{AtLeast}
use Rattle.archive_query.proofs.HeadLaws.{Up, ups, up_filter, StandsFor, firsts_alike, rows_by_firsts}

-- ---- a sort keeps the members

has_group : {X : Type 0} (key : X → Text) (xs : List X) (x : X) → IsOne xs x
    → IsOne (groups_by key xs) (under key (key x) xs) × IsOne (under key (key x) xs) x
has_group key xs x h = (
  has_map (λ k. under key k xs) (ascending (map key xs)) (key x)
      (has_one (ascending (map key xs)) (key x) (has_ascending (map key xs) (key x)
      (one_has (map key xs) (key x) (has_map key xs x h)))),
  has_filter (λ y. same (key y) (key x)) xs x h (same_itself (key x) (key x) refl),
)

group_has : {X : Type 0} (key : X → Text) (ys : List X) (g : List X) (x : X) → IsOne (groups_by key ys) g → IsOne g x
    → IsOne ys x
group_has {X} key ys g x h m =
    let at = map_has (λ k. under key k ys) (ascending (map key ys)) g h in
    (filter_has (λ y. same (key y) at.0) ys x (subst (λ (z : List X). IsOne z x) at.2 m)).0

pub regrouped : {X : Type 0} (key : X → Text) (xs ys : List X) → groups_by key xs ≡ groups_by key ys → (x : X)
    → IsOne xs x → IsOne ys x
regrouped key xs ys e x h =
    let at = has_group key xs x h in
    group_has key ys (under key (key x) xs) x (subst (λ gs. IsOne gs (under key (key x) xs)) e at.0) at.1

pub ascends_map : {X Y : Type 0} (key : Y → Text) (f : X → Y) (xs : List X) → Ascends (λ x. key (f x)) xs
    → Ascends key (map f xs)
ascends_map key f [] up = tt
ascends_map key f (x ∷ []) up = tt
ascends_map key f (x ∷ y ∷ xs) up = (up.0, ascends_map key f (y ∷ xs) up.1)

pub mapped_members : {X Y : Type 0} (f : X → Y) (xs ys : List X) → ((x : X) → IsOne xs x → IsOne ys x) → (y : Y)
    → IsOne (map f xs) y → IsOne (map f ys) y
mapped_members {X} {Y} f xs ys within y h =
    let at = map_has f xs y h in
    subst (IsOne (map f ys)) (sym at.2) (has_map f ys at.0 (within at.0 at.1))

module _ (view : View) (ops : List Op) (index : IndexValue) (is : IsIndexOf ops index)
    (up : IsStrictlySortedBy text_cmp (keys_of index.picks)) where
  -- ---- what is shown, by ascending UID

  low : (k : Text) (us : List Text) → Below k us → AtLeast (λ c. c.instance) k (filter_map (shown_at view ops) us)
  low k [] below = tt
  low k (v ∷ us) below = by (shown_at view ops v) refl (low k us below.1)
    where
      by : (r : Option ContentParts) → shown_at view ops v ≡ r
          → AtLeast (λ c. c.instance) k (filter_map (shown_at view ops) us)
          → AtLeast (λ c. c.instance) k (cons_option r (filter_map (shown_at view ops) us))
      by None e rest = rest
      by (Some d) e rest = (
        ap (λ (t : Text). is_gt (text_cmp k t)) (own view ops index is up v d e) ∙ ap is_gt below.0,
        rest,
      )

  pub up_shown : (us : List Text) → Rises us → Up (λ c. c.instance) (filter_map (shown_at view ops) us)
  up_shown [] rises = tt
  up_shown (u ∷ us) rises = by (shown_at view ops u) refl (up_shown us rises.1)
    where
      by : (r : Option ContentParts) → shown_at view ops u ≡ r
          → Up (λ c. c.instance) (filter_map (shown_at view ops) us)
          → Up (λ c. c.instance) (cons_option r (filter_map (shown_at view ops) us))
      by None e rest = rest
      by (Some c) e rest = (
        subst (λ (t : Text). AtLeast (λ x. x.instance) t (filter_map (shown_at view ops) us))
            (sym (own view ops index is up u c e)) (low u us rises.0),
        rest,
      )

  pub shown_own : (c : ContentParts) → IsOne (shown view ops) c → shown_at view ops c.instance ≡ Some c
  shown_own c h =
      let at = filter_map_has (shown_at view ops) (instances ops) c h in
      ap (shown_at view ops) (own view ops index is up at.0 c at.2) ∙ at.2

  pub in_shown : (c : ContentParts) → shown_at view ops c.instance ≡ Some c → IsOne (shown view ops) c
  in_shown c e =
      let of_set = pick_is_content c.instance ops c (shown_pick view ops c.instance c e) in
      has_filter_map (shown_at view ops) (instances ops) c.instance c
      (has_one (instances ops) c.instance (has_ascending (map (λ (x : ContentParts). x.instance) (contents ops))
      c.instance (one_has _ c.instance (has_map (λ (x : ContentParts). x.instance) (contents ops) c of_set.0)))) e

module _ (view : View) (ops : List Op) (index : IndexValue) (is : IsIndexOf ops index) (lawful : AreLawful ops)
    (up : IsStrictlySortedBy text_cmp (keys_of index.picks)) (q : Query) (none : is_counted q ≡ false)
    (at_study : q.level ≡ Study) where
  -- ---- what is taken

  abbrev keep : ContentParts → Bool
  keep = is_kept ops q

  -- what is kept goes by its study
  kept_alike : (r : Option Asked) (d c : ContentParts) → study_of d ≡ study_of c → kept_by r ops q d ≡ kept_by r ops q c
  kept_alike None d c e = ap (is_study_match ops q) e
  kept_alike (Some a) d c e = ap (matches Uids a.key) e

  at_level : (c : ContentParts) → keep c ≡ kept_by (find (is_list_of STUDY_INSTANCE_UID) q.asked) ops q c
  at_level c = ap (λ l. kept_at l ops q c) at_study

  all_named : (c : ContentParts) → is_named q c ≡ true
  all_named c = ap (λ l. (not (has_study_above l) || same (study_of c) q.study) &&
      (not (has_series_above l) || same (series_of c) q.series)) at_study

  module _ (studies : Option (List Text)) (walked : AreWalked (listed_of q) q index studies) (ds : List ContentParts)
      (ds_up : Ascends (λ c. c.instance) ds)
      (there : (c : ContentParts) → IsOne (firsts_of (shown_at view ops) index.picks studies) c → IsOne ds c)
      (back : (c : ContentParts) → IsOne ds c → IsOne (firsts_of (shown_at view ops) index.picks studies) c) where
    each_shown : (r : Option (List Text)) (d : ContentParts)
        → IsOne (firsts_of (shown_at view ops) index.picks r) d → shown_at view ops d.instance ≡ Some d
    each_shown None d h = taken_shown view ops index is up (tree_of index.picks) d h
    each_shown (Some ss) d h =
        let at = flat_has (firsts_in_study (shown_at view ops) index.picks) ss d h in
        taken_shown view ops index is up (places_in_study at.0 index.picks) d at.2

    abbrev all : List ContentParts
    all = named q (filter keep (shown view ops))

    abbrev taken : List ContentParts
    taken = named q (filter keep ds)

    taken_in : (c : ContentParts) → IsOne ds c → keep c ≡ true → IsOne taken c
    taken_in c h k = has_filter (is_named q) (filter keep ds) c (has_filter keep ds c h k) (all_named c)

    in_taken : (c : ContentParts) → IsOne taken c → IsOne ds c × (keep c ≡ true)
    in_taken c h = filter_has keep ds c (filter_has (is_named q) (filter keep ds) c h).0

    all_in : (c : ContentParts) → IsOne (shown view ops) c → keep c ≡ true → IsOne all c
    all_in c h k = has_filter (is_named q) (filter keep (shown view ops)) c (has_filter keep (shown view ops) c h k)
        (all_named c)

    in_all : (c : ContentParts) → IsOne all c → IsOne (shown view ops) c × (keep c ≡ true)
    in_all c h = filter_has keep (shown view ops) c (filter_has (is_named q) (filter keep (shown view ops)) c h).0

    within : (d : ContentParts) → IsOne taken d → IsOne all d
    within d h =
        let at = in_taken d h in all_in d (in_shown view ops index is up d (each_shown studies d (back d at.0))) at.1

    single : (c d : ContentParts) → IsOne all c → IsOne all d → c.instance ≡ d.instance → c ≡ d
    single c d h k e =
        let s : Some c ≡ Some d = sym (shown_own view ops index is up c (in_all c h).0) ∙ ap (shown_at view ops) e
        ∙ shown_own view ops index is up d (in_all d k).0 in cc

    -- what is kept is stood for by what is taken
    first_of : (r : Option (List Text)) (c : ContentParts) → is_walked_study r (take 64 (study_of c)) ≡ true
        → shown_at view ops c.instance ≡ Some c
        → (d : ContentParts) × IsFor d c × IsOne (firsts_of (shown_at view ops) index.picks r) d
    first_of None c w e = stands_in_all view ops index is up c.instance c e
    first_of (Some ss) c w e =
        let at = any_has (is_at (text_cmp (take 64 (study_of c)))) ss w in
        let tie : take 64 (study_of c) ≡ at.0 = same_key text_exact (take 64 (study_of c)) at.0 at.2 in
        let f = stands_in_study view ops index is up c.instance c e in (
          f.0,
          f.1,
          has_flat (firsts_in_study (shown_at view ops) index.picks) ss at.0 f.0 at.1
              (subst (λ (t : Text). IsOne (firsts_in_study (shown_at view ops) index.picks t) f.0) tie f.2),
        )

    stand : (c : ContentParts) → IsOne all c → StandsFor q.level taken c
    stand c h =
        let at = in_all c h in
        let kept = sym (at_level c) ∙ at.1 in
        let walked_is = walked_to ops index is lawful (find (is_list_of STUDY_INSTANCE_UID) q.asked) q refl studies
        (subst (λ l. AreWalked (option_map members_of (find (is_list_of (listed_tag l)) q.asked)) q index studies)
        at_study walked) c kept in
        let f = first_of studies c walked_is (shown_own view ops index is up c at.0) in
        record {
          other = f.0;
          one = taken_in f.0 (there f.0 f.2) (at_level f.0
              ∙ kept_alike (find (is_list_of STUDY_INSTANCE_UID) q.asked) f.0 c f.1.study ∙ kept);
          uid = ap (λ l. uid_at l f.0) at_study ∙ f.1.study ∙ ap (λ l. uid_at l c) (sym at_study);
          low = f.1.low;
        }

    of_set : (xs : List ContentParts) → ((c : ContentParts) → IsOne xs c → shown_at view ops c.instance ≡ Some c)
        → (c : ContentParts) → IsOne xs c → IsOne (contents ops) c
    of_set xs each c h = (pick_is_content c.instance ops c (shown_pick view ops c.instance c (each c h))).0

    ds_shown : (c : ContentParts) → IsOne ds c → shown_at view ops c.instance ≡ Some c
    ds_shown c h = each_shown studies c (back c h)

    all_rows : (called : List ℕ) → rows_among ops called q (named q ds) ≡ rows_of view called q ops
    unfolding rows_of
    all_rows called =
        rows_of_kept ops lawful called q ds (of_set ds ds_shown)
        ∙ sym (rows_by_firsts (attribute ops) called q none all taken
        (firsts_alike q.level all taken
        (up_filter (λ c. c.instance) (is_named q) (filter keep (shown view ops))
        (up_filter (λ c. c.instance) keep (shown view ops)
        (up_shown view ops index is up (instances ops)
        (ascending_rises (map (λ (x : ContentParts). x.instance) (contents ops))))))
        (up_filter (λ c. c.instance) (is_named q) (filter keep ds)
        (up_filter (λ c. c.instance) keep ds (ups (λ c. c.instance) ds ds_up)))
        within single stand))
        ∙ sym (rows_of_kept ops lawful called q (shown view ops)
        (of_set (shown view ops) (shown_own view ops index is up)))

    pub first_enough : AreEnough view q ops (named q ds)
    first_enough = record {
      rows = all_rows;
      shown = λ c h. ds_shown c (filter_has (is_named q) ds c h).0;
    }
