-- The candidates of a query are enough: no row is lost.
use Rattle.std.proofs.Common.{◌≡◌, ℕ, Bool, true, false, cond, List, [], ◌∷◌, map, take, length, Option, Some, None}
use Rattle.std.proofs.Common.{refl, sym, ap, subst, ◌∙◌, inl, inr}
use Rattle.std.specs.Prelude.{◌&&◌, ◌||◌, ◌==◌, not, is_some, IfSome, if◌then◌else◌}
use Rattle.std.proofs.lemmas.Bool.{eqb-true, false≢true, and_parts as and_both, or_left as or_first}
use Rattle.std.specs.List.{filter, filter_map, cons_option, find, list_any, list_all, AllByRecursion}
use Rattle.std.specs.List.Sorted.{IsStrictlySortedBy}
use Rattle.std.specs.Option.{option_map}
use Rattle.std.specs.BTreeMap.{is_at}
use Rattle.std.specs.declared.cmp.Ordering.TheVariants.{Less}
use Rattle.dictionary.specs.declared.elements.TheConstants.{SERIES_INSTANCE_UID, SOP_INSTANCE_UID, STUDY_INSTANCE_UID}
use Rattle.data_set.specs.Set.{Set}
use Rattle.operation.specs.declared.op.Op.{Op}
use Rattle.operation.specs.declared.op.Op.TheVariants.{Content as a_content}
use Rattle.records.specs.StandIn.{IsStandIn}
use Rattle.dictionary.specs.Elements.{role_in_table}
use Rattle.operation.specs.Corrections.{is_corrected}
use Rattle.operation.proofs.Bounds.{passed}
use Rattle.records.proofs.StandInLaws.{instance_of_uid}
use Rattle.std.proofs.lemmas.List.{take_all, nil_from_length as nothing}
use Rattle.join_laws.specs.GrowSet.{union_of}
use Rattle.operation.specs.Parts.{ContentParts, own_value}
use Rattle.octets.specs.Members.{Has as IsOne}
use Rattle.octets.specs.Padding.{trimmed}
use Rattle.octets.specs.Texts.{same, text_cmp, ascending}
use Rattle.archive_model.specs.declared.view.View.{View}
use Rattle.archive_model.specs.Contents.{pick, contents, instances, study_of, series_of}
use Rattle.archive_model.specs.Covered.{is_covered, is_hiding}
use Rattle.archive_model.specs.Shown.{shown, shown_at, unless_hiding}
use Rattle.archive_model.specs.Attributes.{attribute, corrected}
use Rattle.archive_model.proofs.MemberLaws.{has_filter, filter_has, has_any, any_has, has_map, map_has, found_has}
use Rattle.archive_model.proofs.MemberLaws.{has_all, filter_map_has}
use Rattle.archive_model.proofs.ModelLaws.{same_is, same_itself as same_equal, pick_is_content, content_has}
use Rattle.dictionary.specs.declared.role.Matching.{Matching}
use Rattle.dictionary.specs.declared.role.Matching.TheVariants.{Dates, Times, WildCard, Name, Uids, Single}
use Rattle.dictionary.specs.declared.role.Matching.TheVariants.{Answered}
use Rattle.key_matching.specs.Matches.{is_universal, parts, matches, is_match_by, is_same_part}
use Rattle.study_index.specs.Keys.{has}
use Rattle.study_index.specs.Live.{pick_at, is_of_study, is_of_series}
use Rattle.study_index.specs.Index.{IndexValue, pick_of}
use Rattle.study_index.specs.Definition.{IsIndexOf, AreLawful}
use Rattle.study_index.specs.Proved.Picks.{text_exact}
use Rattle.study_index.proofs.KeyLaws.{at_itself, same_key}
use Rattle.study_index.proofs.Corrected.{not_corrected}
use Rattle.archive_model.specs.declared.asked.Asked.{Asked}
use Rattle.archive_model.specs.declared.query.Query.{Query}
use Rattle.archive_model.specs.declared.key.Level.{Level}
use Rattle.archive_model.specs.declared.key.Level.TheVariants.{Study, Series, Image}
use Rattle.archive_model.specs.Key.{has_study_above, has_series_above}
use Rattle.archive_model.specs.Rows.{uid_at, is_named, named, uids_at, is_at as is_at_uid, contents_at, is_key_match}
use Rattle.archive_model.specs.Rows.{is_match, row, row_of, row_at, rows_among, rows_of}
use Rattle.key_matching.specs.Prepared.{is_uids}
use Rattle.archive_query.specs.Candidates.{is_list_of, is_listed_series, is_walked_at_series, is_walked_at_image}
use Rattle.archive_query.specs.Candidates.{listed_tag}
use Rattle.archive_query.specs.Candidates.{cut_texts, members_of, is_of_walked, AreStudiesOf, AreWalked, AreAt}
use Rattle.archive_query.specs.Candidates.{AreCandidates}
use Rattle.archive_query.specs.Found.{AreEnough}
use Rattle.archive_query.specs.Leads.{IsLedBy, is_candidate, is_of_none, IsChosen}
use Rattle.std.specs.Cmp.Lexicographic.{nat_list_cmp_total}
use Rattle.std.proofs.lemmas.Bool.{or_right as or_second, not-true as not_true}
use Rattle.join_laws.specs.Proved.Sets.{has-union}
use Rattle.octets.proofs.TextLemmas.{in_ascending}
use Rattle.archive_query.proofs.DistinctLaws.{any_ascending}
use Rattle.study_index.proofs.Studies.{pick_listed}
use Rattle.archive_query.proofs.LeadEnough.{leads_enough, value_within}
use Rattle.archive_query.proofs.TextLeads.{walked, none_stands}
use Rattle.archive_query.specs.Leads.{value_walk}
use Rattle.study_index.specs.Leads.{as_led, LeadWalk, is_walked}
use Rattle.archive_query.proofs.AscendingLaws.{Text, Has, Below, Rises, one_rising, ascending_rises, ascending_has}
use Rattle.archive_query.proofs.AscendingLaws.{has_ascending}

-- ---- members

pub one_has : (us : List Text) (u : Text) → IsOne us u → Has us u
one_has [] u h = h
one_has (v ∷ us) u (inl e) = inl e
one_has (v ∷ us) u (inr h) = inr (one_has us u h)

pub has_one : (us : List Text) (u : Text) → Has us u → IsOne us u
has_one [] u h = h
has_one (v ∷ us) u (inl e) = inl e
has_one (v ∷ us) u (inr h) = inr (has_one us u h)

pub listed_one : (us : List Text) (u : Text) → has text_cmp us u ≡ true → IsOne us u
listed_one us u h =
    let at = any_has (is_at (text_cmp u)) us h in
    subst (IsOne us) (sym (same_key text_exact u at.0 at.2)) at.1

-- ---- filters of what ascends

below_filter : (p : Text → Bool) (u : Text) (us : List Text) → Below u us → Below u (filter p us)
below_filter p u [] below = tt
below_filter p u (v ∷ us) below = by (p v) (below_filter p u us below.1)
  where
    by : (b : Bool) → Below u (filter p us) → Below u (cond b (v ∷ filter p us) (filter p us))
    by true rest = (below.0, rest)
    by false rest = rest

rises_filter : (p : Text → Bool) (us : List Text) → Rises us → Rises (filter p us)
rises_filter p [] up = tt
rises_filter p (v ∷ us) up = by (p v) (rises_filter p us up.1)
  where
    by : (b : Bool) → Rises (filter p us) → Rises (cond b (v ∷ filter p us) (filter p us))
    by true rest = (below_filter p v us up.0, rest)
    by false rest = rest

all_below : (u : Text) (us : List Text) → AllByRecursion (λ v. text_cmp u v ≡ Less) us → Below u us
all_below u [] all = tt
all_below u (v ∷ us) all = (all.0, all_below u us all.1)

pub sorted_rises : (us : List Text) → IsStrictlySortedBy text_cmp us → Rises us
unfolding IsStrictlySortedBy
sorted_rises [] up = tt
sorted_rises (u ∷ us) up = (all_below u us up.0, sorted_rises us up.1)

-- of texts that ascend, those that pass a test are told by what they are
same_passing : (p : Text → Bool) (us vs : List Text) → Rises us → Rises vs → ((u : Text) → p u ≡ true → IsOne us u
    → IsOne vs u) → ((u : Text) → p u ≡ true → IsOne vs u → IsOne us u) → filter p us ≡ filter p vs
same_passing p us vs up also there back =
    one_rising (filter p us) (filter p vs) (rises_filter p us up) (rises_filter p vs also)
    (λ u h. let at = filter_has p us u (has_one (filter p us) u h) in
    one_has (filter p vs) u (has_filter p vs u (there u at.1 at.0) at.1))
    (λ u h. let at = filter_has p vs u (has_one (filter p vs) u h) in
    one_has (filter p us) u (has_filter p us u (back u at.1 at.0) at.1))

-- ---- what a function gives that passes

abbrev if_kept : {Y : Type 0} → (Y → Bool) → Option Y → Option Y
if_kept keep None = None
if_kept keep (Some y) = cond (keep y) (Some y) None

filter_given : {X Y : Type 0} (keep : Y → Bool) (f : X → Option Y) (xs : List X)
    → filter keep (filter_map f xs) ≡ filter_map (λ x. if_kept keep (f x)) xs
filter_given keep f [] = refl
filter_given {X} {Y} keep f (x ∷ xs) = by (f x) (filter_given keep f xs)
  where
    chosen : (b : Bool) (y : Y) (ys zs : List Y) → ys ≡ zs → cond b (y ∷ ys) ys ≡ cons_option (cond b (Some y) None) zs
    chosen true y ys zs e = ap (λ (ws : List Y). y ∷ ws) e
    chosen false y ys zs e = e

    by : (r : Option Y) → filter keep (filter_map f xs) ≡ filter_map (λ z. if_kept keep (f z)) xs
        → filter keep (cons_option r (filter_map f xs)) ≡ cons_option (if_kept keep r)
        (filter_map (λ z. if_kept keep (f z)) xs)
    by None e = e
    by (Some y) e = chosen (keep y) y (filter keep (filter_map f xs)) (filter_map (λ z. if_kept keep (f z)) xs) e

given_passing : {X Y : Type 0} (g : X → Option Y) (p : X → Bool) → ((x : X) → p x ≡ false → g x ≡ None) → (xs : List X)
    → filter_map g (filter p xs) ≡ filter_map g xs
given_passing g p none [] = refl
given_passing {X} {Y} g p none (x ∷ xs) = by (p x) refl (given_passing g p none xs)
  where
    by : (b : Bool) → p x ≡ b → filter_map g (filter p xs) ≡ filter_map g xs
        → filter_map g (cond b (x ∷ filter p xs) (filter p xs)) ≡ cons_option (g x) (filter_map g xs)
    by true h e = ap (cons_option (g x)) e
    by false h e = e ∙ ap (λ (o : Option Y). cons_option o (filter_map g xs)) (sym (none x h))

not_some : {Y : Type 0} (r : Option Y) → is_some r ≡ false → r ≡ None
not_some None e = refl
not_some (Some y) e = absurd (false≢true (sym e))

-- ---- what is shown of candidates

picked_if : (view : View) (ops : List Op) (keep : ContentParts → Bool) (uid : Text)
    → is_some (if_kept keep (shown_at view ops uid)) ≡ true → (c : ContentParts) × (pick uid ops ≡ Some c)
    × (keep c ≡ true)
picked_if view ops keep uid e = by (is_covered view ops uid) (pick uid ops) refl e
  where
    chosen : (c : ContentParts) → pick uid ops ≡ Some c → (b h : Bool) → keep c ≡ b
        → is_some (if_kept keep (if h then None else Some c)) ≡ true → (x : ContentParts) × (pick uid ops ≡ Some x)
        × (keep x ≡ true)
    chosen c q b true k e = absurd (false≢true e)
    chosen c q true false k e = (c, q, k)
    chosen c q false false k e = absurd (false≢true (sym (ap (λ x. is_some (cond x (Some c) None)) k) ∙ e))

    by : (covered : Bool) (r : Option ContentParts) → pick uid ops ≡ r
        → is_some (if_kept keep (if covered then None else unless_hiding view r)) ≡ true → (x : ContentParts)
        × (pick uid ops ≡ Some x) × (keep x ≡ true)
    by true r q e = absurd (false≢true e)
    by false None q e = absurd (false≢true e)
    by false (Some c) q e = chosen c q (keep c) (is_hiding view c.note) refl e

-- what is shown of a UID, if it is kept, and whether there is any
abbrev given : View → List Op → (ContentParts → Bool) → Text → Option ContentParts
given view ops keep u = if_kept keep (shown_at view ops u)

abbrev is_given : View → List Op → (ContentParts → Bool) → Text → Bool
is_given view ops keep u = is_some (if_kept keep (shown_at view ops u))

-- a set that has each instance whose pick is kept shows all that is shown and kept
pub enough : (view : View) (ops : List Op) (keep : ContentParts → Bool) (us : List Text) → Rises us
    → ((uid : Text) (c : ContentParts) → pick uid ops ≡ Some c → keep c ≡ true → IsOne us uid)
    → filter keep (filter_map (shown_at view ops) us) ≡ filter keep (shown view ops)
enough view ops keep us up has_all_kept =
    filter_given keep (shown_at view ops) us
    ∙ sym (given_passing (given view ops keep) (is_given view ops keep) (λ u. not_some (given view ops keep u)) us)
    ∙ ap (filter_map (given view ops keep)) (same_passing (is_given view ops keep) us (instances ops)
    up (ascending_rises (map (λ (c : ContentParts). c.instance) (contents ops))) there back)
    ∙ given_passing (given view ops keep) (is_given view ops keep) (λ u. not_some (given view ops keep u))
    (instances ops)
    ∙ sym (filter_given keep (shown_at view ops) (instances ops))
  where
    there : (u : Text) → is_given view ops keep u ≡ true → IsOne us u → IsOne (instances ops) u
    there u passed h =
        let at = picked_if view ops keep u passed in
        let is = pick_is_content u ops at.0 at.1 in
        subst (IsOne (instances ops)) is.1
        (has_one (instances ops) at.0.instance (has_ascending (map (λ (c : ContentParts). c.instance) (contents ops))
        at.0.instance (one_has _ at.0.instance (has_map (λ (c : ContentParts). c.instance) (contents ops) at.0
        is.0))))

    back : (u : Text) → is_given view ops keep u ≡ true → IsOne (instances ops) u → IsOne us u
    back u passed h = let at = picked_if view ops keep u passed in has_all_kept u at.0 at.1 at.2

-- ---- what each content keeps true

content_lawful : (ops : List Op) → AreLawful ops → (c : ContentParts) → IsOne (contents ops) c → IsStandIn c
content_lawful ops lawful c h = lawful (a_content c) (content_has ops c h)

-- its SOP Instance UID is its value of that element
stood_instance : (c : ContentParts) → IsStandIn c → own_value c SOP_INSTANCE_UID ≡ c.instance
stood_instance c is = is.lawful.named

-- ---- what a query asks for

-- whether every key matches some content of a study
abbrev pub is_study_match : List Op → Query → Text → Bool
is_study_match ops q study = list_any (λ d. same (study_of d) study && is_match ops q d) (contents ops)

-- at STUDY: what the key that lists studies matches, or else what is of a study that every key matches
abbrev pub kept_by : Option Asked → List Op → Query → ContentParts → Bool
kept_by None ops q c = is_study_match ops q (study_of c)
kept_by (Some asked) ops q c = matches Uids asked.key (study_of c)

-- at SERIES: what is of the study that is named, and what the key that lists series matches
abbrev kept_in : Option Asked → Query → ContentParts → Bool
kept_in None q c = is_named q c
kept_in (Some asked) q c = is_named q c && matches Uids asked.key (series_of c)

-- at IMAGE: what is of the series that is named, and what the key that lists instances matches
abbrev kept_of : Option Asked → Query → ContentParts → Bool
kept_of None q c = is_named q c
kept_of (Some asked) q c = is_named q c && matches Uids asked.key c.instance

abbrev pub kept_at : Level → List Op → Query → ContentParts → Bool
kept_at Study ops q c = kept_by (find (is_list_of STUDY_INSTANCE_UID) q.asked) ops q c
kept_at Series ops q c = kept_in (find (is_list_of SERIES_INSTANCE_UID) q.asked) q c
kept_at Image ops q c = kept_of (find (is_list_of SOP_INSTANCE_UID) q.asked) q c

-- a content is of what is named above the level, and of what a key matches
abbrev pub is_kept : List Op → Query → ContentParts → Bool
is_kept ops q c = kept_at q.level ops q c

either_of : {P : Type 0} (a b : Bool) → (a || b) ≡ true → (a ≡ true → P) → (b ≡ true → P) → P
either_of true b e f g = f refl
either_of false b e f g = g e

none_long : (t : Text) → (length t == 0) ≡ true → t ≡ []
none_long t e = nothing t (eqb-true (length t) 0 e)

-- a content is of its study, of which an index knows 64 bytes
pub of_cut : (study : Text) (c : ContentParts) → study_of c ≡ study
    → is_of_study (take 64 study) (Some (pick_of c)) ≡ true
of_cut study c e = same_equal (take 64 (study_of c)) (take 64 study) (ap (take 64) e)

-- 64 bytes of what a key matches that is not universal are among those of what it lists
listed_by : (asked : Asked) (text : Text) → is_universal asked.key ≡ false → matches Uids asked.key text ≡ true
    → has text_cmp (cut_texts (members_of asked)) (take 64 text) ≡ true
listed_by asked text some e =
    let key = asked.key in
    let s = take 64 text in
    either_of (is_universal key || length text == 0) (list_any (is_same_part text) (parts key)) e
    (λ h. either_of (is_universal key) (length text == 0) h
    (λ u. absurd (false≢true (sym some ∙ u)))
    (λ none. or_first _ _ (ap (λ (t : Text). is_at (text_cmp s) t) (sym (ap (take 64) (none_long text none)))
    ∙ at_itself nat_list_cmp_total s)))
    (λ h. or_second _ _ (let at = any_has (is_same_part text) (parts key) h in
    let member : trimmed at.0 ≡ text = same_is (trimmed at.0) text at.2 in
    has_any (is_at (text_cmp s)) (map (take 64) (members_of asked)) (take 64 (trimmed at.0))
    (has_map (take 64) (members_of asked) (trimmed at.0)
    (in_ascending (trimmed at.0) (map trimmed (parts key)) (has_map trimmed (parts key) at.0 at.1)))
    (ap (λ (t : Text). is_at (text_cmp s) (take 64 t)) member ∙ at_itself nat_list_cmp_total s)))

-- and of its series, likewise
pub of_cut_series : (study series : Text) (c : ContentParts) → study_of c ≡ study → series_of c ≡ series
    → is_of_series (take 64 study) (take 64 series) (Some (pick_of c)) ≡ true
of_cut_series study series c e g =
    ap (λ b. b && same (take 64 (series_of c)) (take 64 series)) (of_cut study c e)
    ∙ same_equal (take 64 (series_of c)) (take 64 series) (ap (take 64) g)

-- the same of a key that lists series
listed_in : (study : Text) (asked : Asked) (c : ContentParts) → study_of c ≡ study → is_universal asked.key ≡ false
    → matches Uids asked.key (series_of c) ≡ true
    → is_listed_series (take 64 study) (members_of asked) (Some (pick_of c)) ≡ true
listed_in study asked c of some e =
    let key = asked.key in
    let passes = λ (one : Text). is_of_series (take 64 study) (take 64 one) (Some (pick_of c)) in
    either_of (is_universal key || length (series_of c) == 0) (list_any (is_same_part (series_of c)) (parts key)) e
    (λ h. either_of (is_universal key) (length (series_of c) == 0) h
    (λ u. absurd (false≢true (sym some ∙ u)))
    (λ none. or_first _ _ (of_cut_series study [] c of (none_long (series_of c) none))))
    (λ h. or_second _ _ (any_ascending passes (map trimmed (parts key))
    ∙ (let at = any_has (is_same_part (series_of c)) (parts key) h in
    has_any passes (map trimmed (parts key)) (trimmed at.0) (has_map trimmed (parts key) at.0 at.1)
    (of_cut_series study (trimmed at.0) c of (sym (same_is (trimmed at.0) (series_of c) at.2))))))

named_study : (q : Query) (c : ContentParts) → has_study_above q.level ≡ true → is_named q c ≡ true
    → study_of c ≡ q.study
named_study q c l k = same_is (study_of c) q.study (sym (ap (λ b. not b || same (study_of c) q.study) l)
    ∙ (and_both _ _ k).0)

named_series : (q : Query) (c : ContentParts) → has_series_above q.level ≡ true → is_named q c ≡ true
    → series_of c ≡ q.series
named_series q c l k = same_is (series_of c) q.series (sym (ap (λ b. not b || same (series_of c) q.series) l)
    ∙ (and_both _ _ k).1)

-- a study is among those that are walked, or all are
abbrev pub is_walked_study : Option (List Text) → Text → Bool
is_walked_study None s = true
is_walked_study (Some studies) s = has text_cmp studies s

module _ (ops : List Op) (index : IndexValue) (is : IsIndexOf ops index) (lawful : AreLawful ops) where
  -- each walk of a key that matches some content of the set comes to the content's study
  led_by : (d : ContentParts) → IsOne (contents ops) d → (asked : Asked) → is_key_match ops d asked ≡ true
      → IsLedBy asked index.leads (take 64 (study_of d))
  led_by d h asked e walk for_it =
      either_of (is_universal asked.key || length (attribute ops d asked.tag) == 0)
      (is_match_by asked.matching asked.key (attribute ops d asked.tag)) e
      (λ u. either_of (is_universal asked.key) (length (attribute ops d asked.tag) == 0) u
      (λ all. absurd (false≢true (sym for_it.some ∙ all)))
      (λ none. or_first _ _ (leads_enough ops index is lawful (is_of_none asked.tag) asked.tag for_it.tag d h
      (walked (value_walk asked.tag []) asked.tag (attribute ops d asked.tag)
      (value_within asked.tag (attribute ops d asked.tag) []
      (ap (as_led asked.tag) (none_long (attribute ops d asked.tag) none)))
      (none_stands (as_led asked.tag (attribute ops d asked.tag)))))))
      (λ m. or_second _ _ (leads_enough ops index is lawful (is_walked walk) asked.tag for_it.tag d h
      (for_it.passes (attribute ops d asked.tag) m)))

  pick_there : (uid : Text) (c : ContentParts) → pick uid ops ≡ Some c → pick_at uid index.picks ≡ Some (pick_of c)
  pick_there uid c e = is.picks uid ∙ ap (option_map pick_of) e

  -- the walk of one key comes to what every key matches
  led_to : (one : Option (ℕ × LeadWalk)) (studies : Option (List Text)) (q : Query) → AreStudiesOf one index studies
      → IfSome one (IsChosen q) → (study : Text) → is_study_match ops q study ≡ true
      → is_walked_study studies (take 64 study) ≡ true
  led_to None studies q are chosen study k = ap (λ r. is_walked_study r (take 64 study)) are
  led_to (Some walk) None q are chosen study k = absurd are
  led_to (Some walk) (Some studies) q are chosen study k =
      let at = any_has (λ d. same (study_of d) study && is_match ops q d) (contents ops) k in
      let parts_of = and_both _ _ at.2 in
      are (take 64 study)
      ∙ ap (λ (t : Text). is_candidate walk.0 (is_walked walk.1) index.leads (take 64 t))
      (sym (same_is (study_of at.0) study parts_of.0))
      ∙ ap (λ n. is_candidate n (is_walked walk.1) index.leads (take 64 (study_of at.0))) (sym chosen.tag)
      ∙ led_by at.0 at.1 chosen.asked (has_all (is_key_match ops at.0) q.asked chosen.asked parts_of.1 chosen.one)
      walk.1 chosen.walk

  -- what is kept is of a study that is walked
  pub walked_to : (r : Option Asked) (q : Query) → find (is_list_of STUDY_INSTANCE_UID) q.asked ≡ r
      → (studies : Option (List Text)) → AreWalked (option_map members_of r) q index studies → (c : ContentParts)
      → kept_by r ops q c ≡ true → is_walked_study studies (take 64 (study_of c)) ≡ true
  walked_to None q f studies are c k = led_to are.one studies q are.studies_are are.some (study_of c) k
  walked_to (Some a) q f studies are c k =
      let key = (found_has (is_list_of STUDY_INSTANCE_UID) q.asked a f).1 in
      let some = not_true (is_universal a.key) (and_both _ _ key).1 in
      ap (λ r. is_walked_study r (take 64 (study_of c))) are
      ∙ has-union nat_list_cmp_total text_exact (take 64 (study_of c)) (cut_texts (members_of a)) []
      ∙ listed_by a (study_of c) some k

  -- whatever is put in of the studies that are walked has what is kept
  put_to : (studies : Option (List Text)) (uid : Text) (c : ContentParts) → pick uid ops ≡ Some c
      → is_walked_study studies (take 64 (study_of c)) ≡ true → is_of_walked studies index uid ≡ true
  put_to None uid c e w = pick_listed index.picks uid (pick_of c) (pick_there uid c e)
  put_to (Some studies) uid c e w =
      let at = any_has (is_at (text_cmp (take 64 (study_of c)))) studies w in
      has_any (λ study. is_of_study study (pick_at uid index.picks)) studies at.0 at.1
      (ap (is_of_study at.0) (pick_there uid c e)
      ∙ same_equal (take 64 (study_of c)) at.0 (same_key text_exact (take 64 (study_of c)) at.0 at.2))

  reached_in : (r : Option Asked) (q : Query) → find (is_list_of SERIES_INSTANCE_UID) q.asked ≡ r → q.level ≡ Series
      → (uid : Text) (c : ContentParts) → pick uid ops ≡ Some c → kept_in r q c ≡ true
      → is_walked_at_series (option_map members_of r) (take 64 q.study) (pick_at uid index.picks) ≡ true
  reached_in None q f l uid c e k =
      ap (is_of_study (take 64 q.study)) (pick_there uid c e)
      ∙ of_cut q.study c (named_study q c (ap has_study_above l) k)
  reached_in (Some a) q f l uid c e k =
      let both = and_both _ _ k in
      let key = (found_has (is_list_of SERIES_INSTANCE_UID) q.asked a f).1 in
      let some = not_true (is_universal a.key) (and_both _ _ key).1 in
      ap (is_listed_series (take 64 q.study) (members_of a)) (pick_there uid c e)
      ∙ listed_in q.study a c (named_study q c (ap has_study_above l) both.0) some both.1

  named_in_series : (q : Query) → q.level ≡ Image → (uid : Text) (c : ContentParts) → pick uid ops ≡ Some c
      → is_named q c ≡ true → is_of_series (take 64 q.study) (take 64 q.series) (pick_at uid index.picks) ≡ true
  named_in_series q l uid c e k =
      ap (is_of_series (take 64 q.study) (take 64 q.series)) (pick_there uid c e)
      ∙ of_cut_series q.study q.series c (named_study q c (ap has_study_above l) k)
      (named_series q c (ap has_series_above l) k)

  reached_of : (r : Option Asked) (q : Query) → find (is_list_of SOP_INSTANCE_UID) q.asked ≡ r → q.level ≡ Image
      → (uid : Text) (c : ContentParts) → pick uid ops ≡ Some c → kept_of r q c ≡ true
      → is_walked_at_image (option_map members_of r) (take 64 q.study) (take 64 q.series) index uid ≡ true
  reached_of None q f l uid c e k = named_in_series q l uid c e k
  reached_of (Some a) q f l uid c e k =
      let both = and_both (is_named q c) (matches Uids a.key c.instance) k in
      let key = (found_has (is_list_of SOP_INSTANCE_UID) q.asked a f).1 in
      let some = not_true (is_universal a.key) (and_both _ _ key).1 in
      let here = pick_is_content uid ops c e in
      let whole : take 64 c.instance ≡ c.instance =
      take_all 64 c.instance (instance_of_uid c (content_lawful ops lawful c here.0)) in
      let listed_is = listed_by a c.instance some both.1 in
      ap (λ b. b && has text_cmp (union_of text_cmp [] (cut_texts (members_of a))) uid)
      (named_in_series q l uid c e both.0)
      ∙ has-union nat_list_cmp_total text_exact uid (cut_texts (members_of a)) []
      ∙ ap (has text_cmp (cut_texts (members_of a))) (sym here.1 ∙ sym whole) ∙ listed_is

  abbrev listed_at : Level → Query → Option (List Text)
  listed_at level q = option_map members_of (find (is_list_of (listed_tag level)) q.asked)

  reached_at : (level : Level) (q : Query) → q.level ≡ level → (uids : List Text) → AreAt level q index [] uids
      → (uid : Text) (c : ContentParts) → pick uid ops ≡ Some c → kept_at level ops q c ≡ true
      → has text_cmp uids uid ≡ true
  reached_at Study q l uids are uid c e k =
      are.put uid ∙ put_to are.studies uid c e (walked_to (find (is_list_of STUDY_INSTANCE_UID) q.asked) q refl
      are.studies (subst (λ x. AreWalked (listed_at x q) q index are.studies) l are.walked) c k)
  reached_at Series q l uids are uid c e k =
      are uid ∙ ap (λ x. is_walked_at_series (listed_at x q) (take 64 q.study) (pick_at uid index.picks)) l
      ∙ reached_in (find (is_list_of SERIES_INSTANCE_UID) q.asked) q refl l uid c e k
  reached_at Image q l uids are uid c e k =
      are uid ∙ ap (λ x. is_walked_at_image (listed_at x q) (take 64 q.study) (take 64 q.series) index uid) l
      ∙ reached_of (find (is_list_of SOP_INSTANCE_UID) q.asked) q refl l uid c e k

  -- what is kept is walked
  pub reached : (q : Query) (uids : List Text) → AreCandidates q index uids → (uid : Text) (c : ContentParts)
      → pick uid ops ≡ Some c → is_kept ops q c ≡ true → has text_cmp uids uid ≡ true
  reached q uids are uid c e k = reached_at q.level q refl uids are uid c e k

-- ---- rows without what no row is of

filter_twice : {X : Type 0} (p r : X → Bool) (xs : List X) → ((x : X) → p x ≡ true → r x ≡ true)
    → filter p (filter r xs) ≡ filter p xs
filter_twice p r [] within = refl
filter_twice {X} p r (x ∷ xs) within = by (r x) refl (filter_twice p r xs within)
  where
    out : (b : Bool) → p x ≡ b → r x ≡ false → filter p xs ≡ cond b (x ∷ filter p xs) (filter p xs)
    out true h k = absurd (false≢true (sym k ∙ within x h))
    out false h k = refl

    by : (b : Bool) → r x ≡ b → filter p (filter r xs) ≡ filter p xs → filter p (cond b (x ∷ filter r xs) (filter r xs))
        ≡ cond (p x) (x ∷ filter p xs) (filter p xs)
    by true h e = ap (λ (ys : List X). cond (p x) (x ∷ ys) ys) e
    by false h e = e ∙ out (p x) refl h

-- what passes one test and then another passes both, and the first again
filter_and : {X : Type 0} (p r : X → Bool) (xs : List X) → filter r (filter p xs) ≡ filter p
    (filter (λ x. p x && r x) xs)
filter_and p r [] = refl
filter_and {X} p r (x ∷ xs) = by (p x) (r x) refl refl (filter_and p r xs)
  where
    by : (b d : Bool) → p x ≡ b → r x ≡ d → filter r (filter p xs) ≡ filter p (filter (λ y. p y && r y) xs)
        → filter r (cond b (x ∷ filter p xs) (filter p xs))
        ≡ filter p (cond (b && d) (x ∷ filter (λ y. p y && r y) xs) (filter (λ y. p y && r y) xs))
    by true true h k e =
        ap (λ d. cond d (x ∷ filter r (filter p xs)) (filter r (filter p xs))) k
        ∙ ap (λ (ys : List X). x ∷ ys) e
        ∙ sym (ap (λ b. cond b (x ∷ filter p (filter (λ y. p y && r y) xs)) (filter p (filter (λ y. p y && r y) xs))) h)
    by true false h k e = ap (λ d. cond d (x ∷ filter r (filter p xs)) (filter r (filter p xs))) k ∙ e
    by false d h k e = e

filter_alike : {X : Type 0} (p r : X → Bool) → ((x : X) → p x ≡ r x) → (xs : List X) → filter p xs ≡ filter r xs
filter_alike p r alike [] = refl
filter_alike {X} p r alike (x ∷ xs) = ap (λ b. cond b (x ∷ filter p xs) (filter p xs)) (alike x)
    ∙ ap (λ (ys : List X). cond (r x) (x ∷ ys) ys) (filter_alike p r alike xs)

filter_all : {X : Type 0} (p : X → Bool) → ((x : X) → p x ≡ true) → (xs : List X) → filter p xs ≡ xs
filter_all p all [] = refl
filter_all {X} p all (x ∷ xs) = ap (λ b. cond b (x ∷ filter p xs) (filter p xs)) (all x) ∙ ap (λ (ys : List X). x ∷ ys)
    (filter_all p all xs)

all_fails : {X : Type 0} (p : X → Bool) (xs : List X) (x : X) → IsOne xs x → p x ≡ false → list_all p xs ≡ false
all_fails p xs x h e = by (list_all p xs) refl
  where
    by : (b : Bool) → list_all p xs ≡ b → b ≡ false
    by true all = absurd (false≢true (sym e ∙ has_all p xs x all h))
    by false all = refl

not_if : {Y : Type 0} (b : Bool) (y : Y) → b ≡ false → (if b then Some y else None) ≡ None
not_if true y e = absurd (false≢true (sym e))
not_if false y e = refl

-- contents of the set
abbrev AreOf : List Op → List ContentParts → Type 0
AreOf ops cs = (c : ContentParts) → IsOne cs c → IsOne (contents ops) c

module _ (ops : List Op) (called : List ℕ) (q : Query) (k : Text → Bool) (fails : (c : ContentParts)
    → IsOne (contents ops) c → k (uid_at q.level c) ≡ false → is_match ops q c ≡ false) where
  no_row : (cs : List ContentParts) → AreOf ops cs → (uid : Text) → k uid ≡ false → row_at ops called q cs uid ≡ None
  no_row cs among uid out = by (contents_at q.level uid cs) refl
    where
      found : (c : ContentParts) (ds : List ContentParts) → contents_at q.level uid cs ≡ c ∷ ds
          → IsOne cs c × (is_at_uid q.level uid c ≡ true)
      found c ds e = filter_has (is_at_uid q.level uid) cs
          c (subst (λ (xs : List ContentParts). IsOne xs c) (sym e) (inl refl))

      by : (ds : List ContentParts) → contents_at q.level uid cs ≡ ds → row_of ops called q ds ≡ None
      by [] e = refl
      by (c ∷ ds) e =
          let first = found c ds e in
          not_if (is_match ops q c) (row ops called q (c ∷ ds) c)
          (fails c (among c first.0) (ap k (same_is (uid_at q.level c) uid first.1) ∙ out))

  same_row : (cs : List ContentParts) (uid : Text) → k uid ≡ true → row_at ops called
      q (filter (λ c. k (uid_at q.level c)) cs) uid ≡ row_at ops called q cs uid
  same_row cs uid within = ap (row_of ops called q) (filter_twice (is_at_uid q.level uid) (λ c. k (uid_at q.level c))
      cs (λ c e. ap k (same_is (uid_at q.level c) uid e) ∙ within))

  each_row : (cs : List ContentParts) (uids : List Text) → filter_map (row_at ops called q cs)
      (filter k uids) ≡ filter_map (row_at ops called q (filter (λ c. k (uid_at q.level c)) cs)) (filter k uids)
  each_row cs [] = refl
  each_row cs (u ∷ us) = by (k u) refl (each_row cs us)
    where
      by : (b : Bool) → k u ≡ b → filter_map (row_at ops called q cs) (filter k us) ≡ filter_map
          (row_at ops called q (filter (λ c. k (uid_at q.level c)) cs)) (filter k us)
          → filter_map (row_at ops called q cs) (cond b (u ∷ filter k us) (filter k us)) ≡ filter_map
          (row_at ops called q (filter (λ c. k (uid_at q.level c)) cs)) (cond b (u ∷ filter k us) (filter k us))
      by true h e = ap (λ (o : Option Set). cons_option o (filter_map (row_at ops called q cs) (filter k us)))
          (sym (same_row cs u h)) ∙ ap (cons_option (row_at ops called q (filter (λ c. k (uid_at q.level c)) cs) u)) e
      by false h e = e

  abbrev all : List ContentParts → List Text
  all cs = map (uid_at q.level) cs

  abbrev kept_uids : List ContentParts → List Text
  kept_uids cs = map (uid_at q.level) (filter (λ c. k (uid_at q.level c)) cs)

  -- the UIDs of what is kept are those that are kept
  uids_kept : (cs : List ContentParts) → filter k (uids_at q.level cs) ≡ uids_at
      q.level (filter (λ c. k (uid_at q.level c)) cs)
  uids_kept cs = one_rising (filter k (ascending (all cs))) (ascending (kept_uids cs))
      (rises_filter k (ascending (all cs)) (ascending_rises (all cs))) (ascending_rises (kept_uids cs)) there back
    where
      there : (u : Text) → Has (filter k (ascending (all cs))) u → Has (ascending (kept_uids cs)) u
      there u h =
          let at = filter_has k (ascending (all cs)) u (has_one (filter k (ascending (all cs))) u h) in
          let from = map_has (uid_at q.level) cs u
          (has_one (all cs) u (ascending_has (all cs) u (one_has (ascending (all cs)) u at.0))) in
          has_ascending (kept_uids cs) u (one_has (kept_uids cs) u (subst (IsOne (kept_uids cs)) (sym from.2)
          (has_map (uid_at q.level) (filter (λ c. k (uid_at q.level c)) cs)
          from.0 (has_filter (λ c. k (uid_at q.level c)) cs from.0 from.1 (ap k (sym from.2) ∙ at.1)))))

      back : (u : Text) → Has (ascending (kept_uids cs)) u → Has (filter k (ascending (all cs))) u
      back u h =
          let from = map_has (uid_at q.level) (filter (λ c. k (uid_at q.level c)) cs)
          u (has_one (kept_uids cs) u (ascending_has (kept_uids cs) u h)) in
          let at = filter_has (λ c. k (uid_at q.level c)) cs from.0 from.1 in
          one_has (filter k (ascending (all cs))) u (has_filter k (ascending (all cs))
          u (has_one (ascending (all cs)) u (has_ascending (all cs)
          u (one_has (all cs) u (subst (IsOne (all cs)) (sym from.2) (has_map (uid_at q.level) cs from.0 at.0)))))
          (ap k from.2 ∙ at.1))

  rows_kept : (cs : List ContentParts) → AreOf ops cs → rows_among ops called q cs ≡ rows_among ops called
      q (filter (λ c. k (uid_at q.level c)) cs)
  rows_kept cs among =
      sym (given_passing (row_at ops called q cs) k (no_row cs among) (uids_at q.level cs))
      ∙ each_row cs (uids_at q.level cs)
      ∙ ap (filter_map (row_at ops called q (filter (λ c. k (uid_at q.level c)) cs))) (uids_kept cs)

-- ---- rows of candidates

is_uids_of : (m : Matching) → is_uids m ≡ true → m ≡ Uids
is_uids_of Dates e = absurd (false≢true e)
is_uids_of Times e = absurd (false≢true e)
is_uids_of WildCard e = absurd (false≢true e)
is_uids_of Name e = absurd (false≢true e)
is_uids_of Uids e = refl
is_uids_of Single e = absurd (false≢true e)
is_uids_of Answered e = absurd (false≢true e)

-- no correction is for a UID
study_stays : is_corrected STUDY_INSTANCE_UID ≡ false
unfolding role_in_table
study_stays = refl

series_stays : is_corrected SERIES_INSTANCE_UID ≡ false
unfolding role_in_table
series_stays = refl

instance_stays : is_corrected SOP_INSTANCE_UID ≡ false
unfolding role_in_table
instance_stays = refl

module _ (ops : List Op) (lawful : AreLawful ops) (called : List ℕ) (q : Query) where
  -- a content whose UID a key does not match has no row, where no correction is for that attribute
  unmatched : (tag : ℕ) → is_corrected tag ≡ false → (a : Asked) → find (is_list_of tag) q.asked ≡ Some a
      → (c : ContentParts) → matches Uids a.key (own_value c tag) ≡ false → is_match ops q c ≡ false
  unmatched tag other a f c e =
      let found = found_has (is_list_of tag) q.asked a f in
      let parts_of = and_both _ _ found.1 in
      let tag_and = and_both _ _ parts_of.0 in
      let is_tag : a.tag ≡ tag = eqb-true a.tag tag tag_and.0 in
      all_fails (is_key_match ops c) q.asked a found.0
      (ap (λ m. matches m a.key (attribute ops c a.tag)) (is_uids_of a.matching tag_and.1)
      ∙ ap (λ t. matches Uids a.key (attribute ops c t)) is_tag
      ∙ ap (λ r. matches Uids a.key (corrected (own_value c tag) r)) (not_corrected ops lawful c tag other)
      ∙ e)

  abbrev IsEnough : (ContentParts → Bool) → List ContentParts → Type 0
  IsEnough keep cs = rows_among ops called q (named q cs) ≡ rows_among ops called q (named q (filter keep cs))

  -- what is not of the study and the series that are named is left out again
  of_named : (cs : List ContentParts) → IsEnough (is_named q) cs
  of_named cs = ap (rows_among ops called q) (sym (filter_twice (is_named q) (is_named q) cs (λ c e. e)))

  -- what has no row is left out among what is named
  of_matching : (k : Text → Bool)
      → ((c : ContentParts) → IsOne (contents ops) c → k (uid_at q.level c) ≡ false → is_match ops q c ≡ false)
      → (cs : List ContentParts) → AreOf ops cs → IsEnough (λ c. is_named q c && k (uid_at q.level c)) cs
  of_matching k fails cs among =
      rows_kept ops called q k fails (named q cs) (λ c h. among c (filter_has (is_named q) cs c h).0)
      ∙ ap (rows_among ops called q) (filter_and (is_named q) (λ c. k (uid_at q.level c)) cs)

  -- a study that no content of matches has no row
  no_match : (c : ContentParts) → IsOne (contents ops) c → is_study_match ops q (study_of c) ≡ false
      → is_match ops q c ≡ false
  no_match c h e = by (is_match ops q c) refl
    where
      by : (b : Bool) → is_match ops q c ≡ b → b ≡ false
      by true m = absurd (false≢true (sym e
          ∙ has_any (λ d. same (study_of d) (study_of c) && is_match ops q d) (contents ops) c h
          (ap (λ b. b && is_match ops q c) (same_equal (study_of c) (study_of c) refl) ∙ m)))
      by false m = refl

  at_study : q.level ≡ Study → (k : Text → Bool) (c : ContentParts)
      → (is_named q c && k (uid_at q.level c)) ≡ k (study_of c)
  at_study l k c = ap (λ x. ((not (has_study_above x) || same (study_of c) q.study) &&
      (not (has_series_above x) || same (series_of c) q.series)) && k (uid_at x c)) l

  study_is : q.level ≡ Study → (c : ContentParts) → uid_at q.level c ≡ study_of c
  study_is l c = ap (λ x. uid_at x c) l

  by_study : (r : Option Asked) → q.level ≡ Study → find (is_list_of STUDY_INSTANCE_UID) q.asked ≡ r
      → (cs : List ContentParts) → AreOf ops cs → IsEnough (kept_by r ops q) cs
  by_study None l f cs among =
      of_matching (is_study_match ops q)
      (λ c h e. no_match c h (ap (is_study_match ops q) (sym (study_is l c)) ∙ e)) cs among
      ∙ ap (λ (xs : List ContentParts). rows_among ops called q (named q xs))
      (filter_alike _ _ (at_study l (is_study_match ops q)) cs)
  by_study (Some a) l f cs among =
      of_matching (matches Uids a.key)
      (λ c h e. unmatched STUDY_INSTANCE_UID study_stays a f c (ap (matches Uids a.key) (sym (study_is l c)) ∙ e))
      cs among
      ∙ ap (λ (xs : List ContentParts). rows_among ops called q (named q xs))
      (filter_alike _ _ (at_study l (matches Uids a.key)) cs)

  by_series : (r : Option Asked) → q.level ≡ Series → find (is_list_of SERIES_INSTANCE_UID) q.asked ≡ r
      → (cs : List ContentParts) → AreOf ops cs → IsEnough (kept_in r q) cs
  by_series None l f cs among = of_named cs
  by_series (Some a) l f cs among =
      of_matching (matches Uids a.key)
      (λ c h e. unmatched SERIES_INSTANCE_UID series_stays a f c (ap (matches Uids a.key) (sym (series_is c)) ∙ e))
      cs among
      ∙ ap (λ x. rows_among ops called q (named q (filter (λ c. is_named q c && matches Uids a.key (uid_at x c)) cs))) l
    where
      series_is : (c : ContentParts) → uid_at q.level c ≡ series_of c
      series_is c = ap (λ x. uid_at x c) l

  by_image : (r : Option Asked) → q.level ≡ Image → find (is_list_of SOP_INSTANCE_UID) q.asked ≡ r
      → (cs : List ContentParts) → AreOf ops cs → IsEnough (kept_of r q) cs
  by_image None l f cs among = of_named cs
  by_image (Some a) l f cs among =
      of_matching (matches Uids a.key)
      (λ c h e. unmatched SOP_INSTANCE_UID instance_stays a f c (ap (matches Uids a.key)
      (stood_instance c (content_lawful ops lawful c h) ∙ sym (instance_is c)) ∙ e)) cs among
      ∙ ap (λ x. rows_among ops called q (named q (filter (λ c. is_named q c && matches Uids a.key (uid_at x c)) cs))) l
    where
      instance_is : (c : ContentParts) → uid_at q.level c ≡ c.instance
      instance_is c = ap (λ x. uid_at x c) l

  by_level : (level : Level) → q.level ≡ level → (cs : List ContentParts) → AreOf ops cs
      → IsEnough (kept_at level ops q) cs
  by_level Study l cs among = by_study (find (is_list_of STUDY_INSTANCE_UID) q.asked) l refl cs among
  by_level Series l cs among = by_series (find (is_list_of SERIES_INSTANCE_UID) q.asked) l refl cs among
  by_level Image l cs among = by_image (find (is_list_of SOP_INSTANCE_UID) q.asked) l refl cs among

  -- what is not kept has no row
  pub rows_of_kept : (cs : List ContentParts) → AreOf ops cs → IsEnough (is_kept ops q) cs
  rows_of_kept cs among = by_level q.level refl cs among

-- what is shown is the pick of its instance, and so a content of the set
pub shown_pick : (view : View) (ops : List Op) (uid : Text) (c : ContentParts) → shown_at view ops uid ≡ Some c
    → pick uid ops ≡ Some c
shown_pick view ops uid c e = by (is_covered view ops uid) (pick uid ops) e
  where
    kept : (h : Bool) (x : ContentParts) → (if h then None else Some x) ≡ Some c → Some x ≡ Some c
    kept true x e = absurd cc
    kept false x e = e

    by : (covered : Bool) (r : Option ContentParts)
        → (if covered then None else unless_hiding view r) ≡ Some c → r ≡ Some c
    by true r e = absurd cc
    by false None e = absurd cc
    by false (Some x) e = kept (is_hiding view x.note) x e

shown_of_set : (view : View) (ops : List Op) (us : List Text) → AreOf ops (filter_map (shown_at view ops) us)
shown_of_set view ops us c h =
    let at = filter_map_has (shown_at view ops) us c h in
    (pick_is_content at.0 ops c (shown_pick view ops at.0 c at.2)).0

-- the rows of what is shown of the candidates are all rows
pub rows_enough : (view : View) (called : List ℕ) (q : Query) (ops : List Op) (index : IndexValue) → IsIndexOf ops index
    → AreLawful ops → (us : List Text) → IsStrictlySortedBy text_cmp us → AreCandidates q index us
    → rows_among ops called q (named q (filter_map (shown_at view ops) us)) ≡ rows_of view called q ops
unfolding rows_of
rows_enough view called q ops index is lawful us up are =
    rows_of_kept ops lawful called q (filter_map (shown_at view ops) us) (shown_of_set view ops us)
    ∙ ap (λ xs. rows_among ops called q (named q xs)) (enough view ops (is_kept ops q) us (sorted_rises us up)
    (λ uid c e k. listed_one us uid (reached ops index is lawful q us are uid c e k)))
    ∙ sym (rows_of_kept ops lawful called q (shown view ops) (shown_of_set view ops (instances ops)))

-- what is shown of the candidates is enough
pub all_enough : (view : View) (q : Query) (ops : List Op) (index : IndexValue) → IsIndexOf ops index → AreLawful ops
    → (us : List Text) → IsStrictlySortedBy text_cmp us → AreCandidates q index us
    → AreEnough view q ops (named q (filter_map (shown_at view ops) us))
all_enough view q ops index is lawful us up are = record {
  rows = λ called. rows_enough view called q ops index is lawful us up are;
  shown = λ c h.
      let at = filter_map_has (shown_at view ops) us c (filter_has (is_named q) (filter_map (shown_at view ops) us) c h).0 in
      ap (shown_at view ops) (pick_is_content at.0 ops c (shown_pick view ops at.0 c at.2)).1 ∙ at.2;
}
