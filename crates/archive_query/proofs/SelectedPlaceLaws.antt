-- The candidates of a selection are enough: nothing of it is lost.
use Rattle.std.proofs.Common.{◌≡◌, true, List, take, Option, Some, sym, ap, subst, ◌∙◌}
use Rattle.std.specs.Prelude.{◌||◌, not, Result, Ok, Err, OnOk}
use Rattle.std.proofs.lemmas.Bool.{and_parts as and_both, or_right as or_second}
use Rattle.std.specs.List.{filter_map}
use Rattle.std.specs.List.Sorted.{IsStrictlySortedBy}
use Rattle.std.specs.Option.{option_map}
use Rattle.std.specs.BTreeMap.{is_at}
use Rattle.std.specs.Cmp.Lexicographic.{nat_list_cmp_total}
use Rattle.octets.specs.Members.{Has}
use Rattle.octets.specs.Texts.{same, text_cmp}
use Rattle.join_laws.specs.GrowSet.{union_of}
use Rattle.join_laws.specs.Proved.Sets.{has-union}
use Rattle.operation.specs.declared.op.Op.{Op}
use Rattle.operation.specs.Parts.{ContentParts}
use Rattle.archive_model.specs.declared.view.View.{View}
use Rattle.archive_model.specs.Contents.{pick, study_of, series_of}
use Rattle.archive_model.specs.Covered.{is_among}
use Rattle.archive_model.specs.Shown.{shown, shown_at}
use Rattle.archive_model.proofs.MemberLaws.{any_has, has_any}
use Rattle.archive_model.proofs.ModelLaws.{same_is, pick_is_content}
use Rattle.study_index.specs.Keys.{has}
use Rattle.study_index.specs.Live.{Text, Pick, pick_at, is_of_study, is_of_series}
use Rattle.study_index.specs.Index.{IndexValue, pick_of}
use Rattle.study_index.specs.Definition.{IsIndexOf}
use Rattle.study_index.specs.Proved.Picks.{text_exact}
use Rattle.study_index.proofs.KeyLaws.{at_itself, same_key}
use Rattle.archive_model.specs.declared.key.Level.{Level}
use Rattle.archive_model.specs.declared.key.Level.TheVariants.{Study, Series, Image}
use Rattle.archive_model.specs.Key.{has_study_above, has_series_above}
use Rattle.archive_model.specs.Rows.{uid_at}
use Rattle.archive_query.specs.Candidates.{is_of_some, is_of_some_series}
use Rattle.archive_query.proofs.CandidateLaws.{enough, sorted_rises, of_cut, of_cut_series}
use Rattle.archive_model.specs.declared.selection.Selection.{Selection}
use Rattle.archive_model.specs.Selection.{is_within, is_selected, selected}
use Rattle.archive_query.specs.SelectedPlaces.{ReachesAll}

-- ---- tests

-- what follows from a fact, where a call was not refused
pub on_ok : {X E P Q : Type 0} (r : Result X E) → (P → Q) → OnOk r P → OnOk r Q
on_ok (Ok x) f p = f p
on_ok (Err e) f p = p

-- ---- what the index has of studies

of_some : (studies : List Text) (c : ContentParts) → is_among studies (study_of c) ≡ true
    → is_of_some studies (Some (pick_of c)) ≡ true
of_some studies c h =
    let at = any_has (λ u. same u (study_of c)) studies h in
    has_any (λ study. is_of_study (take 64 study) (Some (pick_of c))) studies at.0
    at.1 (of_cut at.0 c (sym (same_is at.0 (study_of c) at.2)))

of_some_series : (study : Text) (series : List Text) (c : ContentParts) → study_of c ≡ study
    → is_among series (series_of c) ≡ true → is_of_some_series (take 64 study) series (Some (pick_of c)) ≡ true
of_some_series study series c e h =
    let at = any_has (λ u. same u (series_of c)) series h in
    has_any (λ one. is_of_series (take 64 study) (take 64 one) (Some (pick_of c))) series at.0
    at.1 (of_cut_series study at.0 c e (sym (same_is at.0 (series_of c) at.2)))

-- below the level of studies, what is selected is of the study that is named
of_named : (s : Selection) (c : ContentParts) → has_study_above s.level ≡ true → is_selected s c ≡ true
    → study_of c ≡ s.study
of_named s c above is =
    let within = (and_both (is_within s c) _ is).0 in
    let study = (and_both (not (has_study_above s.level) || same (study_of c) s.study) _ within).0 in
    same_is (study_of c) s.study (sym (ap (λ b. not b || same (study_of c) s.study) above) ∙ study)

-- and at IMAGE of the series
of_named_series : (s : Selection) (c : ContentParts) → s.level ≡ Image → is_selected s c ≡ true → series_of c ≡ s.series
of_named_series s c level is =
    let within = (and_both (is_within s c) _ is).0 in
    let series = (and_both (not (has_study_above s.level) || same (study_of c) s.study) _ within).1 in
    same_is (series_of c) s.series
    (sym (ap (λ (l : Level). not (has_series_above l) || same (series_of c) s.series) level) ∙ series)

-- and its UID is one of those named
is_one_named : (s : Selection) (c : ContentParts) (level : Level) → s.level ≡ level → is_selected s c ≡ true
    → is_among s.uids (uid_at level c) ≡ true
is_one_named s c level e is = ap (λ l. is_among s.uids (uid_at l c)) (sym e) ∙ (and_both (is_within s c) _ is).1

-- ---- what is put in reaches all

pub reached_by_studies : (s : Selection) (picks : List (Text × Option Pick)) (old new : List Text) → s.level ≡ Study
    → ((uid : Text) → has text_cmp new uid ≡ (has text_cmp old uid || is_of_some s.uids (pick_at uid picks)))
    → ReachesAll s picks new
reached_by_studies s picks old new level put = λ c picked is.
    put c.instance
    ∙ ap (λ p. has text_cmp old c.instance || is_of_some s.uids p) picked
    ∙ or_second (has text_cmp old c.instance) _ (of_some s.uids c (is_one_named s c Study level is))

pub reached_by_some_series : (s : Selection) (picks : List (Text × Option Pick)) (old new : List Text)
    → s.level ≡ Series
    → ((uid : Text) → has text_cmp new uid ≡ (has text_cmp old uid || is_of_some_series (take 64 s.study) s.uids
    (pick_at uid picks)))
    → ReachesAll s picks new
reached_by_some_series s picks old new level put = λ c picked is.
    put c.instance
    ∙ ap (λ p. has text_cmp old c.instance || is_of_some_series (take 64 s.study) s.uids p) picked
    ∙ or_second (has text_cmp old c.instance) _ (of_some_series s.study s.uids c
    (of_named s c (ap has_study_above level) is) (is_one_named s c Series level is))

pub reached_by_series : (s : Selection) (picks : List (Text × Option Pick)) (old new : List Text) → s.level ≡ Image
    → ((uid : Text) → has text_cmp new uid ≡ (has text_cmp old uid || is_of_series (take 64 s.study) (take 64 s.series)
    (pick_at uid picks)))
    → ReachesAll s picks new
reached_by_series s picks old new level put = λ c picked is.
    put c.instance
    ∙ ap (λ p. has text_cmp old c.instance || is_of_series (take 64 s.study) (take 64 s.series) p) picked
    ∙ or_second (has text_cmp old c.instance) _ (of_cut_series s.study s.series c
    (of_named s c (ap has_study_above level) is) (of_named_series s c level is))

pub reached_by_instances : (s : Selection) (picks : List (Text × Option Pick)) (old new : List Text) → s.level ≡ Image
    → new ≡ union_of text_cmp old s.uids → ReachesAll s picks new
reached_by_instances s picks old new level put = λ c picked is.
    let at = any_has (λ u. same u c.instance) s.uids (is_one_named s c Image level is) in
    let here = has_any (is_at (text_cmp c.instance)) s.uids at.0 at.1 (subst (λ u. is_at (text_cmp c.instance) u ≡ true)
    (sym (same_is at.0 c.instance at.2)) (at_itself nat_list_cmp_total c.instance)) in
    ap (λ us. has text_cmp us c.instance) put
    ∙ has-union nat_list_cmp_total text_exact c.instance s.uids old
    ∙ or_second (has text_cmp old c.instance) _ here

-- ---- what is shown of what is reached

listed_one : (us : List Text) (u : Text) → has text_cmp us u ≡ true → Has us u
listed_one us u h =
    let at = any_has (is_at (text_cmp u)) us h in
    subst (Has us) (sym (same_key text_exact u at.0 at.2)) at.1

-- of what is reached that is selected which is selected of all that is shown
pub selected_enough : (view : View) (s : Selection) (ops : List Op) (index : IndexValue) → IsIndexOf ops index
    → (us : List Text) → IsStrictlySortedBy text_cmp us → ReachesAll s index.picks us
    → selected s (filter_map (shown_at view ops) us) ≡ selected s (shown view ops)
selected_enough view s ops index is us up reaches = enough view ops (is_selected s) us (sorted_rises us up) here
  where
    here : (uid : Text) (c : ContentParts) → pick uid ops ≡ Some c → is_selected s c ≡ true → Has us uid
    here uid c e k =
        let instance = (pick_is_content uid ops c e).1 in
        let picked = is.picks c.instance ∙ ap (option_map pick_of) (ap (λ u. pick u ops) instance ∙ e) in
        subst (Has us) instance (listed_one us c.instance (reaches c picked k))
