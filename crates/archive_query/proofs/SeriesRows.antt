-- The rows of what is shown first of each series of a study are those of all its series, where no count is asked.
use Rattle.std.proofs.Common.{◌≡◌, false, List, ℕ, take, Some, sym, ap, subst, ◌∙◌}
use Rattle.std.specs.Prelude.{◌&&◌, ◌||◌, not, map}
use Rattle.std.specs.List.Sorted.{IsStrictlySortedBy}
use Rattle.std.specs.Map.{keys_of}
use mathlib.Core.Bool.{and-true as and_true}
use Rattle.octets.specs.Members.{Has as IsOne}
use Rattle.octets.specs.Texts.{same, text_cmp}
use Rattle.operation.specs.declared.op.Op.{Op}
use Rattle.operation.specs.Parts.{ContentParts}
use Rattle.archive_model.specs.declared.view.View.{View}
use Rattle.archive_model.specs.Attributes.{attribute}
use Rattle.archive_model.specs.Contents.{contents, instances, study_of, series_of}
use Rattle.archive_model.specs.Shown.{shown, shown_at}
use Rattle.archive_model.proofs.MemberLaws.{filter_has, has_filter}
use Rattle.archive_model.proofs.ModelLaws.{same_itself, same_is}
use Rattle.study_index.specs.Live.{places_in_study}
use Rattle.study_index.specs.Index.{IndexValue}
use Rattle.study_index.specs.Definition.{IsIndexOf}
use Rattle.archive_model.specs.declared.query.Query.{Query}
use Rattle.archive_model.specs.declared.key.Level.TheVariants.{Series}
use Rattle.archive_model.specs.Key.{has_study_above, has_series_above}
use Rattle.archive_model.specs.Rows.{uid_at, is_named, named, rows_among, rows_of}
use Rattle.archive_query.specs.Firsts.{is_counted, firsts_in_study}
use Rattle.archive_query.specs.Found.{AreEnough}
use Rattle.archive_query.specs.Grouping.{Ascends}
use Rattle.archive_query.proofs.AscendingLaws.{Text, ascending_rises}
use Rattle.archive_query.proofs.FirstLaws.{stands_in_study, taken_shown}
use Rattle.archive_query.proofs.FirstRows.{up_shown, shown_own, in_shown}
use Rattle.archive_query.proofs.HeadLaws.{ups, up_filter, StandsFor, firsts_alike, rows_by_firsts}

module _ (view : View) (ops : List Op) (index : IndexValue) (is : IsIndexOf ops index)
    (up : IsStrictlySortedBy text_cmp (keys_of index.picks)) (q : Query) (none : is_counted q ≡ false)
    (at_series : q.level ≡ Series) (ds : List ContentParts) (ds_up : Ascends (λ c. c.instance) ds)
    (there : (c : ContentParts) → IsOne (firsts_in_study (shown_at view ops) index.picks (take 64 q.study)) c
    → IsOne ds c)
    (back : (c : ContentParts) → IsOne ds c
    → IsOne (firsts_in_study (shown_at view ops) index.picks (take 64 q.study)) c) where
  each_shown : (d : ContentParts) → IsOne ds d → shown_at view ops d.instance ≡ Some d
  each_shown d h = taken_shown view ops index is up (places_in_study (take 64 q.study) index.picks) d (back d h)

  -- what is named is of the study
  named_is : (c : ContentParts) → is_named q c ≡ same (study_of c) q.study
  named_is c = ap (λ l. (not (has_study_above l) || same (study_of c) q.study) &&
      (not (has_series_above l) || same (series_of c) q.series)) at_series ∙ and_true (same (study_of c) q.study)

  abbrev all : List ContentParts
  all = named q (shown view ops)

  abbrev taken : List ContentParts
  taken = named q ds

  within : (d : ContentParts) → IsOne taken d → IsOne all d
  within d h =
      let at = filter_has (is_named q) ds d h in
      has_filter (is_named q) (shown view ops) d (in_shown view ops index is up d (each_shown d at.0)) at.1

  own_shown : (c : ContentParts) → IsOne all c → shown_at view ops c.instance ≡ Some c
  own_shown c h = shown_own view ops index is up c (filter_has (is_named q) (shown view ops) c h).0

  single : (c d : ContentParts) → IsOne all c → IsOne all d → c.instance ≡ d.instance → c ≡ d
  single c d h k e =
      let s : Some c ≡ Some d = sym (own_shown c h) ∙ ap (shown_at view ops) e ∙ own_shown d k in cc

  -- the first of a series stands for each of it
  stand : (c : ContentParts) → IsOne all c → StandsFor q.level taken c
  stand c h =
      let at = filter_has (is_named q) (shown view ops) c h in
      let study : study_of c ≡ q.study = same_is (study_of c) q.study (sym (named_is c) ∙ at.1) in
      let f = stands_in_study view ops index is up c.instance c (own_shown c h) in
      record {
        other = f.0;
        one = has_filter (is_named q) ds f.0 (there f.0
            (subst (λ (t : Text). IsOne (firsts_in_study (shown_at view ops) index.picks (take 64 t)) f.0) study f.2))
            (named_is f.0 ∙ same_itself (study_of f.0) q.study (f.1.study ∙ study));
        uid = ap (λ l. uid_at l f.0) at_series ∙ f.1.series ∙ ap (λ l. uid_at l c) (sym at_series);
        low = f.1.low;
      }

  all_rows : (called : List ℕ) → rows_among ops called q taken ≡ rows_of view called q ops
  unfolding rows_of
  all_rows called =
      sym (rows_by_firsts (attribute ops) called q none all taken
      (firsts_alike q.level all taken
      (up_filter (λ c. c.instance) (is_named q) (shown view ops)
      (up_shown view ops index is up (instances ops)
      (ascending_rises (map (λ (x : ContentParts). x.instance) (contents ops)))))
      (up_filter (λ c. c.instance) (is_named q) ds (ups (λ c. c.instance) ds ds_up))
      within single stand))

  pub series_enough : AreEnough view q ops (named q ds)
  series_enough = record {
    rows = all_rows;
    shown = λ c h. each_shown c (filter_has (is_named q) ds c h).0;
  }
