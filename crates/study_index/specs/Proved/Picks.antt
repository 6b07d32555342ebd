-- The laws of picks, which the implementation of the join names.
use Rattle.std.specs.Prelude.{◌≡◌, refl, Option}
use Rattle.std.specs.Cmp.{IsTotalOrder, nat_cmp_total}
use Rattle.std.specs.Cmp.Lexicographic.{nat_list_cmp_total}
use Rattle.std.specs.Ordering.{nat_cmp, ordering_then}
use Rattle.std.specs.declared.cmp.Ordering.{Ordering}
use Rattle.std.specs.declared.cmp.Ordering.TheVariants.{Less, Equal, Greater}
use Rattle.std.proofs.lemmas.Cmp.{then_total, on_total}
use Rattle.join_laws.specs.Laws.{IsExact, JoinLaws}
use Rattle.join_laws.specs.MapOf.{IsMapOf}
use Rattle.join_laws.specs.Proved.Exact.{exact_unsigned, exact_lists}
use Rattle.join_laws.specs.Proved.Maps.{map_laws}
use Rattle.join_laws.specs.Proved.Orders.{least_laws}
use Rattle.octets.specs.Texts.{text_cmp}
use Rattle.study_index.specs.Live.{Text, Pick, Place, pick_cmp, place_cmp, picks_joined}

pub text_exact : IsExact text_cmp
text_exact = exact_lists nat_cmp exact_unsigned

-- where parts in order tie, the first ones do
pub first_ties : (a b : Ordering) → ordering_then a b ≡ Equal → a ≡ Equal
first_ties Less b h = h
first_ties Equal b h = refl
first_ties Greater b h = h

-- and so do those behind them
pub rest_ties : (a b : Ordering) → ordering_then a b ≡ Equal → b ≡ Equal
rest_ties Less b h = absurd cc
rest_ties Equal b h = h
rest_ties Greater b h = absurd cc

pub pick_exact : IsExact pick_cmp
pick_exact x y equal =
    let from_study = rest_ties (text_cmp x.digest y.digest) _ equal in
    λ i. record {
      digest = text_exact x.digest y.digest (first_ties (text_cmp x.digest y.digest) _ equal) i;
      study = text_exact x.study y.study (first_ties (text_cmp x.study y.study) _ from_study) i;
      series = text_exact x.series y.series (rest_ties (text_cmp x.study y.study) _ from_study) i;
    }

pub pick_total : IsTotalOrder pick_cmp
pick_total =
    then_total (on_total (λ (p : Pick). p.digest) nat_list_cmp_total)
    (then_total (on_total (λ (p : Pick). p.study) nat_list_cmp_total)
    (on_total (λ (p : Pick). p.series) nat_list_cmp_total))

pub place_exact : IsExact place_cmp
place_exact x y equal =
    let from_end = rest_ties (text_cmp x.study y.study) _ equal in
    let from_series = rest_ties (nat_cmp x.study_end y.study_end) _ from_end in
    let from_last = rest_ties (text_cmp x.series y.series) _ from_series in
    λ i. record {
      study = text_exact x.study y.study (first_ties (text_cmp x.study y.study) _ equal) i;
      study_end = exact_unsigned x.study_end y.study_end (first_ties (nat_cmp x.study_end y.study_end) _ from_end) i;
      series = text_exact x.series y.series (first_ties (text_cmp x.series y.series) _ from_series) i;
      series_end = exact_unsigned x.series_end y.series_end
          (first_ties (nat_cmp x.series_end y.series_end) _ from_last) i;
      instance = text_exact x.instance y.instance (rest_ties (nat_cmp x.series_end y.series_end) _ from_last) i;
    }

pub place_total : IsTotalOrder place_cmp
place_total =
    then_total (on_total (λ (p : Place). p.study) nat_list_cmp_total)
    (then_total (on_total (λ (p : Place). p.study_end) nat_cmp_total)
    (then_total (on_total (λ (p : Place). p.series) nat_list_cmp_total)
    (then_total (on_total (λ (p : Place). p.series_end) nat_cmp_total)
    (on_total (λ (p : Place). p.instance) nat_list_cmp_total))))

pub picks_laws : JoinLaws (IsMapOf {K = Text} {J = Option Pick} text_cmp (λ _. Unit {0})) picks_joined
picks_laws = map_laws nat_list_cmp_total text_exact (least_laws pick_cmp pick_total pick_exact)
