-- The order of leads is total and tells all leads apart.
use Rattle.std.specs.Cmp.{IsTotalOrder, nat_cmp_total}
use Rattle.std.specs.Cmp.Lexicographic.{nat_list_cmp_total}
use Rattle.std.specs.Ordering.{nat_cmp}
use Rattle.std.proofs.lemmas.Cmp.{then_total, on_total}
use Rattle.join_laws.specs.Laws.{IsExact}
use Rattle.join_laws.specs.Proved.Exact.{exact_unsigned}
use Rattle.octets.specs.Texts.{text_cmp}
use Rattle.study_index.specs.Leads.{Lead, lead_cmp}
use Rattle.study_index.specs.Proved.Picks.{text_exact, first_ties, rest_ties}

pub lead_total : IsTotalOrder lead_cmp
lead_total =
    then_total (on_total (λ (p : Lead). p.tag) nat_cmp_total)
    (then_total (on_total (λ (p : Lead). p.value) nat_list_cmp_total)
    (then_total (on_total (λ (p : Lead). p.kind) nat_cmp_total) (on_total (λ (p : Lead). p.key) nat_list_cmp_total)))

pub lead_exact : IsExact lead_cmp
lead_exact x y equal =
    let from_value = rest_ties (nat_cmp x.tag y.tag) _ equal in
    let from_kind = rest_ties (text_cmp x.value y.value) _ from_value in
    λ i. record {
      tag = exact_unsigned x.tag y.tag (first_ties (nat_cmp x.tag y.tag) _ equal) i;
      value = text_exact x.value y.value (first_ties (text_cmp x.value y.value) _ from_value) i;
      kind = exact_unsigned x.kind y.kind (first_ties (nat_cmp x.kind y.kind) _ from_kind) i;
      key = text_exact x.key y.key (rest_ties (nat_cmp x.kind y.kind) _ from_kind) i;
    }
