-- The laws of indexes, which the implementations of the traits name.
use Rattle.std.specs.Prelude.{[], map, Option, None, Some}
use Rattle.std.specs.Cmp.{IsTotalOrder, nat_cmp_total}
use Rattle.std.specs.Cmp.Lexicographic.{nat_list_cmp_total}
use Rattle.std.specs.Ordering.{nat_cmp}
use Rattle.std.specs.List.Sorted.{IsStrictlySortedBy}
use Rattle.std.proofs.lemmas.Cmp.{then_total, on_total}
use Rattle.rejection_note.specs.declared.note.Note.{Note}
use Rattle.operation.specs.declared.op.Op.{Op}
use Rattle.operation.specs.declared.op.Op.TheVariants.{Content as a_content, Correction as a_correction}
use Rattle.operation.specs.declared.target.Target.{Target}
use Rattle.operation.specs.declared.target.Target.TheVariants.{Study, Patient, Series}
use Rattle.operation.specs.Spelling.{digest_of}
use Rattle.octets.specs.Texts.{text_cmp}
use Rattle.join_laws.specs.Laws.{IsExact, JoinLaws, SummaryLaws}
use Rattle.join_laws.specs.GrowSet.{union_of}
use Rattle.join_laws.specs.MapOf.{IsMapOf}
use Rattle.join_laws.specs.Proved.Exact.{exact_unsigned}
use Rattle.join_laws.specs.Proved.Maps.{map_laws, map_summary_laws}
use Rattle.join_laws.specs.Proved.Orders.{least_laws, least_summary_laws, greatest_laws, greatest_summary_laws}
use Rattle.join_laws.specs.Proved.Sets.{set_laws, set_summary_laws, sorted-union}
use Rattle.study_index.specs.Live.{pick_cmp}
use Rattle.study_index.specs.Index.{Copy, Naming, FixKey, Fix, a_copy}
use Rattle.study_index.specs.Index.{copy_cmp, naming_cmp, fix_key_cmp, fix_cmp, fixes_joined, IsIndex}
use Rattle.study_index.specs.Index.{index_joined, index_of, nothing, namings, titles_of, pick_of, fix_key, fix_of}
use Rattle.study_index.specs.Leads.{lead_cmp, leads_of, given_leads, stored_lead, led_tags}
use Rattle.study_index.specs.Proved.Leads.{lead_total, lead_exact}
use Rattle.study_index.specs.Proved.Picks.{text_exact, first_ties, rest_ties, pick_exact, pick_total, picks_laws}

pub copy_exact : IsExact copy_cmp
copy_exact x y equal i = record {
  uid = text_exact x.uid y.uid (first_ties (text_cmp x.uid y.uid) _ equal) i;
  digest = text_exact x.digest y.digest (rest_ties (text_cmp x.uid y.uid) _ equal) i;
}

pub copy_total : IsTotalOrder copy_cmp
copy_total = then_total (on_total (λ (p : Copy). p.uid) nat_list_cmp_total)
    (on_total (λ (p : Copy). p.digest) nat_list_cmp_total)

pub naming_exact : IsExact naming_cmp
naming_exact x y equal i = record {
  uid = text_exact x.uid y.uid (first_ties (text_cmp x.uid y.uid) _ equal) i;
  title = exact_unsigned x.title y.title (rest_ties (text_cmp x.uid y.uid) _ equal) i;
}

pub naming_total : IsTotalOrder naming_cmp
naming_total = then_total (on_total (λ (p : Naming). p.uid) nat_list_cmp_total)
    (on_total (λ (p : Naming). p.title) nat_cmp_total)

pub fix_key_exact : IsExact fix_key_cmp
fix_key_exact x y equal =
    let from_key = rest_ties (nat_cmp x.kind y.kind) _ equal in
    λ i. record {
      kind = exact_unsigned x.kind y.kind (first_ties (nat_cmp x.kind y.kind) _ equal) i;
      key = text_exact x.key y.key (first_ties (text_cmp x.key y.key) _ from_key) i;
      tag = exact_unsigned x.tag y.tag (rest_ties (text_cmp x.key y.key) _ from_key) i;
    }

pub fix_key_total : IsTotalOrder fix_key_cmp
fix_key_total =
    then_total (on_total (λ (p : FixKey). p.kind) nat_cmp_total)
    (then_total (on_total (λ (p : FixKey). p.key) nat_list_cmp_total) (on_total (λ (p : FixKey). p.tag) nat_cmp_total))

pub fix_exact : IsExact fix_cmp
fix_exact x y equal =
    let from_site = rest_ties (nat_cmp x.counter y.counter) _ equal in
    λ i. record {
      counter = exact_unsigned x.counter y.counter (first_ties (nat_cmp x.counter y.counter) _ equal) i;
      site = exact_unsigned x.site y.site (first_ties (nat_cmp x.site y.site) _ from_site) i;
      value = text_exact x.value y.value (rest_ties (nat_cmp x.site y.site) _ from_site) i;
    }

pub fix_total : IsTotalOrder fix_cmp
fix_total =
    then_total (on_total (λ (p : Fix). p.counter) nat_cmp_total)
    (then_total (on_total (λ (p : Fix). p.site) nat_cmp_total) (on_total (λ (p : Fix). p.value) nat_list_cmp_total))

pub fixes_laws : JoinLaws (IsMapOf {K = FixKey} {J = Option Fix} fix_key_cmp (λ _. Unit {0})) fixes_joined
fixes_laws = map_laws fix_key_total fix_key_exact (greatest_laws fix_cmp fix_total fix_exact)

copies_laws : JoinLaws (IsStrictlySortedBy copy_cmp) (union_of copy_cmp)
copies_laws = set_laws copy_total copy_exact

leads_laws : JoinLaws (IsStrictlySortedBy lead_cmp) (union_of lead_cmp)
leads_laws = set_laws lead_total lead_exact

titles_laws : JoinLaws (IsStrictlySortedBy naming_cmp) (union_of naming_cmp)
titles_laws = set_laws naming_total naming_exact

pub index_laws : JoinLaws IsIndex index_joined
index_laws = record {
  held = λ a b h k. record {
    copies = copies_laws.held a.copies b.copies h.copies k.copies;
    leads = leads_laws.held a.leads b.leads h.leads k.leads;
    titles = titles_laws.held a.titles b.titles h.titles k.titles;
    fixes = fixes_laws.held a.fixes b.fixes h.fixes k.fixes;
    picks = picks_laws.held a.picks b.picks h.picks k.picks;
  };
  commutative = λ a b h k i. record {
    copies = copies_laws.commutative a.copies b.copies h.copies k.copies i;
    leads = leads_laws.commutative a.leads b.leads h.leads k.leads i;
    titles = titles_laws.commutative a.titles b.titles h.titles k.titles i;
    fixes = fixes_laws.commutative a.fixes b.fixes h.fixes k.fixes i;
    picks = picks_laws.commutative a.picks b.picks h.picks k.picks i;
  };
  associative = λ a b c h k j i. record {
    copies = copies_laws.associative a.copies b.copies c.copies h.copies k.copies j.copies i;
    leads = leads_laws.associative a.leads b.leads c.leads h.leads k.leads j.leads i;
    titles = titles_laws.associative a.titles b.titles c.titles h.titles k.titles j.titles i;
    fixes = fixes_laws.associative a.fixes b.fixes c.fixes h.fixes k.fixes j.fixes i;
    picks = picks_laws.associative a.picks b.picks c.picks h.picks k.picks j.picks i;
  };
  idempotent = λ a h i. record {
    copies = copies_laws.idempotent a.copies h.copies i;
    leads = leads_laws.idempotent a.leads h.leads i;
    titles = titles_laws.idempotent a.titles h.titles i;
    fixes = fixes_laws.idempotent a.fixes h.fixes i;
    picks = picks_laws.idempotent a.picks h.picks i;
  };
}

titles_held : (note : Option Note) → IsStrictlySortedBy naming_cmp (titles_of note)
titles_held None = (set_summary_laws naming_total naming_exact).nothing_held
titles_held (Some note) = sorted-union naming_total (namings note) []
    (set_summary_laws naming_total naming_exact).nothing_held

leads_held : (op : Op) → IsStrictlySortedBy lead_cmp (leads_of op)
leads_held (a_content c) = sorted-union lead_total (map (stored_lead c) led_tags) []
    (set_summary_laws lead_total lead_exact).nothing_held
leads_held (a_correction k) = by k.target
  where
    by : (target : Target) → IsStrictlySortedBy lead_cmp (given_leads target k.tag k.value)
    by (Study key) = (set_summary_laws lead_total lead_exact).one_held _
    by (Patient key) = (set_summary_laws lead_total lead_exact).one_held _
    by (Series key) = (set_summary_laws lead_total lead_exact).nothing_held

pub index_summary_laws : SummaryLaws IsIndex index_joined nothing index_of
index_summary_laws =
    let copies = set_summary_laws copy_total copy_exact in
    let leads = set_summary_laws lead_total lead_exact in
    let titles = set_summary_laws naming_total naming_exact in
    let fixes = map_summary_laws fix_key_total fix_key_exact (greatest_laws fix_cmp fix_total fix_exact)
    (greatest_summary_laws fix_cmp fix_total fix_exact) in
    let picks = map_summary_laws nat_list_cmp_total text_exact (least_laws pick_cmp pick_total pick_exact)
    (least_summary_laws pick_cmp pick_total pick_exact) in
    record {
      nothing_held = record {
        copies = copies.nothing_held;
        leads = leads.nothing_held;
        titles = titles.nothing_held;
        fixes = fixes.nothing_held;
        picks = picks.nothing_held;
      };
      one_held = λ op. held op;
      neutral = λ a h i. record {
        copies = copies.neutral a.copies h.copies i;
        leads = leads.neutral a.leads h.leads i;
        titles = titles.neutral a.titles h.titles i;
        fixes = fixes.neutral a.fixes h.fixes i;
        picks = picks.neutral a.picks h.picks i;
      };
    }
  where
    held : (op : Op) → IsIndex (index_of op)
    held (a_content c) =
        let copies = set_summary_laws copy_total copy_exact in
        let fixes = map_summary_laws fix_key_total fix_key_exact (greatest_laws fix_cmp fix_total fix_exact)
        (greatest_summary_laws fix_cmp fix_total fix_exact) in
        let picks = map_summary_laws nat_list_cmp_total text_exact (least_laws pick_cmp pick_total pick_exact)
        (least_summary_laws pick_cmp pick_total pick_exact) in
        record {
          copies = copies.one_held (a_copy c.instance (digest_of (a_content c)));
          leads = leads_held (a_content c);
          titles = titles_held c.note;
          fixes = fixes.nothing_held;
          picks = picks.one_held (c.instance, pick_of c);
        }
    held (a_correction k) =
        let copies = set_summary_laws copy_total copy_exact in
        let titles = set_summary_laws naming_total naming_exact in
        let fixes = map_summary_laws fix_key_total fix_key_exact (greatest_laws fix_cmp fix_total fix_exact)
        (greatest_summary_laws fix_cmp fix_total fix_exact) in
        let picks = map_summary_laws nat_list_cmp_total text_exact (least_laws pick_cmp pick_total pick_exact)
        (least_summary_laws pick_cmp pick_total pick_exact) in
        record {
          copies = copies.nothing_held;
          leads = leads_held (a_correction k);
          titles = titles.nothing_held;
          fixes = fixes.one_held (fix_key k.target k.tag, fix_of k);
          picks = picks.nothing_held;
        }
