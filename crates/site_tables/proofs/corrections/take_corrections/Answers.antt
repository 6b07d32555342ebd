use Rattle.std.proofs.Common.{map, ap, subst, ◌∙◌}
use Rattle.std.proofs.lemmas.List.Sorted.{IsPermutation-map}
use Rattle.std.specs.List.Sorted.{IsPermutation}
use Rattle.archive_model.specs.Attributes.{corrections}
use Rattle.site_state.specs.Site.{ops_of}
use Rattle.site_tables.specs.Corrections.{with_count}
use Rattle.site_tables.proofs.corrections.take_corrections.Goals as goal

-- The corrections in order are a permutation of those of the set.
pub returns : goal.returns
returns c =
    let all = ops_of c.args.site.now in
    let ordered = map (λ k. k.now) c.put_in_order.new.corrections.items in
    let found =
    c.in_ok-corrections.ensures ∙ ap (λ os. corrections (map (λ o. o.now) os)) c.deref.ensures.value
    ∙ ap corrections c.in_ok-ops.ensures
    in
    record {
      ordered = ordered;
      same =
          subst (λ ks. IsPermutation ks ordered) found (IsPermutation-map (λ k. k.now) _ _ c.put_in_order.ensures.same);
      order = c.put_in_order.ensures.ordered;
      each = c.in_ok-found.ensures
          ∙ ap (λ ks. map (with_count all) (map (λ k. k.now) ks)) c.deref-2.ensures.value;
    }
