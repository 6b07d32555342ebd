use Rattle.std.proofs.Common.{◌≡◌, ◌++◌, [], Err, subst, ap, sym, ◌∙◌, length, arith}
use Rattle.std.proofs.lemmas.Result.{err_from_is_err_and}
use Rattle.std.specs.Vec.Iter.{into_iter_items}
use Rattle.std.proofs.lemmas.List.{nil_from_length as nothing_left}
use Rattle.site_state.specs.declared.fault.SiteFault.{SiteFault}
use Rattle.site_state.specs.declared.fault.SiteFault.TheVariants.{Collision}
use Rattle.site_state.specs.Site.{Takes}
use Rattle.site_state.specs.Laws.{Apart, after_taking}
use Rattle.shelved_site.proofs.Takings.{taken_next, clash_is_among, all_met}
use Rattle.shelved_site.proofs.taking.after_each.Goals as goal

-- None was met.
pub loop-op-init : goal.loop-op-init
loop-op-init c =
    let gives = c.into_iter-op-iterator.ensures.into_iter_gives in
    ([], c.new-site.ensures, gives.0, gives.1 ∙ c.args.recorded.ok.0 ∙ ap length (sym gives.0), λ o p none. elim none [ ])

-- One more was taken.
pub loop-op-preserved : goal.loop-op-preserved
loop-op-preserved c =
    let seen = c.loop-op.invariant in
    let more =
    taken_next c.loop-op.site c.take.new.self seen.0 (into_iter_items c.next.new.self) c.args.recorded.items
    c.in-Some.op c.in_ok-_taken._taken seen.1 seen.4 (ap (λ left. seen.0 ++ left) (sym c.in-Some.ensures.steps.0) ∙ seen.2)
    c.in_ok-_taken.ensures.takes in (
      more.0,
      more.1,
      more.2,
      omega (arith, seen.3, ap length c.in-Some.ensures.steps.0, c.in-Some.ensures.steps.1),
      more.3,
    )

-- What was refused clashes with one that was taken.
pub returns-in_err-_taken-clause-collision : goal.returns-in_err-_taken-clause-collision
returns-in_err-_taken-clause-collision c bad =
    let e = err_from_is_err_and c.from_residual.result c.from_residual.ensures.1 in
    let is : c.in_err-_taken.field-0.0 ≡ Collision = cc in
    let seen = c.loop-op.invariant in
    clash_is_among c.loop-op.site seen.0 (into_iter_items c.next.new.self) c.args.recorded.items c.in-Some.op seen.1
    (ap (λ left. seen.0 ++ left) (sym c.in-Some.ensures.steps.0) ∙ seen.2)
    (subst (λ (f : SiteFault). Takes c.loop-op.site c.in-Some.op (Err f) c.take.new.self) is
    c.in_err-_taken.ensures.takes).0

-- All were.
pub returns-clause-site : goal.returns-clause-site
returns-clause-site c =
    let seen = c.loop-op.invariant in
    let none : into_iter_items c.loop-op.op-iterator ≡ [] = nothing_left _ (sym seen.3 ∙ c.in-None.ensures.steps.0) in
    seen.1 ∙ ap after_taking (all_met seen.0 c.args.recorded.items (ap (λ left. seen.0 ++ left) (sym none) ∙ seen.2))

-- And they are apart.
pub returns-clause-apart : goal.returns-clause-apart
returns-clause-apart c =
    let seen = c.loop-op.invariant in
    let none : into_iter_items c.loop-op.op-iterator ≡ [] = nothing_left _ (sym seen.3 ∙ c.in-None.ensures.steps.0) in
    subst Apart (all_met seen.0 c.args.recorded.items (ap (λ left. seen.0 ++ left) (sym none) ∙ seen.2)) seen.4
