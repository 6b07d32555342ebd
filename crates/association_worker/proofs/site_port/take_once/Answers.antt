use Rattle.std.proofs.Common.{◌≡◌, None, subst}
use Rattle.operation.specs.declared.op.Op.{Op}
use Rattle.operation.specs.declared.taken.Taken.TheVariants.{New}
use Rattle.operation.specs.Spelling.{digest_of}
use Rattle.records.specs.StandIn.{op_in}
use Rattle.site_state.specs.Site.{Map, held_at}
use Rattle.site_hub.specs.Hub.{WasHeld}
use Rattle.association_worker.proofs.PortLaws.{none_held, takes_new, no_clash}
use Rattle.association_worker.proofs.site_port.take_once.Goals as goal

-- Nothing of its digest is held, so the site takes it as new.
pub returns-in-New-clause-takes : goal.returns-in-New-clause-takes
returns-in-New-clause-takes c =
    let was : WasHeld c.site.result.now c.in_ok-kept.kept New =
    subst (WasHeld c.site.result.now c.in_ok-kept.kept) c.in-New.is c.in_ok-check.ensures in
    let none = none_held c.args.site.now c.args.op c.of.ensures.digest
    (subst (λ (m : Map). held_at m (digest_of (op_in c.args.op)) ≡ None) c.site.ensures
    (subst (λ (o : Op). held_at c.site.result.now (digest_of o) ≡ None) c.in_ok-kept.ensures.stands was)) in
    takes_new c.args.site.now _ c.args.op c.take_digested.result none c.take_digested.ensures.takes

-- So nothing clashes with it.
pub returns-in-New-clause-collision : goal.returns-in-New-clause-collision
returns-in-New-clause-collision c =
    let was : WasHeld c.site.result.now c.in_ok-kept.kept New =
    subst (WasHeld c.site.result.now c.in_ok-kept.kept) c.in-New.is c.in_ok-check.ensures in
    let none = none_held c.args.site.now c.args.op c.of.ensures.digest
    (subst (λ (m : Map). held_at m (digest_of (op_in c.args.op)) ≡ None) c.site.ensures
    (subst (λ (o : Op). held_at c.site.result.now (digest_of o) ≡ None) c.in_ok-kept.ensures.stands was)) in
    λ e. absurd (no_clash c.args.site.now c.args.op none (c.take_digested.ensures.collision.0 e))
