use Rattle.std.proofs.Common.{◌≡◌, ◌-◌, suc, sym, subst, arith, slice_set}
use Rattle.site_world.specs.declared.fault.WorldFault.TheVariants.{NoSite}
use Rattle.site_world.specs.Messages.{version_at}
use Rattle.site_world.specs.Steps.{Comes, on_site, site_at, told_of_taking, taken_in}
use Rattle.site_world.proofs.Worlds.{the_world, bring_comes}
use Rattle.site_world.proofs.world.World.bring.Goals as goal

-- What the site took it has, and all else is as it was.
pub returns : goal.returns
returns c =
    let n = c.args.number in
    let op = c.args.op in
    let version = c.version_at-version.result in
    let w = the_world c.self.inside.sites.items c.self.inside.sent.items c.self.inside.aged.items in
    let new = the_world (slice_set w.sites (n - 1) c.take_at.new.site) w.sent w.aged in
    let pos : suc (n - 1) ≡ n = omega (arith, c.if-number-eq0.false) in
    subst (λ x. Comes x n (on_site NoSite (site_at x.sites n) (λ m. told_of_taking op (taken_in (version_at x.aged n) m
    op))) c.take_at.result new) c.self.view_is
    (subst (λ k. Comes w k (on_site NoSite (site_at w.sites k) (λ m. told_of_taking op (taken_in (version_at w.aged k) m
    op))) c.take_at.result new) pos
    (bring_comes w (n - 1) c.index_mut.result.now c.take_at.new.site version op c.take_at.result
    (omega (arith, c.if-number-eq0.false, c.if-number-len.false, c.len.ensures)) c.index_mut.ensures.value
    (subst (λ k. version ≡ version_at w.aged k) (sym pos)
    (subst (λ x. version ≡ version_at x.aged n) (sym c.self.view_is) c.version_at-version.ensures))
    c.take_at.ensures))
