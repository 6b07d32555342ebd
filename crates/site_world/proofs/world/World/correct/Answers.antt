use Rattle.std.proofs.Common.{◌≡◌, ◌-◌, suc, sym, subst, arith, slice_set}
use Rattle.site_world.specs.Messages.{version_at}
use Rattle.site_world.specs.Steps.{Happens, IsTold, told_of_correcting, made_at}
use Rattle.site_world.specs.declared.step.Step.TheVariants.{Correct}
use Rattle.site_world.proofs.Worlds.{the_world, correct_happens}
use Rattle.site_world.proofs.world.World.correct.Goals as goal

-- The correction that the site made it has, and all else is as it was.
pub returns : goal.returns
returns c =
    let n = c.args.number in
    let version = c.version_at-version.result in
    let w = the_world c.self.inside.sites.items c.self.inside.sent.items c.self.inside.aged.items in
    let new = the_world (slice_set w.sites (n - 1) c.correct_at.new.site) w.sent w.aged in
    let pos : suc (n - 1) ≡ n = omega (arith, c.if-number-eq0.false) in
    subst (λ x. Happens x (Correct n c.args.target.now c.args.tag c.args.value.now) c.correct_at.result new)
    c.self.view_is
    (subst (λ k. Happens w (Correct k c.args.target.now c.args.tag c.args.value.now) c.correct_at.result new) pos
    (correct_happens w (n - 1) c.index_mut.result.now c.correct_at.new.site version c.args.target.now
    c.in_ok-target.target
    c.args.tag c.args.value.now c.in_ok-value.value c.correct_at.result (omega (
      arith,
      c.if-number-eq0.false,
      c.if-number-len.false,
      c.len.ensures,
    )) c.index_mut.ensures.value
    (subst (λ k. version ≡ version_at w.aged k) (sym pos)
    (subst (λ x. version ≡ version_at x.aged n) (sym c.self.view_is) c.version_at-version.ensures))
    c.in_ok-target.ensures c.in_ok-value.ensures
    (subst (λ k. IsTold c.index_mut.result.now (told_of_correcting version c.index_mut.result.now (made_at k
    c.index_mut.result.now c.in_ok-target.target c.args.tag c.in_ok-value.value)) c.correct_at.result
    c.correct_at.new.site) (sym pos) c.correct_at.ensures)))
