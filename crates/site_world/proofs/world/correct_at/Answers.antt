use Rattle.std.proofs.Common.{arith}
use Rattle.site_world.proofs.Worlds.{correcting_told}
use Rattle.site_world.proofs.world.correct_at.Goals as goal

-- The correction may be made, and its stamp comes after all others.
pub returns : goal.returns
returns c =
    correcting_told c.args.version c.args.site.now c.stamp_at.new.site c.args.number c.args.target c.args.tag
    c.args.value c.stamp_at.result c.saturating_add.result c.top_counter-top.result _ c.in-Ok.ensures
    (first_of (omega (arith, c.saturating_add.ensures), cc (c.saturating_add.ensures))) c.top_counter-top.ensures
    c.if-top.false c.stamp_at.ensures
