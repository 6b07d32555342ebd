use Rattle.std.proofs.Common.{◌-◌, sym, ◌∙◌, arith}
use Rattle.walk_frames.specs.Walks.{is_earlier, stand_apart}
use Rattle.walk_frames.proofs.Lists.{passes_end}
use Rattle.walk_frames.proofs.walk.stand_apart.Goals as goal

-- No more than one entry is left.
pub returns : goal.returns
unfolding stand_apart
returns c = sym (sym c.loop-at.invariant ∙ passes_end is_earlier c.args.entries.now (c.loop-at.at - 1)
    (omega (arith, c.loop-at-test.false, c.loop-at.auto.at)))
