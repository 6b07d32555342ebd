use Rattle.std.proofs.Common.{◌≡◌, length}
use Rattle.std.specs.Prelude.{All}
use Rattle.association_session.specs.Session.{IsWritable}
use Rattle.association_run.proofs.DeedLaws.{Acting}
use Rattle.association_run.proofs.act.act.Given as goal

-- The deeds so far are done but for the bytes that are held, none of them a call, and the others are left.
abbrev pub invariant-loop-deed : goal.invariant-loop-deed
invariant-loop-deed g l = record {
  did : Acting g.P.Port.ops g.P.Port.own (g.S.Sided.at l.fn.sides) (g.S.Sided.at l.sides) (g.S.Sided.held l.sides)
      l.fn.deeds l.deeds;
  writable : All IsWritable l.deeds;
  write : g.S.Sided.failures l.sides ≡ g.S.Sided.failures l.fn.sides;
  same : g.S.Sided.which l.sides ≡ g.S.Sided.which l.fn.sides;
}

-- With each deed fewer are left.
abbrev pub decreases-loop-deed : goal.decreases-loop-deed
decreases-loop-deed g l = length l.deeds
