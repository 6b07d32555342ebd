use Rattle.std.proofs.Common.{refl, arith}
use Rattle.std.specs.Char.{to_ascii_uppercase}
use Rattle.study_index.proofs.Folded.{one_more, all_changed}
use Rattle.study_index.proofs.leads.fold.Goals as goal

-- At first none is changed.
pub loop-i-init : goal.loop-i-init
loop-i-init c = (refl, (refl, (λ k l. absurd (omega arith)), λ k l. refl))

-- One byte more was changed.
pub loop-i-preserved : goal.loop-i-preserved
loop-i-preserved c = (
  c.loop-i.invariant.0,
  one_more to_ascii_uppercase refl c.args.text.now c.loop-i.text c.loop-i.i
      c.to_ascii_uppercase.result (omega arith) c.to_ascii_uppercase.ensures.value c.loop-i.invariant.1,
)

-- All were.
pub returns : goal.returns
returns c = all_changed to_ascii_uppercase refl c.args.text.now c.loop-i.text c.loop-i.i (omega arith)
    c.loop-i.invariant.1
