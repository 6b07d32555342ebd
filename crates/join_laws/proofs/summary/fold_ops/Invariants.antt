use Rattle.std.proofs.Common.{◌≡◌, ◌≤◌, length, take}
use Rattle.join_laws.specs.Laws.{summary_of}
use Rattle.join_laws.proofs.summary.fold_ops.Given as goal

-- what was read so far
abbrev pub invariant-loop-op : goal.invariant-loop-op
invariant-loop-op g l = (l.op-index ≤ length l.list) × (l.value ≡ summary_of g.S.Join.joined g.S.Summary.nothing
    g.S.Summary.of_one (take l.op-index l.list))
