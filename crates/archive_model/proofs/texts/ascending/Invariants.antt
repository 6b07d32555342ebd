use Rattle.std.proofs.Common.{◌≡◌, ◌≤◌, length, drop, map}
use Rattle.octets.specs.Texts.{ascending}
use Rattle.archive_model.proofs.texts.ascending.Given as goal

-- What was found are the texts from here to the end, ascending, each once.
abbrev pub invariant-loop-left : goal.invariant-loop-left
invariant-loop-left l = record {
  within : l.left ≤ length l.texts;
  so_far : l.found.items ≡ ascending (map (λ t. t.now) (drop l.left l.texts));
}

-- With each turn one text fewer is left.
abbrev pub decreases-loop-left : goal.decreases-loop-left
decreases-loop-left l = l.left
