use Rattle.std.proofs.Common.{◌≡◌, length}
use Rattle.ul_state.specs.Titles.{without_front}
use Rattle.ul_state.proofs.titles.after_spaces.Given as goal

-- What was dropped so far is spaces at the front.
abbrev pub invariant-loop-rest : goal.invariant-loop-rest
invariant-loop-rest l = without_front l.rest ≡ without_front l.text

-- With each turn one byte fewer is left.
abbrev pub decreases-loop-rest : goal.decreases-loop-rest
decreases-loop-rest l = length l.rest
