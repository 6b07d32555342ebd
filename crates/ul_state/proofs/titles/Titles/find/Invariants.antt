use Rattle.std.proofs.Common.{◌≡◌, length}
use Rattle.ul_state.specs.Titles.{title_of}
use Rattle.ul_state.proofs.titles.Titles.find.Given as goal

-- No title so far is the called one, so it is found among those left.
abbrev pub invariant-loop-rest : goal.invariant-loop-rest
invariant-loop-rest g l = title_of l.rest l.called ≡ title_of l.self.list l.called

-- With each turn one title fewer is left.
abbrev pub decreases-loop-rest : goal.decreases-loop-rest
decreases-loop-rest g l = length l.rest
