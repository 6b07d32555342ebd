use Rattle.std.proofs.Common.{length}
use Rattle.dimse.proofs.TextLaws.{TakesElements}
use Rattle.dimse.proofs.element.elements_of.Given as goal

-- The text begins with the elements so far, and the rest comes behind them.
abbrev pub invariant-loop-rest : goal.invariant-loop-rest
invariant-loop-rest l = TakesElements l.text l.elements.items l.previous l.rest

-- With each element less of the text is left.
abbrev pub decreases-loop-rest : goal.decreases-loop-rest
decreases-loop-rest l = length l.rest
