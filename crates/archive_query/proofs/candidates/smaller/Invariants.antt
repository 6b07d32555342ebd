use Rattle.std.proofs.Common.{◌∷◌}
use Rattle.octets.specs.Members.{Has}
use Rattle.archive_query.proofs.candidates.smaller.Given as goal

-- it is one of them
abbrev pub invariant-loop-walk : goal.invariant-loop-walk
invariant-loop-walk l = Has (l.first ∷ l.others) l.one
