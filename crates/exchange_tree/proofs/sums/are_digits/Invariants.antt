use Rattle.std.proofs.Common.{◌≡◌, drop}
use Rattle.std.specs.Prelude.{nat_lt}
use Rattle.std.specs.List.{list_all}
use Rattle.exchange_tree.specs.declared.nodes.TheConstants.{CHILD_COUNT}
use Rattle.exchange_tree.proofs.sums.are_digits.Given as goal

-- All are digits exactly where those that are left are.
abbrev pub invariant-loop-digit : goal.invariant-loop-digit
invariant-loop-digit l = list_all (λ d. nat_lt d CHILD_COUNT) l.node ≡ list_all (λ d. nat_lt d CHILD_COUNT)
    (drop l.digit-index l.node)
