use Rattle.std.proofs.Common.{◌≡◌, ◌++◌, drop}
use Rattle.std.specs.List.{flat_map}
use Rattle.site_simulation.specs.Texts.{spaced}
use Rattle.site_simulation.proofs.print.put_numbers.Given as goal

-- What was printed, with the numbers left, each behind a space, is all numbers.
abbrev pub invariant-loop-number : goal.invariant-loop-number
invariant-loop-number l = l.out.items ++ flat_map spaced (drop l.number-index l.numbers)
    ≡ l.fn.out.items ++ flat_map spaced l.numbers
