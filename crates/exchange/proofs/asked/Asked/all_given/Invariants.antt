use Rattle.std.proofs.Common.{◌≡◌, ◌≢◌, ℕ, List, ◌<◌, Some, false, get_or}
use Rattle.exchange.specs.Round.{asked_in}
use Rattle.exchange.proofs.asked.Asked.all_given.Given as goal

-- None of those so far that has no flag is asked for still.
abbrev pub invariant-loop-at : goal.invariant-loop-at
invariant-loop-at l =
    (i : ℕ) (e : List ℕ) → i < l.at → get_or l.self-inside.flags.items i false ≡ false
    → asked_in (get_or l.arrays i e) l.self ≢ Some false
