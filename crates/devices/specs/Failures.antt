-- How the failures of a device are counted.
use Rattle.std.specs.Prelude.{◌≡◌, ◌<◌, ◌+◌, ℕ, Result, MatchResult}

-- the count at which counting ends
abbrev pub MOST_FAILURES : ℕ
MOST_FAILURES = 18446744073709551615

-- the count rose by one; a count that has reached its end says nothing
abbrev pub Rose : ℕ → ℕ → Type 0
Rose old new = old < MOST_FAILURES → new ≡ old + 1

-- a call counted one failure where it told of one, and none where it did not
abbrev pub Counts : {A E : Type 0} → ℕ → ℕ → Result A E → Type 0
Counts old new result = MatchResult result (λ _. new ≡ old) (λ _. Rose old new)
