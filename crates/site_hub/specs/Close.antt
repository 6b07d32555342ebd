-- When a hub may be closed.
use Rattle.std.specs.Prelude.{ℕ, zero, suc, ◌==◌, List, Bool, true, ◌&&◌, map}
use Rattle.std.specs.List.{list_any, list_all, filter}
use Rattle.std.specs.Cmp.Lexicographic.{pointwise}
use Rattle.octets.specs.Texts.{same}
use Rattle.site_hub.specs.declared.entry.Logged.{Logged}
use Rattle.site_hub.specs.Hub.{Seat}

-- the digests of a pass's entries in a log, in order
abbrev pub own_in : ℕ → List Logged → List (List ℕ)
own_in number log = map (λ (e : Logged). e.digest) (filter (λ (e : Logged). e.pass == number) log)

-- whether some digests are those of a pass's entries in a log, in order
abbrev pub is_own : ℕ → List (List ℕ) → List Logged → Bool
is_own number mine log = pointwise same mine (own_in number log)

-- whether a pass of a number is among some
abbrev pub is_there : ℕ → List Seat → Bool
is_there number seats = list_any (λ (s : Seat). s.number == number) seats

-- whether those of the numbers 1 to count are
abbrev pub are_there : ℕ → List Seat → Bool
are_there zero seats = true
are_there (suc n) seats = are_there n seats && is_there (suc n) seats

-- whether the passes of a hub of so many are all there, each with the digests of its own entries
abbrev pub agree : ℕ → List Logged → List Seat → Bool
agree count log seats = are_there count seats && list_all (λ (s : Seat). is_own s.number s.mine log) seats
