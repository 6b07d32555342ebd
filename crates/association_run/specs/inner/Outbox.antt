-- What is held back before it is written.
use Rattle.std.specs.Prelude.{◌≡◌, ℕ, List, ◌++◌, Option}
use Rattle.std.specs.Io.KnownBytes.{Appends}
use Rattle.association_session.specs.Projections.{IsFront}

-- Bytes were put behind those that were held: the first of them all were written, and the others are held.
abbrev pub Puts : Option (List ℕ) → List ℕ → Option (List ℕ) → List ℕ → List ℕ → Type 0
Puts w0 held w1 left bytes = (out : List ℕ) × Appends w0 w1 out × (out ++ left ≡ held ++ bytes)

-- A front of those that were held, and of these bytes behind them, was written.
abbrev pub PutsFront : Option (List ℕ) → List ℕ → Option (List ℕ) → List ℕ → Type 0
PutsFront w0 held w1 bytes = (out : List ℕ) × Appends w0 w1 out × IsFront out (held ++ bytes)
