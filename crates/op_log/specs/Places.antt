-- The heads that are kept in memory.
use Rattle.std.specs.Prelude.{◌≡◌, ℕ, List, Some, slice_get}
use Rattle.op_log.specs.declared.place.Place.{Place}
use Rattle.op_log.specs.Heads.{Head}

-- a digest, and what is kept beside it
abbrev pub head_by : List ℕ → Place → Head
head_by digest place = record { digest = digest; front = place.front; at = place.at; size = place.size }

-- an entry of the table
abbrev pub head_at : List ℕ × Place → Head
head_at entry = head_by entry.0 entry.1

-- the head at an index has this digest
abbrev pub HasDigestAt : List Head → ℕ → List ℕ → Type 0
HasDigestAt heads index digest = (h : Head) × (slice_get heads index ≡ Some h) × (h.digest ≡ digest)
