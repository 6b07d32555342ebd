-- What a log loses where its file is opened.
use Rattle.std.specs.Prelude.{◌⊎◌, ℕ, List, IsTrue}
use Rattle.wal_tail.specs.Header.{IsHeaderLost}
use Rattle.wal_tail.specs.Tail.{IsLost}
use Rattle.wal_tail.specs.declared.tail.Lost.{Lost}

-- a log has frames that count no more, and that no crash left so: its header is none, or its first bad frame is its own
abbrev pub LosesFrames : List ℕ → Type 0
LosesFrames log = IsHeaderLost log ⊎ ((lost : Lost) × IsLost log lost × IsTrue lost.is_own)

-- frames of its own stand behind a bad one that is none of them, as a crash in a long transaction leaves
abbrev pub HasRest : List ℕ → Type 0
HasRest log = (¬ IsHeaderLost log) × ((lost : Lost) × IsLost log lost × (¬ IsTrue lost.is_own))

-- no frame of its own stands behind a bad one
abbrev pub IsWhole : List ℕ → Type 0
IsWhole log = (¬ IsHeaderLost log) × ((lost : Lost) → ¬ IsLost log lost)
