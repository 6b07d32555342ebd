-- The value that corrections give an attribute of an instance (PS3.4, B.4.1).
use Rattle.std.specs.Prelude.{ℕ, List, ◌≤◌, length, Bool, ◌&&◌, nat_le, IsTrue, Option, Some, None, if◌then◌else◌}
use Rattle.operation.specs.Corrections.{is_corrected}

-- the tag of an attribute, and a value for it
abbrev pub ChangeParts : Type 0
ChangeParts = ℕ × List ℕ

-- whether a correction may give an attribute a value: it is one that may be corrected, and the value has at most 64
-- bytes
abbrev pub is_change : ℕ → List ℕ → Bool
is_change tag value = is_corrected tag && nat_le (length value) 64

-- what a change keeps true of its parts
pub record IsChange (change : ChangeParts) : Type 0 where
  pub corrected : IsTrue (is_corrected change.0)
  pub short : length change.1 ≤ 64

-- the change, where there is one
abbrev pub checked_change : ℕ → List ℕ → Option ChangeParts
checked_change tag value = if is_change tag value then Some (tag, value) else None
