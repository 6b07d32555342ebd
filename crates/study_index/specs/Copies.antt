-- The copies of an index: each content by its SOP Instance UID and its digest.
use Rattle.std.specs.Prelude.{ℕ, Bool, false, nat_lt, List, length, Option, None, Some}
use Rattle.std.specs.List.{filter}
use Rattle.octets.specs.Texts.{same}
use Rattle.study_index.specs.Index.{Copy}

-- whether a copy is of a SOP Instance UID
abbrev pub is_copy_of : List ℕ → Copy → Bool
is_copy_of uid copy = same copy.uid uid

-- whether a SOP Instance UID has two copies or more
abbrev pub is_doubled : List Copy → List ℕ → Bool
is_doubled copies uid = nat_lt 1 (length (filter (is_copy_of uid) copies))

-- whether a copy has the SOP Instance UID of the one before it
abbrev pub is_next_copy : Option Copy → Copy → Bool
is_next_copy None copy = false
is_next_copy (Some before) copy = same before.uid copy.uid
