-- What was there before each of some writes, and taking the writes back, the last one first.
use Rattle.std.specs.Prelude.{List, [], ◌∷◌, Option, None, Some}
use Rattle.std.specs.Map.{set_value, remove_entry}
use Rattle.std.specs.Set.{remove_key}
use Rattle.std.specs.BTreeMap.{is_at}
use Rattle.std.specs.declared.cmp.Ordering.{Ordering}
use denote.Ref.{Bor}

-- the entries, with the value that was at the key, or without the key where it was absent
abbrev pub undone_at : {K J : Type 0} → (K → K → Ordering) → K → Option J → List (K × J) → List (K × J)
undone_at cmp key None entries = remove_entry (is_at (cmp key)) entries
undone_at cmp key (Some before) entries = set_value (is_at (cmp key)) entries before

-- the entries before all the writes
abbrev pub undone : {K J : Type 0} → (K → K → Ordering) → List (Bor K × Option J) → List (K × J) → List (K × J)
undone cmp [] entries = entries
undone cmp (note ∷ notes) entries = undone_at cmp note.0.now note.1 (undone cmp notes entries)

-- the keys without those that were put in
abbrev pub taken_out : {K : Type 0} → (K → K → Ordering) → List (Bor K) → List K → List K
taken_out cmp [] keys = keys
taken_out cmp (key ∷ added) keys = remove_key (is_at (cmp key.now)) (taken_out cmp added keys)
