-- The attributes that a correction may give a value (docs/DECISIONS.md, "Corrections"), with their value
-- representations.
use Rattle.std.specs.Prelude.{ℕ, List, Option}
use Rattle.std.specs.Option.{option_map}
use Rattle.dictionary.specs.Elements.{vr_in_table, role_in_table}
use Rattle.dictionary.specs.Roles.{correction_of}

-- the value representation of an attribute that may be corrected
abbrev pub correction_vr_of : ℕ → Option (List ℕ)
correction_vr_of tag = option_map (λ entity. vr_in_table tag) (correction_of (role_in_table tag))
