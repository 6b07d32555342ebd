-- What a role says, and the lists that follow from the table.
use Rattle.std.specs.Prelude.{ℕ, List, map, Bool, true, false, Option, Some, None, is_some}
use Rattle.std.specs.List.{filter}
use Rattle.dictionary.specs.declared.role.Entity.{Entity}
use Rattle.dictionary.specs.declared.role.Matching.{Matching}
use Rattle.dictionary.specs.declared.role.Matching.TheVariants.{Answered}
use Rattle.dictionary.specs.declared.role.Role.{Role}
use Rattle.dictionary.specs.declared.role.Role.TheVariants.{Plain, Kept, Counted, Key, Corrected}
use Rattle.dictionary.specs.Elements.{Line, table}

-- whether its values are kept of a content
abbrev pub is_kept : Role → Bool
is_kept Plain = false
is_kept Kept = true
is_kept (Counted entity) = false
is_kept (Key entity matching) = true
is_kept (Corrected entity matching) = true

-- the entity of an attribute that a correction may give a value
abbrev pub correction_of : Role → Option Entity
correction_of Plain = None
correction_of Kept = None
correction_of (Counted entity) = None
correction_of (Key entity matching) = None
correction_of (Corrected entity matching) = Some entity

-- the entity of a key, and how it matches
abbrev pub key_of : Role → Option (Entity × Matching)
key_of Plain = None
key_of Kept = None
key_of (Counted entity) = Some (entity, Answered)
key_of (Key entity matching) = Some (entity, matching)
key_of (Corrected entity matching) = Some (entity, matching)

abbrev pub tags_where : (Role → Bool) → List Line → List ℕ
tags_where is lines = map (λ line. line.tag) (filter (λ line. is line.role) lines)

-- the attributes whose values are kept of a content
abbrev pub kept_tags : List ℕ
kept_tags = tags_where is_kept table

-- the attributes that a correction may give a value
abbrev pub corrected_tags : List ℕ
corrected_tags = tags_where (λ role. is_some (correction_of role)) table
