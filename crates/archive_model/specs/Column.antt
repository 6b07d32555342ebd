-- What a row may answer, in ascending tags (PS3.4, C.4.1.1.3).
use Rattle.std.specs.Prelude.{ℕ, List, map, Bool, ◌&&◌, ◌||◌, ◌==◌, is_some}
use Rattle.std.specs.List.{filter}
use Rattle.dictionary.specs.declared.elements.TheConstants.{QUERY_RETRIEVE_LEVEL, RETRIEVE_AE_TITLE}
use Rattle.dictionary.specs.declared.elements.TheConstants.{SERIES_INSTANCE_UID, SPECIFIC_CHARACTER_SET}
use Rattle.dictionary.specs.declared.elements.TheConstants.{STUDY_INSTANCE_UID}
use Rattle.dictionary.specs.Elements.{Line, table}
use Rattle.dictionary.specs.Roles.{key_of}
use Rattle.archive_model.specs.declared.key.Level.{Level}
use Rattle.archive_model.specs.declared.key.Level.TheVariants.{Study, Series, Image}
use Rattle.archive_model.specs.Key.{has_study_above, has_series_above, matching_at}

-- (0008,0005) Specific Character Set, the level, (0008,0054) Retrieve AE Title: each row has them
abbrev pub is_in_each_row : ℕ → Bool
is_in_each_row tag = tag == SPECIFIC_CHARACTER_SET || tag == QUERY_RETRIEVE_LEVEL || tag == RETRIEVE_AE_TITLE

-- the unique keys of the levels above
abbrev pub is_upper_key : Level → ℕ → Bool
is_upper_key level tag =
    (has_study_above level && tag == STUDY_INSTANCE_UID) || (has_series_above level && tag == SERIES_INSTANCE_UID)

-- these, and the keys of the level
abbrev pub is_column : Level → Line → Bool
is_column level line =
    is_in_each_row line.tag || is_upper_key level line.tag || is_some (matching_at level (key_of line.role))

abbrev pub columns_at : Level → List ℕ
columns_at level = map (λ line. line.tag) (filter (is_column level) table)

abbrev pub columns : Level → List ℕ
columns Study = columns_at Study
columns Series = columns_at Series
columns Image = columns_at Image
