-- The selection that the elements of an identifier say (PS3.4, C.4.3.1.3), and what is in it.
use Rattle.std.specs.Prelude.{ℕ, List, Bool, not, ◌&&◌, ◌||◌, map, Option, Some, None, Result, Ok, Err, if◌then◌else◌}
use Rattle.std.specs.List.{filter}
use Rattle.std.specs.List.Sorted.{IsSorted}
use Rattle.std.specs.Borrow.{Bor}
use Rattle.octets.specs.Gives.{◌>>=◌}
use Rattle.octets.specs.Padding.{trimmed}
use Rattle.octets.specs.Texts.{text_cmp}
use Rattle.dictionary.specs.declared.elements.TheConstants.{QUERY_RETRIEVE_LEVEL, SERIES_INSTANCE_UID, SOP_INSTANCE_UID}
use Rattle.dictionary.specs.declared.elements.TheConstants.{STUDY_INSTANCE_UID}
use Rattle.data_set.specs.Tree.{Tree}
use Rattle.data_set.specs.Values.{value_in}
use Rattle.operation.specs.Parts.{ContentParts}
use Rattle.archive_model.specs.Texts.{same}
use Rattle.archive_model.specs.Contents.{study_of, series_of}
use Rattle.archive_model.specs.Covered.{is_among}
use Rattle.dictionary.specs.declared.role.Matching.TheVariants.{Uids}
use Rattle.key_matching.specs.Matches.{is_of_form, parts}
use Rattle.archive_model.specs.declared.fault.QueryFault.{QueryFault}
use Rattle.archive_model.specs.declared.fault.QueryFault.TheVariants.{BadKey}
use Rattle.archive_model.specs.declared.key.Level.{Level}
use Rattle.archive_model.specs.declared.key.Level.TheVariants.{Study, Series, Image}
use Rattle.archive_model.specs.Key.{has_study_above, has_series_above}
use Rattle.archive_model.specs.Query.{level_in, upper_uid}
use Rattle.archive_model.specs.Rows.{uid_at}
use Rattle.archive_model.specs.declared.selection.Selection.{Selection}

-- the unique key of a level (PS3.4, C.6.2.1)
abbrev pub unique_key : Level → ℕ
unique_key Study = STUDY_INSTANCE_UID
unique_key Series = SERIES_INSTANCE_UID
unique_key Image = SOP_INSTANCE_UID

-- the members of a list of UIDs, one or more, which backslashes part
abbrev pub uids_from : List ℕ → Result (List (List ℕ)) QueryFault
uids_from key = if is_of_form Uids key then Ok (map trimmed (parts key)) else Err BadKey

abbrev pub uids_in : Option (List ℕ) → Result (List (List ℕ)) QueryFault
uids_in None = Err BadKey
uids_in (Some key) = uids_from key

-- the selection, or the first fault: no level, then a unique key above the level that is not one UID, then no UID at
-- the level
unfoldable pub selection_of : List Tree → Result Selection QueryFault
selection_of elements = do
  level ← level_in (value_in QUERY_RETRIEVE_LEVEL elements)
  study ← upper_uid (has_study_above level) STUDY_INSTANCE_UID elements
  series ← upper_uid (has_series_above level) SERIES_INSTANCE_UID elements
  uids ← uids_in (value_in (unique_key level) elements)
  Ok (record { level = level; study = study; series = series; uids = uids })

-- whether a content is of the study and the series that a selection names above its level
abbrev pub is_within : Selection → ContentParts → Bool
is_within s c =
    (not (has_study_above s.level) || same (study_of c) s.study)
    && (not (has_series_above s.level) || same (series_of c) s.series)

-- the same, and its UID at the level is one of these
abbrev pub is_among_these : List (List ℕ) → Selection → ContentParts → Bool
is_among_these uids s c = is_within s c && is_among uids (uid_at s.level c)

-- whether a content is in a selection
abbrev pub is_selected : Selection → ContentParts → Bool
is_selected s c = is_among_these s.uids s c

-- those of some contents that are
abbrev pub selected : Selection → List ContentParts → List ContentParts
selected s cs = filter (is_selected s) cs

-- texts that references lead to ascend
abbrev pub Rises : List (Bor (List ℕ)) → Type 0
Rises uids = IsSorted (λ a b. text_cmp a.now b.now) uids
