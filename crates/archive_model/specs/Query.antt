-- The query that the elements of an identifier say (PS3.4, C.4.1.1.3).
use Rattle.std.specs.Prelude.{ℕ, ◌%◌, List, [], length, Bool, true, false, not, ◌&&◌, ◌||◌, ◌==◌, nat_eq, Option}
use Rattle.std.specs.Prelude.{Some, None, Result, Ok, Err, if◌then◌else◌}
use Rattle.std.specs.List.{filter_map, list_any}
use Rattle.std.specs.Cmp.Lexicographic.{pointwise}
use Rattle.octets.specs.Gives.{◌>>=◌}
use Rattle.dictionary.specs.declared.elements.TheConstants.{QUERY_RETRIEVE_LEVEL, SERIES_INSTANCE_UID}
use Rattle.dictionary.specs.declared.elements.TheConstants.{STUDY_INSTANCE_UID}
use Rattle.data_set.specs.Tree.{Tree, tag_of}
use Rattle.data_set.specs.Values.{value_of_tree, value_in}
use Rattle.octets.specs.Uid.{is_uid_text}
use Rattle.archive_model.specs.declared.fault.QueryFault.{QueryFault}
use Rattle.archive_model.specs.declared.fault.QueryFault.TheVariants.{NoLevel, MissingUpperKey, BadKey}
use Rattle.archive_model.specs.declared.key.Level.{Level}
use Rattle.archive_model.specs.declared.key.Level.TheVariants.{Study, Series, Image}
use Rattle.dictionary.specs.declared.role.Matching.{Matching}
use Rattle.dictionary.specs.declared.role.Matching.TheVariants.{Dates, Times, WildCard, Name, Uids, Single}
use Rattle.dictionary.specs.declared.role.Matching.TheVariants.{Answered}
use Rattle.archive_model.specs.declared.asked.Asked.{Asked}
use Rattle.archive_model.specs.declared.query.Query.{Query}
use Rattle.archive_model.specs.Column.{is_in_each_row, is_upper_key}
use Rattle.archive_model.specs.Key.{matching_of, has_study_above, has_series_above, word_of}
use Rattle.key_matching.specs.Matches.{is_universal, is_of_form}

-- ---- the level

abbrev pub level_named : List ℕ → Result Level QueryFault
level_named word =
    if pointwise nat_eq word (word_of Study) then Ok Study
    else if pointwise nat_eq word (word_of Series) then Ok Series
    else if pointwise nat_eq word (word_of Image) then Ok Image
    else Err NoLevel

abbrev pub level_in : Option (List ℕ) → Result Level QueryFault
level_in None = Err NoLevel
level_in (Some word) = level_named word

-- ---- the unique keys above the level, which name exactly one UID

abbrev pub uid_from : List ℕ → Result (List ℕ) QueryFault
uid_from uid = if is_uid_text uid then Ok uid else Err MissingUpperKey

abbrev pub uid_in : Option (List ℕ) → Result (List ℕ) QueryFault
uid_in None = Err MissingUpperKey
uid_in (Some uid) = uid_from uid

abbrev pub upper_uid : Bool → ℕ → List Tree → Result (List ℕ) QueryFault
upper_uid is_named tag elements = if is_named then uid_in (value_in tag elements) else Ok []

-- ---- keys

abbrev pub text_or_empty : Option (List ℕ) → List ℕ
text_or_empty None = []
text_or_empty (Some text) = text

-- the trimmed text of a key, empty where it holds items
abbrev pub key_text : Tree → List ℕ
key_text t = text_or_empty (value_of_tree t)

-- Group lengths, (0008,0005) Specific Character Set, the level, (0008,0054) Retrieve AE Title
-- and the unique keys above the level are no keys that are asked.
abbrev pub is_counted : Level → ℕ → Bool
is_counted level tag =
    not (tag % 65536 == 0 || is_in_each_row tag || is_upper_key level tag)

abbrev pub is_answered_only : Matching → Bool
is_answered_only Answered = true
is_answered_only Dates = false
is_answered_only Times = false
is_answered_only WildCard = false
is_answered_only Name = false
is_answered_only Uids = false
is_answered_only Single = false

-- a key that is not supported, or one that is answered only and is not empty
abbrev pub makes_partial : Option Matching → List ℕ → Bool
makes_partial None key = true
makes_partial (Some matching) key = is_answered_only matching && not (length key == 0)

abbrev pub is_partial_at : Level → Tree → Bool
is_partial_at level t =
    is_counted level (tag_of t) && makes_partial (matching_of level (tag_of t)) (key_text t)

-- a key that is not universal and has no form that its matching has
abbrev pub is_bad : Option Matching → List ℕ → Bool
is_bad None key = false
is_bad (Some matching) key = not (is_universal key) && not (is_of_form matching key)

abbrev pub is_bad_at : Level → Tree → Bool
is_bad_at level t = is_bad (matching_of level (tag_of t)) (key_text t)

abbrev pub asked_by : Option Matching → Tree → Option Asked
asked_by None t = None
asked_by (Some matching) t = Some (record { tag = tag_of t; matching = matching; key = key_text t })

-- the supported key that an element is
abbrev pub asked_of : Level → Tree → Option Asked
asked_of level t = asked_by (matching_of level (tag_of t)) t

abbrev pub asked_keys : Level → List Tree → Result (List Asked) QueryFault
asked_keys level elements =
    if list_any (is_bad_at level) elements then Err BadKey
    else Ok (filter_map (asked_of level) elements)

-- the query, or the first fault: no level, then a unique key above the level that is not one UID,
-- then a key of no form
unfoldable pub query_of : List Tree → Result Query QueryFault
query_of elements = do
  level ← level_in (value_in QUERY_RETRIEVE_LEVEL elements)
  study ← upper_uid (has_study_above level) STUDY_INSTANCE_UID elements
  series ← upper_uid (has_series_above level) SERIES_INSTANCE_UID elements
  asked ← asked_keys level elements
  Ok (record {
    level = level;
    study = study;
    series = series;
    asked = asked;
    partial = list_any (is_partial_at level) elements;
  })
