-- The rows of a C-FIND over a set of operations, which is the list of its operations ascending by
-- digest (PS3.4, C.4.1).
use Rattle.std.specs.Prelude.{ℕ, List, [], ◌∷◌, length, map, Bool, not, ◌&&◌, ◌||◌, ◌==◌, Option, Some, None}
use Rattle.std.specs.Prelude.{if◌then◌else◌}
use Rattle.std.specs.List.{filter, filter_map, list_all, list_any, join_with_byte}
use Rattle.std.specs.Option.{option_map}
use Rattle.std.specs.Fmt.{decimal}
use Rattle.dictionary.specs.declared.elements.TheConstants.{MODALITIES_IN_STUDY, NUMBER_OF_SERIES_RELATED_INSTANCES}
use Rattle.dictionary.specs.declared.elements.TheConstants.{NUMBER_OF_STUDY_RELATED_INSTANCES}
use Rattle.dictionary.specs.declared.elements.TheConstants.{NUMBER_OF_STUDY_RELATED_SERIES, QUERY_RETRIEVE_LEVEL}
use Rattle.dictionary.specs.declared.elements.TheConstants.{RETRIEVE_AE_TITLE, SERIES_INSTANCE_UID, SOP_INSTANCE_UID}
use Rattle.dictionary.specs.declared.elements.TheConstants.{SPECIFIC_CHARACTER_SET, STUDY_INSTANCE_UID}
use Rattle.data_set.specs.Tree.{Tree}
use Rattle.data_set.specs.Set.{Set}
use Rattle.data_set.specs.declared.syntax.Syntax.TheVariants.{Explicit}
use Rattle.operation.specs.declared.op.Op.{Op}
use Rattle.operation.specs.Parts.{ContentParts, value_at, own_value}
use Rattle.archive_model.specs.declared.view.View.{View}
use Rattle.archive_model.specs.Texts.{same, ascending}
use Rattle.archive_model.specs.Contents.{study_of, series_of, modality_of}
use Rattle.archive_model.specs.Shown.{shown}
use Rattle.archive_model.specs.Attributes.{attribute}
use Rattle.archive_model.specs.declared.key.Level.{Level}
use Rattle.archive_model.specs.declared.key.Level.TheVariants.{Study, Series, Image}
use Rattle.archive_model.specs.declared.asked.Asked.{Asked}
use Rattle.archive_model.specs.declared.query.Query.{Query}
use Rattle.archive_model.specs.Key.{has_study_above, has_series_above, word_of}
use Rattle.key_matching.specs.Matches.{matches}
use Rattle.archive_model.specs.Column.{columns}
use Rattle.archive_model.specs.Cell.{cell}

-- ---- what each row is about

-- the UID of a content at a level
abbrev pub uid_at : Level → ContentParts → List ℕ
uid_at Study c = study_of c
uid_at Series c = series_of c
uid_at Image c = c.instance

-- whether a content is of the study and the series that a query names
abbrev pub is_named : Query → ContentParts → Bool
is_named q c =
    (not (has_study_above q.level) || same (study_of c) q.study)
    && (not (has_series_above q.level) || same (series_of c) q.series)

-- what is shown of the study and the series that a query names, by ascending SOP Instance UID
abbrev pub named : Query → List ContentParts → List ContentParts
named q shown = filter (is_named q) shown

-- the distinct UIDs of a level, ascending
abbrev pub uids_at : Level → List ContentParts → List (List ℕ)
uids_at level cs = ascending (map (uid_at level) cs)

abbrev pub is_at : Level → List ℕ → ContentParts → Bool
is_at level uid c = same (uid_at level c) uid

-- the contents of a row. The first, which has the least SOP Instance UID, is its representative.
abbrev pub contents_at : Level → List ℕ → List ContentParts → List ContentParts
contents_at level uid cs = filter (is_at level uid) cs

-- ---- which rows match, by what gives each attribute of a content its value

-- whether a key matches an attribute of a representative
abbrev pub is_key_match_with : (ContentParts → ℕ → List ℕ) → ContentParts → Asked → Bool
is_key_match_with value c asked = matches asked.matching asked.key (value c asked.tag)

-- whether every key does
abbrev pub is_match_with : (ContentParts → ℕ → List ℕ) → Query → ContentParts → Bool
is_match_with value q c = list_all (is_key_match_with value c) q.asked

-- ---- what a row answers

-- the distinct modalities, but for the empty one, ascending
abbrev pub modalities_of : List ContentParts → List (List ℕ)
modalities_of cs = ascending (filter (λ m. not (length m == 0)) (map modality_of cs))

-- (0008,0061) Modalities in Study, parted by backslashes; (0020,1206) Number of Study Related
-- Series; (0020,1208) Number of Study Related Instances and (0020,1209) Number of Series Related
-- Instances; any other: the attribute of the representative
abbrev pub asked_value : (ContentParts → ℕ → List ℕ) → List ContentParts → ContentParts → ℕ → List ℕ
asked_value value cs c tag =
    if tag == MODALITIES_IN_STUDY then join_with_byte 0x5c (modalities_of cs)
    else if tag == NUMBER_OF_STUDY_RELATED_SERIES then decimal (length (ascending (map series_of cs)))
    else if tag == NUMBER_OF_STUDY_RELATED_INSTANCES || tag == NUMBER_OF_SERIES_RELATED_INSTANCES then decimal
    (length cs)
    else value c tag

-- (0020,000D) Study Instance UID, (0020,000E) Series Instance UID, (0008,0018) SOP Instance UID
abbrev pub is_unique_key : ℕ → Bool
is_unique_key tag = tag == STUDY_INSTANCE_UID || tag == SERIES_INSTANCE_UID || tag == SOP_INSTANCE_UID

abbrev pub is_asked : Query → ℕ → Bool
is_asked q tag = list_any (λ asked. asked.tag == tag) q.asked

-- the value that a row has in a column: the representative's character set where it has one, the
-- level as asked, the called title, a unique key, or what is asked
abbrev pub value_in_row
    : (ContentParts → ℕ → List ℕ) → List ℕ → Query → List ContentParts → ContentParts → ℕ → Option (List ℕ)
value_in_row value called q cs c tag =
    if tag == SPECIFIC_CHARACTER_SET then value_at tag c.values
    else if tag == QUERY_RETRIEVE_LEVEL then Some (word_of q.level)
    else if tag == RETRIEVE_AE_TITLE then Some called
    else if is_unique_key tag then Some (own_value c tag)
    else if is_asked q tag then Some (asked_value value cs c tag)
    else None

abbrev pub cell_in_row
    : (ContentParts → ℕ → List ℕ) → List ℕ → Query → List ContentParts → ContentParts → ℕ → Option Tree
cell_in_row value called q cs c tag =
    option_map (cell tag) (value_in_row value called q cs c tag)

-- the data set of a row
abbrev pub row_with : (ContentParts → ℕ → List ℕ) → List ℕ → Query → List ContentParts → ContentParts → Set
row_with value called q cs c =
    record { syntax = Explicit; elements = filter_map (cell_in_row value called q cs c) (columns q.level) }

-- ---- all rows

-- the row of some contents, where the first of them matches
abbrev pub row_of_with : (ContentParts → ℕ → List ℕ) → List ℕ → Query → List ContentParts → Option Set
row_of_with value called q [] = None
row_of_with value called q (c ∷ cs) =
    if is_match_with value q c then Some (row_with value called q (c ∷ cs) c) else None

abbrev pub row_at_with
    : (ContentParts → ℕ → List ℕ) → List ℕ → Query → List ContentParts → List ℕ → Option Set
row_at_with value called q cs uid = row_of_with value called q (contents_at q.level uid cs)

-- the rows of the UIDs of the level
abbrev pub rows_with : (ContentParts → ℕ → List ℕ) → List ℕ → Query → List ContentParts → List Set
rows_with value called q cs = filter_map (row_at_with value called q cs) (uids_at q.level cs)

-- ---- over a set, whose corrections give the values

abbrev pub is_key_match : List Op → ContentParts → Asked → Bool
is_key_match ops = is_key_match_with (attribute ops)

abbrev pub is_match : List Op → Query → ContentParts → Bool
is_match ops = is_match_with (attribute ops)

abbrev pub row : List Op → List ℕ → Query → List ContentParts → ContentParts → Set
row ops = row_with (attribute ops)

abbrev pub row_of : List Op → List ℕ → Query → List ContentParts → Option Set
row_of ops = row_of_with (attribute ops)

abbrev pub row_at : List Op → List ℕ → Query → List ContentParts → List ℕ → Option Set
row_at ops = row_at_with (attribute ops)

abbrev pub rows_among : List Op → List ℕ → Query → List ContentParts → List Set
rows_among ops = rows_with (attribute ops)

-- what a C-FIND answers: the distinct UIDs of the level among what is shown, within the study and the
-- series that the query names, ascending, where every key matches
unfoldable pub rows_of : View → List ℕ → Query → List Op → List Set
rows_of view called q ops = rows_among ops called q (named q (shown view ops))
