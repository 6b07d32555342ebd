-- Which contents stand for others, where a row is made of the first of its contents alone.
use Rattle.std.specs.Prelude.{ℕ, nat_lt, List, [], ◌∷◌, length, Bool, false, ◌&&◌, ◌||◌, ◌==◌, Option, None, Some}
use Rattle.std.specs.Prelude.{is_some}
use Rattle.std.specs.Prelude.{if◌then◌else◌}
use Rattle.std.specs.List.{list_any, cons_option, flat_map}
use Rattle.dictionary.specs.declared.elements.TheConstants.{MODALITIES_IN_STUDY, NUMBER_OF_SERIES_RELATED_INSTANCES}
use Rattle.dictionary.specs.declared.elements.TheConstants.{NUMBER_OF_STUDY_RELATED_INSTANCES}
use Rattle.dictionary.specs.declared.elements.TheConstants.{NUMBER_OF_STUDY_RELATED_SERIES}
use Rattle.octets.specs.Texts.{same}
use Rattle.operation.specs.Parts.{ContentParts}
use Rattle.study_index.specs.Live.{Text, Pick, Place, instance_of, tree_of, places_in_study}
use Rattle.archive_model.specs.declared.query.Query.{Query}

-- what is told of all contents of a row
abbrev pub is_counted_tag : ℕ → Bool
is_counted_tag tag =
    tag == MODALITIES_IN_STUDY || tag == NUMBER_OF_STUDY_RELATED_SERIES || tag == NUMBER_OF_STUDY_RELATED_INSTANCES
    || tag == NUMBER_OF_SERIES_RELATED_INSTANCES

-- whether a query asks for any of it
abbrev pub is_counted : Query → Bool
is_counted q = list_any (λ asked. is_counted_tag asked.tag) q.asked

-- whether a place is of the series of another; an index knows 64 bytes of a UID, so two of 64 may be of two series
abbrev pub is_in_series : Option Place → Place → Bool
is_in_series None place = false
is_in_series (Some last) place =
    same last.study place.study && same last.series place.series && nat_lt (length place.study) 64
    && nat_lt (length place.series) 64

-- of each series of some places what is shown first, but for the series of the place that was taken last
abbrev pub firsts : (Text → Option ContentParts) → Option Place → List Place → List ContentParts
firsts shown last [] = []
firsts shown last (place ∷ places) =
    if is_in_series last place then firsts shown last places
    else cons_option (shown (instance_of place))
    (firsts shown (if is_some (shown (instance_of place)) then Some place else last) places)

-- the same of a study, of which an index knows 64 bytes
abbrev pub firsts_in_study : (Text → Option ContentParts) → List (Text × Option Pick) → Text → List ContentParts
firsts_in_study shown picks study = firsts shown None (places_in_study study picks)

-- the same of some studies, or of all
abbrev pub firsts_of : (Text → Option ContentParts) → List (Text × Option Pick) → Option (List Text) → List ContentParts
firsts_of shown picks None = firsts shown None (tree_of picks)
firsts_of shown picks (Some studies) = flat_map (firsts_in_study shown picks) studies
