-- The studies and series of what is shown, their representatives and their counts (PS3.4, C.3).
use Rattle.std.specs.Prelude.{ℕ, List, [], ◌∷◌, Option, Some, None, Bool, ◌&&◌, map, length}
use Rattle.std.specs.List.{filter}
use Rattle.operation.specs.Parts.{ContentParts}
use Rattle.octets.specs.Texts.{same, ascending}
use Rattle.archive_model.specs.Contents.{study_of, series_of}

abbrev pub is_of_study : List ℕ → ContentParts → Bool
is_of_study study c = same (study_of c) study

abbrev pub is_of_series : List ℕ → List ℕ → ContentParts → Bool
is_of_series study series c = is_of_study study c && same (series_of c) series

-- the shown contents of a study
abbrev pub in_study : List ℕ → List ContentParts → List ContentParts
in_study study shown = filter (is_of_study study) shown

-- the shown contents of a series of a study
abbrev pub in_series : List ℕ → List ℕ → List ContentParts → List ContentParts
in_series study series shown = filter (is_of_series study series) shown

-- the distinct studies, ascending
abbrev pub studies : List ContentParts → List (List ℕ)
studies shown = ascending (map study_of shown)

-- the distinct series of a study, ascending
abbrev pub series_in : List ℕ → List ContentParts → List (List ℕ)
series_in study shown = ascending (map series_of (in_study study shown))

-- the first of some contents
abbrev pub first_of : List ContentParts → Option ContentParts
first_of [] = None
first_of (c ∷ cs) = Some c

-- the representative of a study: its shown content of least SOP Instance UID
abbrev pub study_representative : List ℕ → List ContentParts → Option ContentParts
study_representative study shown = first_of (in_study study shown)

-- the representative of a series of a study
abbrev pub series_representative : List ℕ → List ℕ → List ContentParts → Option ContentParts
series_representative study series shown = first_of (in_series study series shown)

-- (0020,1208) Number of Study Related Instances
abbrev pub instances_of_study : List ℕ → List ContentParts → ℕ
instances_of_study study shown = length (in_study study shown)

-- (0020,1206) Number of Study Related Series
abbrev pub series_of_study : List ℕ → List ContentParts → ℕ
series_of_study study shown = length (series_in study shown)
