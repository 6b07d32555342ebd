-- The walk of an index, study by study, in each series by series, in each instance by instance.
use Rattle.std.specs.Prelude.{ℕ, List, [], ◌∷◌, ◌++◌, map, Option, None, Some}
use Rattle.std.specs.List.{filter_map, AllByRecursion}
use Rattle.std.specs.Map.{keys_of}
use Rattle.std.specs.Option.{option_map}
use Rattle.operation.specs.declared.op.Op.{Op}
use Rattle.archive_model.specs.Contents.{pick, instances}
use Rattle.join_laws.specs.GrowSet.{union_of}
use Rattle.study_index.specs.Index.{pick_of}
use Rattle.study_index.specs.Live.{Text, Pick, Place, a_place, place_cmp, place_of, HasStudy, HasSeries, HasInstance}
use Rattle.study_index.specs.Live.{IsNext}

-- steps past `after`: each is the next one, and behind the last there is none
abbrev pub IsWalk : (List ℕ → Type 0) → Option (List ℕ) → List (List ℕ) → Type 0
IsWalk Is after [] = IsNext Is after None
IsWalk Is after (uid ∷ uids) = IsNext Is after (Some uid) × IsWalk Is (Some uid) uids

-- the series of a study, each with its instances
abbrev pub IsWalkOfStudy : List (Text × Option Pick) → List ℕ → List (List ℕ × List (List ℕ)) → Type 0
IsWalkOfStudy picks study walk =
    IsWalk (HasSeries picks study) None (keys_of walk)
    × AllByRecursion (λ series. IsWalk (HasInstance picks study series.0) None series.1) walk

-- the studies, each with its series and their instances
abbrev pub IsWalkOf : List (Text × Option Pick) → List (List ℕ × List (List ℕ × List (List ℕ))) → Type 0
IsWalkOf picks walk =
    IsWalk (HasStudy picks) None (keys_of walk) × AllByRecursion (λ study. IsWalkOfStudy picks study.0 study.1) walk

-- the places that a walk comes to, one after another
abbrev pub visited_in_series : List ℕ → List ℕ → List (List ℕ) → List Place
visited_in_series study series instances = map (a_place study series) instances

abbrev pub visited_in_study : List ℕ → List (List ℕ × List (List ℕ)) → List Place
visited_in_study study [] = []
visited_in_study study (series ∷ more) = visited_in_series study series.0 series.1 ++ visited_in_study study more

abbrev pub visited : List (List ℕ × List (List ℕ × List (List ℕ))) → List Place
visited [] = []
visited (study ∷ more) = visited_in_study study.0 study.1 ++ visited more

-- where the pick of a SOP Instance UID stands
abbrev pub place_in : List Op → List ℕ → Option Place
place_in ops uid = option_map (λ c. place_of uid (pick_of c)) (pick uid ops)

-- the places of the picks of a set of operations, ascending
abbrev pub places_of : List Op → List Place
places_of ops = union_of place_cmp [] (filter_map (place_in ops) (instances ops))
