-- What is seen of an index in a walk.
use Rattle.std.specs.Prelude.{◌≡◌, ℕ, List}
use Rattle.std.specs.List.Sorted.{IsStrictlySortedBy}
use Rattle.operation.specs.declared.op.Op.{Op}
use Rattle.study_index.specs.Definition.{IsIndexOf}
use Rattle.study_index.specs.Index.{IndexValue}
use Rattle.study_index.specs.Live.{place_cmp}
use Rattle.study_index.specs.Walk.{IsWalkOf, visited, places_of}

-- a walk comes to the places of the picks, one after another
abbrev pub WalksComeToAllPlaces : Type 0
WalksComeToAllPlaces =
    (ops : List Op) (index : IndexValue) → IsIndexOf ops index
    → (walk : List (List ℕ × List (List ℕ × List (List ℕ)))) → IsWalkOf index.picks walk
    → visited walk ≡ places_of ops

-- and each index has a walk
abbrev pub ThereIsAWalk : Type 0
ThereIsAWalk =
    (ops : List Op) (index : IndexValue) → IsIndexOf ops index
    → (walk : List (List ℕ × List (List ℕ × List (List ℕ)))) × IsWalkOf index.picks walk

-- the places ascend: by study, in it by series, and in it by instance
abbrev pub PlacesAscend : Type 0
PlacesAscend = (ops : List Op) → IsStrictlySortedBy place_cmp (places_of ops)
