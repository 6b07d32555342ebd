-- The picks of a set, and the list of their places.
use Rattle.std.specs.Prelude.{◌≡◌, ℕ, ◌&&◌, Bool, true, false, cond, not, List, [], ◌∷◌, ◌++◌, fold, Option, None, Some}
use Rattle.std.specs.Prelude.{⊤}
use Rattle.std.specs.List.{filter}
use Rattle.std.specs.Map.{lookup}
use Rattle.std.specs.Ordering.{nat_cmp, ordering_then, is_gt}
use Rattle.std.specs.declared.cmp.Ordering.{Ordering}
use Rattle.std.specs.declared.cmp.Ordering.TheVariants.{Less}
use Rattle.std.specs.BTreeMap.{is_at}
use Rattle.std.specs.BTreeMap.Range.{range_contains}
use Rattle.std.specs.declared.ops.Bound.{Bound}
use Rattle.std.specs.declared.ops.Bound.TheVariants.{Included, Excluded, Unbounded}
use Rattle.join_laws.specs.Least.{least_of}
use Rattle.join_laws.specs.GrowSet.{union_of}
use Rattle.join_laws.specs.MapOf.{map_joined}
use Rattle.octets.specs.Texts.{same, text_cmp}

abbrev pub Text : Type 0
Text = List ℕ

-- a digest, and the study and the series that its content names
pub record Pick : Type 0 where
  pub digest : Text
  pub study : Text
  pub series : Text

abbrev pub a_pick : Text → Text → Text → Pick
a_pick digest study series = record { digest = digest; study = study; series = series }

-- the least pick of each SOP Instance UID, by ascending UID
abbrev pub Picks : Type 0
Picks = List (Text × Option Pick)

-- study, series and instance, with a number behind the study and behind the series: 0 where something stands,
-- and 1 for the end of the study or of the series, behind all that stands in it
pub record Place : Type 0 where
  pub study : Text
  pub study_end : ℕ
  pub series : Text
  pub series_end : ℕ
  pub instance : Text

-- where an instance of a series of a study stands
abbrev pub a_place : Text → Text → Text → Place
a_place study series instance =
    record { study = study; study_end = 0; series = series; series_end = 0; instance = instance }

-- by digest, then by study, then by series
abbrev pub pick_cmp : Pick → Pick → Ordering
pick_cmp x y = ordering_then (text_cmp x.digest y.digest) (ordering_then (text_cmp x.study y.study)
    (text_cmp x.series y.series))

-- part after part
abbrev pub place_cmp : Place → Place → Ordering
place_cmp x y =
    ordering_then (text_cmp x.study y.study)
    (ordering_then (nat_cmp x.study_end y.study_end)
    (ordering_then (text_cmp x.series y.series) (ordering_then (nat_cmp x.series_end y.series_end)
    (text_cmp x.instance y.instance))))

-- what is there, where an entry may be there and hold nothing
abbrev pub flat : {V : Type 0} → Option (Option V) → Option V
flat None = None
flat (Some v) = v

-- the pick of an instance
abbrev pub pick_at : List ℕ → List (List ℕ × Option Pick) → Option Pick
pick_at instance picks = flat (lookup (is_at (text_cmp instance)) picks)

-- the join of picks: of each instance the one of least digest
abbrev pub picks_joined : List (Text × Option Pick) → List (Text × Option Pick) → List (Text × Option Pick)
picks_joined = map_joined text_cmp (least_of pick_cmp)

-- where a pick of an instance stands
abbrev pub place_of : Text → Pick → Place
place_of instance pick = a_place pick.study pick.series instance

-- the instance of a place
abbrev pub instance_of : Place → Text
instance_of place = place.instance

abbrev pub place_at : Text → Option Pick → List Place
place_at instance None = []
place_at instance (Some pick) = place_of instance pick ∷ []

-- the places of all picks, ascending
abbrev pub tree_of : List (Text × Option Pick) → List Place
tree_of [] = []
tree_of (e ∷ es) = union_of place_cmp (tree_of es) (place_at e.0 e.1)

-- whether a pick stands elsewhere than the one before it
abbrev pub is_moved : Option Pick → Option Pick → Bool
is_moved None None = false
is_moved None (Some after) = true
is_moved (Some before) None = true
is_moved (Some before) (Some after) = not (same before.study after.study && same before.series after.series)

-- what the list gains, and what it loses, where a pick comes in
abbrev pub gained : Text → Option Pick → Option Pick → List Place
gained instance before other = cond (is_moved before (least_of pick_cmp before other))
    (place_at instance (least_of pick_cmp before other)) []

abbrev pub lost : Text → Option Pick → Option Pick → List Place
lost instance before other = cond (is_moved before (least_of pick_cmp before other)) (place_at instance before) []

-- the same where all of `others` come in
abbrev pub gains : List (Text × Option Pick) → List (Text × Option Pick) → List Place
gains picks others = fold (λ ps e. ps ++ gained e.0 (pick_at e.0 picks) e.1) [] others

abbrev pub losses : List (Text × Option Pick) → List (Text × Option Pick) → List Place
losses picks others = fold (λ ps e. ps ++ lost e.0 (pick_at e.0 picks) e.1) [] others

-- a pick is of the study, of the series of the study, of the instance in the series of the study
abbrev pub HasStudy : List (Text × Option Pick) → List ℕ → Type 0
HasStudy picks study = (instance : Text) × (digest : Text) × (series : Text)
    × (pick_at instance picks ≡ Some (a_pick digest study series))

abbrev pub HasSeries : List (Text × Option Pick) → List ℕ → List ℕ → Type 0
HasSeries picks study series = (instance : Text) × (digest : Text)
    × (pick_at instance picks ≡ Some (a_pick digest study series))

abbrev pub HasInstance : List (Text × Option Pick) → List ℕ → List ℕ → List ℕ → Type 0
HasInstance picks study series instance = (digest : Text) × (pick_at instance picks ≡ Some (a_pick digest study series))

-- greater than `after`, as bytes, or any where there is none
abbrev pub IsPast : Option (List ℕ) → List ℕ → Type 0
IsPast None uid = ⊤
IsPast (Some after) uid = text_cmp after uid ≡ Less

-- the least of those past `after`, or none where there is none
abbrev pub IsNext : (List ℕ → Type 0) → Option (List ℕ) → Option (List ℕ) → Type 0
IsNext Has after None = (uid : List ℕ) → Has uid → IsPast after uid → ⊥
IsNext Has after (Some next) = Has next × IsPast after next × ((uid : List ℕ) → Has uid → IsPast after uid
    → is_gt (text_cmp next uid) ≡ false)

-- where the places of a study begin and where they end
abbrev pub front_of : List ℕ → Place
front_of study = a_place study [] []

abbrev pub end_of : List ℕ → Place
end_of study = record { study = study; study_end = 1; series = []; series_end = 0; instance = [] }

-- where the places of a series of a study begin and where they end
abbrev pub front_of_series : List ℕ → List ℕ → Place
front_of_series study series = a_place study series []

abbrev pub end_of_series : List ℕ → List ℕ → Place
end_of_series study series = record { study = study; study_end = 0; series = series; series_end = 1; instance = [] }

-- from where on a study, a series or an instance past `after` is looked for
abbrev pub study_start : Option (List ℕ) → Bound Place
study_start None = Unbounded
study_start (Some study) = Excluded (end_of study)

abbrev pub series_start : List ℕ → Option (List ℕ) → Bound Place
series_start study None = Included (front_of study)
series_start study (Some series) = Excluded (end_of_series study series)

abbrev pub instance_start : List ℕ → List ℕ → Option (List ℕ) → Bound Place
instance_start study series None = Included (front_of_series study series)
instance_start study series (Some instance) = Excluded (a_place study series instance)

-- whether a pick is of a study
abbrev pub is_of_study : List ℕ → Option Pick → Bool
is_of_study study None = false
is_of_study study (Some pick) = same pick.study study

-- whether a pick is of a series of a study
abbrev pub is_of_series : List ℕ → List ℕ → Option Pick → Bool
is_of_series study series None = false
is_of_series study series (Some pick) = same pick.study study && same pick.series series

-- whether a place is from a front on and before an end
abbrev pub is_between : Place → Place → Place → Bool
is_between front end place = range_contains place_cmp (Included front) (Excluded end) place

-- the places of a study's picks, ascending
abbrev pub places_in_study : List ℕ → List (Text × Option Pick) → List Place
places_in_study study picks = filter (is_between (front_of study) (end_of study)) (tree_of picks)
