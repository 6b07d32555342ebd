-- Among which SOP Instance UIDs the contents are that a query asks for, by the picks of an index.
use Rattle.std.specs.Prelude.{◌≡◌, ℕ, List, [], ◌∷◌, take, map, Bool, false, not, ◌&&◌, ◌||◌, ◌==◌, Option, Some, None}
use Rattle.std.specs.Prelude.{IfSome}
use Rattle.std.specs.List.{find, list_any}
use Rattle.std.specs.Map.{keys_of}
use Rattle.std.specs.Option.{option_map}
use Rattle.dictionary.specs.declared.elements.TheConstants.{SERIES_INSTANCE_UID, SOP_INSTANCE_UID, STUDY_INSTANCE_UID}
use Rattle.octets.specs.Padding.{trimmed}
use Rattle.octets.specs.Texts.{ascending, text_cmp}
use Rattle.join_laws.specs.GrowSet.{union_of}
use Rattle.key_matching.specs.Matches.{is_universal, parts}
use Rattle.key_matching.specs.Prepared.{is_uids}
use Rattle.study_index.specs.Keys.{has}
use Rattle.study_index.specs.Live.{Pick, pick_at, is_of_study, is_of_series}
use Rattle.archive_model.specs.declared.asked.Asked.{Asked}
use Rattle.archive_model.specs.declared.key.Level.{Level}
use Rattle.archive_model.specs.declared.key.Level.TheVariants.{Study, Series, Image}
use Rattle.archive_model.specs.declared.query.Query.{Query}
use Rattle.study_index.specs.Index.{IndexValue}
use Rattle.study_index.specs.Leads.{LeadWalk, is_walked}
use Rattle.archive_query.specs.Leads.{is_candidate, is_walkable, IsChosen, IsOneOf, AreWalksOf}

-- whether a key lists UIDs of an attribute
abbrev pub is_list_of : ℕ → Asked → Bool
is_list_of tag asked = asked.tag == tag && is_uids asked.matching && not (is_universal asked.key)

-- whether the pick of an instance is of one of these studies, of each of which an index knows 64 bytes
abbrev pub is_of_some : List (List ℕ) → Option Pick → Bool
is_of_some studies pick = list_any (λ study. is_of_study (take 64 study) pick) studies

-- whether the pick of an instance is of one of these series of a study
abbrev pub is_of_some_series : List ℕ → List (List ℕ) → Option Pick → Bool
is_of_some_series study series pick = list_any (λ one. is_of_series study (take 64 one) pick) series

-- the same of series that are listed, and of the one without a name
abbrev pub is_listed_series : List ℕ → List (List ℕ) → Option Pick → Bool
is_listed_series study series pick = is_of_series study [] pick || is_of_some_series study series pick

-- ---- what a query lists at its level

-- the attribute of a level's UID
abbrev pub listed_tag : Level → ℕ
listed_tag Study = STUDY_INSTANCE_UID
listed_tag Series = SERIES_INSTANCE_UID
listed_tag Image = SOP_INSTANCE_UID

-- the members of a key that lists UIDs, ascending, each once
abbrev pub members_of : Asked → List (List ℕ)
members_of asked = ascending (map trimmed (parts asked.key))

-- the members of the key that lists UIDs of the level, if there is one
abbrev pub listed_of : Query → Option (List (List ℕ))
listed_of q = option_map members_of (find (is_list_of (listed_tag q.level)) q.asked)

-- ---- what is walked

-- at SERIES: of the study that is named what a key lists, or else all
abbrev pub is_walked_at_series : Option (List (List ℕ)) → List ℕ → Option Pick → Bool
is_walked_at_series None study pick = is_of_study study pick
is_walked_at_series (Some series) study pick = is_listed_series study series pick

-- 64 bytes of each of some texts, and the text of no bytes, which each key matches
abbrev pub cut_texts : List (List ℕ) → List (List ℕ)
cut_texts texts = [] ∷ map (take 64) texts

-- at IMAGE: of the series that is named what a key lists, or else all
abbrev pub is_walked_at_image : Option (List (List ℕ)) → List ℕ → List ℕ → IndexValue → List ℕ → Bool
is_walked_at_image None study series index uid = is_of_series study series (pick_at uid index.picks)
is_walked_at_image (Some listed) study series index uid =
    is_of_series study series (pick_at uid index.picks) && has text_cmp (union_of text_cmp [] (cut_texts listed)) uid

-- the studies that the walk of a key comes to, or all
abbrev pub AreStudiesOf : Option (ℕ × LeadWalk) → IndexValue → Option (List (List ℕ)) → Type 0
AreStudiesOf None index studies = studies ≡ None
AreStudiesOf (Some walk) index None = ⊥
AreStudiesOf (Some walk) index (Some studies) =
    (s : List ℕ) → has text_cmp studies s ≡ is_candidate walk.0 (is_walked walk.1) index.leads s

-- the studies that the walk of one of some keys comes to, or all, where no key has one
pub record AreByOne (walks : List (ℕ × LeadWalk)) (index : IndexValue) (studies : Option (List (List ℕ))) : Type 0 where
  pub one : Option (ℕ × LeadWalk)
  pub is : IsOneOf walks one
  pub studies_are : AreStudiesOf one index studies

-- the same of a query's keys
pub record AreChosen (q : Query) (index : IndexValue) (studies : Option (List (List ℕ))) : Type 0 where
  pub one : Option (ℕ × LeadWalk)
  pub some : IfSome one (IsChosen q)
  pub none : one ≡ None → list_any is_walkable q.asked ≡ false
  pub studies_are : AreStudiesOf one index studies

-- the studies that are walked, of each of which an index knows 64 bytes: those that a key lists, or those of another
-- key
abbrev pub AreWalked : Option (List (List ℕ)) → Query → IndexValue → Option (List (List ℕ)) → Type 0
AreWalked None q index studies = AreChosen q index studies
AreWalked (Some listed) q index studies = studies ≡ Some (union_of text_cmp [] (cut_texts listed))

-- whether an instance is of the studies that are walked
abbrev pub is_of_walked : Option (List (List ℕ)) → IndexValue → List ℕ → Bool
is_of_walked None index uid = has text_cmp (keys_of index.picks) uid
is_of_walked (Some studies) index uid = list_any (λ study. is_of_study study (pick_at uid index.picks)) studies

-- at STUDY: to some instances come those of the studies that are walked
pub record AreAtStudy (q : Query) (index : IndexValue) (old new : List (List ℕ)) : Type 0 where
  pub studies : Option (List (List ℕ))
  pub walked : AreWalked (listed_of q) q index studies
  pub put : (uid : List ℕ) → has text_cmp new uid ≡ (has text_cmp old uid || is_of_walked studies index uid)

-- at each level
abbrev pub AreAt : Level → Query → IndexValue → List (List ℕ) → List (List ℕ) → Type 0
AreAt Study q index old new = AreAtStudy q index old new
AreAt Series q index old new = (uid : List ℕ) → has text_cmp new uid
    ≡ (has text_cmp old uid || is_walked_at_series (listed_of q) (take 64 q.study) (pick_at uid index.picks))
AreAt Image q index old new = (uid : List ℕ) → has text_cmp new uid
    ≡ (has text_cmp old uid || is_walked_at_image (listed_of q) (take 64 q.study) (take 64 q.series) index uid)

-- the instances that are walked for a query
abbrev pub AreCandidates : Query → IndexValue → List (List ℕ) → Type 0
AreCandidates q index uids = AreAt q.level q index [] uids

-- what a prepared query keeps beside its query: the walks of its keys, and what it lists at its level
pub record IsPrepared (q : Query) (walks : List (ℕ × LeadWalk)) (listed : Option (List (List ℕ))) : Type 0 where
  pub walks_are : AreWalksOf q walks
  pub listed_is : listed ≡ listed_of q
