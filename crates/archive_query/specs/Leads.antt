-- Which studies the leads of an index name as candidates of a key.
use Rattle.std.specs.Prelude.{◌≡◌, ℕ, ◌<◌, List, [], ◌++◌, map, Bool, true, false, ◌||◌, ◌&&◌, not, ◌==◌, Option}
use Rattle.std.specs.Prelude.{None, IfSome}
use Rattle.std.specs.List.{list_any, list_all}
use Rattle.std.specs.declared.cmp.Ordering.TheVariants.{Less}
use Rattle.octets.specs.Members.{Has}
use Rattle.dictionary.specs.declared.role.Matching.{Matching}
use Rattle.dictionary.specs.declared.role.Matching.TheVariants.{Dates, Times, WildCard, Name, Uids, Single}
use Rattle.dictionary.specs.declared.role.Matching.TheVariants.{Answered}
use Rattle.key_matching.specs.Matches.{is_universal, is_match_by}
use Rattle.key_matching.specs.Range.{is_until}
use Rattle.key_matching.specs.WildCard.{star, question_mark}
use Rattle.key_matching.specs.declared.range.Moment.TheVariants.{Date}
use Rattle.study_index.specs.Live.{Text}
use Rattle.archive_model.specs.declared.asked.Asked.{Asked}
use Rattle.archive_model.specs.declared.query.Query.{Query}
use Rattle.study_index.specs.Leads.{Lead, a_lead, led_tags, is_folded, is_led, value_front, value_end, IsWithin}
use Rattle.study_index.specs.Leads.{IsBehind, LeadWalk, is_walked, lead_cmp, led_byte}

-- whether studies are found from the values of an attribute
abbrev pub is_led_tag : ℕ → Bool
is_led_tag tag = list_any (λ one. one == tag) led_tags

-- whatever leads from a value that a key matches passes a test
abbrev pub PassesAll : Asked → (Lead → Bool) → Type 0
PassesAll asked passes = (value : List ℕ) → is_match_by asked.matching asked.key value ≡ true
    → IsWithin passes asked.tag value

-- the walk of one value
abbrev pub value_walk : ℕ → Text → LeadWalk
value_walk tag value = record { front = value_front tag value; end = value_end tag value; needle = [] }

-- the leads of a value of no bytes, which every key matches
abbrev pub is_of_none : ℕ → Lead → Bool
is_of_none tag = is_walked (value_walk tag [])

-- whether a study is a candidate: it is led to from a value of no bytes, or by leads that pass
abbrev pub is_candidate : ℕ → (Lead → Bool) → List Lead → Text → Bool
is_candidate tag passes leads s = is_led (is_of_none tag) leads s || is_led passes leads s

-- a byte that is no wild card
abbrev pub is_plain : ℕ → Bool
is_plain byte = not (byte == star) && not (byte == question_mark)

-- whether a key of a matching is compared with the values of an attribute as they are led from
abbrev pub is_text_key : Matching → ℕ → Bool
is_text_key Dates tag = false
is_text_key Times tag = false
is_text_key WildCard tag = not (is_folded tag)
is_text_key Name tag = is_folded tag
is_text_key Uids tag = false
is_text_key Single tag = false
is_text_key Answered tag = false

-- whether a key is one of dates, of an attribute that is led from as it is
abbrev pub is_dates : Matching → ℕ → Bool
is_dates Dates tag = not (is_folded tag)
is_dates Times tag = false
is_dates WildCard tag = false
is_dates Name tag = false
is_dates Uids tag = false
is_dates Single tag = false
is_dates Answered tag = false

-- whether a key has a walk
abbrev pub is_walkable : Asked → Bool
is_walkable asked =
    is_led_tag asked.tag && not (is_universal asked.key)
    && (is_text_key asked.matching asked.tag || is_dates asked.matching asked.tag)

-- a run of bytes of a key among which no wild card is
abbrev pub IsRunOf : List ℕ → List ℕ → Type 0
IsRunOf key run = (front : List ℕ) × (back : List ℕ) × (key ≡ front ++ (run ++ back)) × (list_all is_plain run ≡ true)

-- what stands in each value that a key matches, as it is led from
abbrev pub IsNeedleOf : ℕ → List ℕ → Text → Type 0
IsNeedleOf tag key needle = (run : List ℕ) × IsRunOf key run × (needle ≡ map (led_byte (is_folded tag)) run)

-- a walk of the values that begin with a text and in which a needle may stand
pub record IsFrontWalk (tag : ℕ) (text run : Text) (walk : LeadWalk) : Type 0 where
  pub front : walk.front ≡ value_front tag text
  pub end : IsBehind tag text walk.end
  pub needle : walk.needle ≡ run

-- whatever a date up to the last of a range leads to is before a lead
abbrev pub IsUpTo : ℕ → List ℕ → Lead → Type 0
IsUpTo tag last end = (value : Text) (kind : ℕ) (key : Text) → is_until Date last value ≡ true → kind < 3
    → lead_cmp (a_lead tag value kind key) end ≡ Less

-- a walk of a key comes to whatever leads from a value that the key matches
pub record IsWalkFor (asked : Asked) (walk : LeadWalk) : Type 0 where
  pub tag : is_led_tag asked.tag ≡ true
  pub some : is_universal asked.key ≡ false
  pub passes : PassesAll asked (is_walked walk)

-- a walk of one of a query's keys, and the key's tag
pub record IsChosen (q : Query) (chosen : ℕ × LeadWalk) : Type 0 where
  pub asked : Asked
  pub one : Has q.asked asked
  pub tag : asked.tag ≡ chosen.0
  pub walk : IsWalkFor asked chosen.1

-- a study that each walk of a key comes to
abbrev pub IsLedBy : Asked → List Lead → Text → Type 0
IsLedBy asked leads s = (walk : LeadWalk) → IsWalkFor asked walk
    → is_candidate asked.tag (is_walked walk) leads s ≡ true

-- each is a walk of one of a query's keys
abbrev pub AreChosenWalks : Query → List (ℕ × LeadWalk) → Type 0
AreChosenWalks q walks = (walk : ℕ × LeadWalk) → Has walks walk → IsChosen q walk

-- the walks of a query's keys: of each that has one
pub record AreWalksOf (q : Query) (walks : List (ℕ × LeadWalk)) : Type 0 where
  pub chosen : AreChosenWalks q walks
  pub none : walks ≡ [] → list_any is_walkable q.asked ≡ false

-- one walk of some, and none only where there is none
pub record IsOneOf (walks : List (ℕ × LeadWalk)) (one : Option (ℕ × LeadWalk)) : Type 0 where
  pub some : IfSome one (Has walks)
  pub none : one ≡ None → walks ≡ []
