-- What finished rounds come to in a run of a new world, from its steps and answers alone.
use Rattle.std.specs.Prelude.{◌≡◌, ◌⊎◌, ◌+◌, ℕ, suc, List, [], ◌∷◌, Some, Ok, Result, Bool, true, false, ⊤}
use Rattle.std.specs.Prelude.{replicate, drop}
use Rattle.std.specs.List.{slice_get}
use Rattle.std.specs.Option.{option_map}
use Rattle.std.specs.FinMap as finmap
use Rattle.operation.specs.declared.taken.Taken.TheVariants.{New}
use Rattle.site_state.specs.Site.{Map}
use Rattle.site_state.specs.Union.{Agree}
use Rattle.site_state.specs.Laws.{after_taking}
use Rattle.exchange.specs.Held.{offered}
use Rattle.exchange.specs.Laws.{HasAllSpoken, BucketsTell}
use Rattle.site_world.specs.declared.fault.WorldFault.{WorldFault}
use Rattle.site_world.specs.declared.step.Step.{Step}
use Rattle.site_world.specs.declared.step.Step.TheVariants.{Offer, Buckets, Deliver}
use Rattle.site_world.specs.declared.step.Seen.{Seen}
use Rattle.site_world.specs.declared.step.Seen.TheVariants.{Took, Stamped, Offered}
use Rattle.site_world.specs.declared.message.Message.{Message}
use Rattle.site_world.specs.Messages.{WorldState, new_world, message_at, is_old, version_between}
use Rattle.site_world.specs.Steps.{site_at, site_of}
use Rattle.site_world.specs.Runs.{Run, taken_before, AnswerAlike}
use Rattle.site_world.specs.Rounds.{IsFinished, IsFinishedByBuckets}

-- two sites of a run of a new world, by their numbers, and what they hold in the end; under one digest both hold one
-- operation
pub record TwoSites
    (steps : List Step) (answers : List (Result Seen WorldFault)) (new : WorldState) (a b : ℕ) (m n : Map)
    : Type 0 where
  pub count : ℕ
  pub run : Run (new_world (replicate count finmap.empty)) steps answers new
  pub first : site_at new.sites a ≡ Some m
  pub second : site_at new.sites b ≡ Some n
  pub agree : Agree m n

-- what a site of a new world holds before step i of a run
abbrev pub held_before : List Message → ℕ → ℕ → List Step → List (Result Seen WorldFault) → Map
held_before sent i n steps answers = after_taking (taken_before sent i n steps answers)

-- ---- rounds anywhere in a run

-- Step i sent a message that opens a round, and what stands behind that step is so of the number of the message.
abbrev pub Opens
    : List Step → List (Result Seen WorldFault) → ℕ → Step → (ℕ → List Step → List (Result Seen WorldFault) → Type 0)
    → Type 0
Opens steps answers i step Behind =
    (number : ℕ) × (slice_get steps i ≡ Some step) × (slice_get answers i ≡ Some (Ok (Offered number)))
    × Behind number (drop (suc i) steps) (drop (suc i) answers)

-- What site b held before step j and what site a held before step i have unequal buckets where their digests, of what
-- both speak of, are unequal.
abbrev pub BucketsTellThem
    : List Step → List (Result Seen WorldFault) → WorldState → ℕ → ℕ → ℕ → ℕ → Type 0
BucketsTellThem steps answers new j b i a =
    BucketsTell (offered (version_between new.aged a b) (held_before new.sent j b steps answers))
    (offered (version_between new.aged a b) (held_before new.sent i a steps answers))

-- At step i site a began a round to site b, and behind that step it was finished: it offered all that it held, or told
-- its buckets first, which were delivered k steps later; what was compared then tells.
abbrev pub HasRound
    : List Step → List (Result Seen WorldFault) → WorldState → ℕ → ℕ → ℕ → Type 0
HasRound steps answers new i a b =
    Opens steps answers i (Offer a b) IsFinished
    ⊎ ((k : ℕ) × Opens steps answers i (Buckets a b) (IsFinishedByBuckets k)
    × BucketsTellThem steps answers new (suc (i + k)) b i a)

-- After a finished round the second site holds all that the first held at its offer, of what both speak of, whatever
-- stands before the steps of the round, between them and behind them.
abbrev pub FinishedRoundsGiveAll : Type 0
FinishedRoundsGiveAll =
    (steps : List Step) (answers : List (Result Seen WorldFault)) (new : WorldState) (i a b : ℕ) (m n : Map)
    → TwoSites steps answers new a b m n → HasRound steps answers new i a b
    → HasAllSpoken (version_between new.aged a b) (held_before new.sent i a steps answers) n

-- ---- a round each way

-- whether an answer tells that a site took something new
abbrev pub is_change : Result Seen WorldFault → Bool
is_change (Ok (Took New)) = true
is_change (Ok (Stamped stamp)) = true
is_change answer = false

-- A step is the delivery of a message from a site.
abbrev pub IsDeliveryFrom : List Message → ℕ → Step → Type 0
IsDeliveryFrom sent other step =
    (number : ℕ) × (step ≡ Deliver number) × (option_map (λ one. one.from) (message_at sent number) ≡ Some other)

-- Of these steps each that changed site n was the delivery of a message from another.
abbrev pub AreChangesFrom : List Message → ℕ → ℕ → List Step → List (Result Seen WorldFault) → Type 0
AreChangesFrom sent other n [] answers = ⊤
AreChangesFrom sent other n (step ∷ steps) [] = ⊤
AreChangesFrom sent other n (step ∷ steps) (answer ∷ answers) =
    (is_change answer ≡ true → site_of sent step ≡ n → IsDeliveryFrom sent other step)
    × AreChangesFrom sent other n steps answers

-- a finished round each way, and no change of either site behind its own offer but by what the other gave it
pub record IsEachWay
    (steps : List Step) (answers : List (Result Seen WorldFault)) (new : WorldState) (a b : ℕ) (m n : Map)
    : Type 0 where
  pub i : ℕ
  pub there : HasRound steps answers new i a b
  pub first : AreChangesFrom new.sent b a (drop (suc i) steps) (drop (suc i) answers)
  pub j : ℕ
  pub back : HasRound steps answers new j b a
  pub second : AreChangesFrom new.sent a b (drop (suc j) steps) (drop (suc j) answers)

-- After that both hold the same of what both speak of, whatever else stands in the run, and in whatever order the steps
-- of the two rounds are.
abbrev pub RoundsEachWayTellAll : Type 0
RoundsEachWayTellAll =
    (steps : List Step) (answers : List (Result Seen WorldFault)) (new : WorldState) (a b : ℕ) (m n : Map)
    → TwoSites steps answers new a b m n → IsEachWay steps answers new a b m n
    → HasAllSpoken (version_between new.aged a b) m n × HasAllSpoken (version_between new.aged a b) n m

-- Where both know corrections of series, or neither does, both hold the same, answer every query in every view alike,
-- send the same of every selection, and have equal indexes.
abbrev pub RoundsEachWayMakeEqual : Type 0
RoundsEachWayMakeEqual =
    (steps : List Step) (answers : List (Result Seen WorldFault)) (new : WorldState) (a b : ℕ) (m n : Map)
    → TwoSites steps answers new a b m n → IsEachWay steps answers new a b m n
    → is_old new.aged a ≡ is_old new.aged b → (m ≡ n) × AnswerAlike m n
