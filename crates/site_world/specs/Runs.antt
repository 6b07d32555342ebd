-- Runs of steps, and what they come to.
use Rattle.std.specs.Prelude.{◌≡◌, ℕ, List, [], ◌∷◌, ◌++◌, Some, Ok, Result, ◌==◌, cond, take, replicate, length}
use Rattle.std.specs.List.{slice_get}
use Rattle.std.specs.Option.{option_map}
use Rattle.std.specs.FinMap as finmap
use Rattle.data_set.specs.Set.{Set}
use Rattle.operation.specs.declared.op.Op.{Op}
use Rattle.operation.specs.declared.op.Op.TheVariants.{Correction as a_correction}
use Rattle.operation.specs.declared.stamp.Stamp.{Stamp}
use Rattle.archive_model.specs.Members.{SameMembers}
use Rattle.archive_model.specs.declared.view.View.{View}
use Rattle.archive_model.specs.declared.query.Query.{Query}
use Rattle.archive_model.specs.Rows.{rows_of}
use Rattle.archive_model.specs.declared.accepts.Accepts.{Accepts}
use Rattle.archive_model.specs.declared.selection.Selection.{Selection}
use Rattle.archive_model.specs.declared.sending.Sending.{Sending}
use Rattle.archive_model.specs.Sending.{sendings_of}
use Rattle.site_state.specs.Site.{Map, ops_of}
use Rattle.site_state.specs.Laws.{holding}
use Rattle.study_index.specs.Definition.{index_value}
use Rattle.site_world.specs.declared.fault.WorldFault.{WorldFault}
use Rattle.site_world.specs.declared.step.Step.{Step}
use Rattle.site_world.specs.declared.step.Step.TheVariants.{Take, Correct, Offer, Buckets, Deliver, Old, Look, Get}
use Rattle.site_world.specs.declared.step.Seen.{Seen}
use Rattle.site_world.specs.declared.step.Seen.TheVariants.{Took, Stamped, Rows, Sent}
use Rattle.site_world.specs.declared.message.Message.{Message}
use Rattle.site_world.specs.Messages.{WorldState, new_world, message_at, gift_in}
use Rattle.site_world.specs.Steps.{site_at, site_of, title_of, Happens}

-- A world may answer so to these steps, one after another.
abbrev pub Run : WorldState → List Step → List (Result Seen WorldFault) → WorldState → Type 0
Run old [] [] new = new ≡ old
Run old (step ∷ steps) (answer ∷ answers) new = (mid : WorldState) × Happens old step answer mid
    × Run mid steps answers new
Run old [] (answer ∷ answers) new = ⊥
Run old (step ∷ steps) [] new = ⊥

-- ---- what was taken, by the messages that were sent, the steps and their answers

-- what was taken where it was told to be new or known
abbrev pub if_took : Result Seen WorldFault → List Op → List Op
if_took (Ok (Took taken)) ops = ops
if_took answer ops = []

-- what was made, by the stamp that was told
abbrev pub if_stamped : Result Seen WorldFault → (Stamp → Op) → List Op
if_stamped (Ok (Stamped stamp)) made = made stamp ∷ []
if_stamped answer made = []

-- What a step took, if it was answered Ok: a Take its operation, a Correct the correction with the stamp of the answer,
-- a Deliver of a GIVE what that gives.
abbrev pub took : List Message → Step → Result Seen WorldFault → List Op
took sent (Take n op) answer = if_took answer (op ∷ [])
took sent (Correct n target tag value) answer =
    if_stamped answer (λ stamp. a_correction (record { target = target; tag = tag; value = value; stamp = stamp }))
took sent (Offer from to) answer = []
took sent (Buckets from to) answer = []
took sent (Deliver number) answer = if_took answer (gift_in (message_at sent number))
took sent (Old n) answer = []
took sent (Look n view query) answer = []
took sent (Get n view selection accepts) answer = []

-- the operations taken at the site of a number, in order
abbrev pub taken_at : List Message → ℕ → List Step → List (Result Seen WorldFault) → List Op
taken_at sent n [] answers = []
taken_at sent n (step ∷ steps) [] = []
taken_at sent n (step ∷ steps) (answer ∷ answers) =
    cond (site_of sent step == n) (took sent step answer) [] ++ taken_at sent n steps answers

-- Each site is what it held, with what was taken at it, GIVEs among it.
abbrev pub HoldWhatTheyTook : WorldState → List Step → List (Result Seen WorldFault) → WorldState → Type 0
HoldWhatTheyTook old steps answers new =
    (n : ℕ) → site_at new.sites n ≡ option_map (λ m. holding m (taken_at new.sent n steps answers)) (site_at
    old.sites n)

-- Every message stays what it is, and its number stays its number: it may be delivered for ever.
abbrev pub MessagesStay : WorldState → WorldState → Type 0
MessagesStay old new = (more : List Message) × (new.sent ≡ old.sent ++ more)

-- Step i is a look at site n, and was answered these rows.
abbrev pub IsLook
    : List Step → List (Result Seen WorldFault) → ℕ → ℕ → View → Query → List Set → Type 0
IsLook steps answers i n view query rows =
    (slice_get steps i ≡ Some (Look n view query)) × (slice_get answers i ≡ Some (Ok (Rows rows)))

-- the operations taken at a site before step i
abbrev pub taken_before : List Message → ℕ → ℕ → List Step → List (Result Seen WorldFault) → List Op
taken_before sent i n steps answers = taken_at sent n (take i steps) (take i answers)

-- Each look was answered the rows of the definition over what its site held, with what was taken at it before.
abbrev pub LooksAreRows : WorldState → List Step → List (Result Seen WorldFault) → WorldState → Type 0
LooksAreRows old steps answers new =
    (i n : ℕ) (m : Map) (view : View) (query : Query) (rows : List Set) → IsLook steps answers i n view query rows
    → site_at old.sites n ≡ Some m
    → rows ≡ rows_of view (title_of view) query (ops_of (holding m (taken_before new.sent i n steps answers)))

-- Step i is a get at site n, and was answered these.
abbrev pub IsGet : List Step → List (Result Seen WorldFault) → ℕ → ℕ → View → Selection → Accepts → List Sending
    → Type 0
IsGet steps answers i n view selection accepts sendings =
    (slice_get steps i ≡ Some (Get n view selection accepts)) × (slice_get answers i ≡ Some (Ok (Sent sendings)))

-- Each get was answered what is sent by definition over what its site held, with what was taken at it before.
abbrev pub GetsAreSendings : WorldState → List Step → List (Result Seen WorldFault) → WorldState → Type 0
GetsAreSendings old steps answers new =
    (i n : ℕ) (m : Map) (view : View) (selection : Selection) (accepts : Accepts) (sendings : List Sending)
    → IsGet steps answers i n view selection accepts sendings → site_at old.sites n ≡ Some m
    → sendings ≡ sendings_of view selection accepts (ops_of (holding m (taken_before new.sent i n steps answers)))

-- What a run comes to.
pub record Outcome (old : WorldState) (steps : List Step) (answers : List (Result Seen WorldFault)) (new : WorldState)
    : Type 0 where
  pub answered : Run old steps answers new
  pub taken : HoldWhatTheyTook old steps answers new
  pub messages : MessagesStay old new
  pub looks : LooksAreRows old steps answers new
  pub gets : GetsAreSendings old steps answers new

-- ---- the headline

-- a world of sites that hold nothing, in which no message was sent
abbrev pub IsNew : WorldState → Type 0
IsNew w = w ≡ new_world (replicate (length w.sites) finmap.empty)

-- Two sites answer every query in every view alike, send the same of every selection in every view, and their indexes
-- have equal values.
pub record AnswerAlike (a b : Map) : Type 0 where
  pub rows : (view : View) (called : List ℕ) (query : Query)
      → rows_of view called query (ops_of a) ≡ rows_of view called query (ops_of b)
  pub sendings : (view : View) (selection : Selection) (accepts : Accepts)
      → sendings_of view selection accepts (ops_of a) ≡ sendings_of view selection accepts (ops_of b)
  pub index : index_value (ops_of a) ≡ index_value (ops_of b)

-- Two sites at which the same operations were taken, in whatever order and however often, hold equal maps and answer
-- every query in every view alike, send the same, and have equal indexes.
abbrev pub SitesAreAlike : List Step → List (Result Seen WorldFault) → WorldState → Type 0
SitesAreAlike steps answers new =
    (m n : ℕ) (a b : Map) → site_at new.sites m ≡ Some a → site_at new.sites n ≡ Some b
    → SameMembers (taken_at new.sent m steps answers) (taken_at new.sent n steps answers)
    → (a ≡ b) × AnswerAlike a b

-- Two looks of one query in one view, at whatever sites and times, were answered equal rows where the same operations
-- were taken there before.
abbrev pub LooksAreAlike : List Step → List (Result Seen WorldFault) → WorldState → Type 0
LooksAreAlike steps answers new =
    (i j m n : ℕ) (view : View) (query : Query) (rows others : List Set)
    → IsLook steps answers i m view query rows → IsLook steps answers j n view query others
    → SameMembers (taken_before new.sent i m steps answers) (taken_before new.sent j n steps answers)
    → rows ≡ others

-- The same of two gets of one selection.
abbrev pub GetsAreAlike : List Step → List (Result Seen WorldFault) → WorldState → Type 0
GetsAreAlike steps answers new =
    (i j m n : ℕ) (view : View) (selection : Selection) (accepts : Accepts) (sendings others : List Sending)
    → IsGet steps answers i m view selection accepts sendings → IsGet steps answers j n view selection accepts others
    → SameMembers (taken_before new.sent i m steps answers) (taken_before new.sent j n steps answers)
    → sendings ≡ others

-- What a run of a new world comes to: the same operations, the same answers.
pub record Headline (steps : List Step) (answers : List (Result Seen WorldFault)) (new : WorldState) : Type 0 where
  pub sites_alike : SitesAreAlike steps answers new
  pub looks_alike : LooksAreAlike steps answers new
  pub gets_alike : GetsAreAlike steps answers new
