-- What a side says for the frames that it hears, each over a set that its holder has then.
use Rattle.std.specs.Prelude.{◌≡◌, ◌⊎◌, ℕ, ◌+◌, ◌-◌, List, [], ◌∷◌, ◌++◌, map, length, Option, Some, None, Result, Ok, Err}
use Rattle.std.specs.Prelude.{Bool, true, false, cond, ◌&&◌, ◌==◌, ⊤}
use Rattle.operation.specs.declared.op.Op.{Op}
use Rattle.operation.specs.declared.taken.Taken.{Taken}
use Rattle.operation.specs.declared.taken.Taken.TheVariants.{New, Known}
use Rattle.operation.specs.Spelling.{digest_of}
use Rattle.site_state.specs.Site.{Map}
use Rattle.exchange_frames.specs.declared.frame.Frame.{Frame}
use Rattle.exchange_frames.specs.declared.frame.Frame.TheVariants.{Have, Want, Give, End, Buckets, Differ, Hello}
use Rattle.exchange.specs.declared.version.Version.{Version}
use Rattle.exchange.specs.declared.version.Version.TheVariants.{One as version_one}
use Rattle.exchange.specs.declared.fault.ExchangeFault.{ExchangeFault}
use Rattle.exchange.specs.declared.fault.ExchangeFault.TheVariants.{BadFrame}
use Rattle.exchange.specs.declared.fault.HolderFault.{HolderFault}
use Rattle.exchange.specs.Fault.{of_holder, IsRefusal}
use Rattle.exchange.specs.Held.{offered, offered_in, lacked, held_of, AreLoaded, HasGrown, Looks}
use Rattle.exchange.specs.Parts.{told_in, do_fit, is_seen_whole}
use Rattle.exchange.specs.Buckets.{bucket_list, unequal}
use Rattle.exchange.specs.Round.{RoundState, asked_at, is_among, refusal_of, with_given, TakesAsked}
use Rattle.exchange.specs.declared.role.Role.{Role}
use Rattle.exchange.specs.declared.role.Role.TheVariants.{Caller, Callee, OldCaller}
use Rattle.exchange.specs.declared.side.Said.{Said}
use Rattle.exchange.specs.declared.side.Said.TheVariants as says
use Rattle.exchange.specs.declared.side.Side.{Side}
use Rattle.exchange.specs.declared.side.TheConstants.{OWN_VERSION}
use Rattle.exchange.specs.declared.task.Awaited.{Awaited}
use Rattle.exchange.specs.declared.task.Awaited.TheVariants as awaits
use Rattle.exchange.specs.declared.task.Task.{Task}
use Rattle.exchange.specs.declared.task.Task.TheVariants as tasks
use Rattle.exchange.specs.Tasks.{task_for}

-- ---- a side

-- a round in which nothing was asked for
abbrev pub new_round : Version → RoundState
new_round version = record { version = version; asked = [] }

abbrev pub first_awaited_by : Role → Awaited
first_awaited_by Caller = awaits.Greeting
first_awaited_by Callee = awaits.Greeting
first_awaited_by OldCaller = awaits.Differ

-- how a side begins: at version 1, until a HELLO is heard
abbrev pub start_of : Role → Side
start_of role = record {
  role = role;
  awaited = first_awaited_by role;
  round = new_round version_one;
  given = 0;
  unread = [];
  taken = 0;
  agreed = true;
  places = [];
  whole = true;
}

-- a side that settled a version
abbrev pub settled : Version → Side → Side
settled version s = record s { round = new_round version }

-- what is awaited behind the GIVEs of a side: the caller is the first to give
abbrev pub next_after_gifts : Role → Awaited
next_after_gifts Caller = awaits.Buckets
next_after_gifts Callee = awaits.Nothing
next_after_gifts OldCaller = awaits.Buckets

-- a side whose GIVEs were said: of those that were to be given these could not be read
abbrev pub passed_over : Option (List (List ℕ)) → Side → Side
passed_over None s = s
passed_over (Some unread) s = record s { given = s.given - length unread; unread = unread }

-- GIVEs, and END
abbrev pub gifts_of : List Op → List Frame
gifts_of ops = map (λ op. Give op) ops ++ End ∷ []

-- These frames are said, where what a set has stands for the operations that are given; of what was to be given these
-- could not be read.
abbrev pub IsSaid : Map → Said → List Frame → Option (List (List ℕ)) → Type 0
IsSaid m says.Nothing told unread = (told ≡ []) × (unread ≡ None)
IsSaid m (says.One frame) told unread = (told ≡ frame ∷ []) × (unread ≡ None)
IsSaid m (says.Gifts digests) told unread =
    (ops : List Op) × (passed : List (List ℕ)) × AreLoaded m digests ops passed × (told ≡ gifts_of ops)
    × (unread ≡ Some passed)

-- What a set has stands for what is to be given.
abbrev pub HoldsGifts : Map → Said → Type 0
HoldsGifts m says.Nothing = ⊤
HoldsGifts m (says.One frame) = ⊤
HoldsGifts m (says.Gifts digests) = (ops : List Op) × AreLoaded m digests ops []

-- This is so of the frames that are said and of what could not be read, whichever operations are loaded for what is
-- given, and what a set has stands for it.
abbrev pub IsSoSaid : Map → Said → (List Frame → Option (List (List ℕ)) → Type 0) → Type 0
IsSoSaid m says.Nothing IsSo = IsSo [] None
IsSoSaid m (says.One frame) IsSo = IsSo (frame ∷ []) None
IsSoSaid m (says.Gifts digests) IsSo =
    ((ops : List Op) (passed : List (List ℕ)) → AreLoaded m digests ops passed → IsSo (gifts_of ops) (Some passed))
    × HoldsGifts m (says.Gifts digests)

-- whether no place differed, where it did not before, and buckets differ in these
abbrev pub agreed_with : Bool → List ℕ → Bool
agreed_with agreed places = agreed && (length places == 0)

-- how many operations are new
abbrev pub news : Taken → ℕ
news New = 1
news Known = 0

-- ---- what is said, and where the side is then

-- what a holder has it keeps, and one that nobody else changes has not changed
pub record Idles {H : Type 0} (holds : H → Map) (alone : H → Type 0) (before after : H) : Type 0 where
  pub grown : HasGrown (holds before) (holds after)
  pub stays : alone before → alone after × (holds after ≡ holds before)

-- BUCKETS of what the version speaks of in a set that is held
abbrev pub Shows : {H : Type 0} → (H → Map) → (H → Type 0) → Side → H → List Frame → Side → H → Type 0
Shows holds alone s before told t after =
    (t ≡ record s { awaited = awaits.Differ })
    × Looks holds alone before after (λ m. told ≡ Buckets (bucket_list (offered s.round.version m)) ∷ [])

-- DIFFER with the places in which a set that is held has other buckets; they are kept
pub record Compares {H : Type 0} (holds : H → Map) (alone : H → Type 0) (buckets : List (List ℕ)) (s : Side)
    (before : H) (told : List Frame) (t : Side) (after : H) : Type 0 where
  pub places : List ℕ
  pub looks : Looks holds alone before after (λ m. places
      ≡ unequal (bucket_list (offered s.round.version m)) buckets)
  pub says : told ≡ Differ places ∷ []
  pub same : t ≡ record s { awaited = awaits.Have; agreed = agreed_with s.agreed places; places = places }

-- HAVE of what is held in these places, or of what fits of it, and whether all did
abbrev pub Offers : {H : Type 0} → (H → Map) → (H → Type 0) → List ℕ → Side → H → List Frame → Side → H → Type 0
Offers holds alone places s before told t after =
    (t ≡ record s { awaited = awaits.Want; agreed = agreed_with s.agreed places; whole = t.whole })
    × Looks holds alone before after (λ m. (told ≡ Have (told_in s.round.version places m) ∷ [])
    × (t.whole ≡ (s.whole && do_fit (offered_in s.round.version places m))))

-- WANT of what is not held of a HAVE, which is asked for from then on, and whether the HAVE is seen to have all
pub record Asks {H : Type 0} (holds : H → Map) (alone : H → Type 0) (have : List (List ℕ)) (s : Side) (before : H)
    (told : List Frame) (t : Side) (after : H) : Type 0 where
  pub want : List (List ℕ)
  pub looks : Looks holds alone before after (λ m. want ≡ lacked m have)
  pub says : told ≡ Want want ∷ []
  pub asked : (digest : List ℕ) → asked_at digest t.round
      ≡ cond (is_among digest want) (Some false) (asked_at digest s.round)
  pub version : t.round.version ≡ s.round.version
  pub same : t ≡ record s { awaited = awaits.Give; round = t.round; whole = s.whole && is_seen_whole s.places have }

-- a GIVE of each operation that is wanted and for which what is held stands, in the order of the WANT, but for those
-- that could not be read; and END
pub record Gives {H : Type 0} (holds : H → Map) (alone : H → Type 0) (want : List (List ℕ)) (s : Side) (before : H)
    (told : List Frame) (t : Side) (after : H) : Type 0 where
  pub ops : List Op
  pub unread : List (List ℕ)
  pub looks : Looks holds alone before after (λ m. AreLoaded m (held_of s.round.version want m) ops unread)
  pub says : told ≡ gifts_of ops
  pub same : t ≡ record s { awaited = next_after_gifts s.role; given = length ops; unread = unread }

-- The holder takes an operation that was asked for, and nothing is said.
pub record Takes {H : Type 0} (holds : H → Map) (alone : H → Type 0) (op : Op) (s : Side) (before : H)
    (told : List Frame) (t : Side) (after : H) : Type 0 where
  pub asked : refusal_of s.round op ≡ None
  pub taken : Taken
  pub takes : TakesAsked holds alone before op (Ok taken) after
  pub says : told ≡ []
  pub same : t ≡ record s { round = with_given (digest_of op) s.round; taken = s.taken + news taken }

-- what is done for each task
abbrev pub Does : {H : Type 0} → (H → Map) → (H → Type 0) → Task → Side → H → List Frame → Side → H → Type 0
Does holds alone tasks.Refuse s before told t after = ⊥
Does holds alone (tasks.Begin version) s before told t after = Shows holds alone (settled version s) before told t after
Does holds alone (tasks.Meet version) s before told t after =
    (t ≡ record (settled version s) { awaited = awaits.Buckets }) × (told ≡ Hello OWN_VERSION ∷ []) × (after ≡ before)
Does holds alone (tasks.Compare buckets) s before told t after = Compares holds alone buckets s before told t after
Does holds alone (tasks.Offer places) s before told t after = Offers holds alone places s before told t after
Does holds alone (tasks.Ask have) s before told t after = Asks holds alone have s before told t after
Does holds alone (tasks.Give want) s before told t after = Gives holds alone want s before told t after
Does holds alone (tasks.Take op) s before told t after = Takes holds alone op s before told t after
Does holds alone tasks.Show s before told t after = Shows holds alone s before told t after
Does holds alone tasks.Rest s before told t after =
    (t ≡ record s { awaited = awaits.Nothing }) × (told ≡ []) × (after ≡ before)

-- what a side says before it hears anything
abbrev pub SetsOut : {H : Type 0} → (H → Map) → (H → Type 0) → Role → H → List Frame → Side → H → Type 0
SetsOut holds alone Caller before told s after =
    (s ≡ start_of Caller) × (told ≡ Hello OWN_VERSION ∷ []) × (after ≡ before)
SetsOut holds alone Callee before told s after = (s ≡ start_of Callee) × (told ≡ []) × (after ≡ before)
SetsOut holds alone OldCaller before told s after = Shows holds alone (start_of OldCaller) before told s after

-- ---- what a machine does

-- A task was done, and the holder has what stands for what is to be given; or it was refused, and then nothing was
-- taken.
abbrev pub Performs : {H : Type 0} → (H → Map) → (H → Type 0) → Task → Side → H → Result Said ExchangeFault → Side → H
    → Type 0
Performs holds alone task s before (Ok said) t after =
    IsSoSaid (holds after) said (λ told unread. Does holds alone task s before told (passed_over unread t) after)
Performs holds alone task s before (Err fault) t after = Idles holds alone before after

abbrev pub SetOut : {H : Type 0} → (H → Map) → (H → Type 0) → Role → H → Result Said ExchangeFault → Side → H → Type 0
SetOut holds alone role before (Ok said) t after =
    IsSoSaid (holds after) said (λ told unread. SetsOut holds alone role before told (passed_over unread t) after)
SetOut holds alone role before (Err fault) t after = Idles holds alone before after

-- The holder refused, or memory did.
abbrev pub IsOfHolder : ExchangeFault → Type 0
IsOfHolder fault = (cause : HolderFault) × (fault ≡ of_holder cause)

-- Why a task was refused: the frame is out of its turn, its operation is of another version or was not asked for, or
-- the holder refused.
abbrev pub Why : Task → Side → ExchangeFault → Type 0
Why tasks.Refuse s fault = fault ≡ BadFrame
Why (tasks.Begin version) s fault = IsOfHolder fault
Why (tasks.Meet version) s fault = ⊥
Why (tasks.Compare buckets) s fault = IsOfHolder fault
Why (tasks.Offer places) s fault = IsOfHolder fault
Why (tasks.Ask have) s fault = IsOfHolder fault
Why (tasks.Give want) s fault = IsOfHolder fault
Why (tasks.Take op) s fault = (refusal_of s.round op ≡ Some fault) ⊎ IsOfHolder fault
Why tasks.Show s fault = IsOfHolder fault
Why tasks.Rest s fault = ⊥

-- A holder refused a task for another cause than want of memory, as it may: to take an operation, or to tell what it
-- holds.
abbrev pub HasRefused : {H : Type 0} → (H → H → HolderFault → Type 0) → (H → H → Op → HolderFault → Type 0) → Task → H
    → H → Type 0
HasRefused refuses_look refuses_take (tasks.Take op) before after = IsRefusal (refuses_take before after op)
HasRefused refuses_look refuses_take task before after = IsRefusal (refuses_look before after)

-- what a holder does as a side speaks: it is asked for nothing, but to load what is given
abbrev pub Loads : {H : Type 0} → (H → Map) → (H → Type 0) → Said → H → H → Type 0
Loads holds alone says.Nothing before after = after ≡ before
Loads holds alone (says.One frame) before after = after ≡ before
Loads holds alone (says.Gifts digests) before after = Idles holds alone before after

-- ---- frames, one after another

-- What a side says for the frames that it hears, in order; each is said over a set that the holder had since the one
-- before.
abbrev pub DoesAll : {H : Type 0} → (H → Map) → (H → Type 0) → Side → H → List Frame → List Frame → Side → H → Type 0
DoesAll holds alone s before [] told t after = (told ≡ []) × (t ≡ s) × (after ≡ before)
DoesAll {H = H} holds alone s before (frame ∷ heard) told t after =
    (first : List Frame) × (rest : List Frame) × (mid : Side) × (then : H)
    × Does holds alone (task_for s.awaited frame s.role) s before first mid then
    × DoesAll holds alone mid then heard rest t after × (told ≡ first ++ rest)

-- What a side of a role says from its first frame on, for the frames that it hears, and where it is then.
pub record Talks {H : Type 0} (holds : H → Map) (alone : H → Type 0) (role : Role) (before : H)
    (heard told : List Frame) (t : Side) (after : H) : Type 0 where
  pub first : List Frame
  pub rest : List Frame
  pub from : Side
  pub mid : H
  pub sets_out : SetsOut holds alone role before first from mid
  pub goes_on : DoesAll holds alone from mid heard rest t after
  pub told_is : told ≡ first ++ rest
