-- What a holder has, which of it a version speaks of, and how the holder's calls answer.
use Rattle.std.specs.Prelude.{◌≡◌, ◌⊎◌, ℕ, ◌==◌, Bool, true, false, not, List, [], ◌∷◌, filter, slice_index}
use Rattle.std.specs.Prelude.{Option, Some, None, Result, Ok, Err, OnOk, if◌then◌else◌, is_some}
use Rattle.std.specs.List.{list_any, filter_map}
use Rattle.std.specs.FinMap as finmap
use Rattle.std.specs.Map.{keys_of}
use Rattle.operation.specs.declared.op.Op.{Op}
use Rattle.operation.specs.declared.op.Op.TheVariants.{Content as a_content, Correction as a_correction}
use Rattle.operation.specs.declared.target.Target.{Target}
use Rattle.operation.specs.declared.target.Target.TheVariants.{Study, Patient, Series}
use Rattle.operation.specs.declared.taken.Taken.{Taken}
use Rattle.operation.specs.declared.taken.Taken.TheVariants.{New, Known}
use Rattle.operation.specs.Spelling.{digest_of}
use Rattle.site_state.specs.Site.{Map, IsClash, held_at}
use Rattle.records.specs.StandIn.{op_in}
use Rattle.exchange.specs.declared.version.Version.{Version}
use Rattle.exchange.specs.declared.version.Version.TheVariants.{One, Two}
use Rattle.exchange.specs.declared.fault.HolderFault.{HolderFault}
use Rattle.exchange.specs.declared.fault.HolderFault.TheVariants.{Memory, Refused, Unreadable}

-- ---- versions

-- the version that is spoken with a peer of this number
abbrev pub version_of : ℕ → Option Version
version_of number = if number == 0 then None else (if number == 1 then Some One else Some Two)

abbrev pub is_series : Target → Bool
is_series (Study key) = false
is_series (Patient key) = false
is_series (Series key) = true

-- a correction of a series
abbrev pub is_of_series : Op → Bool
is_of_series (a_content content) = false
is_of_series (a_correction correction) = is_series correction.target

-- whether a version speaks of an operation: version 1 knows no corrections of series
abbrev pub is_spoken : Version → Op → Bool
is_spoken One op = not (is_of_series op)
is_spoken Two op = true

-- ---- what is told of a set

-- the digests of the operations that a version speaks of, in their order
abbrev pub spoken_of : Version → List (List ℕ × Op) → List (List ℕ)
spoken_of version entries = keys_of (filter (λ e. is_spoken version e.1) entries)

-- what is offered of a set: the digests of its operations that a version speaks of, ascending
abbrev pub offered : Version → Map → List (List ℕ)
offered version m = spoken_of version (finmap.entries m)

-- the first byte of a digest
abbrev pub place_of : List ℕ → ℕ
place_of digest = slice_index digest 0

-- whether a digest begins with one of some first bytes
abbrev pub is_in : List ℕ → List ℕ → Bool
is_in places digest = list_any (λ place. place == place_of digest) places

-- what is offered of a set in some places
abbrev pub offered_in : Version → List ℕ → Map → List (List ℕ)
offered_in version places m = filter (is_in places) (offered version m)

-- whether a set has nothing under a digest
abbrev pub is_lacking : Map → List ℕ → Bool
is_lacking m digest = not (finmap.contains_key m digest)

-- those of some digests that a set lacks, in the order given
abbrev pub lacked : Map → List (List ℕ) → List (List ℕ)
lacked m digests = filter (is_lacking m) digests

-- an operation, if a version speaks of it
abbrev pub if_spoken : Version → Option Op → Option Op
if_spoken version None = None
if_spoken version (Some op) = if is_spoken version op then Some op else None

-- the operations under some digests that a set has and a version speaks of, in the order given
abbrev pub given : Version → List (List ℕ) → Map → List Op
given version digests m = filter_map (λ digest. if_spoken version (held_at m digest)) digests

-- whether a set has an operation under a digest of which a version speaks
abbrev pub is_held : Version → Map → List ℕ → Bool
is_held version m digest = is_some (if_spoken version (held_at m digest))

-- the digests of those that are given, in the order given
abbrev pub held_of : Version → List (List ℕ) → Map → List (List ℕ)
held_of version digests m = filter (is_held version m) digests

-- ---- what stands for operations

-- a set with what stands for one operation more, under the digest of this
abbrev pub with_op_in : Map → Op → Map
with_op_in m op = finmap.insert m (digest_of op) (op_in op)

-- What a set has under a digest stands for an operation, which has this digest.
abbrev pub StandsFor : Map → List ℕ → Op → Type 0
StandsFor m digest op = (held_at m digest ≡ Some (op_in op)) × (digest_of op ≡ digest)

-- what a set has under each digest stands for an operation of this digest
abbrev pub IsRecorded : Map → Type 0
IsRecorded m = (digest : List ℕ) (held : Op) → held_at m digest ≡ Some held → (op : Op) × StandsFor m digest op

-- An operation is loaded, for which stands what is held under a digest, or nothing is held under it.
abbrev pub IsLoaded : Map → List ℕ → Option Op → Type 0
IsLoaded m digest None = held_at m digest ≡ None
IsLoaded m digest (Some op) = StandsFor m digest op

-- Of these digests, in their order, what is held under one stands for the next of these operations, or it is the next
-- of those that could not be read.
abbrev pub AreLoaded : Map → List (List ℕ) → List Op → List (List ℕ) → Type 0
AreLoaded m [] ops unread = (ops ≡ []) × (unread ≡ [])
AreLoaded m (digest ∷ digests) ops unread =
    ((op : Op) × (more : List Op) × (ops ≡ op ∷ more) × StandsFor m digest op × AreLoaded m digests more unread)
    ⊎ ((more : List (List ℕ)) × (unread ≡ digest ∷ more) × AreLoaded m digests ops more)

-- each key of a set is the digest of an operation
abbrev pub HasDigests : Map → Type 0
HasDigests m = (digest : List ℕ) (held : Op) → held_at m digest ≡ Some held → (op : Op) × (digest_of op ≡ digest)

-- ---- how a holder changes

-- why a site does not take an operation: memory was refused where nothing of its digest is held, or another operation
-- of its digest is
abbrev pub RefusesTake : Map → Op → HolderFault → Type 0
RefusesTake m op Memory = held_at m (digest_of op) ≡ None
RefusesTake m op Refused = IsClash m op
RefusesTake m op Unreadable = ⊥

-- what was held under a digest is held under it
abbrev pub HasGrown : Map → Map → Type 0
HasGrown before after = (digest : List ℕ) (op : Op) → held_at before digest ≡ Some op → held_at after digest ≡ Some op

-- a set that a holder had in between: what lies under a digest stands for an operation of this digest
pub record WasHad (before had after : Map) : Type 0 where
  pub since : HasGrown before had
  pub until : HasGrown had after
  pub own : IsRecorded had

-- What a call answered it answered of one set that the holder had during the call; a holder that nobody else changes
-- has not changed.
pub record Looks {H : Type 0} (holds : H → Map) (alone : H → Type 0) (before after : H) (Answers : Map → Type 0)
    : Type 0 where
  pub had : Map
  pub was_had : WasHad (holds before) had (holds after)
  pub answers : Answers had
  pub stays : alone before → alone after × (holds after ≡ holds before)

-- how a holder that nobody else changes takes an operation: what stands for it, under its digest
abbrev pub TakesAlone : Map → Op → Result Taken HolderFault → Map → Type 0
TakesAlone before op (Ok New) after = (held_at before (digest_of op) ≡ None) × (after ≡ with_op_in before op)
TakesAlone before op (Ok Known) after = (held_at before (digest_of op) ≡ Some (op_in op)) × (after ≡ before)
TakesAlone before op (Err fault) after = after ≡ before

-- how a holder takes an operation
pub record TakesIn {H : Type 0} (holds : H → Map) (alone : H → Type 0) (before : H) (op : Op)
    (answer : Result Taken HolderFault) (after : H) : Type 0 where
  -- nothing that is held is lost
  pub grown : HasGrown (holds before) (holds after)
  -- what stands for what was taken, new or known, is held
  pub held : OnOk answer (held_at (holds after) (digest_of op) ≡ Some (op_in op))
  -- and was not held before where it is new
  pub new : answer ≡ Ok New → held_at (holds before) (digest_of op) ≡ None
  pub stays : alone before → alone after × TakesAlone (holds before) op answer (holds after)
