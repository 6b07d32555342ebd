-- What a shelf answered, why it refuses, and what a site gains of it.
use Rattle.std.specs.Prelude.{ℕ, ◌≡◌, ◌≢◌, ◌⊎◌, ⊤, List, Option, None, Some, IfSome, drop, length}
use Rattle.octets.specs.Members.{Has}
use Rattle.operation.specs.declared.op.Op.{Op}
use Rattle.operation.specs.Spelling.{hash_of}
use Rattle.records.specs.StandIn.{op_in}
use Rattle.op_shelf.specs.declared.fault.ShelfFault.{ShelfFault}
use Rattle.op_shelf.specs.declared.fault.ShelfFault.TheVariants as shelf_faults
use Rattle.op_shelf.specs.declared.fault.StoreCause.{StoreCause}
use Rattle.op_shelf.specs.declared.fault.StoreCause.TheVariants as causes
use Rattle.op_shelf.specs.Keep.{IsFoundAs}
use Rattle.site_state.specs.Site.{Map, held_at}
use Rattle.exchange.specs.declared.fault.HolderFault.{HolderFault}
use Rattle.exchange.specs.declared.fault.HolderFault.TheVariants.{Memory, Refused, Unreadable}
use Rattle.exchange.specs.Held.{RefusesTake}

-- An operation whose hash is this digest was put on a shelf: while what the shelf tells of its operations holds, it is
-- among them, and every crash leaves it.
abbrev pub IsKept : {K : Type 0} → (K → Type 0) → (K → Op → Type 0) → (K → Op → Type 0) → K → List ℕ → Type 0
IsKept is_up holds lasts shelf digest = ∥ ((op : Op) × ((hash_of op ≡ digest)
    × (is_up shelf → holds shelf op × lasts shelf op))) ∥₁

-- each digest that was written was put on the shelf
abbrev pub AreKept : {K : Type 0} → (K → Type 0) → (K → Op → Type 0) → (K → Op → Type 0) → List (List ℕ) → K
    → Type 0
AreKept is_up holds lasts written shelf = (digest : List ℕ) → Has written digest
    → IsKept is_up holds lasts shelf digest

-- a digest was written
abbrev pub WasWritten : List (List ℕ) → List ℕ → Type 0
WasWritten written digest = ∥ Has written digest ∥₁

-- each digest behind the first ones is one of these
abbrev pub AddsOnly : (List ℕ → Type 0) → List (List ℕ) → List (List ℕ) → Type 0
AddsOnly these first all = (digest : List ℕ) → Has (drop (length first) all) digest → these digest

-- it stands for one of these operations, whose hash is this digest
abbrev pub StandsForOne : (Op → Type 0) → List ℕ → Op → Type 0
StandsForOne these digest held = (op : Op) × (op_in op ≡ held) × (hash_of op ≡ digest) × these op

-- what a site has gained under each digest stands for one of these
abbrev pub GainsOnly : (Op → Type 0) → Map → Map → Type 0
GainsOnly these before after = (digest : List ℕ) (held : Op) → held_at after digest ≡ Some held
    → (held_at before digest ≡ Some held) ⊎ StandsForOne these digest held

-- A shelf and its site have gone on: while the shelf is up, what lasted on it lasts, and so does an operation for which
-- stands what the site has gained.
pub record HaveGoneOn {K : Type 0} (is_up : K → Type 0) (lasts : K → Op → Type 0) (lasted : Op → Type 0)
    (before after : Map) (shelf : K) : Type 0 where
  pub kept : is_up shelf → (op : Op) → lasted op → lasts shelf op
  pub gains : is_up shelf → GainsOnly (lasts shelf) before after

-- what a fault of a put is to a round
abbrev pub refusal_of : ShelfFault → HolderFault
refusal_of (shelf_faults.Store _) = Refused
refusal_of shelf_faults.BadRow = Refused
refusal_of shelf_faults.Memory = Memory

-- what it is to a load that the store refused: where the disk failed, or what it holds is damaged, others may be read
abbrev pub refusal_by : StoreCause → HolderFault
refusal_by causes.Full = Refused
refusal_by causes.Failed = Unreadable
refusal_by causes.Closed = Refused
refusal_by causes.Damaged = Unreadable
refusal_by causes.Other = Refused

-- what a fault of a load is to a round: what lies under a digest and is no operation of it can't be read
abbrev pub refusal_of_load : ShelfFault → HolderFault
refusal_of_load (shelf_faults.Store cause) = refusal_by cause
refusal_of_load shelf_faults.BadRow = Unreadable
refusal_of_load shelf_faults.Memory = Memory

-- This is the way to a shelf, or the shelf, that was lent.
abbrev pub IsLent : {P : Type 0} → Option P → P → Type 0
IsLent lent way = lent ≡ Some way

-- One of these, which keep operations or are a way to what does, was asked to keep this one and refused, and the fault
-- is what that is to whoever asked.
pub record RefusesPut {P F : Type 0} (these : P → Type 0) (refuses : P → P → Op → ShelfFault → Type 0)
    (told_as : ShelfFault → F) (op : Op) (fault : F) : Type 0 where
  pub before : P
  pub named : these before
  pub after : P
  pub cause : ShelfFault
  pub refused : refuses before after op cause
  pub told : fault ≡ told_as cause

-- One of these was asked for the operation of a digest and refused, likewise.
pub record RefusesLoad {P F : Type 0} (these : P → Type 0) (refuses : P → P → List ℕ → ShelfFault → Type 0)
    (told_as : ShelfFault → F) (digest : List ℕ) (fault : F) : Type 0 where
  pub before : P
  pub named : these before
  pub after : P
  pub cause : ShelfFault
  pub refused : refuses before after digest cause
  pub told : fault ≡ told_as cause

-- One of these answered with this.
pub record HasAnswered {P : Type 0} (these : P → Type 0) (has_loaded : P → P → List ℕ → Option Op → Type 0)
    (digest : List ℕ) (found : Option Op) : Type 0 where
  pub before : P
  pub named : these before
  pub after : P
  pub loaded : has_loaded before after digest found

-- It is no operation for which this one stands.
abbrev pub IsNotOf : Op → Option Op → Type 0
IsNotOf held None = ⊤
IsNotOf held (Some op) = op_in op ≢ held

-- why what was found is not what stands for it: it is no operation of the record, so what is held can't be read, or
-- memory was refused for its own
abbrev pub IsUnlike : Op → Option Op → HolderFault → Type 0
IsUnlike held found Memory = ⊤
IsUnlike held found Refused = ⊥
IsUnlike held found Unreadable = IsNotOf held found

-- Why an operation is not loaded for which this one stands: one of these refused the load, or its answer is unlike it.
abbrev pub RefusesRecord : {P : Type 0} → (P → Type 0) → (P → P → List ℕ → ShelfFault → Type 0)
    → (P → P → List ℕ → Option Op → Type 0) → Op → List ℕ → HolderFault → Type 0
RefusesRecord these refuses has_loaded held digest fault = RefusesLoad these refuses refusal_of_load digest fault
    ⊎ ((found : Option Op) × HasAnswered these has_loaded digest found × IsUnlike held found fault)

-- What a shelf answered to a load: while what it tells of its operations holds, one that it has, and the one that it has.
pub record HasFound {K : Type 0} (is_up : K → Type 0) (holds : K → Op → Type 0) (before after : K) (digest : List ℕ)
    (found : Option Op) : Type 0 where
  pub there : is_up after → IfSome found (holds before)
  pub exact : is_up after → (op : Op) → holds before op → hash_of op ≡ digest → IsFoundAs found op

-- Why a site on a shelf, which is one of these, does not load what it holds under a digest, and stays: no operation of
-- the record came of the shelf.
pub record RefusesLoadOnShelf {K : Type 0} (these : K → Type 0) (is_up : K → Type 0) (holds : K → Op → Type 0)
    (refuses : K → K → List ℕ → ShelfFault → Type 0) (before after : Map) (digest : List ℕ) (fault : HolderFault)
    : Type 0 where
  pub same : after ≡ before
  pub held : Op
  pub there : held_at before digest ≡ Some held
  pub why : RefusesRecord these refuses (HasFound is_up holds) held digest fault

-- Why a site that began as this, on a shelf on which these lasted, does not load what it holds under a digest: its shelf,
-- gone on from there, has no operation of the record.
abbrev pub RefusesLoadSince : {K : Type 0} → (K → Type 0) → (K → Op → Type 0) → (K → Op → Type 0)
    → (K → K → List ℕ → ShelfFault → Type 0) → (Op → Type 0) → Map → Map → Map → List ℕ → HolderFault → Type 0
RefusesLoadSince is_up holds lasts refuses lasted opening before =
    RefusesLoadOnShelf (HaveGoneOn is_up lasts lasted opening before) is_up holds refuses before

-- why a site does not take the record of an operation: it does not take what stands for it, or memory was refused for
-- the record
abbrev pub RefusesToRecord : Map → Op → HolderFault → Type 0
RefusesToRecord m op fault = RefusesTake m (op_in op) fault ⊎ (fault ≡ Memory)

-- Why a site on a shelf, which is one of these, does not take an operation, and stays: the shelf refused it, or the site
-- did.
pub record RefusesOnShelf {K : Type 0} (these : K → Type 0) (refuses : K → K → Op → ShelfFault → Type 0)
    (before after : Map) (op : Op) (fault : HolderFault) : Type 0 where
  pub same : after ≡ before
  pub why : RefusesPut these refuses refusal_of op fault ⊎ RefusesToRecord before op fault
