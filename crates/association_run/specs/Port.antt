-- What the calls of a port do to what it holds.
use Rattle.std.specs.Prelude.{◌≡◌, ◌≢◌, ◌⊎◌, ⊤, ℕ, List, [], ◌∷◌, ◌++◌, Result, MatchResult}
use Rattle.octets.specs.Members.{Has}
use Rattle.data_set.specs.Set.{Set}
use Rattle.archive_model.specs.Rows.{rows_of}
use Rattle.archive_model.specs.declared.listed.Listed.{Listed}
use Rattle.archive_model.specs.Listed.{list_of, IsOfRecord}
use Rattle.operation.specs.declared.op.Op.{Op}
use Rattle.operation.specs.declared.op.Op.TheVariants.{Content}
use Rattle.operation.specs.Parts.{ContentParts}
use Rattle.operation.specs.RecordParts.{ContentRecordParts}
use Rattle.operation.specs.Spelling.{digest_of}
use Rattle.records.specs.StandIn.{op_in}
use Rattle.operation.specs.declared.taken.Taken.TheVariants.{New, Known}
use Rattle.operation.specs.declared.taken.Taken.{Taken}
use Rattle.association_services.specs.declared.call.Call.{Call}
use Rattle.association_services.specs.declared.call.Call.TheVariants.{Store, Find, Get, Load}
use Rattle.association_services.specs.declared.call.Finding.{Finding}
use Rattle.association_services.specs.declared.call.Getting.{Getting}
use Rattle.association_services.specs.declared.reply.PortFault.{PortFault}
use Rattle.association_services.specs.declared.reply.PortFault.TheVariants.{Memory, Busy, Collision, Shelf}
use Rattle.association_services.specs.declared.reply.Reply.{Reply}
use Rattle.association_services.specs.declared.reply.Reply.TheVariants.{Stored, Found, Gotten, Loaded}

-- ---- one call

-- The list has grown by a digest, once.
abbrev pub HasGrown : List (List ℕ) → List ℕ → List (List ℕ) → Type 0
HasGrown before digest after = after ≡ before ++ digest ∷ []

-- what a fault leaves of the list: want of memory may have come after the content was stored
abbrev pub Leaves : PortFault → List (List ℕ) → List ℕ → List (List ℕ) → Type 0
Leaves Memory before digest after = (after ≡ before) ⊎ HasGrown before digest after
Leaves Busy before digest after = after ≡ before
Leaves Collision before digest after = after ≡ before
Leaves Shelf before digest after = after ≡ before

-- Operations that are held are all held later.
abbrev pub AreHeld : List Op → List Op → Type 0
AreHeld held later = (op : Op) → Has held op → Has later op

-- No operation that is held is lost.
abbrev pub Keeps : {P : Type 0} → (P → List Op) → P → P → Type 0
Keeps ops before after = AreHeld (ops before) (ops after)

-- None of these has the digest of an operation.
abbrev pub HasNoneAt : List Op → Op → Type 0
HasNoneAt held op = (other : Op) → Has held other → digest_of other ≢ digest_of op

-- another operation of the same digest is among these
pub record HasOtherAt (held : List Op) (op : Op) : Type 0 where
  pub other : Op
  pub there : Has held other
  pub tied : digest_of other ≡ digest_of op
  pub differs : other ≢ op

-- what is held later is what is held, and one operation more
abbrev pub HasAdded : List Op → Op → List Op → Type 0
HasAdded held op later = AreHeld held later × Has later op
    × ((other : Op) → Has later other → Has held other ⊎ (other ≡ op))

-- what is held after an operation was taken, new where none of its digest was held, known where it was
abbrev pub TakesInto : List Op → Op → Taken → List Op → Type 0
TakesInto held op New later = HasNoneAt held op × HasAdded held op later
TakesInto held op Known later = Has held op × (later ≡ held)

-- others may store before an operation's turn comes; then it is taken
pub record IsTaken (before : List Op) (op : Op) (taken : Taken) (after : List Op) : Type 0 where
  pub turn : List Op
  pub others : AreHeld before turn
  pub takes : TakesInto turn op taken after

-- another operation of its digest is held when its turn comes
pub record IsClashed (before : List Op) (op : Op) : Type 0 where
  pub turn : List Op
  pub others : AreHeld before turn
  pub clash : HasOtherAt turn op

-- where a fault of a store comes: a collision alone is of what is held
abbrev pub ComesOf : PortFault → List Op → Op → Type 0
ComesOf Memory before op = ⊤
ComesOf Busy before op = ⊤
ComesOf Collision before op = IsClashed before op
ComesOf Shelf before op = ⊤

-- how a store of an operation ends
pub record Stores {P : Type 0} (ops : P → List Op) (own : P → List (List ℕ)) (before : P) (op : Op)
    (reply : Result Taken PortFault) (after : P) : Type 0 where
  pub kept : Keeps ops before after
  -- what was taken, new or known, is held, and its digest stands at the end of the list once more
  pub replied : MatchResult reply (λ _. Has (ops after) op × HasGrown (own before) (digest_of op) (own after))
      (λ fault. Leaves fault (own before) (digest_of op) (own after))
  -- it is new, known or a collision by what is held at its turn
  pub turn : MatchResult reply (λ taken. IsTaken (ops before) op taken (ops after))
      (λ fault. ComesOf fault (ops before) op)

-- the faults of a find and of a get: want of memory, or another caller has the site
abbrev pub IsFindFault : PortFault → Type 0
IsFindFault fault = (fault ≡ Memory) ⊎ (fault ≡ Busy)

-- how a find ends
pub record Finds {P : Type 0} (ops : P → List Op) (own : P → List (List ℕ)) (before : P) (finding : Finding)
    (reply : Result (List Set) PortFault) (after : P) : Type 0 where
  pub kept : Keeps ops before after
  pub own_kept : own after ≡ own before
  -- the rows over all that is held then, ascending by digest
  pub replied : MatchResult reply (λ rows. rows ≡ rows_of finding.view finding.called finding.query (ops after))
      IsFindFault

-- how a get ends
pub record Gets {P : Type 0} (ops : P → List Op) (own : P → List (List ℕ)) (before : P) (getting : Getting)
    (reply : Result (List Listed) PortFault) (after : P) : Type 0 where
  pub kept : Keeps ops before after
  pub own_kept : own after ≡ own before
  -- what is to be sent over all that is held then, ascending by SOP Instance UID
  pub replied : MatchResult reply (λ listed. listed ≡ list_of getting.view getting.selection (ops after))
      IsFindFault

-- the faults of a load: the same two, or the shelf could not bring the content
abbrev pub IsLoadFault : PortFault → Type 0
IsLoadFault fault = IsFindFault fault ⊎ (fault ≡ Shelf)

-- how a load of the content of a record ends
pub record Loads {P : Type 0} (ops : P → List Op) (own : P → List (List ℕ)) (before : P) (asked : ContentRecordParts)
    (reply : Result ContentParts PortFault) (after : P) : Type 0 where
  pub kept : Keeps ops before after
  pub own_kept : own after ≡ own before
  -- what was loaded is of the record
  pub replied : MatchResult reply (IsOfRecord asked) IsLoadFault

-- how a call ends: its reply is of its kind
abbrev pub Replies : {P : Type 0} → (P → List Op) → (P → List (List ℕ)) → P → Call → Reply → P → Type 0
Replies ops own before (Store content) (Stored reply) after = Stores ops own before (op_in (Content content)) reply
    after
Replies ops own before (Store content) (Found reply) after = ⊥
Replies ops own before (Store content) (Gotten reply) after = ⊥
Replies ops own before (Store content) (Loaded reply) after = ⊥
Replies ops own before (Find finding) (Found reply) after = Finds ops own before finding reply after
Replies ops own before (Find finding) (Stored reply) after = ⊥
Replies ops own before (Find finding) (Gotten reply) after = ⊥
Replies ops own before (Find finding) (Loaded reply) after = ⊥
Replies ops own before (Get getting) (Gotten reply) after = Gets ops own before getting reply after
Replies ops own before (Get getting) (Stored reply) after = ⊥
Replies ops own before (Get getting) (Found reply) after = ⊥
Replies ops own before (Get getting) (Loaded reply) after = ⊥
Replies ops own before (Load asked) (Loaded reply) after = Loads ops own before asked reply after
Replies ops own before (Load asked) (Stored reply) after = ⊥
Replies ops own before (Load asked) (Found reply) after = ⊥
Replies ops own before (Load asked) (Gotten reply) after = ⊥

-- ---- calls, one after another

-- The port went from before to after by these calls, each from where the last one ended, and replied so.
abbrev pub History : {P : Type 0} → (P → List Op) → (P → List (List ℕ)) → P → List Call → List Reply → P → Type 0
History ops own before [] [] after = after ≡ before
History ops own before [] (reply ∷ replies) after = ⊥
History ops own before (call ∷ calls) [] after = ⊥
History {P = P} ops own before (call ∷ calls) (reply ∷ replies) after = (mid : P) × Replies ops own before call
    reply mid × History ops own mid calls replies after
