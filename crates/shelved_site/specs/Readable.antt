-- What can be read of the operations of a store, and what is told of the others.
use Rattle.std.specs.Prelude.{◌≡◌, ◌⊎◌, ◌++◌, ℕ, List, [], ◌∷◌, map, All, Bool, true, false, nat_eq, Some, None}
use Rattle.std.specs.Prelude.{IsPermutation, IsTrue, get_or, ⊤}
use Rattle.std.specs.List.{starts_with}
use Rattle.sqlite.specs.Order.{Row}
use Rattle.sqlite_disk.specs.declared.Disk.{Ghosts}
use Rattle.dictionary.specs.declared.uids.TheConstants.{KEY_OBJECT_SELECTION_DOCUMENT_STORAGE}
use Rattle.operation.specs.declared.op.Op.{Op}
use Rattle.operation.specs.Drafts.{short_text}
use Rattle.operation.specs.Parts.{ContentParts}
use Rattle.op_log.specs.Heads.{Head}
use Rattle.op_log.specs.Loaded.{IsOf}
use Rattle.op_log.specs.Log.{Opened}
use Rattle.op_log.specs.Recorded.{IsRecordedAs}
use Rattle.op_shelf.specs.declared.damaged.Damaged.{Damaged}
use Rattle.op_shelf.specs.Damage.{damage_of as damage_in}
use Rattle.op_shelf.specs.Entries.{IsEntry, entries, entry_of}
use Rattle.op_log.specs.Readable.{IsAmiss}
use Rattle.shelved_site.specs.Verifying.{damage_of}
use Rattle.shelved_site.specs.declared.unreadable.Unreadable.{Unreadable}

-- ---- what is told

-- how the spelling of a rejection note begins: it is a content of this SOP class (PS3.4, section B.5)
abbrev pub note_front : List ℕ
note_front = 1 ∷ short_text KEY_OBJECT_SELECTION_DOCUMENT_STORAGE

-- whether an operation whose spelling begins so may be a rejection note
abbrev pub may_hide : List ℕ → Bool
may_hide front = starts_with nat_eq front note_front

-- an operation that can't be read is no rejection note
abbrev pub IsNoNote : Unreadable → Type 0
IsNoNote unread = unread.may_hide ≡ false

-- no rejection note is among those that can't be read, unless it is asked for without
abbrev pub HidesNothing : Bool → List Unreadable → Type 0
HidesNothing shows_without unreadable = IsTrue shows_without ⊎ All IsNoNote unreadable

-- what is told of an operation that has a head
abbrev pub unread_of : Head → Unreadable
unread_of h = record { damaged = damage_of h; place = Some h.at; may_hide = may_hide h.front }

-- and of one of a table, which has no place, and may be any operation
abbrev pub unread_in : Damaged → Unreadable
unread_in damaged = record { damaged = damaged; place = None; may_hide = true }

-- the head at an index
abbrev pub head_at : List Head → ℕ → Head
head_at heads index = get_or heads index (record { digest = []; front = []; at = 0; size = 0 })

-- what is told of it
abbrev pub unread_at : List Head → ℕ → Unreadable
unread_at heads index = unread_of (head_at heads index)

-- ---- what is read

-- the heads are parted: each has its operation, or its record, next among these, or is told next
abbrev pub AreParts : (Head → Op → Type 0) → (Head → Type 0) → List Head → List Unreadable → List Op → Type 0
AreParts Is Not [] told ops = (told ≡ []) × (ops ≡ [])
AreParts Is Not (h ∷ heads) told ops =
    ((op : Op) × (more : List Op) × (ops ≡ op ∷ more) × Is h op × AreParts Is Not heads told more)
    ⊎ ((more : List Unreadable) × (told ≡ unread_of h ∷ more) × Not h × AreParts Is Not heads more ops)

-- nothing is said of a head
abbrev pub IsAny : Head → Type 0
IsAny h = ⊤

-- a log has these operations, and those of which this is told
abbrev pub shown_in : {H B : Type 0} → Ghosts B → Opened H B → List Unreadable → List Op → Type 0
shown_in g log told ops = AreParts (IsOf (g.seen log.bodies)) IsAny log.places told ops

-- the same, where each of those was damaged, or the disk failed to read
abbrev pub read_in : {H B : Type 0} → Ghosts B → Opened H B → Opened H B → List Unreadable → List Op → Type 0
read_in g old new told ops =
    AreParts (IsOf (g.seen old.bodies)) (IsAmiss (g.seen old.bodies) (g.faults old.bodies) (g.faults new.bodies))
    old.places told ops

-- a log has operations of which these are records, each read or told beside it, and those of which this is told
abbrev pub recorded_in : {H B : Type 0} → Ghosts B → List ContentParts → Opened H B → List Unreadable → List Op → Type 0
recorded_in g contents log told recorded =
    AreParts (IsRecordedAs (g.seen log.bodies) contents) IsAny log.places told recorded

-- what is told of an entry of a table that is none of an operation
abbrev pub unread_row : Row → Unreadable
unread_row entry = unread_in (damage_in entry)

-- a table has these operations, and rows that are none of an operation, of which this is told
pub record ShowsRows (rows : List Row) (told : List Unreadable) (ops : List Op) : Type 0 where
  pub others : List Row
  pub parted : IsPermutation (entries rows) (map entry_of ops ++ others)
  pub none : All (λ entry. ¬ IsEntry entry) others
  pub tells : told ≡ map unread_row others

-- operations that a store shows, whatever is told of the others
abbrev pub Shown : (List Unreadable → List Op → Type 0) → List Op → Type 0
Shown shows ops = (told : List Unreadable) × shows told ops
