-- Why a store keeps, loads, shows or counts no operations.
use Rattle.std.specs.Prelude.{◌≡◌, ◌≢◌, ◌⊎◌, ◌∷◌, [], ℕ, List, None, IsTrue, pos, false}
use Rattle.sqlite.specs.declared.types.Value.TheVariants.{Int}
use Rattle.sqlite.specs.State.{State}
use Rattle.sqlite_disk.specs.declared.Disk.{Ghosts}
use Rattle.sqlite_disk.specs.Disk.{MoreFaults}
use Rattle.operation.specs.declared.op.Op.{Op}
use Rattle.op_log.specs.Kept.{first_under}
use Rattle.op_log.specs.Loaded.{HasBadHead}
use Rattle.op_log.specs.Loads.{IsUnder}
use Rattle.op_log.specs.Log.{IsTooLong, Opened}
use Rattle.op_log.specs.Puts.{ComesToClash}
use Rattle.op_shelf.specs.declared.fault.ShelfFault.{ShelfFault}
use Rattle.op_shelf.specs.declared.fault.ShelfFault.TheVariants.{Store, BadRow, Memory}
use Rattle.op_shelf.specs.declared.fault.StoreCause.TheVariants as cause
use Rattle.op_shelf.specs.Entries.{HasBadRow}
use Rattle.op_shelf.specs.States.{IsNotShown, IsUnready, rows_of}
use Rattle.op_shelf.specs.Texts.{all_text, kind_text}
use Rattle.shelved_site.specs.Keeping.{IsUp}
use Rattle.shelved_site.specs.Stores.{IsSame}

-- a shelf: a row is that of no operation, or its table does not stand alone, or the database refused for this cause
abbrev pub ShelfRefusesAll : State → State → ShelfFault → Type 0
ShelfRefusesAll old new (Store why) = IsUnready why old ⊎ IsNotShown why all_text [] old new
ShelfRefusesAll old new BadRow = HasBadRow (rows_of old)
ShelfRefusesAll old new Memory = Unit {0}

-- the same of a count, of which a shelf does not say when a row is bad
abbrev pub ShelfRefusesCount : State → ℕ → State → ShelfFault → Type 0
ShelfRefusesCount old kind new (Store why) = IsUnready why old ⊎ IsNotShown why kind_text (Int (pos kind) ∷ []) old new
ShelfRefusesCount old kind new BadRow = Unit {0}
ShelfRefusesCount old kind new Memory = Unit {0}

-- a log: a data set is none of its head's operation, or the file of data sets is closed, or its disk refused in this
-- call, or memory was refused
abbrev pub LogRefusesAll : {H B : Type 0} → Ghosts B → Opened H B → Opened H B → ShelfFault → Type 0
LogRefusesAll g old new (Store cause.Failed) = MoreFaults (g.faults old.bodies) (g.faults new.bodies)
LogRefusesAll g old new (Store cause.Closed) = g.is_usable old.bodies ≡ false
LogRefusesAll g old new (Store cause.Full) = ⊥
LogRefusesAll g old new (Store cause.Damaged) = ⊥
LogRefusesAll g old new (Store cause.Other) = ⊥
LogRefusesAll g old new BadRow = (at : ℕ) × HasBadHead (g.seen old.bodies) old.places at
LogRefusesAll g old new Memory = Unit {0}

-- a log did not show what can be read of it: memory was refused, or the file of data sets was closed, as which it was
-- the same
abbrev pub LogIsUnshown : {H B : Type 0} → Ghosts B → Opened H B → ShelfFault → Type 0
LogIsUnshown {H} {B} g old (Store cause.Closed) =
    (before : Opened H B) × IsSame g old before × (g.is_usable before.bodies ≡ false)
LogIsUnshown g old (Store cause.Failed) = ⊥
LogIsUnshown g old (Store cause.Full) = ⊥
LogIsUnshown g old (Store cause.Damaged) = ⊥
LogIsUnshown g old (Store cause.Other) = ⊥
LogIsUnshown g old BadRow = ⊥
LogIsUnshown g old Memory = Unit {0}

-- a log that is asked to keep a group: it is closed, or the group is longer than one may be; or one of its disks
-- refused in this call, or another operation has the digest of one of the group, or memory was refused
abbrev pub LogRefusesGroup : {H B : Type 0} → Ghosts H → Ghosts B → Opened H B → Opened H B → List Op → ShelfFault
    → Type 0
LogRefusesGroup gh gb old new ops (Store cause.Failed) =
    MoreFaults (gh.faults old.heads) (gh.faults new.heads) ⊎ MoreFaults (gb.faults old.bodies) (gb.faults new.bodies)
LogRefusesGroup gh gb old new ops (Store cause.Closed) = old.is_open ≡ false
LogRefusesGroup gh gb old new ops (Store cause.Full) = ⊥
LogRefusesGroup gh gb old new ops (Store cause.Damaged) = ⊥
LogRefusesGroup gh gb old new ops (Store cause.Other) = IsUp gh gb new → IsTooLong old ops
LogRefusesGroup gh gb old new ops BadRow = ComesToClash gb new.bodies new.bodies_end old.places ops
LogRefusesGroup gh gb old new ops Memory = Unit {0}

-- a log that is asked for the operation of a digest: the disk of data sets refused in this call, or that file is
-- closed, or a head has the digest and no operation lies there, or memory was refused
abbrev pub LogRefusesLoad : {H B : Type 0} → Ghosts B → Opened H B → Opened H B → List ℕ → ShelfFault → Type 0
LogRefusesLoad g old new digest (Store cause.Failed) = MoreFaults (g.faults old.bodies) (g.faults new.bodies)
LogRefusesLoad g old new digest (Store cause.Closed) = g.is_usable old.bodies ≡ false
LogRefusesLoad g old new digest (Store cause.Full) = ⊥
LogRefusesLoad g old new digest (Store cause.Damaged) = ⊥
LogRefusesLoad g old new digest (Store cause.Other) = ⊥
LogRefusesLoad g old new digest BadRow =
    IsTrue (g.is_clean new.bodies) → (first_under digest old.places ≢ None) × ((op : Op) → ¬ IsUnder g digest old op)
LogRefusesLoad g old new digest Memory = Unit {0}
