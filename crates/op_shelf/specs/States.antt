-- What a connection shows of the table, and what a call leaves.
use Rattle.std.specs.Prelude.{◌≡◌, ◌≢◌, ◌⊎◌, ◌∷◌, ℕ, false, not, All, Any, Contains, Err, List, [], filter, length, pos}
use Rattle.std.specs.Prelude.{IsPermutation, IsTrue}
use Rattle.std.specs.declared.cmp.Ordering.{Ordering}
use Rattle.std.specs.Ordering.{is_eq, on}
use Rattle.sqlite.specs.Order.{Row, column, value_cmp}
use Rattle.sqlite.specs.declared.types.Value.TheVariants.{Int, Text}
use Rattle.sqlite.specs.Schema.{Schema}
use Rattle.sqlite.specs.Table.{Table}
use Rattle.sqlite.specs.Store.{Ghosts}
use Rattle.sqlite.specs.Tree.{Trees}
use Rattle.sqlite.specs.State.{State, HasCleanDisk, IsUnchanged, IsRolledBack, FailsToQuery, Executes, Survives}
use Rattle.sqlite.specs.declared.error.Error.{Error}
use Rattle.op_shelf.specs.declared.fault.ShelfFault.{ShelfFault}
use Rattle.op_shelf.specs.declared.fault.ShelfFault.TheVariants.{Store, BadRow}
use Rattle.op_shelf.specs.declared.fault.StoreCause.{StoreCause}
use Rattle.op_shelf.specs.declared.fault.StoreCause.TheVariants.{Other}
use Rattle.op_shelf.specs.Fault.{fault_of}
use Rattle.op_shelf.specs.Migration.{IsOlder, IsMigrated, IsMigration, IsNotSwapped, HasBadPair}
use Rattle.op_shelf.specs.Table.{IsShelf, no_schema}
use Rattle.op_shelf.specs.Texts.{create_text, older_text}
use Rattle.sqlite.specs.Held.{Held, state}
use Rattle.operation.specs.declared.op.Op.{Op}
use Rattle.op_shelf.specs.Entries.{IsWhole, entries, Holds}

-- the tree of the first table
abbrev pub first_tree : List Table → ℕ
first_tree [] = 0
first_tree (table ∷ rest) = table.tree

abbrev pub tree_in : Schema → ℕ
tree_in schema = first_tree schema.tables

-- the rows of the table, as the connection sees them
abbrev pub rows_of : State → List Row
rows_of s = s.now.trees (tree_in s.now.schema)

-- and as a crash leaves them
abbrev pub rows_left : State → Trees → List Row
rows_left s trees = trees (tree_in s.now.schema)

-- what is claimed of the states before and after a call, if so far the disk has returned what was written
abbrev pub IfClean : {S : Type 0} → Ghosts S → Held S → Held S → (State → State → Type 0) → Type 0
IfClean g old new P = HasCleanDisk (state g new) → P (state g old) (state g new)

-- the call changed nothing, or rolled back what it did
abbrev pub Spares : State → State → Type 0
Spares s t = IsUnchanged s t ⊎ IsRolledBack s t

-- those of some entries that are under a digest's text
abbrev pub among : List ℕ → List Row → List Row
among digest all = filter (λ entry. is_eq (value_cmp (column entry 0) (Text digest))) all

-- and the others
abbrev pub apart : List ℕ → List Row → List Row
apart digest all = filter (λ entry. not (is_eq (value_cmp (column entry 0) (Text digest)))) all

-- those of the entries of the table
abbrev pub under : List ℕ → List Row → List Row
under digest rows = among digest (entries rows)

-- how many entries have the kind
abbrev pub count_of : ℕ → List Row → ℕ
count_of kind rows = length (filter (λ entry. is_eq (value_cmp (column entry 1) (Int (pos kind)))) (entries rows))

-- the order of the digests' texts
abbrev pub digest_cmp : Row → Row → Ordering
digest_cmp = on (λ entry. column entry 0) value_cmp

-- the table stands alone, and no transaction is open
pub record IsReady (s : State) : Type 0 where
  pub shelf : IsShelf s.now.schema
  pub alone : s.in_transaction ≡ false
  pub settled : IsTrue s.is_open → s.now ≡ s.committed

-- where it was ready, and is open, it is ready
abbrev pub StaysReady : State → State → Type 0
StaysReady s t = IsReady s → IsTrue t.is_open → IsReady t

-- an entry stands in the place of those under a digest, and else all is the same
abbrev pub Replaces : List ℕ → Row → List Row → List Row → Type 0
Replaces digest entry old new = IsPermutation (entry ∷ apart digest old) new

-- the same where what stood there had not the bytes of the digest
pub record Mends (digest : List ℕ) (entry : Row) (old new : List Row) : Type 0 where
  pub spoiled : All (λ e. ¬ IsWhole e) (among digest old)
  pub rows : Replaces digest entry old new

-- the entry stands in the place of those under its digest, and the change is committed
pub record IsReplaced (s t : State) (digest : List ℕ) (entry : Row) : Type 0 where
  pub was_open : IsTrue s.is_open
  pub is_open : IsTrue t.is_open
  pub schema : t.now.schema ≡ s.now.schema
  pub rows : Replaces digest entry (entries (rows_of s)) (entries (rows_of t))
  pub committed : t.committed ≡ t.now
  pub alone : t.in_transaction ≡ false

-- none under the digest had its bytes, and the entry was put there
pub record IsPut (s t : State) (digest : List ℕ) (entry : Row) : Type 0 where
  pub spoiled : All (λ e. ¬ IsWhole e) (under digest (rows_of s))
  pub added : IsReplaced s t digest entry

-- the entry was there, alone under its digest, and nothing changed
pub record IsKnown (s t : State) (digest : List ℕ) (entry : Row) : Type 0 where
  pub held : Contains (entries (rows_of s)) entry
  pub alone : All (λ e. e ≡ entry) (under digest (rows_of s))
  pub same : IsUnchanged s t

-- of some entries another one is there under the digest, and one that has its bytes
abbrev pub IsTaken : List ℕ → Row → List Row → Type 0
IsTaken digest entry all = Any (λ e. e ≢ entry) (among digest all) × Any IsWhole (among digest all)

abbrev pub HasOther : List Row → List ℕ → Row → Type 0
HasOther rows digest entry = IsTaken digest entry (entries rows)

-- the database is as it was, unless a failure of the disk closed it
abbrev pub KeepsAll : State → State → Type 0
KeepsAll s t = IsTrue t.is_open → IsTrue s.is_open × (t.now ≡ s.now)

-- the database refused to show the rows of a text, for this cause
abbrev pub IsNotShown : StoreCause → List ℕ → Row → State → State → Type 0
IsNotShown why text params s t = (e : Error) × (fault_of e ≡ Store why) × FailsToQuery text params s t e

-- or to run a text
abbrev pub IsNotDone : StoreCause → List ℕ → Row → State → State → Type 0
IsNotDone why text params s t = (e : Error) × (fault_of e ≡ Store why) × Executes text params s t (Err e)

-- the table does not stand alone, of which no more is told
abbrev pub IsUnready : StoreCause → State → Type 0
IsUnready why s = (why ≡ Other) × (¬ IsReady s)

-- no table is there, and no transaction is open
pub record IsBare (s : State) : Type 0 where
  pub none : s.now.schema ≡ no_schema
  pub alone : s.in_transaction ≡ false
  pub settled : IsTrue s.is_open → s.now ≡ s.committed

-- the table was made, without a row, and the change is committed
pub record IsMade (s t : State) : Type 0 where
  pub was_open : IsTrue s.is_open
  pub is_open : IsTrue t.is_open
  pub shelf : IsShelf t.now.schema
  pub empty : rows_of t ≡ []
  pub committed : t.committed ≡ t.now
  pub alone : t.in_transaction ≡ false

-- what a shelf holds of what was there: the same table, one that was made in an empty database, or that of a migration
abbrev pub StandsFor : State → State → Type 0
StandsFor s t = (IsReady s × (t.now ≡ s.now) × (t.committed ≡ s.committed))
    ⊎ ((IsBare s × IsMade s t) ⊎ (IsOlder s × IsMigrated s t))

-- the database is open, and so far the disk has returned what was written
pub record IsUp (s : State) : Type 0 where
  pub clean : HasCleanDisk s
  pub is_open : IsTrue s.is_open

-- the table has the operation, and so has what any crash leaves of it
pub record Lasts (s : State) (op : Op) : Type 0 where
  pub held : Holds (rows_of s) op
  pub left : (trees : Trees) → s.may_leave trees → Holds (rows_left s trees) op

-- what a crash may find of an open: an empty table where none was, or the entries of the older table's rows
abbrev pub MayBecome : State → Trees → Type 0
MayBecome s trees = (IsBare s × (trees 0 ≡ [])) ⊎ (IsOlder s × IsMigration s trees)

-- a migration was refused: the database did not show the older table, or refused what was to move it, for this cause
abbrev pub IsNotMigrated : {S : Type 0} → Ghosts S → StoreCause → Held S → Held S → Type 0
IsNotMigrated {S} g why old new =
    IsNotShown why older_text [] (state g old) (state g new)
    ⊎ ((e : Error) × (fault_of e ≡ Store why) × IsNotSwapped g new e)

-- the database refused to make the table, or to move the older one, for this cause, or is that of no shelf
abbrev pub IsNotOpened : {S : Type 0} → Ghosts S → StoreCause → Held S → Held S → Type 0
IsNotOpened {S} g why old new =
    IsNotDone why create_text [] (state g old) (state g new)
    ⊎ (((why ≡ Other) × (¬ IsReady (state g old)) × (¬ IsBare (state g old)) × (¬ IsOlder (state g old)))
    ⊎ (IsOlder (state g old) × IsNotMigrated g why old new))

-- A connection was given up, and what it showed at last is as it was; each fault, only where it is.
pub record IsGivenUp {S : Type 0} (g : Ghosts S) (old last : Held S) (e : ShelfFault) : Type 0 where
  pub kept : HasCleanDisk (state g last) → KeepsAll (state g old) (state g last)
  pub bad_row : HasCleanDisk (state g last) → e ≡ BadRow → HasBadPair (state g old)
  pub store : HasCleanDisk (state g last) → (why : StoreCause) → e ≡ Store why → IsNotOpened g why old last
  pub crash : Survives (state g old) (state g last) (MayBecome (state g old))
