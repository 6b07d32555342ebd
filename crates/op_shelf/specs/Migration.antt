-- A migration of the older table to the newer one, step by step.
use Rattle.std.specs.Prelude.{◌≡◌, ◌⊎◌, false, List, [], map, All, Contains, Err, IsTrue, IsPermutation}
use Rattle.sqlite.specs.Order.{Row}
use Rattle.sqlite.specs.Store.{Ghosts}
use Rattle.sqlite.specs.Term.{Term}
use Rattle.sqlite.specs.Tree.{Trees}
use Rattle.sqlite.specs.Effect.{Database, IsDatabase}
use Rattle.sqlite.specs.Held.{Held, state}
use Rattle.sqlite.specs.State.{State, ExecutesInside}
use Rattle.sqlite.specs.Steps.{FailsToCommit}
use Rattle.sqlite.specs.declared.error.Error.{Error}
use Rattle.op_shelf.specs.Entries.{entries}
use Rattle.op_shelf.specs.Older.{older_schema, both_schema, pairs, moved, IsPair}
use Rattle.op_shelf.specs.Table.{shelf_schema}
use Rattle.op_shelf.specs.Texts.{create_text, insert_text, drop_text}

-- the older table stands alone, and no transaction is open
pub record IsOlder (s : State) : Type 0 where
  pub older : s.now.schema ≡ older_schema
  pub alone : s.in_transaction ≡ false
  pub settled : IsTrue s.is_open → s.now ≡ s.committed

-- the transaction is begun, over the older table alone
pub record IsStarted (s : State) : Type 0 where
  pub inside : IsTrue s.in_transaction
  pub older : s.now.schema ≡ older_schema

-- both tables are there, and the newer one has these entries
pub record IsMoving (s : State) (done : List Row) : Type 0 where
  pub inside : IsTrue s.in_transaction
  pub checks : List Term
  pub both : s.now.schema ≡ both_schema checks
  pub rows : IsPermutation done (entries (s.now.trees 2))

-- the newer table is there alone, and has these entries
pub record IsMoved (s : State) (done : List Row) : Type 0 where
  pub inside : IsTrue s.in_transaction
  pub checks : List Term
  pub shelf : s.now.schema ≡ shelf_schema 2 checks
  pub rows : IsPermutation done (entries (s.now.trees 2))
  pub sound : IsDatabase s.now

-- the transaction is committed
pub record IsSwapped (s t : State) (done : List Row) : Type 0 where
  pub was_open : IsTrue s.is_open
  pub is_open : IsTrue t.is_open
  pub checks : List Term
  pub shelf : t.now.schema ≡ shelf_schema 2 checks
  pub rows : IsPermutation done (entries (t.now.trees 2))
  pub committed : t.committed ≡ t.now
  pub alone : t.in_transaction ≡ false

-- what a crash may find of it: a database with the newer table alone
pub record IsSwap (done : List Row) (trees : Trees) : Type 0 where
  pub after : Database
  pub is : trees ≡ after.trees
  pub sound : IsDatabase after
  pub checks : List Term
  pub shelf : after.schema ≡ shelf_schema 2 checks
  pub rows : IsPermutation done (entries (trees 2))

-- Each row of the older table is that of an operation, and has become its entry.
pub record IsMigrated (s t : State) : Type 0 where
  pub lawful : All IsPair (pairs (s.now.trees 0))
  pub swapped : IsSwapped s t (map moved (pairs (s.now.trees 0)))

-- and so a crash may find them
pub record IsMigration (s : State) (trees : Trees) : Type 0 where
  pub lawful : All IsPair (pairs (s.now.trees 0))
  pub swap : IsSwap (map moved (pairs (s.now.trees 0))) trees

-- some row of the older table is that of no operation
abbrev pub HasBadPair : State → Type 0
HasBadPair s = (pair : Row) × Contains (pairs (s.now.trees 0)) pair × (¬ IsPair pair)

-- a statement of the migration was refused
abbrev pub IsHalted : {S : Type 0} → Ghosts S → Held S → Error → Type 0
IsHalted {S} g new e =
    (mid : Held S) × (((state g mid).now.schema ≡ older_schema) × ExecutesInside 0 create_text [] (state g mid)
    (state g new) (Err e)
    ⊎ ((checks : List Term) × ((state g mid).now.schema ≡ both_schema checks)
    × (((entry : Row) × ExecutesInside 0 insert_text entry (state g mid) (state g new) (Err e))
    ⊎ ExecutesInside 0 drop_text [] (state g mid) (state g new) (Err e))))

-- one of them was refused, or the commit
abbrev pub IsNotSwapped : {S : Type 0} → Ghosts S → Held S → Error → Type 0
IsNotSwapped {S} g new e =
    ((end : Held S) × IsHalted g end e) ⊎ ((mid : Held S) × (done : List Row) × IsMoved (state g mid) done
    × FailsToCommit (state g mid) (state g new) e)
