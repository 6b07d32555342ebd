-- A walk over all entries, a row at a time.
use Rattle.std.specs.Prelude.{◌⊎◌, ◌++◌, ◌∷◌, List, [], Option, Some, None, Result, OnOk, OnErr, IsTrue, IsPermutation}
use Rattle.sqlite.specs.Given.{HasGiven}
use Rattle.sqlite.specs.Held.{Held, state}
use Rattle.sqlite.specs.Order.{Row}
use Rattle.sqlite.specs.State.{IsUnchanged, Survives}
use Rattle.sqlite.specs.Store.{Ghosts}
use Rattle.op_shelf.specs.declared.fault.ShelfFault.{ShelfFault}
use Rattle.op_shelf.specs.Entries.{entries}
use Rattle.op_shelf.specs.Fault.{IfStore}
use Rattle.op_shelf.specs.States.{IfClean, Spares, KeepsAll, IsUnready, IsNotShown, rows_of}
use Rattle.op_shelf.specs.Table.{IsShelf}
use Rattle.op_shelf.specs.Texts.{all_text}

-- a walk over the table of a shelf has given these entries so far
pub record IsWalking {S : Type 0} (g : Ghosts S) (h : Held S) (given : List Row) : Type 0 where
  pub shelf : IsShelf (state g h).now.schema
  pub is_open : IsTrue (state g h).is_open
  pub has : HasGiven g all_text [] h given

-- one more entry is given, or those so far are all of the table's
abbrev pub GivesRow : {S : Type 0} → Ghosts S → Held S → Held S → List Row → Option Row → Type 0
GivesRow g old new given (Some row) = IsWalking g new (given ++ row ∷ [])
GivesRow g old new given None = IsPermutation (entries (rows_of (state g old))) given

-- what a walk, or a step of it, leaves: Ok changed nothing, a refusal at most rolled back, and names its cause
pub record Walks {S A : Type 0} (g : Ghosts S) (old new : Held S) (result : Result A ShelfFault) : Type 0 where
  pub same : IfClean g old new (λ s t. OnOk result (IsUnchanged s t))
  pub refused : IfClean g old new (λ s t. OnErr result (Spares s t))
  pub store : IfClean g old new (λ s t. IfStore result (λ why. IsNotShown why all_text [] s t))
  pub crash : Survives (state g old) (state g new) (λ _. ⊥)

-- what a look at all entries of a shelf leaves: Ok changed nothing, a refusal keeps all, and names its cause
pub record Looks {S A : Type 0} (g : Ghosts S) (old new : Held S) (result : Result A ShelfFault) : Type 0 where
  pub same : IfClean g old new (λ s t. OnOk result (IsUnchanged s t))
  pub refused : IfClean g old new (λ s t. OnErr result (KeepsAll s t))
  pub store : IfClean g old new (λ s t. IfStore result (λ why. IsUnready why s ⊎ IsNotShown why all_text [] s t))
  pub crash : Survives (state g old) (state g new) (λ _. ⊥)
