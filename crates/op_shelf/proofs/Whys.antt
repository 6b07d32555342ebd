-- Why a shelf refuses, from what is told of each fault.
use Rattle.std.proofs.Common.{List, ℕ, Option, Result, Ok, Err, IfErr, IsErrOf, refl}
use Rattle.std.specs.Global.{Vec}
use Rattle.sqlite.specs.Order.{Row}
use Rattle.sqlite.specs.Store.{Ghosts}
use Rattle.sqlite.specs.Held.{Held}
use Rattle.operation.specs.declared.op.Op.{Op}
use Rattle.op_shelf.specs.declared.kept.Kept.{Kept}
use Rattle.op_shelf.specs.declared.fault.ShelfFault.{ShelfFault}
use Rattle.op_shelf.specs.declared.fault.ShelfFault.TheVariants.{Store, BadRow, Memory}
use Rattle.op_shelf.specs.Fault.{IfStore}
use Rattle.op_shelf.specs.Loading.{AreAmiss, IsNotLoaded, at_digest}
use Rattle.op_shelf.specs.Putting.{PutsEntry, PutsGroup}
use Rattle.op_shelf.specs.Refusing.{RefusesEntry, RefusesGroup, RefusesLoad}
use Rattle.op_shelf.specs.States.{IfClean, rows_of}

module _ {S : Type 0} (g : Ghosts S) (old later : Held S) where
  -- an entry
  pub entry_why : (digest : List ℕ) (entry : Row) (r : Result Kept ShelfFault) → PutsEntry g old later digest entry r
      → IfErr r (RefusesEntry g old later digest entry)
  entry_why digest entry (Ok kept) puts = tt
  entry_why digest entry (Err (Store why)) puts = λ clean. puts.store clean why refl
  entry_why digest entry (Err BadRow) puts = λ clean. puts.bad_row clean refl
  entry_why digest entry (Err Memory) puts = tt

  -- a group
  pub group_why : (ops : List Op) (r : Result (Vec Kept) ShelfFault) → PutsGroup g old later ops r
      → IfErr r (RefusesGroup g old later ops)
  group_why ops (Ok kepts) puts = tt
  group_why ops (Err (Store why)) puts = λ clean. puts.store clean why refl
  group_why ops (Err BadRow) puts = λ clean. puts.bad_row clean refl
  group_why ops (Err Memory) puts = tt

  -- a load
  pub load_why : (digest : List ℕ) (r : Result (Option Op) ShelfFault)
      → IfClean g old later (λ s t. IsErrOf r BadRow → AreAmiss digest (at_digest digest (rows_of s)))
      → IfClean g old later (λ s t. IfStore r (λ why. IsNotLoaded why digest s t))
      → IfErr r (RefusesLoad g old later digest)
  load_why digest (Ok found) bad_row store = tt
  load_why digest (Err (Store why)) bad_row store = λ clean. store clean why refl
  load_why digest (Err BadRow) bad_row store = λ clean. bad_row clean refl
  load_why digest (Err Memory) bad_row store = tt
