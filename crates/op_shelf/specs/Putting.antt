-- What a put does to a shelf, as it is told and through a crash.
use Rattle.std.specs.Prelude.{◌≡◌, List, ℕ, Result, Ok, Contains, IfOk, IsErrOf, OnOk, OnErr}
use Rattle.sqlite.specs.Order.{Row}
use Rattle.sqlite.specs.Store.{Ghosts}
use Rattle.sqlite.specs.Tree.{Trees}
use Rattle.sqlite.specs.Held.{Held, state}
use Rattle.sqlite.specs.State.{Survives}
use Rattle.std.specs.Global.{Vec}
use Rattle.operation.specs.declared.op.Op.{Op}
use Rattle.op_shelf.specs.declared.kept.Kept.{Kept}
use Rattle.op_shelf.specs.declared.kept.Kept.TheVariants.{New, Known}
use Rattle.op_shelf.specs.declared.fault.ShelfFault.{ShelfFault}
use Rattle.op_shelf.specs.declared.fault.ShelfFault.TheVariants.{BadRow}
use Rattle.op_shelf.specs.Entries.{entries}
use Rattle.op_shelf.specs.Fault.{IfStore}
use Rattle.op_shelf.specs.Group.{IsPutAll, MayHaveAll, FindsOther, IsNotKept, IsNotPut}
use Rattle.op_shelf.specs.States.{IfClean, IsPut, IsKnown, KeepsAll, Mends, StaysReady, HasOther, rows_of}
use Rattle.op_shelf.specs.States.{rows_left}

-- Whether an entry was put: New adds exactly that entry, in the place of what under its digest has not its bytes, Known
-- finds it there, and a refusal changes nothing. A shelf that was ready, and is open, is ready. Each fault, only where it
-- is. A crash finds the entries from before, with this one put or without, and after Ok with it.
pub record PutsEntry {S : Type 0} (g : Ghosts S) (old later : Held S) (digest : List ℕ) (entry : Row)
    (result : Result Kept ShelfFault) : Type 0 where
  pub new : IfClean g old later (λ s t. result ≡ Ok New → IsPut s t digest entry)
  pub known : IfClean g old later (λ s t. result ≡ Ok Known → IsKnown s t digest entry)
  pub refused : IfClean g old later (λ s t. OnErr result (KeepsAll s t))
  pub ready : IfClean g old later StaysReady
  pub bad_row : IfClean g old later (λ s t. IsErrOf result BadRow → HasOther (rows_of s) digest entry)
  pub store : IfClean g old later (λ s t. IfStore result (λ why. IsNotKept g why old later digest entry))
  pub crash : Survives (state g old) (state g later) (λ trees. Mends digest entry (entries (rows_of (state g old)))
      (entries (rows_left (state g old) trees)))
  pub durable : IfClean g old later (λ s t. OnOk result ((trees : Trees) → t.may_leave trees → Contains (entries
      (rows_left t trees)) entry))

-- Whether a group was put: all of it, each in its turn, or nothing is changed. A shelf that was ready, and is open, is
-- ready. Each fault, only where it is. A crash finds the entries from before, or those and all of the group.
pub record PutsGroup {S : Type 0} (g : Ghosts S) (old later : Held S) (ops : List Op)
    (result : Result (Vec Kept) ShelfFault) : Type 0 where
  pub put : IfClean g old later (λ s t. IfOk result (λ kepts. IsPutAll s t ops kepts.items))
  pub refused : IfClean g old later (λ s t. OnErr result (KeepsAll s t))
  pub ready : IfClean g old later StaysReady
  pub bad_row : IfClean g old later (λ s t. IsErrOf result BadRow → FindsOther s ops)
  pub store : IfClean g old later (λ s t. IfStore result (λ why. IsNotPut g why old later ops))
  pub crash : Survives (state g old) (state g later) (MayHaveAll (state g old) ops)
