-- Why a shelf does not keep what it is asked to keep, or load what it is asked for.
use Rattle.std.specs.Prelude.{⊤, List, ℕ}
use Rattle.sqlite.specs.Order.{Row}
use Rattle.sqlite.specs.Store.{Ghosts}
use Rattle.sqlite.specs.Held.{Held}
use Rattle.operation.specs.declared.op.Op.{Op}
use Rattle.op_shelf.specs.declared.fault.ShelfFault.{ShelfFault}
use Rattle.op_shelf.specs.declared.fault.ShelfFault.TheVariants.{Store, BadRow, Memory}
use Rattle.op_shelf.specs.Group.{FindsOther, IsNotKept, IsNotPut}
use Rattle.op_shelf.specs.Loading.{AreAmiss, IsNotLoaded, at_digest}
use Rattle.op_shelf.specs.States.{IfClean, HasOther, rows_of}

-- Of an entry: the database refused it, for this cause, or another one that has its bytes is there under its digest; or
-- memory was refused.
abbrev pub RefusesEntry : {S : Type 0} → Ghosts S → Held S → Held S → List ℕ → Row → ShelfFault → Type 0
RefusesEntry g old later digest entry (Store why) = IfClean g old later (λ s t. IsNotKept g why old later digest entry)
RefusesEntry g old later digest entry BadRow = IfClean g old later (λ s t. HasOther (rows_of s) digest entry)
RefusesEntry g old later digest entry Memory = ⊤

-- Of a group: the database refused it, for this cause, or one of it finds another entry under its digest; or memory was
-- refused.
abbrev pub RefusesGroup : {S : Type 0} → Ghosts S → Held S → Held S → List Op → ShelfFault → Type 0
RefusesGroup g old later ops (Store why) = IfClean g old later (λ s t. IsNotPut g why old later ops)
RefusesGroup g old later ops BadRow = IfClean g old later (λ s t. FindsOther s ops)
RefusesGroup g old later ops Memory = ⊤

-- Of a load: the database refused it, for this cause, or what stands under the digest is not the one entry of an
-- operation that has it; or memory was refused.
abbrev pub RefusesLoad : {S : Type 0} → Ghosts S → Held S → Held S → List ℕ → ShelfFault → Type 0
RefusesLoad g old later digest (Store why) = IfClean g old later (λ s t. IsNotLoaded why digest s t)
RefusesLoad g old later digest BadRow = IfClean g old later (λ s t. AreAmiss digest (at_digest digest (rows_of s)))
RefusesLoad g old later digest Memory = ⊤
