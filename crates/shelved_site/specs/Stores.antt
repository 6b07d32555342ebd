-- A log as a store.
use Rattle.std.specs.Prelude.{ℕ, List, length, filter, ◌==◌}
use Rattle.sqlite_disk.specs.declared.Disk.{Ghosts}
use Rattle.operation.specs.declared.op.Op.{Op}
use Rattle.op_log.specs.Heads.{Head}
use Rattle.op_log.specs.Log.{Looks, Opened}
use Rattle.op_shelf.specs.Entries.{kind_in}
use Rattle.op_shelf.specs.Keep.{AreSame}
use Rattle.shelved_site.specs.declared.unreadable.Unreadable.{Unreadable}
use Rattle.shelved_site.specs.Keeping.{Holds}
use Rattle.shelved_site.specs.Readable.{shown_in}

-- how many of some heads are those of operations of a kind
abbrev pub count_in : ℕ → List Head → ℕ
count_in kind heads = length (filter (λ h. kind_in h.front == kind) heads)

-- a log was only looked at, and has the same operations
pub record IsSame {H B : Type 0} (g : Ghosts B) (old new : Opened H B) : Type 0 where
  pub looks : Looks old new
  pub holds : AreSame (Holds g old) (Holds g new)
  pub shows : (told : List Unreadable) (ops : List Op) → shown_in g old told ops → shown_in g new told ops
