-- What is recorded of the operations of the table, and what is told of its other rows.
use Rattle.std.specs.Prelude.{◌≡◌, ◌⊎◌, ◌++◌, ◌∷◌, [], List, map, All, IsPermutation, IsSorted}
use Rattle.sqlite.specs.Order.{Row}
use Rattle.operation.specs.declared.op.Op.{Op}
use Rattle.operation.specs.Reading.{IsOp}
use Rattle.operation.specs.Spelling.{digest_of, hash_of}
use Rattle.records.specs.StandIn.{op_in}
use Rattle.op_shelf.specs.declared.damaged.Damaged.{Damaged}
use Rattle.op_shelf.specs.Damage.{damage_of, damaged_cmp}
use Rattle.op_shelf.specs.Entries.{IsEntry, Lists, entry_of, own_entry}
use Rattle.op_shelf.specs.States.{digest_cmp}

-- what stands for an operation has the hash of its spelling as its digest
abbrev pub KeepsDigest : Op → Type 0
KeepsDigest op = digest_of (op_in op) ≡ hash_of op

-- one record more, which stands for the operation of an entry
pub record IsRecorded (entry : Row) (old new : List Op) : Type 0 where
  pub op : Op
  pub lawful : IsOp op
  pub entry_is : entry ≡ entry_of op
  pub digest : KeepsDigest op
  pub added : new ≡ old ++ op_in op ∷ []

-- the records stand for the operations of the table, each as often as it is there, and have their digests
pub record Records (rows : List Row) (recorded : List Op) : Type 0 where
  pub ops : List Op
  pub listed : Lists rows ops
  pub digests : All KeepsDigest ops
  pub stand : recorded ≡ map op_in ops

-- an entry was read: its record stands behind others, or what is told of it does, where it is none of an operation
abbrev pub IsRead : Row → List Op → List Damaged → List Op → List Damaged → Type 0
IsRead entry recorded told recorded' told' = (IsRecorded entry recorded recorded' × (told' ≡ told))
    ⊎ ((¬ IsEntry entry) × (recorded' ≡ recorded) × (told' ≡ told ++ damage_of entry ∷ []))

-- Entries are those of operations and others that are of none, each as often as it is there: the records stand for those
-- operations and have their digests, and just the others are told.
pub record AreRead (all : List Row) (recorded : List Op) (told : List Damaged) : Type 0 where
  pub ops : List Op
  pub others : List Row
  pub parted : IsPermutation all (map entry_of ops ++ others)
  pub lawful : All IsOp ops
  pub digests : All KeepsDigest ops
  pub none : All (λ entry. ¬ IsEntry entry) others
  pub stand : recorded ≡ map op_in ops
  pub tells : told ≡ map damage_of others

-- no row is told, and the records are those of all
pub record AreAllRead (rows : List Row) (recorded : List Op) (told : List Damaged) : Type 0 where
  pub none : told ≡ []
  pub all : Records rows recorded

-- both ascend by the texts of the digests
pub record AreAscending (recorded : List Op) (told : List Damaged) : Type 0 where
  pub records : IsSorted digest_cmp (map own_entry recorded)
  pub damages : IsSorted damaged_cmp told
