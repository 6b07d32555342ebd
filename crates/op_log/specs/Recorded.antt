-- What is recorded of the operations of a log.
use Rattle.std.specs.Prelude.{◌≡◌, ◌⊎◌, ℕ, List, [], ◌∷◌, map}
use Rattle.octets.specs.Members.{Has}
use Rattle.operation.specs.Parts.{ContentParts}
use Rattle.operation.specs.declared.op.Op.{Op}
use Rattle.operation.specs.declared.op.Op.TheVariants.{Content as a_content}
use Rattle.operation.specs.Spelling.{digest_of}
use Rattle.records.specs.StandIn.{op_in}
use Rattle.op_log.specs.Heads.{Head}
use Rattle.op_log.specs.Loaded.{IsOf, Lists}

-- the records stand for the operations of the heads, one by one
pub record Records (file : List ℕ) (heads : List Head) (recorded : List Op) : Type 0 where
  pub ops : List Op
  pub listed : Lists file heads ops
  pub stand : recorded ≡ map op_in ops

-- a record stands for the operation of a head
abbrev pub IsReadFor : List ℕ → Head → Op → Type 0
IsReadFor file h r = (op : Op) × IsOf file h op × (r ≡ op_in op)

-- a record is one of some contents that are told, under the digest of a head
abbrev pub IsToldFor : List ContentParts → Head → Op → Type 0
IsToldFor told h r = (c : ContentParts) × Has told c × (r ≡ a_content c) × (digest_of r ≡ h.digest)

-- a record stands for the operation of a head, or was told under that head's digest
abbrev pub IsRecordedAs : List ℕ → List ContentParts → Head → Op → Type 0
IsRecordedAs file told h r = IsReadFor file h r ⊎ IsToldFor told h r

-- the records do so, one by one
abbrev pub AreRecordedAs : List ℕ → List ContentParts → List Head → List Op → Type 0
AreRecordedAs file told [] [] = Unit {0}
AreRecordedAs file told [] (r ∷ recorded) = ⊥
AreRecordedAs file told (h ∷ heads) [] = ⊥
AreRecordedAs file told (h ∷ heads) (r ∷ recorded) = IsRecordedAs file told h r × AreRecordedAs file told heads recorded
