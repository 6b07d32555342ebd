-- What stands under a digest, and why the operation of one is not loaded.
use Rattle.std.specs.Prelude.{◌≡◌, ◌≢◌, ◌⊎◌, ◌∷◌, [], ℕ, List}
use Rattle.hex.specs.Hex.{encode_lower}
use Rattle.sqlite.specs.Order.{Row}
use Rattle.sqlite.specs.State.{State}
use Rattle.sqlite.specs.declared.types.Value.TheVariants.{Text}
use Rattle.operation.specs.declared.op.Op.{Op}
use Rattle.operation.specs.Reading.{IsOp}
use Rattle.operation.specs.Spelling.{hash_of}
use Rattle.op_shelf.specs.declared.fault.StoreCause.{StoreCause}
use Rattle.op_shelf.specs.Entries.{entry_of}
use Rattle.op_shelf.specs.States.{IsNotShown, IsUnready, under}
use Rattle.op_shelf.specs.Texts.{held_text}

-- the entries under a digest
abbrev pub at_digest : List ℕ → List Row → List Row
at_digest digest rows = under (encode_lower digest) rows

-- Some entries are there, and they are not the one entry of an operation that has the digest.
pub record AreAmiss (digest : List ℕ) (all : List Row) : Type 0 where
  pub some : all ≢ []
  pub none : (op : Op) → IsOp op → hash_of op ≡ digest → all ≢ entry_of op ∷ []

-- a load was refused: the table does not stand alone, or the database did not show the entries, for this cause
abbrev pub IsNotLoaded : StoreCause → List ℕ → State → State → Type 0
IsNotLoaded why digest s t = IsUnready why s ⊎ IsNotShown why held_text (Text (encode_lower digest) ∷ []) s t
