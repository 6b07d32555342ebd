-- What a put makes of the operations that are kept, and what a load finds of them.
use Rattle.std.specs.Prelude.{◌≡◌, ◌⊎◌, ◌↔◌, ◌∷◌, [], List, Option, None, Some}
use Rattle.operation.specs.declared.op.Op.{Op}
use Rattle.operation.specs.Reading.{IsOp}
use Rattle.operation.specs.Spelling.{spelling}
use Rattle.op_shelf.specs.declared.kept.Kept.{Kept}
use Rattle.op_shelf.specs.declared.kept.Kept.TheVariants.{New, Known}

-- the operations are the same
abbrev pub AreSame : (Op → Type 0) → (Op → Type 0) → Type 0
AreSame old new = (op : Op) → old op ↔ new op

-- One operation more, which was not there, and else the same. Operations that are spelled alike are one.
pub record Gains (old new : Op → Type 0) (op : Op) : Type 0 where
  pub absent : ¬ old op
  pub only : (other : Op) → new other ↔ (old other ⊎ (spelling other ≡ spelling op))

-- the operation was there, and nothing changed
pub record Finds (old new : Op → Type 0) (op : Op) : Type 0 where
  pub there : old op
  pub same : AreSame old new

-- some operations, and this one
abbrev pub with_one : (Op → Type 0) → Op → Op → Type 0
with_one old op other = old other ⊎ (spelling other ≡ spelling op)

-- Of a group each operation, in its turn, was not there and is one more, or was there; and else nothing changed.
abbrev pub GainsAll : (Op → Type 0) → (Op → Type 0) → List Op → List Kept → Type 0
GainsAll old new [] [] = AreSame old new
GainsAll old new [] (kept ∷ kepts) = ⊥
GainsAll old new (op ∷ ops) [] = ⊥
GainsAll old new (op ∷ ops) (New ∷ kepts) = (¬ old op) × GainsAll (with_one old op) new ops kepts
GainsAll old new (op ∷ ops) (Known ∷ kepts) = old op × GainsAll old new ops kepts

-- what was found is spelled as an operation, and is the very one, if that is lawful
abbrev pub IsFoundAs : Option Op → Op → Type 0
IsFoundAs None op = ⊥
IsFoundAs (Some found) op = (spelling found ≡ spelling op) × (IsOp op → found ≡ op)
