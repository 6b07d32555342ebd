-- The operation that a text spells.
use Rattle.std.proofs.Common.{◌≡◌, ◌-◌, ◌++◌, ℕ, List, length, sym, ◌∙◌, ap}
use Rattle.std.proofs.lemmas.List.{take-append-drop}
use Rattle.operation.specs.declared.op.Op.{Op}
use Rattle.operation.specs.Reading.{IsOp}
use Rattle.operation.specs.Spelling.{spelling}
use Rattle.operation.proofs.OutcomeLaws.{spelling_once}
use Rattle.op_log.specs.Heads.{body_of, front_of, size_of}

-- both parts of a spelling are all of it
pub both_parts : (op : Op) → front_of op ++ body_of op ≡ spelling op
unfolding front_of body_of
both_parts op = take-append-drop (length (spelling op) - size_of op) (spelling op)

-- a text of both parts spells the operation
pub spelled : (op : Op) (text front : List ℕ) → text ≡ front ++ body_of op → front ≡ front_of op → text ≡ spelling op
spelled op text front is same = is ∙ ap (λ (xs : List ℕ). xs ++ body_of op) same ∙ both_parts op

-- and no other
pub same_op : (a b : Op) (text : List ℕ) → IsOp a → IsOp b → text ≡ spelling a → text ≡ spelling b → a ≡ b
same_op a b text lawful lawful' is other = spelling_once a b lawful lawful' (sym is ∙ other)
