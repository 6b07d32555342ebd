-- Operations that were read ahead of their turns, and what is known of them before they are hashed.
use Rattle.std.specs.Prelude.{◌≡◌, List, [], ◌∷◌, ℕ}
use Rattle.operation.specs.declared.op.Op.{Op}
use Rattle.operation.specs.Spelling.{hash_of}
use Rattle.op_log.specs.declared.fetched.Hashing.{Hashing}
use Rattle.op_log.specs.declared.fetched.Hashing.TheVariants as hashing
use Rattle.op_log.specs.Heads.{Head}
use Rattle.op_log.specs.Loaded.{IsOf}

-- hashed or not, it is the same operation
abbrev pub op_of : Hashing → Op
op_of (hashing.Read op) = op
op_of (hashing.Hashed op) = op

-- a head under another digest
abbrev pub under : List ℕ → Head → Head
under digest h = record { digest = digest; front = h.front; at = h.at; size = h.size }

-- An operation was read where a head says: under its own digest that head is its, and if the head is that of an
-- operation, it is this one.
pub record IsReadAt (file : List ℕ) (h : Head) (op : Op) : Type 0 where
  pub own : IsOf file (under (hash_of op) h) op
  pub only : (other : Op) → IsOf file h other → op ≡ other

-- operations were read where the first of some heads say, one by one
abbrev pub AreRead : List ℕ → List Op → List Head → Type 0
AreRead file [] heads = Unit {0}
AreRead file (op ∷ ops) [] = ⊥
AreRead file (op ∷ ops) (h ∷ heads) = IsReadAt file h op × AreRead file ops heads
