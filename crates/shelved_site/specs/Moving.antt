-- What a move brings.
use Rattle.std.specs.Prelude.{◌≡◌, ◌⊎◌, ◌↔◌, ◌+◌, ◌++◌, ℕ, List, [], ◌∷◌, All, length}
use Rattle.operation.specs.declared.op.Op.{Op}
use Rattle.operation.specs.Spelling.{hash_of, spelling}
use Rattle.op_shelf.specs.declared.kept.Kept.{Kept}
use Rattle.op_shelf.specs.declared.kept.Kept.TheVariants.{New, Known}
use Rattle.op_shelf.specs.Keep.{AreSame, GainsAll}
use Rattle.shelved_site.specs.declared.moving.Moved.{Moved}
use Rattle.shelved_site.specs.declared.unreadable.Unreadable.{Unreadable}
use Rattle.shelved_site.specs.Recorded.{AreLoaded, IsAmongListed}

-- how many of some puts found an operation that was not there
abbrev pub count_new : List Kept → ℕ
count_new [] = 0
count_new (New ∷ kepts) = 1 + count_new kepts
count_new (Known ∷ kepts) = count_new kepts

-- an operation is one of these, by their spellings
abbrev pub IsAmong : List Op → Op → Type 0
IsAmong [] op = ⊥
IsAmong (o ∷ ops) op = (spelling op ≡ spelling o) ⊎ IsAmong ops op

-- operations were put one after another, and so many of them were not there
pub record ArePut (old new : Op → Type 0) (ops : List Op) (count : ℕ) : Type 0 where
  pub kepts : List Kept
  pub gained : GainsAll old new ops kepts
  pub counted : count ≡ count_new kepts

-- what was kept before is kept, and what else is kept is one of these operations
pub record JoinsSome (old new : Op → Type 0) (ops : List Op) : Type 0 where
  pub kept : (op : Op) → old op → new op
  pub only : (op : Op) → new op → old op ⊎ IsAmong ops op

-- All operations that a store shows were brought into another, which has what it had and these, and each of them lasts.
-- What is left is counted.
pub record AreMoved (shows : List Unreadable → List Op → Type 0) (old new lasts : Op → Type 0) (moved : Moved) : Type 0
  where
    pub told : List Unreadable
    pub ops : List Op
    pub shown : shows told ops
    pub joined : (op : Op) → new op ↔ (old op ⊎ IsAmong ops op)
    pub lasting : All lasts ops
    pub put : ArePut old new ops moved.new
    pub counted : moved.operations ≡ length ops + length told
    pub left : moved.unread ≡ length told

-- A store has what it had. What else it has is one of the operations that another shows, or it is as it was.
abbrev pub HasSome : (List Op → Type 0) → (Op → Type 0) → (Op → Type 0) → Type 0
HasSome lists old new = AreSame old new ⊎ ((ops : List Op) × lists ops × JoinsSome old new ops)

-- the operations of some records were loaded and put, one after another, and each of them lasts
pub record AreBrought (lists : List Op → Type 0) (old new lasts : Op → Type 0) (recorded : List Op) (count : ℕ) : Type 0
  where
    pub ops : List Op
    pub loaded : AreLoaded lists recorded ops
    pub put : ArePut old new ops count
    pub lasting : All lasts ops

-- those of the first of some records came
pub record AreBroughtInPart (lists : List Op → Type 0) (old new : Op → Type 0) (recorded : List Op) : Type 0 where
  pub done : List Op
  pub rest : List Op
  pub parts : done ++ rest ≡ recorded
  pub ops : List Op
  pub loaded : AreLoaded lists done ops
  pub joined : JoinsSome old new ops

-- A store that was as it had been had cause to refuse the load of an operation that it lists.
pub record RefusesListed {S : Type 0} (is_same : S → Type 0) (lists : List Op → Type 0) (refuses : S → List ℕ → Type 0)
    : Type 0
  where
    pub before : S
    pub same : is_same before
    pub op : Op
    pub among : IsAmongListed lists op
    pub cause : refuses before (hash_of op)
