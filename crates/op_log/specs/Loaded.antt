-- What lies at a place, and the operations that are loaded.
use Rattle.std.specs.Prelude.{◌≡◌, ◌<◌, ℕ, List, [], ◌∷◌, ◌++◌, length, Contains}
use Rattle.sqlite_disk.specs.Disk.{Holds}
use Rattle.operation.specs.declared.op.Op.{Op}
use Rattle.operation.specs.Reading.{IsOp}
use Rattle.op_log.specs.declared.head.Spelled.{Spelled}
use Rattle.op_log.specs.declared.place.Place.{Place}
use Rattle.op_log.specs.Heads.{Head, head_of}
use Rattle.op_log.specs.Kept.{HasBody}

-- a place has the front of an operation, and the file its data set there
pub record AreParts (file : List ℕ) (place : Place) (s : Spelled) : Type 0 where
  pub front : place.front ≡ s.front.now
  pub size : place.size ≡ length s.body.now
  pub held : 0 < place.size → Holds file place.at s.body.now

-- a text is the front of a place, and behind it what the file has there
pub record IsFrontAnd (file : List ℕ) (place : Place) (text : List ℕ) : Type 0 where
  pub body : List ℕ
  pub text_is : text ≡ place.front ++ body
  pub size : length body ≡ place.size
  pub held : 0 < place.size → Holds file place.at body

-- a head is that of an operation, and the file has its data set there
pub record IsOf (file : List ℕ) (h : Head) (op : Op) : Type 0 where
  pub lawful : IsOp op
  pub head : h ≡ head_of (op, h.at)
  pub held : HasBody file (op, h.at)

-- the operations are those of the heads, one by one
abbrev pub Lists : List ℕ → List Head → List Op → Type 0
Lists file [] [] = Unit {0}
Lists file [] (op ∷ ops) = ⊥
Lists file (h ∷ heads) [] = ⊥
Lists file (h ∷ heads) (op ∷ ops) = IsOf file h op × Lists file heads ops

-- some head, whose data set lies at this offset, is that of no operation
pub record HasBadHead (file : List ℕ) (heads : List Head) (at : ℕ) : Type 0 where
  pub head : Head
  pub among : Contains heads head
  pub place : head.at ≡ at
  pub none : (op : Op) → ¬ IsOf file head op
