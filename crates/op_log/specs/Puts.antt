-- What puts make of the heads.
use Rattle.std.specs.Prelude.{◌≡◌, ◌≢◌, ◌+◌, ◌<◌, ◌≤◌, ℕ, List, [], ◌∷◌, ◌++◌, ◌⊎◌, Bool, true, false, length, Some, IsTrue}
use Rattle.std.specs.Prelude.{nat_eq}
use Rattle.std.specs.Cmp.Lexicographic.{pointwise}
use Rattle.sha2.specs.Sha256.{sha256}
use Rattle.sqlite_disk.specs.Disk.{Holds}
use Rattle.sqlite_disk.specs.declared.Disk.{Ghosts}
use Rattle.operation.specs.declared.op.Op.{Op}
use Rattle.operation.specs.Spelling.{hash_of}
use Rattle.op_log.specs.declared.kept.Kept.{Kept}
use Rattle.op_log.specs.declared.kept.Kept.TheVariants.{New, Known}
use Rattle.op_log.specs.Heads.{Entry, Head, body_of, front_of, IsSpelled}
use Rattle.op_log.specs.Kept.{HasBody, IsHeld, StandsFor, first_under, with_head}

-- the head of a digest, a front and a data set that lies at an offset
abbrev pub head_from : List ℕ → List ℕ → List ℕ → ℕ → Head
head_from digest front body at = record { digest = digest; front = front; at = at; size = length body }

-- the bytes to which a head leads, below an offset, and whether they have its digest behind its front
pub record LeadsTo {B : Type 0} (g : Ghosts B) (disk : B) (end : ℕ) (h : Head) (whole : Bool) : Type 0 where
  pub body : List ℕ
  pub size : length body ≡ h.size
  pub lies : 0 < length body → Holds (g.seen disk) h.at body × (h.at + length body ≤ end)
  pub is : pointwise nat_eq (sha256 (h.front ++ body)) h.digest ≡ whole

module _ {B : Type 0} (g : Ghosts B) (disk : B) (end : ℕ) where
  -- a data set lies at an offset of the file, below another
  abbrev pub LiesAt : ℕ → List ℕ → Type 0
  LiesAt at body = 0 < length body → Holds (g.seen disk) at body × (at + length body ≤ end)

  -- the first head with a digest is that of these parts, and their data set lies where it says
  abbrev pub HasParts : List ℕ → List ℕ → List ℕ → List Head → Type 0
  HasParts digest front body heads =
      (at : ℕ) × (first_under digest heads ≡ Some (head_from digest front body at)) × LiesAt at body

  -- No operation is to be read under a digest: no head has it, or the first that has it has this front, and leads to bytes
  -- of another digest, as long as the disk returns what was written.
  abbrev pub IsUnread : List ℕ → List ℕ → List Head → Type 0
  IsUnread digest front heads =
      (h : Head) → first_under digest heads ≡ Some h
      → (h.front ≡ front) × (IsTrue (g.is_clean disk) → LeadsTo g disk end h false)

  -- A head has the digest, and as long as the disk returns what was written, it is not that of these parts: it has
  -- another front, or it leads to bytes that have the digest.
  abbrev pub ClashesParts : List ℕ → List ℕ → List ℕ → List Head → Type 0
  ClashesParts digest front body heads =
      (h : Head) × (first_under digest heads ≡ Some h) × (IsTrue (g.is_clean disk) → ¬ HasParts digest front body heads)
      × ((h.front ≢ front) ⊎ (IsTrue (g.is_clean disk) → LeadsTo g disk end h true))

  -- another operation has the digest of one
  abbrev pub Clashes : Op → List Head → Type 0
  Clashes op heads = ClashesParts (hash_of op) (front_of op) (body_of op) heads

  -- A put makes one head more, where none can be read under the digest, in the place of the one that has it; or it
  -- finds the operation, as long as the disk returns what was written, and makes none.
  abbrev pub PutsParts : List ℕ → List ℕ → List ℕ → List Head → Kept → List Head → Type 0
  PutsParts digest front body old New new = IsUnread digest front old
      × ((at : ℕ) × (new ≡ with_head old (head_from digest front body at)) × IsSpelled (head_from digest front body at)
      × LiesAt at body)
  PutsParts digest front body old Known new = (IsTrue (g.is_clean disk) → HasParts digest front body old) × (new ≡ old)

  -- the same of an operation
  abbrev pub Puts : List Head → Op → Kept → List Head → Type 0
  Puts old op kept new = PutsParts (hash_of op) (front_of op) (body_of op) old kept new

  -- one put after another
  abbrev pub PutsAll : List Head → List Op → List Kept → List Head → Type 0
  PutsAll old [] [] new = new ≡ old
  PutsAll old [] (kept ∷ kepts) new = ⊥
  PutsAll old (op ∷ ops) [] new = ⊥
  PutsAll old (op ∷ ops) (kept ∷ kepts) new = (mid : List Head) × Puts old op kept mid × PutsAll mid ops kepts new

  -- one put after another comes to an operation whose digest another has
  abbrev pub ComesToClash : List Head → List Op → Type 0
  ComesToClash old [] = ⊥
  ComesToClash old (op ∷ ops) =
      Clashes op old ⊎ ((kept : Kept) × (mid : List Head) × Puts old op kept mid × ComesToClash mid ops)

-- a crash leaves the heads from before, or those afterwards
abbrev pub LeavesEither : {H : Type 0} → Ghosts H → H → List Head → List Head → Type 0
LeavesEither g disk old new = (c : List ℕ) → g.may_leave disk c → StandsFor c old ⊎ StandsFor c new

-- what a crash left of two files stands for all that puts make, and has each data set that was in the file
pub record LeavesAllOf {B : Type 0} (g : Ghosts B) (bodies : B) (end : ℕ) (old : List Head) (ops : List Op)
    (h b : List ℕ) : Type 0
  where
    pub kepts : List Kept
    pub heads : List Head
    pub put : PutsAll g bodies end old ops kepts heads
    pub stands : StandsFor h heads
    pub bodies_are : (e : Entry) → IsHeld g bodies end e → HasBody b e

-- whatever a crash leaves of both files stands for the heads from before, or for all that puts make
abbrev pub LeavesAllOrNone : {H B : Type 0} → Ghosts H → Ghosts B → H → B → ℕ → List Head → List Op → Type 0
LeavesAllOrNone gh gb heads bodies end old ops =
    (h b : List ℕ) → gh.may_leave heads h → gb.may_leave bodies b
    → StandsFor h old ⊎ LeavesAllOf gb bodies end old ops h b
