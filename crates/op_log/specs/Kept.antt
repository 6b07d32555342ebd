-- What two files keep of operations: one has their heads, in groups, and the other their data sets.
use Rattle.std.specs.Prelude.{◌≡◌, ◌+◌, ◌≤◌, ◌<◌, ℕ, List, [], ◌∷◌, ◌++◌, length, map, All, Option, Some, None}
use Rattle.std.specs.Prelude.{if◌then◌else◌, nat_eq, Contains}
use Rattle.std.specs.Cmp.Lexicographic.{pointwise}
use Rattle.sqlite_disk.specs.Disk.{Holds}
use Rattle.sqlite_disk.specs.declared.Disk.{Ghosts}
use Rattle.body_log.specs.Lasts.{Lasts}
use Rattle.head_log.specs.declared.gate.Gate.{Gate}
use Rattle.head_log.specs.Groups.{IsReady, joined}
use Rattle.head_log.specs.Groups.{StandsFor as HasGroups}
use Rattle.operation.specs.declared.op.Op.{Op}
use Rattle.operation.specs.Spelling.{hash_of}
use Rattle.op_log.specs.Heads.{Entry, Head, body_of, head_of, group_text, IsSpelled}

-- the first head with a digest
abbrev pub first_under : List ℕ → List Head → Option Head
first_under digest [] = None
first_under digest (h ∷ heads) = if pointwise nat_eq digest h.digest then Some h else first_under digest heads

-- one head more: in the place of the first with its digest, or else behind the others
abbrev pub with_head : List Head → Head → List Head
with_head [] h = h ∷ []
with_head (k ∷ heads) h = if pointwise nat_eq h.digest k.digest then h ∷ heads else k ∷ with_head heads h

-- several more, one after another
abbrev pub with_heads : List Head → List Head → List Head
with_heads heads [] = heads
with_heads heads (h ∷ more) = with_heads (with_head heads h) more

-- of heads with one digest the last counts, and it stands where the first does
abbrev pub settled : List Head → List Head
settled heads = with_heads [] heads

-- no two of some heads have one digest: each is the first with its own
abbrev pub HaveOwnDigests : List Head → Type 0
HaveOwnDigests heads = (h : Head) → Contains heads h → first_under h.digest heads ≡ Some h

-- no two of those that settled have one digest
abbrev pub SettledHaveOwn : Type 0
SettledHaveOwn = (heads : List Head) → HaveOwnDigests (settled heads)

-- and the last of some heads is the one that counts under its digest
abbrev pub LastCounts : Type 0
LastCounts = (heads : List Head) (h : Head) → first_under h.digest (settled (heads ++ h ∷ [])) ≡ Some h

-- A file of groups stands for these heads, in this order: what was put again is of the head that came last.
pub record StandsFor (file : List ℕ) (heads : List Head) : Type 0 where
  pub groups : List (List Head)
  pub are : settled (joined groups) ≡ heads
  pub laid : HasGroups file (map group_text groups)
  pub spelled : All IsSpelled (joined groups)

-- and so does whatever a crash leaves of it
pub record IsKept {H : Type 0} (g : Ghosts H) (disk : H) (end : Gate) (heads : List Head) : Type 0 where
  pub groups : List (List Head)
  pub are : settled (joined groups) ≡ heads
  pub ready : IsReady g disk end (map group_text groups)
  pub spelled : All IsSpelled (joined groups)

-- A file stands for the heads that it stood for, and what a crash leaves of it for those that some crash could leave
-- before.
pub record KeepsHeads {H : Type 0} (g : Ghosts H) (old new : H) : Type 0 where
  pub stands : (them : List Head) → StandsFor (g.seen old) them → StandsFor (g.seen new) them
  pub left : (c : List ℕ) → g.may_leave new c → (d : List ℕ) × g.may_leave old d
      × ((them : List Head) → StandsFor d them → StandsFor c them)

-- the data set of an entry lies where the entry says
abbrev pub HasBody : List ℕ → Entry → Type 0
HasBody file e = 0 < length (body_of e.0) → Holds file e.1 (body_of e.0)

-- the data set lies there, below an offset
abbrev pub IsHeld : {B : Type 0} → Ghosts B → B → ℕ → Entry → Type 0
IsHeld g disk end e =
    0 < length (body_of e.0) → Holds (g.seen disk) e.1 (body_of e.0) × (e.1 + length (body_of e.0) ≤ end)

-- and does so, whatever a crash leaves
abbrev pub IsLasting : {B : Type 0} → Ghosts B → B → ℕ → Entry → Type 0
IsLasting g disk end e =
    0 < length (body_of e.0) → Lasts g disk e.1 (body_of e.0) × (e.1 + length (body_of e.0) ≤ end)

-- a data set lies below an offset
abbrev pub IsBelow : ℕ → Head → Type 0
IsBelow end h = h.at + h.size ≤ end

-- the first head with the digest of an operation is its own, and its data set lies where that says
abbrev pub Has : {B : Type 0} → Ghosts B → B → ℕ → List Head → Op → Type 0
Has g disk end heads op =
    (at : ℕ) × (first_under (hash_of op) heads ≡ Some (head_of (op, at))) × IsHeld g disk end (op, at)

-- the same of two files
abbrev pub AreOf : List Head → List ℕ → Op → Type 0
AreOf heads bodies op =
    (at : ℕ) × (first_under (hash_of op) heads ≡ Some (head_of (op, at))) × HasBody bodies (op, at)
