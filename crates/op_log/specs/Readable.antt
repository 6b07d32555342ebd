-- Which operations of a log are recorded, and which can't be read.
use Rattle.std.specs.Prelude.{◌≡◌, ◌≢◌, ◌⊎◌, ◌+◌, ℕ, suc, List, [], ◌∷◌, Some, All, Contains, length, slice_get}
use Rattle.sqlite_disk.specs.Disk.{MoreFaults}
use Rattle.sqlite_disk.specs.declared.Disk.{Ghosts}
use Rattle.body_log.specs.declared.log.BodyLog.{BodyLog}
use Rattle.body_log.specs.Log.{end_of}
use Rattle.octets.specs.Members.{Has}
use Rattle.operation.specs.Parts.{ContentParts}
use Rattle.operation.specs.declared.op.Op.{Op}
use Rattle.operation.specs.declared.op.Op.TheVariants.{Content as a_content}
use Rattle.operation.specs.Spelling.{digest_of}
use Rattle.op_log.specs.Heads.{Head}
use Rattle.op_log.specs.Kept.{IsBelow}
use Rattle.op_log.specs.Loaded.{IsOf, Lists}
use Rattle.op_log.specs.Recorded.{AreRecordedAs, IsRecordedAs}
use Rattle.op_log.specs.Staged.{Reaches}

-- Heads are parted, from an index on: each has its record next among those that are recorded, or its index next among
-- those that are unreadable.
abbrev pub AreParted : (Head → Op → Type 0) → (Head → Type 0) → ℕ → List Head → List Op → List ℕ → Type 0
AreParted Is Not n [] recorded unreadable = (recorded ≡ []) × (unreadable ≡ [])
AreParted Is Not n (h ∷ heads) recorded unreadable =
    ((r : Op) × (more : List Op) × (recorded ≡ r ∷ more) × Is h r × AreParted Is Not (suc n) heads more unreadable)
    ⊎ ((more : List ℕ) × (unreadable ≡ n ∷ more) × Not h × AreParted Is Not (suc n) heads recorded more)

-- a record has the digest of a head
abbrev pub IsNamed : Head → Op → Type 0
IsNamed h r = digest_of r ≡ h.digest

-- no content is told under the digest of a head
abbrev pub IsUntold : List ContentParts → Head → Type 0
IsUntold told h = (c : ContentParts) → Has told c → digest_of (a_content c) ≢ h.digest

-- the bytes to which a head leads are those of no operation that it is of
abbrev pub IsBad : List ℕ → Head → Type 0
IsBad file h = (op : Op) → ¬ IsOf file h op

-- they are not, or the disk failed to read: the count of its failures rose
abbrev pub IsAmiss : List ℕ → ℕ → ℕ → Head → Type 0
IsAmiss file old new h = IsBad file h ⊎ MoreFaults old new

-- a file reaches to the end of each data set
pub record ReachesAll {B : Type 0} (g : Ghosts B) (bodies : BodyLog B) (heads : List Head) : Type 0 where
  pub below : All (IsBelow (end_of bodies)) heads
  pub reach : Reaches g bodies (end_of bodies)

-- Where the file has the operation of each head, and the disk failed at none, nothing is unreadable.
abbrev pub AllIsReadable : Type 0
AllIsReadable =
    (file : List ℕ) (told : List ContentParts) (heads : List Head) (recorded ops : List Op) (unreadable : List ℕ) (old new : ℕ)
    → AreParted (IsRecordedAs file told) (IsAmiss file old new) 0 heads recorded unreadable → Lists file heads ops
    → ¬ MoreFaults old new → (unreadable ≡ []) × AreRecordedAs file told heads recorded

-- each head has its record or its index, and nothing else has one
abbrev pub EachIsParted : Type 0
EachIsParted =
    (told : List ContentParts) (heads : List Head) (recorded : List Op) (unreadable : List ℕ)
    → AreParted IsNamed (IsUntold told) 0 heads recorded unreadable → (length recorded + length unreadable ≡ length heads)
    × ((index : ℕ) → Has unreadable index → (h : Head) × (slice_get heads index ≡ Some h) × IsUntold told h)
    × ((r : Op) → Has recorded r → (h : Head) × Contains heads h × IsNamed h r)

-- what is listed as unreadable is the index of a head that is amiss
abbrev pub ListedAreAmiss : Type 0
ListedAreAmiss =
    (file : List ℕ) (told : List ContentParts) (heads : List Head) (recorded : List Op) (unreadable : List ℕ) (old new : ℕ)
    → AreParted (IsRecordedAs file told) (IsAmiss file old new) 0 heads recorded unreadable → (index : ℕ) → Has unreadable index
    → (h : Head) × (slice_get heads index ≡ Some h) × IsAmiss file old new h

-- A table has contents under their digests, each of them one of some that are told, and one for each digest of these.
pub record IsTableOf (told : List ContentParts) (entries : List (List ℕ × ContentParts)) : Type 0 where
  pub own : (digest : List ℕ) (c : ContentParts) → Has entries (digest, c)
      → Has told c × (digest_of (a_content c) ≡ digest)
  pub each : (c : ContentParts) → Has told c → (x : ContentParts) × Has entries (digest_of (a_content c), x)
