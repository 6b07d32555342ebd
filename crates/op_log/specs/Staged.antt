-- What is written of operations before their group is.
use Rattle.std.specs.Prelude.{◌≡◌, ◌≢◌, ◌⊎◌, ◌≤◌, ◌<◌, ◌+◌, ◌^◌, ℕ, List, [], ◌∷◌, ◌++◌, All, Bool, length, map, nat_eq, false, None}
use Rattle.std.specs.Prelude.{IsTrue, MatchResult, Result, IsErrOf}
use Rattle.std.specs.Cmp.Lexicographic.{pointwise}
use Rattle.sha2.specs.Sha256.{sha256}
use Rattle.sqlite_disk.specs.Disk.{Holds, MoreFaults}
use Rattle.sqlite_disk.specs.declared.Disk.{Ghosts}
use Rattle.body_log.specs.declared.log.BodyLog.{BodyLog}
use Rattle.body_log.specs.Fault.{CountsAsIf}
use Rattle.body_log.specs.Lasts.{Spares}
use Rattle.body_log.specs.Log.{disk_of, end_of}
use Rattle.operation.specs.declared.op.Op.{Op}
use Rattle.op_log.specs.declared.fault.LogFault.{LogFault}
use Rattle.op_log.specs.declared.fault.LogFault.TheVariants.{Closed, Collision, Disk, TooLong}
use Rattle.op_log.specs.declared.kept.Kept.{Kept}
use Rattle.op_log.specs.declared.group.Group.{Group}
use Rattle.op_log.specs.declared.head.Spelled.{Spelled}
use Rattle.op_log.specs.Heads.{Entry, Head, IsSpelled, group_text}
use Rattle.op_log.specs.Kept.{IsBelow, IsHeld, IsLasting, first_under, with_head, with_heads}
use Rattle.op_log.specs.Places.{head_at}
use Rattle.op_log.specs.Puts.{PutsAll, PutsParts}

-- only what lies behind the end was written
pub record Grows {B : Type 0} (g : Ghosts B) (old new : BodyLog B) : Type 0 where
  pub spared : Spares g (end_of old) (disk_of old) (disk_of new)
  pub longer : end_of old ≤ end_of new
  pub reach : end_of old ≤ length (g.seen (disk_of old)) → end_of new ≤ length (g.seen (disk_of new))

-- the count of a disk's failures stays or rises
abbrev pub StaysOrRises : ℕ → ℕ → Type 0
StaysOrRises old new = (new ≡ old) ⊎ MoreFaults old new

-- a call of the disk failed, and was counted
abbrev pub HasFailed : {B : Type 0} → Ghosts B → BodyLog B → BodyLog B → Type 0
HasFailed g old new = MoreFaults (g.faults (disk_of old)) (g.faults (disk_of new))

-- an operation of these parts was found, or is staged
abbrev pub IsStaged : {B : Type 0} → Ghosts B → BodyLog B → Spelled → Kept → List Head → List Head → Type 0
IsStaged g bodies s kept old new =
    PutsParts g (disk_of bodies) (end_of bodies) s.digest.now s.front.now s.body.now old kept new

-- a file has some bytes where a head leads, and they have its digest behind its front or not
pub record HasBytes (file : List ℕ) (h : Head) (whole : Bool) : Type 0 where
  pub body : List ℕ
  pub size : length body ≡ h.size
  pub held : 0 < h.size → Holds file h.at body
  pub is : pointwise nat_eq (sha256 (h.front ++ body)) h.digest ≡ whole

-- heads stand behind a text, and are taken in memory
pub record HasHeads (old new : List Head) (before after : List ℕ) : Type 0 where
  pub heads : List Head
  pub spelled : All IsSpelled heads
  pub new_is : new ≡ with_heads old heads
  pub text_is : after ≡ before ++ group_text heads

-- The heads of what is new among some operations stand behind the text, and are in memory; their data sets are in the
-- file.
pub record AreStaged {B : Type 0} (g : Ghosts B) (bodies : BodyLog B) (old new : List Head) (before after : Group)
    (ops : List Op) : Type 0 where
  pub heads : HasHeads old new before.text.items after.text.items
  pub kepts : List Kept
  pub told : after.kepts.items ≡ before.kepts.items ++ kepts
  pub put : PutsAll g (disk_of bodies) (end_of bodies) old ops kepts new

-- and each data set that is in the file lasts
pub record AreSettled {B : Type 0} (g : Ghosts B) (bodies : BodyLog B) (old new : List Head) (group : Group)
    (ops : List Op) : Type 0 where
  pub heads : HasHeads old new [] group.text.items
  pub put : PutsAll g (disk_of bodies) (end_of bodies) old ops group.kepts.items new
  pub lasting : (e : Entry) → IsHeld g (disk_of bodies) (end_of bodies) e
      → IsLasting g (disk_of bodies) (end_of bodies) e

-- heads, in which others are put back, the last first
abbrev pub back : List Head → List Head → List Head
back heads [] = heads
back heads (h ∷ replaced) = with_head (back heads replaced) h

-- for each of these there is a head with its digest
abbrev pub AreThere : List Head → List Head → Type 0
AreThere heads [] = Unit {0}
AreThere heads (h ∷ replaced) = (first_under h.digest heads ≢ None) × AreThere heads replaced

-- where what was replaced is put back, the first heads stand again, and perhaps more behind them
pub record IsUndone (first heads replaced : List Head) : Type 0 where
  pub more : List Head
  pub are : back heads replaced ≡ first ++ more
  pub there : AreThere heads replaced

-- what a group has replaced
abbrev pub replaced_in : Group → List Head
replaced_in group = map head_at group.replaced.items

-- nothing was staged yet
pub record IsBegun (group : Group) : Type 0 where
  pub text : group.text.items ≡ []
  pub kepts : group.kepts.items ≡ []
  pub replaced : group.replaced.items ≡ []

-- What was done to the heads in memory can be undone by what was replaced, and the data sets of all lie in the file.
pub record KeepsPlaces {B : Type 0} (old new : BodyLog B) (before after was is : List Head) : Type 0 where
  pub undone : (first : List Head) → IsUndone first before was → IsUndone first after is
  pub below : All (IsBelow (end_of old)) before → All (IsBelow (end_of new)) after

-- so many bytes more at most were written, and a file is told as too long only where it has no room for them
pub record IsWithin {B V : Type 0} (old new : BodyLog B) (many : ℕ) (result : Result V LogFault) : Type 0 where
  pub within : end_of new ≤ end_of old + many
  pub too_long : IsErrOf result TooLong → 2 ^ 64 ≤ end_of old + many

-- a file reaches so far, as long as the disk returns what was written
abbrev pub Reaches : {B : Type 0} → Ghosts B → BodyLog B → ℕ → Type 0
Reaches g bodies end = IsTrue (g.is_clean (disk_of bodies)) → end ≤ length (g.seen (disk_of bodies))

-- the count of the disk's failures stays at `Ok`, and rises where `Disk` is told of a file that reaches so far
abbrev pub Counts : {B V : Type 0} → Ghosts B → ℕ → BodyLog B → BodyLog B → Result V LogFault → Type 0
Counts g end old new result =
    CountsAsIf (Reaches g old end) Disk result (g.faults (disk_of old)) (g.faults (disk_of new))

-- The count of the disk's failures stays or rises at `Ok`, and at `Collision`; it rises where `Disk` is told.
abbrev pub Rises : {B V : Type 0} → Ghosts B → BodyLog B → BodyLog B → Result V LogFault → Type 0
Rises g old new result =
    MatchResult result (λ _. StaysOrRises (g.faults (disk_of old)) (g.faults (disk_of new)))
    (λ fault. (fault ≡ Disk → HasFailed g old new)
    × (fault ≡ Collision → StaysOrRises (g.faults (disk_of old)) (g.faults (disk_of new))))

-- the file is as usable as it was, and only one that was not is told as closed
pub record Uses {B V : Type 0} (g : Ghosts B) (old new : BodyLog B) (result : Result V LogFault) : Type 0 where
  pub usable : g.is_usable (disk_of new) ≡ g.is_usable (disk_of old)
  pub closed : IsErrOf result Closed → g.is_usable (disk_of old) ≡ false
