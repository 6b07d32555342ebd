-- What a whole exchange reads, says and leaves, over its devices and its holder.
use Rattle.std.specs.Prelude.{◌≡◌, ◌⊎◌, ◌≤◌, ◌+◌, ◌↔◌, ℕ, List, [], ◌++◌, length, Option, Result, Ok, Err, IsTrue}
use Rattle.std.specs.List.{AllByRecursion}
use Rattle.std.specs.Io.KnownBytes.{Consumes, Appends}
use Rattle.devices.specs.Failures.{Rose}
use Rattle.operation.specs.declared.op.Op.{Op}
use Rattle.site_state.specs.Site.{Map}
use Rattle.exchange_frames.specs.declared.frame.Frame.{Frame}
use Rattle.exchange_frames.specs.Spelling.{text_of, IsFrame}
use Rattle.exchange.specs.declared.fault.HolderFault.{HolderFault}
use Rattle.exchange.specs.declared.fault.HolderFault.TheVariants as holders
use Rattle.exchange.specs.declared.fault.ExchangeFault.{ExchangeFault}
use Rattle.exchange.specs.declared.fault.ExchangeFault.TheVariants.{BadFrame, TooLong, Stranger, Io, Memory, Turns}
use Rattle.exchange.specs.declared.fault.ExchangeFault.TheVariants.{Refused}
use Rattle.exchange.specs.declared.role.Role.{Role}
use Rattle.exchange.specs.declared.role.Ended.{Ended}
use Rattle.exchange.specs.declared.run.TheConstants.{MOST_READS}
use Rattle.exchange.specs.declared.side.Side.{Side}
use Rattle.exchange.specs.declared.task.Awaited.TheVariants as awaits
use Rattle.exchange.specs.declared.task.Task.{Task}
use Rattle.exchange.specs.Tasks.{task_for}
use Rattle.exchange.specs.Course.{Talks, Idles, IsOfHolder, Why, HasRefused}
use Rattle.exchange.specs.Hearing.{texts, AreFrames, WhyUnheard}
use Rattle.exchange.specs.RunLaws.{Outcome, IsGivenAll, HoldsWhatWasOffered, HoldsWhatWasShown, NoPlaceDiffers}
use Rattle.exchange.specs.RunLaws.{AreSeenWhole}
use Rattle.exchange.specs.Saying.{IsFront, WhyUnsaid, WasUnreadable}

-- the holder, what the reader has left, what the writer holds, and how often each of the devices failed
pub record Ends (H : Type 0) : Type 0 where
  pub holder : H
  pub left : Option (List ℕ)
  pub written : Option (List ℕ)
  pub read_failures : ℕ
  pub write_failures : ℕ

abbrev pub ends : {H : Type 0} → H → Option (List ℕ) → Option (List ℕ) → ℕ → ℕ → Ends H
ends holder left written read_failures write_failures = record {
  holder = holder;
  left = left;
  written = written;
  read_failures = read_failures;
  write_failures = write_failures;
}

-- No device failed.
abbrev pub NoneFailed : {H : Type 0} → Ends H → Ends H → Type 0
NoneFailed from to = (to.read_failures ≡ from.read_failures) × (to.write_failures ≡ from.write_failures)

-- Where Io is told one of the devices failed, and else none did.
abbrev pub CountsFailures : {H : Type 0} → ExchangeFault → Ends H → Ends H → Type 0
CountsFailures BadFrame from to = NoneFailed from to
CountsFailures TooLong from to = NoneFailed from to
CountsFailures Stranger from to = NoneFailed from to
CountsFailures Io from to =
    (Rose from.read_failures to.read_failures × (to.write_failures ≡ from.write_failures))
    ⊎ ((to.read_failures ≡ from.read_failures) × Rose from.write_failures to.write_failures)
CountsFailures Memory from to = NoneFailed from to
CountsFailures Turns from to = NoneFailed from to
CountsFailures Refused from to = NoneFailed from to

-- Each of these the holder refused to load, as one that can't be read, since it was this.
abbrev pub WereUnreadable : {H : Type 0} → (H → Map) → (H → Type 0) → (H → H → List ℕ → HolderFault → Type 0) → H
    → List (List ℕ) → Type 0
WereUnreadable holds alone refuses_load start digests =
    AllByRecursion (WasUnreadable holds alone refuses_load start) digests

-- ---- an exchange that ended

-- Just the frames of this role were read and written, each of those that were said over a set that the holder had.
-- What was passed over, where operations were given, the holder refused to load as what can't be read.
pub record Exchanged {H : Type 0} (holds : H → Map) (alone : H → Type 0)
    (refuses_load : H → H → List ℕ → HolderFault → Type 0) (role : Role) (from to : Ends H) (ended : Ended)
    : Type 0 where
  pub heard : List Frame
  pub told : List Frame
  pub side : Side
  pub talk : Talks holds alone role from.holder heard told side to.holder
  pub comes_to : Outcome holds alone from.holder heard told side to.holder
  pub heard_are : AreFrames heard
  pub told_are : AreFrames told
  pub over : side.awaited ≡ awaits.Nothing
  pub read : Consumes from.left to.left (texts heard)
  pub wrote : Appends from.written to.written (texts told)
  pub given : ended.given ≡ side.given
  pub taken : ended.taken ≡ side.taken
  pub unread : ended.unread ≡ length side.unread
  pub refused : WereUnreadable holds alone refuses_load from.holder side.unread
  pub finished : IsTrue ended.finished ↔ IsGivenAll heard told
  pub have : IsTrue ended.finished → HoldsWhatWasOffered (holds to.holder) heard
  pub shown : HoldsWhatWasShown holds alone side.round.version (IsTrue ended.finished) from.holder heard told to.holder
  pub agreed : IsTrue ended.agreed ↔ NoPlaceDiffers heard told
  pub whole : ended.whole ≡ side.whole
  pub seen_whole : IsTrue ended.whole → AreSeenWhole heard told
  pub failed : NoneFailed from to

-- ---- an exchange that was broken off

-- Why it was: behind the frames that were heard came a text that is no frame, or no text, once all was said; or a frame
-- that was refused; or what is said could not be written, or not be loaded.
abbrev pub WhyBroke : Option (List ℕ) → Side → List Frame → List ℕ → List ℕ → ExchangeFault → Type 0
WhyBroke r1 side told rest out fault =
    ((out ≡ texts told) × WhyUnheard r1 rest fault)
    ⊎ (((out ≡ texts told) × ((frame : Frame) × (rest ≡ text_of frame) × IsFrame frame
    × Why (task_for side.awaited frame side.role) side fault)) ⊎ ((rest ≡ []) × WhyUnsaid told fault))

-- These frames were heard, and a front was written of what is said for them; what was taken stays.
pub record BrokenOff {H : Type 0} (holds : H → Map) (alone : H → Type 0)
    (refuses_load : H → H → List ℕ → HolderFault → Type 0) (role : Role) (from to : Ends H) (fault : ExchangeFault)
    : Type 0 where
  pub heard : List Frame
  pub told : List Frame
  pub side : Side
  pub mid : H
  pub talk : Talks holds alone role from.holder heard told side mid
  pub comes_to : Outcome holds alone from.holder heard told side mid
  pub refused : WereUnreadable holds alone refuses_load from.holder side.unread
  pub idle : Idles holds alone mid to.holder
  pub rest : List ℕ
  pub read : Consumes from.left to.left (texts heard ++ rest)
  pub out : List ℕ
  pub wrote : Appends from.written to.written out
  pub front : IsFront out (texts told)
  pub why : WhyBroke to.left side told rest out fault
  pub turns : fault ≡ Turns → MOST_READS ≤ length (texts heard ++ rest)
  pub failed : CountsFailures fault from to

-- Nothing was said or heard, since the holder refused.
pub record Unbegun {H : Type 0} (holds : H → Map) (alone : H → Type 0) (from to : Ends H) (fault : ExchangeFault)
    : Type 0 where
  pub idle : Idles holds alone from.holder to.holder
  pub read : Consumes from.left to.left []
  pub wrote : Appends from.written to.written []
  pub why : IsOfHolder fault
  pub failed : NoneFailed from to

abbrev pub EndsEarly : {H : Type 0} → (H → Map) → (H → Type 0) → (H → H → List ℕ → HolderFault → Type 0) → Role
    → Ends H → Ends H → ExchangeFault → Type 0
EndsEarly holds alone refuses_load role from to fault =
    Unbegun holds alone from to fault ⊎ BrokenOff holds alone refuses_load role from to fault

-- The last that was asked of a holder it refused, for another cause than want of memory: what a task asks for, or to
-- load the operation under a digest.
pub record WasRefused {H : Type 0} (holds : H → Map) (alone : H → Type 0)
    (refuses_look : H → H → HolderFault → Type 0) (refuses_take : H → H → Op → HolderFault → Type 0)
    (refuses_load : H → H → List ℕ → HolderFault → Type 0) (after : H) : Type 0 where
  pub before : H
  pub idle : Idles holds alone before after
  pub refused : ((task : Task) × HasRefused refuses_look refuses_take task before after)
      ⊎ ((digest : List ℕ) × refuses_load before after digest holders.Refused)

-- ---- turns

-- all that was heard and said so far, in n turns, with so many reads left
pub record Progress {H : Type 0} (holds : H → Map) (alone : H → Type 0)
    (refuses_load : H → H → List ℕ → HolderFault → Type 0) (role : Role) (from now : Ends H) (side : Side)
    (reads n : ℕ) : Type 0 where
  pub heard : List Frame
  pub told : List Frame
  pub talk : Talks holds alone role from.holder heard told side now.holder
  pub refused : WereUnreadable holds alone refuses_load from.holder side.unread
  pub heard_are : AreFrames heard
  pub told_are : AreFrames told
  pub read : Consumes from.left now.left (texts heard)
  pub wrote : Appends from.written now.written (texts told)
  pub many : MOST_READS ≤ reads + length (texts heard)
  pub turned : n ≤ length (texts heard)
  pub few : side.taken ≤ n
  pub failed : NoneFailed from now

-- what a turn leads to
abbrev pub Turned : {H : Type 0} → (H → Map) → (H → Type 0) → (H → H → List ℕ → HolderFault → Type 0) → Role
    → Ends H → Ends H → Side → ℕ → ℕ → Result (Unit {0}) ExchangeFault → Type 0
Turned holds alone refuses_load role from to side reads n (Ok x) =
    Progress holds alone refuses_load role from to side reads (n + 1)
Turned holds alone refuses_load role from to side reads n (Err fault) =
    EndsEarly holds alone refuses_load role from to fault
