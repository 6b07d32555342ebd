-- How frames are written to a device, and why they were not.
use Rattle.std.specs.Prelude.{◌≡◌, ◌⊎◌, ℕ, List, [], ◌∷◌, ◌++◌, Option, Result, Ok, Err, true, false, ⊤}
use Rattle.std.specs.Prelude.{IfOk, IfSome}
use Rattle.std.specs.List.{list_any, AllByRecursion}
use Rattle.std.specs.Io.KnownBytes.{Appends}
use Rattle.octets.specs.Members.{Has}
use Rattle.operation.specs.declared.op.Op.{Op}
use Rattle.site_state.specs.Site.{Map}
use Rattle.exchange_frames.specs.declared.frame.Frame.{Frame}
use Rattle.exchange_frames.specs.declared.frame.Frame.TheVariants.{Have, Want, Give, End, Buckets, Differ, Hello}
use Rattle.exchange_frames.specs.Spelling.{IsFrame}
use Rattle.exchange_frames.specs.Writing.{is_too_long}
use Rattle.exchange.specs.declared.fault.ExchangeFault.{ExchangeFault}
use Rattle.exchange.specs.declared.fault.ExchangeFault.TheVariants.{BadFrame, TooLong, Stranger, Io, Memory, Turns}
use Rattle.exchange.specs.declared.fault.ExchangeFault.TheVariants.{Refused}
use Rattle.exchange.specs.declared.fault.HolderFault.{HolderFault}
use Rattle.exchange.specs.declared.fault.HolderFault.TheVariants.{Unreadable}
use Rattle.exchange.specs.Held.{StandsFor, AreLoaded, HasGrown}
use Rattle.exchange.specs.declared.side.Said.{Said}
use Rattle.exchange.specs.Course.{IsOfHolder, IsSaid, Idles, gifts_of}
use Rattle.exchange.specs.Hearing.{texts}

-- these come first in all
abbrev pub IsFront : List ℕ → List ℕ → Type 0
IsFront bytes all = (more : List ℕ) × (all ≡ bytes ++ more)

-- A front of a text was written.
abbrev pub WroteFront : Option (List ℕ) → Option (List ℕ) → List ℕ → Type 0
WroteFront w0 w1 text = (out : List ℕ) × Appends w0 w1 out × IsFront out text

-- Why frames were not written: the device failed, memory was refused, or one of them is longer than is written.
abbrev pub WhyUnwritten : List Frame → ExchangeFault → Type 0
WhyUnwritten frames BadFrame = ⊥
WhyUnwritten frames TooLong = list_any is_too_long frames ≡ true
WhyUnwritten frames Stranger = ⊥
WhyUnwritten frames Io = ⊤
WhyUnwritten frames Memory = ⊤
WhyUnwritten frames Turns = ⊥
WhyUnwritten frames Refused = ⊥

-- A GIVE is among these frames.
abbrev pub HasGive : List Frame → Type 0
HasGive frames = (op : Op) × Has frames (Give op)

-- Why frames were not said: they were not written, or the holder refused to load an operation that is given.
abbrev pub WhyUnsaid : List Frame → ExchangeFault → Type 0
WhyUnsaid frames fault = WhyUnwritten frames fault ⊎ (IsOfHolder fault × HasGive frames)

-- The operation of a GIVE is one that can be read.
abbrev pub GivesLawful : Frame → Type 0
GivesLawful (Have digests) = ⊤
GivesLawful (Want digests) = ⊤
GivesLawful (Give op) = IsFrame (Give op)
GivesLawful End = ⊤
GivesLawful (Buckets digests) = ⊤
GivesLawful (Differ places) = ⊤
GivesLawful (Hello version) = ⊤

-- what is known of a frame once it is written
abbrev pub IsSayable : Frame → Type 0
IsSayable frame = (is_too_long frame ≡ false) × GivesLawful frame

abbrev pub AreSayable : List Frame → Type 0
AreSayable frames = AllByRecursion IsSayable frames

-- All of some frames were written, or a front of them, and why no more.
abbrev pub Speaks : {X : Type 0} → Option (List ℕ) → Option (List ℕ) → List Frame → Result X ExchangeFault → Type 0
Speaks w0 w1 frames (Ok x) = Appends w0 w1 (texts frames) × AreSayable frames
Speaks w0 w1 frames (Err fault) = WroteFront w0 w1 (texts frames) × WhyUnsaid frames fault

-- Since it was this, the holder refused to load the operation under a digest, as one that can't be read.
pub record WasUnreadable {H : Type 0} (holds : H → Map) (alone : H → Type 0)
    (refuses_load : H → H → List ℕ → HolderFault → Type 0) (start : H) (digest : List ℕ) : Type 0 where
  pub before : H
  pub after : H
  pub since : HasGrown (holds start) (holds before)
  pub idle : Idles holds alone before after
  pub refused : refuses_load before after digest Unreadable

-- A GIVE was written, or a front of it, of an operation for which stands what a set has under a digest.
abbrev pub SpeaksGive : Map → List ℕ → Option (List ℕ) → Option (List ℕ) → Result (Unit {0}) ExchangeFault → Type 0
SpeaksGive m digest w0 w1 result = (op : Op) × StandsFor m digest op × Speaks w0 w1 (Give op ∷ []) result

-- Nothing was written of an operation that could not be read, which was passed over behind those before it.
pub record PassesOver (Unread : List ℕ → Type 0) (digest : List ℕ) (w0 w1 : Option (List ℕ))
    (before after : List (List ℕ)) : Type 0 where
  pub refused : Unread digest
  pub wrote : w1 ≡ w0
  pub passed : after ≡ before ++ digest ∷ []

-- A GIVE was written, and nothing passed over, or the operation was passed over; or a front of a GIVE was written.
abbrev pub SpeaksNext : (List ℕ → Type 0) → Map → List ℕ → Option (List ℕ) → Option (List ℕ) → List (List ℕ)
    → List (List ℕ) → Result (Unit {0}) ExchangeFault → Type 0
SpeaksNext Unread m digest w0 w1 before after (Ok x) =
    (SpeaksGive m digest w0 w1 (Ok x) × (after ≡ before)) ⊎ PassesOver Unread digest w0 w1 before after
SpeaksNext Unread m digest w0 w1 before after (Err fault) = SpeaksGive m digest w0 w1 (Err fault)

-- GIVEs of what is held under some digests were written, and END, or a front of that; each digest that was passed over
-- could not be read, and all of these are answered.
pub record SpeaksGifts (Unread : List ℕ → Type 0) (m : Map) (digests : List (List ℕ)) (w0 w1 : Option (List ℕ))
    (result : Result (List (List ℕ)) ExchangeFault) : Type 0 where
  pub ops : List Op
  pub unread : List (List ℕ)
  pub loaded : AreLoaded m digests ops unread
  pub spoke : Speaks w0 w1 (gifts_of ops) result
  pub refused : AllByRecursion Unread unread
  pub answer : IfOk result (λ passed. passed ≡ unread)

-- What a side says was written, or a front of it: what is given are operations for which stands what a set has, and
-- each that was passed over could not be read. All of these are answered.
pub record SpeaksSaid (Unread : List ℕ → Type 0) (m : Map) (said : Said) (w0 w1 : Option (List ℕ))
    (result : Result (Option (List (List ℕ))) ExchangeFault) : Type 0 where
  pub told : List Frame
  pub unread : Option (List (List ℕ))
  pub says : IsSaid m said told unread
  pub spoke : Speaks w0 w1 told result
  pub refused : IfSome unread (AllByRecursion Unread)
  pub answer : IfOk result (λ passed. passed ≡ unread)
