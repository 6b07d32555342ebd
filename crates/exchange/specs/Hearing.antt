-- How a frame is read from a device, and why none was.
use Rattle.std.specs.Prelude.{◌≡◌, ◌⊎◌, ◌<◌, ◌≤◌, ◌+◌, ℕ, List, ◌++◌, length, Option, None, Result, Ok, Err, Bool, true}
use Rattle.std.specs.Prelude.{false}
use Rattle.std.specs.Prelude.{MatchBool, ⊤}
use Rattle.std.specs.List.{flat_map, AllByRecursion}
use Rattle.std.specs.Io.KnownBytes.{Consumes, IsAtEnd}
use Rattle.devices.specs.Failures.{Rose}
use Rattle.exchange_frames.specs.declared.fault.FrameFault.{FrameFault}
use Rattle.exchange_frames.specs.declared.fault.FrameFault.TheVariants as frames
use Rattle.exchange_frames.specs.declared.frame.Frame.{Frame}
use Rattle.exchange_frames.specs.declared.header.TheConstants.{HEADER_LENGTH}
use Rattle.exchange_frames.specs.Header.{HeaderParts, header_fault, header_at, header_text}
use Rattle.exchange_frames.specs.Reading.{HasFault}
use Rattle.exchange_frames.specs.Spelling.{text_of, IsFrame}
use Rattle.exchange.specs.declared.fault.ExchangeFault.{ExchangeFault}
use Rattle.exchange.specs.declared.fault.ExchangeFault.TheVariants.{BadFrame, TooLong, Stranger, Io, Memory, Turns}
use Rattle.exchange.specs.declared.fault.ExchangeFault.TheVariants.{Refused}

-- ---- failures of a device

abbrev pub is_io : ExchangeFault → Bool
is_io BadFrame = false
is_io TooLong = false
is_io Stranger = false
is_io Io = true
is_io Memory = false
is_io Turns = false
is_io Refused = false

-- The failures of a device were counted where Io is told, and else there was none.
abbrev pub Fails : {A : Type 0} → Result A ExchangeFault → ℕ → ℕ → Type 0
Fails (Ok x) old new = new ≡ old
Fails (Err fault) old new = MatchBool (is_io fault) (Rose old new) (new ≡ old)

-- ---- frames

-- the bytes of frames, one behind the other
abbrev pub texts : List Frame → List ℕ
texts frames = flat_map text_of frames

-- each is a frame that can be read, so their bytes spell no other frames
abbrev pub AreFrames : List Frame → Type 0
AreFrames frames = AllByRecursion IsFrame frames

-- the front of a header, or a header and a front of the body that it tells of
abbrev pub IsUnfinished : List ℕ → Type 0
IsUnfinished text =
    (length text < HEADER_LENGTH) ⊎ ((header : HeaderParts) × (body : List ℕ) × (text ≡ header_text header ++ body)
    × (header_fault header.kind header.length ≡ None) × (length body < header.length))

-- the header of no frame, or a header and the body of no frame
abbrev pub IsFaulty : List ℕ → FrameFault → Type 0
IsFaulty text fault =
    ((length text ≡ HEADER_LENGTH) × (header_at text ≡ Err fault)) ⊎ ((header : HeaderParts) × (body : List ℕ)
    × (text ≡ header_text header ++ body) × (length body ≡ header.length) × HasFault header.kind body fault)

-- A frame was read, and no byte behind it, by no more reads than it has bytes.
pub record Heard (r0 r1 : Option (List ℕ)) (reads left : ℕ) (frame : Frame) : Type 0 where
  pub lawful : IsFrame frame
  pub read : Consumes r0 r1 (text_of frame)
  pub many : reads ≤ left + length (text_of frame)

-- why a text was read that is no frame
abbrev pub WhyUnheard : Option (List ℕ) → List ℕ → ExchangeFault → Type 0
WhyUnheard r1 text BadFrame = (IsUnfinished text × IsAtEnd r1) ⊎ IsFaulty text frames.BadFrame
WhyUnheard r1 text TooLong = IsFaulty text frames.TooLong
WhyUnheard r1 text Stranger = ⊥
WhyUnheard r1 text Io = IsUnfinished text
WhyUnheard r1 text Memory = ⊤
WhyUnheard r1 text Turns = IsUnfinished text
WhyUnheard r1 text Refused = ⊥

-- No frame was read, but this text, where so many reads were left.
pub record Unheard (r0 r1 : Option (List ℕ)) (reads : ℕ) (fault : ExchangeFault) : Type 0 where
  pub text : List ℕ
  pub read : Consumes r0 r1 text
  pub why : WhyUnheard r1 text fault
  pub turns : fault ≡ Turns → reads ≤ length text

-- ---- some bytes

-- why not so many bytes were read as are wanted: fewer came, or there was no memory for them
abbrev pub WhyStopped : Option (List ℕ) → List ℕ → ℕ → ExchangeFault → Type 0
WhyStopped r1 text wanted BadFrame = (length text < wanted) × IsAtEnd r1
WhyStopped r1 text wanted TooLong = ⊥
WhyStopped r1 text wanted Stranger = ⊥
WhyStopped r1 text wanted Io = length text < wanted
WhyStopped r1 text wanted Memory = ⊤
WhyStopped r1 text wanted Turns = length text < wanted
WhyStopped r1 text wanted Refused = ⊥

pub record Stopped (r0 r1 : Option (List ℕ)) (wanted reads : ℕ) (fault : ExchangeFault) : Type 0 where
  pub text : List ℕ
  pub read : Consumes r0 r1 text
  pub why : WhyStopped r1 text wanted fault
  pub turns : fault ≡ Turns → reads ≤ length text

-- ---- a body, behind its header

-- A body was read that is the header's.
pub record HeardBody (r0 r1 : Option (List ℕ)) (reads left : ℕ) (header : HeaderParts) (frame : Frame) : Type 0 where
  pub body : List ℕ
  pub lawful : IsFrame frame
  pub read : Consumes r0 r1 body
  pub spells : header_text header ++ body ≡ text_of frame
  pub many : reads ≤ left + length body

-- why a body was read that is none of the header's
abbrev pub WhyBodyUnheard : Option (List ℕ) → HeaderParts → List ℕ → ExchangeFault → Type 0
WhyBodyUnheard r1 header body BadFrame =
    ((length body < header.length) × IsAtEnd r1) ⊎ ((length body ≡ header.length)
    × HasFault header.kind body frames.BadFrame)
WhyBodyUnheard r1 header body TooLong = (length body ≡ header.length) × HasFault header.kind body frames.TooLong
WhyBodyUnheard r1 header body Stranger = ⊥
WhyBodyUnheard r1 header body Io = length body < header.length
WhyBodyUnheard r1 header body Memory = ⊤
WhyBodyUnheard r1 header body Turns = length body < header.length
WhyBodyUnheard r1 header body Refused = ⊥

pub record UnheardBody (r0 r1 : Option (List ℕ)) (reads : ℕ) (header : HeaderParts) (fault : ExchangeFault)
    : Type 0 where
  pub body : List ℕ
  pub read : Consumes r0 r1 body
  pub why : WhyBodyUnheard r1 header body fault
  pub turns : fault ≡ Turns → reads ≤ length body
