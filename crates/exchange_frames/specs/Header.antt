-- The header of a frame: its kind, and the length of its body in four bytes.
use Rattle.std.specs.Prelude.{ℕ, List, [], ◌∷◌, slice_index, ◌==◌, ◌||◌, Bool, nat_lt, Option, Some, None, Result, Ok}
use Rattle.std.specs.Prelude.{Err, if◌then◌else◌}
use Rattle.std.specs.Int.{w32, from_be_bytes, to_be_bytes}
use Rattle.exchange_frames.specs.declared.fault.FrameFault.{FrameFault}
use Rattle.exchange_frames.specs.declared.fault.FrameFault.TheVariants.{BadFrame, TooLong}
use Rattle.exchange_frames.specs.declared.header.TheConstants.{LONGEST_BODY, HAVE, WANT, GIVE, END, BUCKETS, DIFFER}
use Rattle.exchange_frames.specs.declared.header.TheConstants.{HELLO}

-- 01 to 07
abbrev pub is_kind : ℕ → Bool
is_kind kind = kind == HAVE || kind == WANT || kind == GIVE || kind == END || kind == BUCKETS || kind == DIFFER ||
    kind == HELLO

-- the fault that a kind and a length have, where they have one
abbrev pub header_fault : ℕ → ℕ → Option FrameFault
header_fault kind length =
    if is_kind kind then (if nat_lt LONGEST_BODY length then Some TooLong else None) else Some BadFrame

-- a kind, and the length of a body
pub record HeaderParts : Type 0 where
  pub kind : ℕ
  pub length : ℕ

abbrev pub or_fault : Option FrameFault → HeaderParts → Result HeaderParts FrameFault
or_fault None header = Ok header
or_fault (Some fault) header = Err fault

-- a kind and a length, or the fault that they have
abbrev pub header_of : ℕ → ℕ → Result HeaderParts FrameFault
header_of kind length = or_fault (header_fault kind length) (record { kind = kind; length = length })

-- what five bytes say
abbrev pub header_at : List ℕ → Result HeaderParts FrameFault
header_at bytes =
    header_of (slice_index bytes 0) (from_be_bytes w32 (slice_index bytes 1 ∷ slice_index bytes 2 ∷ slice_index bytes 3
    ∷ slice_index bytes 4 ∷ []))

-- the five bytes of a header
abbrev pub header_text : HeaderParts → List ℕ
header_text header = header.kind ∷ to_be_bytes w32 header.length

-- a kind, and a length in four bytes
abbrev pub head_text : ℕ → ℕ → List ℕ
head_text kind length = kind ∷ to_be_bytes w32 length
