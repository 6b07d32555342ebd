-- What is written of a frame, and how it is read again.
use Rattle.std.specs.Prelude.{◌≡◌, length, take, drop, Bool, false, nat_lt, Ok}
use Rattle.exchange_frames.specs.declared.frame.Frame.{Frame}
use Rattle.exchange_frames.specs.declared.frame.Frame.TheVariants.{Have, Want, Give, End, Buckets, Differ, Hello}
use Rattle.exchange_frames.specs.declared.reader.TheConstants.{MOST_DIGESTS, BUCKET_COUNT}
use Rattle.exchange_frames.specs.declared.writer.TheConstants.{MOST_PLACES}
use Rattle.exchange_frames.specs.Header.{HeaderParts, header_at}
use Rattle.exchange_frames.specs.Spelling.{text_of}
use Rattle.exchange_frames.specs.Reading.{IsBodyOf}

-- more digests, or more first bytes, than are written
abbrev pub is_too_long : Frame → Bool
is_too_long (Have digests) = nat_lt MOST_DIGESTS (length digests)
is_too_long (Want digests) = nat_lt MOST_DIGESTS (length digests)
is_too_long (Give op) = false
is_too_long End = false
is_too_long (Buckets digests) = nat_lt BUCKET_COUNT (length digests)
is_too_long (Differ places) = nat_lt MOST_PLACES (length places)
is_too_long (Hello version) = false

-- Its first five bytes are a header without a fault, and the rest is its body.
pub record IsWrittenAgain (frame : Frame) : Type 0 where
  pub parts : HeaderParts
  pub header : header_at (take 5 (text_of frame)) ≡ Ok parts
  pub length_is : parts.length ≡ length (drop 5 (text_of frame))
  pub body : IsBodyOf frame parts.kind (drop 5 (text_of frame))
  pub short : is_too_long frame ≡ false
