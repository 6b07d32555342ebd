-- How a body is read, and what it comes to.
use Rattle.std.specs.Prelude.{◌≡◌, ℕ, zero, suc, ◌*◌, List, [], ◌∷◌, length, take, drop, Bool, true, false, ◌==◌, ◌||◌}
use Rattle.std.specs.Prelude.{◌&&◌, nat_lt, Option, Some, None, Result, Ok, Err, if◌then◌else◌}
use Rattle.std.specs.Option.{option_map}
use Rattle.std.specs.Int.{w16, w32, from_be_bytes}
use Rattle.std.specs.Ordering.{nat_cmp}
use Rattle.octets.specs.Texts.{text_cmp}
use Rattle.operation.specs.declared.op.Op.{Op}
use Rattle.operation.specs.Reading.{IsOp}
use Rattle.operation.specs.Spelling.{spelling}
use Rattle.exchange_frames.specs.declared.fault.FrameFault.{FrameFault}
use Rattle.exchange_frames.specs.declared.fault.FrameFault.TheVariants.{BadFrame, TooLong, Memory}
use Rattle.exchange_frames.specs.declared.frame.Frame.{Frame}
use Rattle.exchange_frames.specs.declared.frame.Frame.TheVariants.{Have, Want, End, Buckets, Differ, Hello}
use Rattle.exchange_frames.specs.declared.header.TheConstants.{HAVE, WANT, END, BUCKETS, DIFFER, HELLO}
use Rattle.exchange_frames.specs.declared.reader.TheConstants.{MOST_DIGESTS, DIGEST_LENGTH, BUCKET_COUNT}
use Rattle.exchange_frames.specs.Spelling.{ascends, code_of, body_text, IsFrame}

-- the first digests of a text
unfoldable pub cut : ℕ → List ℕ → List (List ℕ)
cut zero text = []
cut (suc n) text = take DIGEST_LENGTH text ∷ cut n (drop DIGEST_LENGTH text)

-- a body that begins with a count above the greatest
abbrev pub counts_too_many : List ℕ → Bool
counts_too_many (a ∷ b ∷ c ∷ d ∷ rest) = nat_lt MOST_DIGESTS (from_be_bytes w32 (a ∷ b ∷ c ∷ d ∷ []))
counts_too_many _ = false

-- a HAVE or a WANT that says that it has more digests than are read
unfoldable pub is_long : ℕ → List ℕ → Bool
is_long kind body = (kind == HAVE || kind == WANT) && counts_too_many body

-- a count of four bytes, and that many digests that ascend
unfoldable pub counted_at : List ℕ → Option (List (List ℕ))
counted_at (a ∷ b ∷ c ∷ d ∷ rest) =
    let count = from_be_bytes w32 (a ∷ b ∷ c ∷ d ∷ []) in
    if length rest == DIGEST_LENGTH * count then (if ascends text_cmp (cut count rest) then Some (cut count rest)
    else None) else None
counted_at _ = None

unfoldable pub buckets_at : List ℕ → Option (List (List ℕ))
buckets_at text = if length text == DIGEST_LENGTH * BUCKET_COUNT then Some (cut BUCKET_COUNT text) else None

-- a count of two bytes, and that many bytes that ascend
unfoldable pub places_at : List ℕ → Option (List ℕ)
places_at (a ∷ b ∷ rest) =
    if length rest == from_be_bytes w16 (a ∷ b ∷ []) then (if ascends nat_cmp rest then Some rest else None) else None
places_at _ = None

abbrev pub version_at : List ℕ → Option ℕ
version_at (a ∷ b ∷ []) = Some (from_be_bytes w16 (a ∷ b ∷ []))
version_at _ = None

abbrev pub end_at : List ℕ → Option Frame
end_at [] = Some End
end_at (b ∷ bs) = None

-- the frame of a body, if it is not that of a GIVE
unfoldable pub frame_at : ℕ → List ℕ → Option Frame
frame_at kind body =
    if kind == HAVE then option_map (λ ds. Have ds) (counted_at body)
    else if kind == WANT then option_map (λ ds. Want ds) (counted_at body)
    else if kind == END then end_at body
    else if kind == BUCKETS then option_map (λ ds. Buckets ds) (buckets_at body)
    else if kind == DIFFER then option_map (λ ps. Differ ps) (places_at body)
    else if kind == HELLO then option_map (λ v. Hello v) (version_at body)
    else None

abbrev pub or_bad : {X : Type 0} → Option X → Result X FrameFault
or_bad None = Err BadFrame
or_bad (Some x) = Ok x

-- ---- what a body comes to

-- A frame of this kind is spelled by this body.
pub record IsBodyOf (frame : Frame) (kind : ℕ) (body : List ℕ) : Type 0 where
  pub kind_is : code_of frame ≡ kind
  pub body_is : body_text frame ≡ body
  pub lawful : IsFrame frame

abbrev pub SpellsNone : ℕ → List ℕ → Type 0
SpellsNone kind body = (frame : Frame) → IsBodyOf frame kind body → ⊥

-- the fault of a body: too many digests are told before anything else
abbrev pub HasFault : ℕ → List ℕ → FrameFault → Type 0
HasFault kind body BadFrame = (is_long kind body ≡ false) × SpellsNone kind body
HasFault kind body TooLong = is_long kind body ≡ true
HasFault kind body Memory = ⊥

abbrev pub IsOutcome : ℕ → List ℕ → Result Frame FrameFault → Type 0
IsOutcome kind body (Ok frame) = IsBodyOf frame kind body
IsOutcome kind body (Err fault) = HasFault kind body fault

-- The bytes spell this operation, or none.
abbrev pub IsGiven : List ℕ → Result Op FrameFault → Type 0
IsGiven body (Ok op) = (body ≡ spelling op) × IsOp op
IsGiven body (Err fault) = (fault ≡ BadFrame) × ((op : Op) → IsOp op → body ≡ spelling op → ⊥)
