-- The one spelling of each frame, and which frames have one.
use Rattle.std.specs.Prelude.{◌≡◌, ℕ, ◌<◌, ◌≤◌, ◌^◌, List, [], ◌∷◌, ◌++◌, length, Bool, true, false, ◌&&◌, IsTrue, ⊤}
use Rattle.std.specs.Int.{w16, w32, to_be_bytes}
use Rattle.std.specs.List.{flat_map, AllByRecursion}
use Rattle.std.specs.Ordering.{nat_cmp, match_ordering}
use Rattle.std.specs.declared.cmp.Ordering.{Ordering}
use Rattle.octets.specs.Texts.{text_cmp}
use Rattle.operation.specs.Reading.{IsOp}
use Rattle.operation.specs.Spelling.{spelling}
use Rattle.exchange_frames.specs.declared.frame.Frame.{Frame}
use Rattle.exchange_frames.specs.declared.frame.Frame.TheVariants.{Have, Want, Give, End, Buckets, Differ, Hello}
use Rattle.exchange_frames.specs.declared.header.TheConstants.{HAVE, WANT, GIVE, END, BUCKETS, DIFFER, HELLO}
use Rattle.exchange_frames.specs.declared.reader.TheConstants.{MOST_DIGESTS, DIGEST_LENGTH, BUCKET_COUNT}

-- ---- texts

-- digests, one behind the other
abbrev pub digests_text : List (List ℕ) → List ℕ
digests_text digests = flat_map (λ d. d) digests

-- how many digests, in four bytes, and the digests
abbrev pub counted_text : List (List ℕ) → List ℕ
counted_text digests = to_be_bytes w32 (length digests) ++ digests_text digests

abbrev pub code_of : Frame → ℕ
code_of (Have digests) = HAVE
code_of (Want digests) = WANT
code_of (Give op) = GIVE
code_of End = END
code_of (Buckets digests) = BUCKETS
code_of (Differ places) = DIFFER
code_of (Hello version) = HELLO

abbrev pub body_text : Frame → List ℕ
body_text (Have digests) = counted_text digests
body_text (Want digests) = counted_text digests
body_text (Give op) = spelling op
body_text End = []
body_text (Buckets digests) = digests_text digests
body_text (Differ places) = to_be_bytes w16 (length places) ++ places
body_text (Hello version) = to_be_bytes w16 version

-- the kind, the length of four bytes, and the body
unfoldable pub text_of : Frame → List ℕ
text_of frame = code_of frame ∷ (to_be_bytes w32 (length (body_text frame)) ++ body_text frame)

-- ---- which values are frames

-- what is next is greater
abbrev pub is_below : {X : Type 0} → (X → X → Ordering) → X → List X → Bool
is_below cmp x [] = true
is_below cmp x (y ∷ ys) = match_ordering (cmp x y) true false false

-- each is below the next
abbrev pub ascends : {X : Type 0} → (X → X → Ordering) → List X → Bool
ascends cmp [] = true
ascends cmp (x ∷ xs) = is_below cmp x xs && ascends cmp xs

-- each has 32 bytes
abbrev pub AreDigests : List (List ℕ) → Type 0
AreDigests digests = AllByRecursion (λ d. length d ≡ DIGEST_LENGTH) digests

-- digests that ascend, and not too many
pub record IsCounted (digests : List (List ℕ)) : Type 0 where
  pub short : length digests ≤ MOST_DIGESTS
  pub whole : AreDigests digests
  pub ascending : IsTrue (ascends text_cmp digests)

abbrev pub IsFrame : Frame → Type 0
IsFrame (Have digests) = IsCounted digests
IsFrame (Want digests) = IsCounted digests
IsFrame (Give op) = IsOp op
IsFrame End = ⊤
IsFrame (Buckets digests) = (length digests ≡ BUCKET_COUNT) × AreDigests digests
IsFrame (Differ places) = (length places < 2 ^ 16) × IsTrue (ascends nat_cmp places)
IsFrame (Hello version) = version < 2 ^ 16
