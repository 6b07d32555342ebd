-- How the body of a WALK is read, and what it comes to.
use Rattle.std.specs.Prelude.{◌≡◌, ℕ, zero, suc, ◌+◌, ◌/◌, ◌%◌, List, [], ◌∷◌, length, take, drop, slice_index}
use Rattle.std.specs.Prelude.{◌==◌, nat_lt, Option, Some, None, Result, Ok, Err, if◌then◌else◌}
use Rattle.std.specs.Int.{w16, from_be_bytes}
use Rattle.std.specs.List.{flat_map}
use Rattle.octets.specs.Gives.{◌>>=◌}
use Rattle.exchange_frames.specs.Digests.{digests_in}
use Rattle.exchange_frames.specs.declared.fault.FrameFault.{FrameFault}
use Rattle.exchange_frames.specs.declared.fault.FrameFault.TheVariants.{BadFrame, TooLong, Memory}
use Rattle.walk_frames.specs.declared.sums.TheConstants.{SUMS_LENGTH}
use Rattle.walk_frames.specs.Nodes.{node_of}
use Rattle.walk_frames.specs.Entries.{EntryParts, sums_of}
use Rattle.walk_frames.specs.Walks.{walk_of, IsWalk}
use Rattle.walk_frames.specs.Spelling.{walk_text}

-- what is read, and what stands behind it
abbrev pub Read : Type 0 → Type 0
Read X = Result (X × List ℕ) FrameFault

-- the two digits of a byte, the high one first
abbrev pub halves : ℕ → List ℕ
halves byte = byte / 16 ∷ byte % 16 ∷ []

abbrev pub unpacked : List ℕ → List ℕ
unpacked bytes = flat_map halves bytes

-- so many digits of bytes that they fill; a digit behind them is 0
unfoldable pub digits_at : ℕ → List ℕ → Result (List ℕ) FrameFault
digits_at depth bytes =
    if slice_index (unpacked bytes) depth == 0 then Ok (take depth (unpacked bytes)) else Err BadFrame

-- how many bytes hold so many digits
abbrev pub half : ℕ → ℕ
half depth = (depth + 1) / 2

-- a byte of depth, and the digits
unfoldable pub node_at : List ℕ → Read (List ℕ)
node_at [] = Err BadFrame
node_at (depth ∷ rest) =
    if nat_lt (length rest) (half depth) then Err BadFrame
    else digits_at depth (take (half depth) rest) >>= λ digits. node_of digits >>= λ node.
    Ok (node, drop (half depth) rest)

-- 00, or 01 and 16 sums
unfoldable pub sums_at : List ℕ → Read (Option (List (List ℕ)))
sums_at (zero ∷ rest) = Ok (None, rest)
sums_at (suc zero ∷ rest) =
    if nat_lt (length rest) SUMS_LENGTH then Err BadFrame
    else sums_of (digests_in (take SUMS_LENGTH rest)) >>= λ sums. Ok (Some sums, drop SUMS_LENGTH rest)
sums_at _ = Err BadFrame

unfoldable pub entry_at : List ℕ → Read EntryParts
entry_at text = do
  node ← node_at text
  sums ← sums_at node.1
  Ok (record { node = node.0; sums = sums.0 }, sums.1)

-- so many entries
unfoldable pub entries_at : ℕ → List ℕ → Read (List EntryParts)
entries_at zero text = Ok ([], text)
entries_at (suc n) text = do
  first ← entry_at text
  others ← entries_at n first.1
  Ok (first.0 ∷ others.0, others.1)

-- a count of two bytes, that many entries, and nothing behind them
unfoldable pub walk_at : List ℕ → Result (List EntryParts) FrameFault
walk_at (a ∷ b ∷ rest) = do
  entries ← entries_at (from_be_bytes w16 (a ∷ b ∷ [])) rest
  if length entries.1 == 0 then walk_of entries.0 else Err BadFrame
walk_at _ = Err BadFrame

-- ---- what a body comes to

-- A body that spells no walk is a bad frame, and there is no other fault.
abbrev pub HasFault : List ℕ → FrameFault → Type 0
HasFault body BadFrame = (walk : List EntryParts) → IsWalk walk → body ≡ walk_text walk → ⊥
HasFault body TooLong = ⊥
HasFault body Memory = ⊥
