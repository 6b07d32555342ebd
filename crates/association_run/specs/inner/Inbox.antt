-- The PDU that is being read.
use Rattle.std.specs.Prelude.{◌≡◌, ◌<◌, ◌≤◌, ◌⊎◌, ℕ, ◌+◌, List, [], ◌++◌, length, Option, Some, None, Result, Ok, Err}
use Rattle.std.specs.Io.KnownBytes.{Consumes, IsAtEnd}
use Rattle.pdu.specs.declared.header.TheConstants.{HEADER_LENGTH}
use Rattle.pdu.specs.Grammar.{HasLawfulHeader, IsUnfinished, size_of}
use Rattle.pdu.specs.declared.value.Step.{Step}
use Rattle.pdu.specs.declared.value.Step.TheVariants.{Need, Done}
use Rattle.pdu.specs.declared.fault.PduFault.{PduFault}
use Rattle.pdu.specs.declared.fault.PduFault.TheVariants as faults
use Rattle.ul_state.specs.Acceptor.{HasLawfulPdu}
use Rattle.association_run.specs.declared.piece.Piece.{Piece}
use Rattle.association_run.specs.declared.piece.Piece.TheVariants.{Whole, Faulty}
use Rattle.association_run.specs.Pieces.{IsPiece, event_of}

-- the bytes of it that were read, and how many are wanted: its header, and then the whole of it
pub record InHand : Type 0 where
  pub text : List ℕ
  pub wanted : ℕ

abbrev pub EMPTY : InHand
EMPTY = record { text = []; wanted = HEADER_LENGTH }

-- A lawful header is in hand, and says how many bytes are wanted.
abbrev pub IsBodyWanted : InHand → Type 0
IsBodyWanted hand = HasLawfulHeader hand.text × (hand.wanted ≡ size_of hand.text + HEADER_LENGTH)

-- no more than is wanted is in hand: a header, or what it says
abbrev pub Wants : InHand → Type 0
Wants hand = (length hand.text ≤ hand.wanted) × ((hand.wanted ≡ HEADER_LENGTH) ⊎ IsBodyWanted hand)

-- A read brought count bytes behind those in hand, at most most, and none behind the PDU. None comes only at the end.
pub record ReadsOn (r0 r1 : Option (List ℕ)) (old : InHand) (most count : ℕ) (new : InHand) : Type 0 where
  pub bytes : List ℕ
  pub read : Consumes r0 r1 bytes
  pub counted : length bytes ≡ count
  pub behind : new.text ≡ old.text ++ bytes
  pub wanted : new.wanted ≡ old.wanted
  pub few : count ≤ most
  pub end : count ≡ 0 → IsAtEnd r1

-- A text that ends where a header ends, or where it says, is the front of a PDU or a piece. A PDU that was read can be
-- written.
abbrev pub Finds : List ℕ → Option Piece → Type 0
Finds text None = IsUnfinished text
Finds text (Some piece) = IsPiece piece text × HasLawfulPdu (event_of piece)

-- The piece in hand is taken once it is whole, and then nothing is in hand.
abbrev pub Takes : InHand → Option Piece → InHand → Type 0
Takes old None new = (new.text ≡ old.text) × (length new.text < new.wanted) × IsUnfinished new.text
Takes old (Some piece) new = Finds old.text (Some piece) × (new ≡ EMPTY)

-- what reading so many bytes tells, where it wants no memory
abbrev pub IsPieceIn : Result Step PduFault → ℕ → Option Piece → Type 0
IsPieceIn (Ok Need) size piece = piece ≡ None
IsPieceIn (Ok (Done pdu taken)) size piece = piece ≡ Some (Whole pdu taken)
IsPieceIn (Err faults.UnknownType) size piece = piece ≡ Some (Faulty faults.UnknownType size)
IsPieceIn (Err faults.BadLength) size piece = piece ≡ Some (Faulty faults.BadLength size)
IsPieceIn (Err faults.BadItem) size piece = piece ≡ Some (Faulty faults.BadItem size)
IsPieceIn (Err faults.TooLong) size piece = piece ≡ Some (Faulty faults.TooLong size)
IsPieceIn (Err faults.Memory) size piece = ⊥
