-- How the bytes that were read are cut into PDUs (PS3.8, 9.3).
use Rattle.std.specs.Prelude.{◌≡◌, ◌≤◌, ℕ, ◌+◌, Bool, true, false, List, [], ◌∷◌, length, take, drop, ⊤}
use Rattle.pdu.specs.declared.fault.PduFault.{PduFault}
use Rattle.pdu.specs.declared.fault.PduFault.TheVariants.{UnknownType, BadLength, BadItem, TooLong, Memory}
use Rattle.pdu.specs.declared.header.TheConstants.{HEADER_LENGTH}
use Rattle.pdu.specs.Grammar.{Spells, HasHeaderFault, HasBadBody, size_of}
use Rattle.ul_state.specs.declared.event.Event.{Event}
use Rattle.ul_state.specs.declared.event.Event.TheVariants.{Got, Bad}
use Rattle.association_run.specs.declared.piece.Piece.{Piece}
use Rattle.association_run.specs.declared.piece.Piece.TheVariants.{Whole, Faulty}

-- ---- one piece

-- A text tells of a fault, and no byte of it stands behind what tells: a header, or for a malformed body the whole PDU.
-- Want of memory is no
-- fault of a text.
abbrev pub TellsOf : PduFault → List ℕ → Type 0
TellsOf UnknownType text = HasHeaderFault UnknownType text × (length text ≡ HEADER_LENGTH)
TellsOf BadLength text = HasHeaderFault BadLength text × (length text ≡ HEADER_LENGTH)
TellsOf BadItem text = HasBadBody text × (length text ≡ size_of text + HEADER_LENGTH)
TellsOf TooLong text = HasHeaderFault TooLong text × (length text ≡ HEADER_LENGTH)
TellsOf Memory text = ⊥

-- how many bytes a piece takes
abbrev pub size_of_piece : Piece → ℕ
size_of_piece (Whole pdu size) = size
size_of_piece (Faulty fault size) = size

-- These bytes are this piece.
abbrev pub IsPiece : Piece → List ℕ → Type 0
IsPiece (Whole pdu size) text = Spells pdu text × (length text ≡ size)
IsPiece (Faulty fault size) text = TellsOf fault text × (length text ≡ size)

-- what the association's machine is told of a piece
abbrev pub event_of : Piece → Event
event_of (Whole pdu size) = Got pdu
event_of (Faulty fault size) = Bad fault

-- ---- pieces, one after another

-- whether the stream behind these pieces is cut: there is no faulty one
abbrev pub is_cut : List Piece → Bool
is_cut [] = true
is_cut (Whole pdu size ∷ pieces) = is_cut pieces
is_cut (Faulty fault size ∷ pieces) = false

-- Behind a faulty piece there is no other.
abbrev pub Precedes : Piece → List Piece → Type 0
Precedes (Whole pdu size) pieces = ⊤
Precedes (Faulty fault size) pieces = pieces ≡ []

-- A text begins with these pieces, and then comes the rest.
abbrev pub Cuts : List ℕ → List Piece → List ℕ → Type 0
Cuts text [] rest = rest ≡ text
Cuts text (piece ∷ pieces) rest =
    (size_of_piece piece ≤ length text) × IsPiece piece (take (size_of_piece piece) text) × Precedes piece pieces
    × Cuts (drop (size_of_piece piece) text) pieces rest
