-- What an association hears of what it reads: PDUs, and the messages that the values of a P-DATA-TF end (PS3.8, E;
-- PS3.7, 6.3).
use Rattle.std.specs.Prelude.{◌≡◌, ◌≢◌, ◌⊎◌, ℕ, ◌+◌, List, [], ◌∷◌, ◌++◌, length, Option, None, Result}
use Rattle.pdu.specs.declared.pdv.Pdv.{Pdv}
use Rattle.ul_state.specs.declared.event.Event.{Event}
use Rattle.ul_state.specs.declared.table.State.{State}
use Rattle.ul_state.specs.declared.table.State.TheVariants.{Sta1, Sta2, Sta6, Sta13}
use Rattle.ul_state.specs.declared.titles.Title.{Title}
use Rattle.ul_state.specs.Table.{next_of, opens}
use Rattle.ul_state.specs.Acceptor.{kind_for}
use Rattle.dimse.specs.declared.assembler.Stage.{Stage}
use Rattle.dimse.specs.declared.assembler.Stage.TheVariants.{Between}
use Rattle.dimse.specs.declared.fault.DimseFault.{DimseFault}
use Rattle.dimse.specs.declared.message.Message.{Message}
use Rattle.dimse.specs.Assembly.{Assembly}
use Rattle.dimse.specs.Messages.{Run, HadMemory}
use Rattle.association_session.specs.declared.deed.Deed.{Deed}
use Rattle.association_services.specs.declared.reply.Reply.{Reply}
use Rattle.association_session.specs.Projections.{IsFront, calls_in, state_after}
use Rattle.association_session.specs.Row.{Within, opening, met, handed_on}
use Rattle.association_session.specs.Session.{heard_in, stage_by}
use Rattle.association_session.specs.Talks.{Heard, Met, Leads, Talks}
use Rattle.association_run.specs.declared.piece.Piece.{Piece}
use Rattle.association_run.specs.Pieces.{event_of, size_of_piece}
use Rattle.archive_model.specs.declared.view.View.{View}

-- where an association is, and what came since the last message
pub record Place : Type 0 where
  pub within : Within
  pub stage : Stage

abbrev pub assembly_at : Place → Assembly
assembly_at p = record { contexts = p.within.link.contexts; stage = p.stage }

-- The table's row leads there, and none of the values is heard yet.
abbrev pub entered_at : List (Title View) → Place → Event → Place
entered_at titles p event = record {
  within = met titles p.within event;
  stage = stage_by (opens p.within.state (next_of p.within.state (kind_for titles event))) p.stage;
}

-- ---- what values say

-- The first of these values were put together, and say this; the others are left.
pub record Says (titles : List (Title View)) (old : Place) (values : List Pdv) (said : List Heard)
    (left : List Pdv) (new : Place) : Type 0 where
  pub fed : List Pdv
  pub answers : List (Result (Option Message) DimseFault)
  pub parts : values ≡ fed ++ left
  pub run : Run (assembly_at old) fed answers (assembly_at new)
  pub memory : HadMemory answers
  pub says : said ≡ heard_in answers
  pub leads : Leads titles old.within said new.within

-- ---- what is heard of a PDU

-- the PDU, and what the first of its values say where they are handed on
pub record HearsSome (titles : List (Title View)) (old : Place) (event : Event) (heard : List Heard)
    (left : List Pdv) (new : Place) : Type 0 where
  pub said : List Heard
  pub is : heard ≡ Met event ∷ said
  pub values : Says titles (entered_at titles old event) (handed_on titles old.within.state event) said left new

-- While the association is established no value is left.
abbrev pub Hears : List (Title View) → Place → Event → List Heard → Place → Type 0
Hears titles old event heard new = (left : List Pdv) × HearsSome titles old event heard left new
    × (new.within.state ≡ Sta6 → left ≡ [])

-- ---- what is heard of all that is read

-- where an association is, and how many bytes were counted since the peer is to close; what was heard and replied so
-- far, and what was done for it
pub record Course : Type 0 where
  pub place : Place
  pub counted : ℕ
  pub heard : List Heard
  pub replies : List Reply
  pub done : List Deed

abbrev pub SETTING_OUT : Course
SETTING_OUT = record {
  place = record { within = opening; stage = Between };
  counted = 0;
  heard = [];
  replies = [];
  done = [];
}

-- Behind a piece the association is where the deeds lead for all that was heard up to it, each call with its reply.
pub record LeadsOn (titles : List (Title View)) (c : Course) (now : List Heard) (end : Course) : Type 0 where
  pub heard : end.heard ≡ c.heard ++ now
  pub more : IsFront c.replies end.replies
  pub talk : Talks titles opening None end.heard end.replies end.done
  pub replied : length (calls_in end.done) ≡ length end.replies
  pub state : end.place.within.state ≡ state_after Sta2 end.done

-- Bytes that come once the peer is to close are counted.
abbrev pub counts : State → ℕ → ℕ
counts Sta1 size = 0
counts Sta2 size = 0
counts Sta6 size = 0
counts Sta13 size = size

-- While there is a connection a piece is heard, and its bytes are counted by the state before it.
abbrev pub TakesPiece : List (Title View) → Course → Piece → List Heard → Course → Type 0
TakesPiece titles c piece heard end =
    (c.place.within.state ≢ Sta1) × Hears titles c.place (event_of piece) heard end.place
    × (end.counted ≡ c.counted + counts c.place.within.state (size_of_piece piece)) × LeadsOn titles c heard end

-- pieces, one after another
abbrev pub TakesPieces : List (Title View) → Course → List Piece → List Heard → Course → Type 0
TakesPieces titles c [] heard end = (heard ≡ []) × (end ≡ c)
TakesPieces titles c (piece ∷ pieces) heard end =
    (mid : Course) × (now rest : List Heard) × TakesPiece titles c piece now mid × TakesPieces titles mid pieces rest
    end × (heard ≡ now ++ rest)

-- ---- a front of it

-- Nothing was heard of a piece, or the PDU and what the first of its values say.
abbrev pub HearsFront : List (Title View) → Course → Piece → List Heard → Type 0
HearsFront titles c piece some =
    (some ≡ []) ⊎ ((left : List Pdv) × (new : Place) × (c.place.within.state ≢ Sta1)
    × HearsSome titles c.place (event_of piece) some left new)

-- Of the pieces behind those that were heard whole, nothing was heard but a front of the first.
abbrev pub TakesFront : List (Title View) → Course → List Piece → List Heard → Type 0
TakesFront titles c [] some = some ≡ []
TakesFront titles c (piece ∷ pieces) some = HearsFront titles c piece some

-- These were heard of the pieces, before a fault.
pub record TakesSome (titles : List (Title View)) (pieces : List Piece) (heard : List Heard)
    (told : List Reply) : Type 0 where
  pub whole : List Piece
  pub behind : List Piece
  pub parts : pieces ≡ whole ++ behind
  pub before : List Heard
  pub some : List Heard
  pub course : Course
  pub takes : TakesPieces titles SETTING_OUT whole before course
  pub front : TakesFront titles course behind some
  pub earlier : IsFront course.replies told
  pub is : heard ≡ before ++ some
