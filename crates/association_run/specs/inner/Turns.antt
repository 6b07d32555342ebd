-- What one turn of a run does: a read, and the piece that it may end.
use Rattle.std.specs.Prelude.{◌≡◌, ◌≢◌, ◌<◌, ◌≤◌, ◌⊎◌, ℕ, ◌+◌, true, false, List, [], ◌++◌, length, Option, Some}
use Rattle.std.specs.Prelude.{None}
use Rattle.std.specs.Prelude.{Result, Ok, Err}
use Rattle.std.specs.Io.KnownBytes.{Consumes, IsAtEnd}
use Rattle.pdu.specs.Grammar.{IsUnfinished}
use Rattle.operation.specs.declared.op.Op.{Op}
use Rattle.ul_state.specs.declared.table.State.{State}
use Rattle.ul_state.specs.declared.table.State.TheVariants.{Sta1, Sta2, Sta13}
use Rattle.ul_state.specs.declared.titles.Title.{Title}
use Rattle.association_session.specs.declared.deed.Deed.{Deed}
use Rattle.association_services.specs.declared.reply.Reply.{Reply}
use Rattle.association_session.specs.Projections.{state_after}
use Rattle.association_session.specs.Session.{SessionState, Takes, start, is_left}
use Rattle.association_session.specs.Talks.{Heard}
use Rattle.association_run.specs.declared.end.End.{End}
use Rattle.association_run.specs.declared.fault.RunFault.{RunFault}
use Rattle.association_run.specs.declared.piece.Piece.{Piece}
use Rattle.association_run.specs.declared.run.Intake.{Intake}
use Rattle.association_run.specs.declared.run.TheConstants.{MOST_DROPPED}
use Rattle.association_run.specs.inner.Inbox.{EMPTY}
use Rattle.association_run.specs.Pieces.{IsPiece, Cuts, is_cut, event_of, size_of_piece}
use Rattle.association_run.specs.Hearing.{SETTING_OUT, counts, TakesPieces}
use Rattle.association_run.specs.Parts.{Sides, Performs}
use Rattle.association_run.specs.inner.Steps.{place_of, HeardWhole, HeardFront}
use Rattle.association_run.specs.Output.{Output, FrontOfOutput, was_aborted, was_released}
use Rattle.archive_model.specs.declared.view.View.{View}
use Rattle.ul_state.specs.declared.table.State.TheVariants.{Sta6}
use Rattle.std.specs.Prelude.{◌==◌}
use Rattle.std.specs.Prelude.{Bool, ◌||◌}
use Rattle.association_run.specs.declared.piece.Piece.TheVariants.{Whole, Faulty}

-- whether the connection is closed, or all was read that is read
abbrev pub is_closed : State → Bool
is_closed Sta1 = true
is_closed Sta2 = false
is_closed Sta6 = false
is_closed Sta13 = false

abbrev pub is_over : State → ℕ → Bool
is_over state counted = is_closed state || counted == MOST_DROPPED

-- whether the stream behind a piece is cut
abbrev pub is_whole : Piece → Bool
is_whole (Whole pdu size) = true
is_whole (Faulty fault size) = false

-- ---- what was read and not yet heard

abbrev pub NOTHING_READ : Intake
NOTHING_READ = record { inbox = EMPTY; is_cut = true; counted = 0 }

-- how many bytes count, with those in hand
abbrev pub counted_in : Intake → State → ℕ
counted_in intake state = intake.counted + counts state (length intake.inbox.text)

-- a read that brought bytes to those in hand
abbrev pub Adds : Intake → List ℕ → Intake → Type 0
Adds old bytes new =
    (old.is_cut ≡ true) × (new.is_cut ≡ true) × (new.counted ≡ old.counted)
    × (new.inbox.text ≡ old.inbox.text ++ bytes) × (new.inbox.wanted ≡ old.inbox.wanted)

-- a read whose bytes were dropped, and counted
abbrev pub Drops : Intake → List ℕ → Intake → Type 0
Drops old bytes new =
    (old.is_cut ≡ false) × (new.is_cut ≡ false) × (new.counted ≡ old.counted + length bytes) × (new.inbox ≡ old.inbox)

pub record Reads (r0 r1 : Option (List ℕ)) (old : Intake) (count : ℕ) (new : Intake) : Type 0 where
  pub bytes : List ℕ
  pub read : Consumes r0 r1 bytes
  pub long : length bytes ≡ count
  pub end : count ≡ 0 → IsAtEnd r1
  pub brought : Adds old bytes new ⊎ Drops old bytes new

-- ---- the piece in hand

-- A piece can be taken: nothing is awaited or left, there is a connection, and no more counts than is read.
pub record CanTake (s : SessionState) (intake : Intake) : Type 0 where
  pub idle : s.association.awaited ≡ None
  pub finished : is_left s.association.within.state s.association.queue ≡ false
  pub connected : s.association.within.state ≢ Sta1
  pub within : counted_in intake s.association.within.state ≤ MOST_DROPPED

-- A piece was heard, and nothing is in hand.
pub record HearsPiece {P : Type 0} (ops : P → List Op) (own : P → List (List ℕ)) (titles : List (Title View))
    (old new : Sides P) (s : SessionState) (before : Intake) (t : SessionState) (after : Intake) : Type 0 where
  pub piece : Piece
  pub is : IsPiece piece before.inbox.text
  pub heard : HeardWhole ops own titles old new s (event_of piece) t
  pub counted : after.counted ≡ before.counted + counts s.association.within.state (size_of_piece piece)
  pub cut : after.is_cut ≡ is_whole piece
  pub empty : after.inbox ≡ EMPTY

-- Nothing was heard, since no piece is whole. A header may have told how many bytes are wanted.
abbrev pub HearsNothing : {P : Type 0} → Sides P → Sides P → SessionState → Intake → SessionState → Intake
    → Type 0
HearsNothing old new s before t after =
    (new ≡ old) × (t ≡ s) × (after.is_cut ≡ before.is_cut) × (after.counted ≡ before.counted)
    × (after.inbox.text ≡ before.inbox.text) × (length after.inbox.text < after.inbox.wanted)
    × IsUnfinished after.inbox.text

abbrev pub TakesHand : {P : Type 0} → (P → List Op) → (P → List (List ℕ)) → List (Title View) → Sides P → Sides P
    → SessionState → Intake → SessionState → Intake → Type 0
TakesHand ops own titles old new s before t after = HearsNothing old new s before t after ⊎ HearsPiece ops own
    titles old new s before t after

-- Nothing was heard for want of memory, or of a piece a front was heard.
abbrev pub TakingFails : {P : Type 0} → (P → List Op) → (P → List (List ℕ)) → List (Title View) → Sides P → Sides P
    → SessionState → Intake → Type 0
TakingFails ops own titles old new s before =
    (new ≡ old) ⊎ ((piece : Piece) × IsPiece piece before.inbox.text × HeardFront ops own titles old new s.association
    (event_of piece))

-- ---- turns

-- a run that sets out: nothing was heard, and nothing was read
pub record SetsOut (s : SessionState) (before : Intake) : Type 0 where
  pub association : s.association ≡ start
  pub aborted : s.aborted ≡ false
  pub released : s.released ≡ false
  pub intake : before ≡ NOTHING_READ

-- a run that goes on: nothing is awaited or left, there is a connection, and a read is allowed that ends no piece that
-- was read before
pub record IsReady (s : SessionState) (intake : Intake) : Type 0 where
  pub idle : s.association.awaited ≡ None
  pub finished : is_left s.association.within.state s.association.queue ≡ false
  pub connected : s.association.within.state ≢ Sta1
  pub room : counted_in intake s.association.within.state < MOST_DROPPED
  pub short : length intake.inbox.text < intake.inbox.wanted
  pub unfinished : IsUnfinished intake.inbox.text
  pub dropping : intake.is_cut ≡ false → s.association.within.state ≡ Sta13

-- the pieces so far are those of what was read, and the rest is in hand
abbrev pub IsInHand : Intake → List Piece → List ℕ → ℕ → Type 0
IsInHand intake pieces rest counted =
    (intake.is_cut ≡ true) × (is_cut pieces ≡ true) × (rest ≡ intake.inbox.text) × (counted ≡ intake.counted)

-- the rest is no longer cut, and was dropped
abbrev pub IsDropped : Intake → State → List Piece → List ℕ → ℕ → Type 0
IsDropped intake state pieces rest counted =
    (intake.is_cut ≡ false) × (is_cut pieces ≡ false) × (intake.counted ≡ counted + length rest)
    × (intake.inbox.text ≡ []) × (state ≡ Sta13)

-- all that was read, heard, and done so far, by n reads
pub record Progress {P : Type 0} (ops : P → List Op) (own : P → List (List ℕ)) (titles : List (Title View))
    (r0 r1 : Option (List ℕ)) (old now : Sides P) (s : SessionState) (intake : Intake) (n : ℕ) : Type 0 where
  pub text : List ℕ
  pub read : Consumes r0 r1 text
  pub many : n ≤ length text
  pub pieces : List Piece
  pub rest : List ℕ
  pub counted : ℕ
  pub cut : Cuts text pieces rest
  pub heard : List Heard
  pub replies : List Reply
  pub done : List Deed
  pub hears : TakesPieces titles SETTING_OUT pieces heard (record {
    place = place_of s.association;
    counted = counted;
    heard = heard;
    replies = replies;
    done = done;
  })
  pub takes : Takes titles start heard replies done s.association
  pub state : s.association.within.state ≡ state_after Sta2 done
  pub idle : s.association.awaited ≡ None
  pub did : Performs ops own old now done [] replies
  pub held : IsInHand intake pieces rest counted ⊎ IsDropped intake s.association.within.state pieces rest counted
  pub within : counted_in intake s.association.within.state ≤ MOST_DROPPED
  pub aborted : s.aborted ≡ was_aborted pieces done
  pub released : s.released ≡ was_released done

abbrev pub After : {P : Type 0} → (P → List Op) → (P → List (List ℕ)) → List (Title View) → Option (List ℕ)
    → Option (List ℕ) → Sides P → Sides P → SessionState → Intake → ℕ → Result (Option End) RunFault → Type 0
After ops own titles r0 r1 old now s intake n (Ok None) = Progress ops own titles r0 r1 old now s intake (n + 1)
After ops own titles r0 r1 old now s intake n (Ok (Some end)) = Output ops own titles r0 r1 old now end
After ops own titles r0 r1 old now s intake n (Err fault) = FrontOfOutput ops own titles r0 r1 old now

-- whatever was done so far, the turn goes on with it, ends it, or breaks it off
abbrev pub Turns : {P : Type 0} → (P → List Op) → (P → List (List ℕ)) → List (Title View) → Option (List ℕ)
    → Option (List ℕ) → Sides P → Sides P → SessionState → Intake → Result (Option End) RunFault → SessionState
    → Intake → Type 0
Turns {P = P} ops own titles r1 r2 now then s before result t after =
    (r0 : Option (List ℕ)) (old : Sides P) (n : ℕ) → Progress ops own titles r0 r1 old now s before n
    → After ops own titles r0 r2 old then t after n result
