-- What a whole run does, for what it read and what the port replied.
use Rattle.std.specs.Prelude.{◌≡◌, ◌≤◌, ◌⊎◌, ℕ, ◌+◌, Bool, false, ◌||◌, List, [], ◌++◌, Option, None, length}
use Rattle.std.specs.Prelude.{if◌then◌else◌, ◌==◌}
use Rattle.std.specs.List.{list_any}
use Rattle.std.specs.Io.KnownBytes.{Consumes, IsAtEnd}
use Rattle.pdu.specs.Grammar.{IsUnfinished}
use Rattle.operation.specs.declared.op.Op.{Op}
use Rattle.ul_state.specs.declared.table.State.TheVariants.{Sta1}
use Rattle.ul_state.specs.declared.titles.Title.{Title}
use Rattle.association_session.specs.declared.deed.Deed.{Deed}
use Rattle.association_session.specs.declared.event.SessionEvent.TheVariants as inputs
use Rattle.association_services.specs.declared.reply.Reply.{Reply}
use Rattle.association_session.specs.Projections.{IsFront}
use Rattle.association_session.specs.Row.{opening}
use Rattle.association_session.specs.Session.{is_abort, is_release, is_abort_event}
use Rattle.association_session.specs.Talks.{Heard, Talks}
use Rattle.association_run.specs.declared.end.End.{End}
use Rattle.association_run.specs.declared.end.End.TheVariants.{Released, Aborted, Closed, Dropped}
use Rattle.association_run.specs.declared.piece.Piece.{Piece}
use Rattle.association_run.specs.declared.run.TheConstants.{MOST_DROPPED}
use Rattle.association_run.specs.Pieces.{Cuts, is_cut, event_of}
use Rattle.association_run.specs.Hearing.{Course, SETTING_OUT, counts, TakesPieces, TakesSome}
use Rattle.association_run.specs.Parts.{Sides, Performs, Begins}
use Rattle.archive_model.specs.declared.view.View.{View}

-- ---- how it ends

-- all the bytes that count, with those behind the last piece
abbrev pub all_counted : Course → List ℕ → ℕ
all_counted c rest = c.counted + counts c.place.within.state (length rest)

-- All the bytes were read that are read once the peer is to close.
abbrev pub IsFull : Course → List ℕ → Type 0
IsFull c rest = all_counted c rest ≡ MOST_DROPPED

-- an A-ABORT was read
abbrev pub is_abort_piece : Piece → Bool
is_abort_piece piece = is_abort_event (inputs.Heard (event_of piece))

-- an A-ABORT was read or sent
abbrev pub was_aborted : List Piece → List Deed → Bool
was_aborted pieces done = list_any is_abort_piece pieces || list_any is_abort done

-- an A-RELEASE-RP was sent
abbrev pub was_released : List Deed → Bool
was_released done = list_any is_release done

-- how an association ends, where so many bytes count
abbrev pub end_in : ℕ → Bool → Bool → End
end_in counted aborted released =
    if counted == MOST_DROPPED then Dropped
    else if aborted then Aborted
    else if released then Released
    else Closed

-- What comes behind the pieces is no whole piece, or is no longer cut.
abbrev pub IsLeft : List Piece → List ℕ → Type 0
IsLeft pieces rest = IsUnfinished rest ⊎ (is_cut pieces ≡ false)

-- The connection was closed, all was read that is read once the peer is to close, or the stream came to its end.
abbrev pub IsOver : Course → List ℕ → Option (List ℕ) → Type 0
IsOver course rest remaining = (course.place.within.state ≡ Sta1) ⊎ (IsFull course rest ⊎ IsAtEnd remaining)

-- ---- a whole run

-- All the deeds for what was read and replied were done, in order, and no others, however the reads were cut.
pub record Output {P : Type 0} (ops : P → List Op) (own : P → List (List ℕ)) (titles : List (Title View))
    (r0 r1 : Option (List ℕ)) (old new : Sides P) (end : End) : Type 0 where
  pub text : List ℕ
  pub read : Consumes r0 r1 text
  pub pieces : List Piece
  pub rest : List ℕ
  pub cut : Cuts text pieces rest
  pub left : IsLeft pieces rest
  pub heard : List Heard
  pub course : Course
  pub hears : TakesPieces titles SETTING_OUT pieces heard course
  pub replies : List Reply
  pub all_replied : course.replies ≡ replies
  pub done : List Deed
  pub talk : Talks titles opening None heard replies done
  pub did : Performs ops own old new done [] replies
  pub within : all_counted course rest ≤ MOST_DROPPED
  pub over : IsOver course rest r1
  -- Once it is closed no byte is read.
  pub closed : course.place.within.state ≡ Sta1 → rest ≡ []
  pub ended : end ≡ end_in (all_counted course rest) (was_aborted pieces done) (was_released done)

-- A front of it, after a fault.
pub record FrontOfOutput {P : Type 0} (ops : P → List Op) (own : P → List (List ℕ)) (titles : List (Title View))
    (r0 r1 : Option (List ℕ)) (old new : Sides P) : Type 0 where
  pub text : List ℕ
  pub read : Consumes r0 r1 text
  pub pieces : List Piece
  pub rest : List ℕ
  pub cut : Cuts text pieces rest
  pub heard : List Heard
  -- These deeds were done, and of the PDU of the next one these bytes were written.
  pub replies : List Reply
  pub done : List Deed
  pub part : List ℕ
  pub did : Performs ops own old new done part replies
  -- They are a front of the deeds for what was heard and told, where the last reply may not be told yet,
  pub told : List Reply
  pub first : IsFront told replies
  pub hears : TakesSome titles pieces heard told
  pub all : List Deed
  pub talk : Talks titles opening None heard told all
  pub front : Begins done part all
  -- and of those for all that may be heard later, and for every reply of a call that was not made.
  pub whatever : (more : List Heard) (others : List Reply) (talked : List Deed) → Talks titles opening None
      (heard ++ more) (replies ++ others) talked → Begins done part talked

-- at least so many bytes were read
abbrev pub ReadAtLeast : ℕ → Option (List ℕ) → Option (List ℕ) → Type 0
ReadAtLeast n r0 r1 = (text : List ℕ) × Consumes r0 r1 text × (n ≤ length text)
