-- What a turn adds to what was done so far.
use Rattle.std.proofs.Common.{◌≡◌, ◌≢◌, ℕ, suc, ◌+◌, ◌<◌, ◌≤◌, ◌==◌, Bool, true, false, ◌||◌, List, [], ◌∷◌, ◌++◌}
use Rattle.std.proofs.Common.{length, Option, None, Result, ◌⊎◌, inl, inr, refl, sym, ap, subst, ◌∙◌, append_assoc}
use Rattle.std.proofs.Common.{append-nil, arith, length-append}
use Rattle.std.proofs.lemmas.Bool.{eqb-true, eqb-false}
use Rattle.std.proofs.Math.Arith.{lt_of_le-ne}
use Rattle.std.proofs.lemmas.List.Folds.{list_any-append}
use Rattle.std.specs.List.{list_any}
use Rattle.std.specs.Io.KnownBytes.{Consumes, IsAtEnd}
use Rattle.std.proofs.lemmas.List.{nil_from_length as no_bytes}
use mathlib.Core.Bool.{or-false as or_none}
use Rattle.pdu.specs.declared.pdv.Pdv.{Pdv}
use Rattle.pdu.specs.declared.fault.PduFault.{PduFault}
use Rattle.pdu.specs.declared.fault.PduFault.TheVariants as faults
use Rattle.pdu.specs.Grammar.{IsUnfinished}
use Rattle.operation.specs.declared.op.Op.{Op}
use Rattle.ul_state.specs.declared.event.Event.TheVariants.{Bad}
use Rattle.ul_state.specs.declared.table.State.{State}
use Rattle.ul_state.specs.declared.table.State.TheVariants.{Sta1, Sta2, Sta6, Sta13}
use Rattle.ul_state.specs.declared.titles.Title.{Title}
use Rattle.ul_state.specs.Table.{next_of}
use Rattle.ul_state.specs.Acceptor.{kind_for}
use Rattle.dimse.specs.declared.fault.DimseFault.{DimseFault}
use Rattle.dimse.specs.declared.message.Message.{Message}
use Rattle.dimse.specs.Assembly.{Assembly}
use Rattle.dimse.specs.Messages.{Run}
use Rattle.association_session.specs.declared.deed.Deed.{Deed}
use Rattle.association_services.specs.declared.reply.Reply.{Reply}
use Rattle.association_services.specs.declared.call.Call.{Call}
use Rattle.association_session.specs.Projections.{IsFront, calls_in, state_after}
use Rattle.association_session.specs.Row.{Within, opening, handed_on}
use Rattle.association_session.specs.Session.{AssociationState, SessionState, Takes, Owes, start, is_left, heard_in}
use Rattle.association_session.specs.Session.{is_abort, is_release}
use Rattle.association_session.specs.Talks.{Heard, Leads, Talks}
use Rattle.association_session.proofs.TalkLaws.{talks_front}
use Rattle.association_run.specs.declared.piece.Piece.{Piece}
use Rattle.association_run.specs.declared.piece.Piece.TheVariants.{Whole, Faulty}
use Rattle.association_run.specs.declared.end.End.{End}
use Rattle.association_run.specs.declared.run.Intake.{Intake}
use Rattle.association_run.specs.declared.run.TheConstants.{MOST_DROPPED}
use Rattle.association_run.specs.inner.Inbox.{EMPTY, InHand}
use Rattle.association_run.specs.Pieces.{IsPiece, is_cut, event_of, size_of_piece}
use Rattle.association_run.specs.inner.Turns.{is_whole}
use Rattle.association_run.specs.Hearing.{Place, Course, SETTING_OUT, Says, Hears, HearsFront, TakesPiece, TakesPieces}
use Rattle.association_run.specs.Hearing.{counts}
use Rattle.association_run.specs.Parts.{Sides, Begins}
use Rattle.association_run.specs.Port.{History}
use Rattle.association_run.specs.Output.{Output, FrontOfOutput, IsOver, IsLeft, all_counted, end_in}
use Rattle.association_run.specs.inner.Turns.{is_over}
use Rattle.association_run.specs.Output.{is_abort_piece, was_aborted, was_released}
use Rattle.association_run.specs.inner.Steps.{place_of, HearsPart, HeardFront}
use Rattle.association_run.specs.inner.Turns.{counted_in, NOTHING_READ, Adds, Drops, Reads, HearsPiece, TakesHand}
use Rattle.association_run.specs.inner.Turns.{TakingFails, IsInHand, IsDropped, IsReady, Progress}
use Rattle.association_run.proofs.CutLaws.{long_of, cuts_push, cuts_more, is_cut-push}
use Rattle.association_run.proofs.Fronts.{read_further, nothing_read, all_front, front_behind}
use Rattle.association_run.proofs.DeedLaws.{did_none, did_then, all_begun, begun_behind, begun_more}
use Rattle.association_run.proofs.StepLaws.{takes_all, takes_front, takes_then, state_then}
use Rattle.archive_model.specs.declared.view.View.{View}

no_piece : (piece : Piece) → IsPiece piece [] → ⊥
no_piece (Whole p n) is = let e = is.0.parts in cc
no_piece (Faulty faults.UnknownType n) is = let e = is.0.1 in omega (arith, e)
no_piece (Faulty faults.BadLength n) is = let e = is.0.1 in omega (arith, e)
no_piece (Faulty faults.BadItem n) is = let e = is.0.1 in omega (arith, e)
no_piece (Faulty faults.TooLong n) is = let e = is.0.1 in omega (arith, e)
no_piece (Faulty faults.Memory n) is = is.0

-- ---- what is heard of pieces

takes_push : (titles : List (Title View)) (c : Course) (pieces : List Piece) (heard : List Heard)
    (mid : Course) (piece : Piece) (now : List Heard) (end : Course) → TakesPieces titles c pieces heard mid
    → TakesPiece titles mid piece now end
    → TakesPieces titles c (pieces ++ piece ∷ []) (heard ++ now) end
takes_push titles c [] heard mid piece now end p q = (
  end,
  now,
  [],
  subst (λ (k : Course). TakesPiece titles k piece now end) p.1 q,
  (refl, refl),
  ap (λ (t : List Heard). t ++ now) p.0 ∙ sym (append-nil now),
)
takes_push titles c (first ∷ pieces) heard mid piece now end p q = (
  p.0,
  p.1,
  p.2 ++ now,
  p.3,
  takes_push titles p.0 pieces p.2 mid piece now end p.4 q,
  ap (λ (t : List Heard). t ++ now) p.5 ∙ append_assoc p.1 p.2 now,
)

-- A faulty PDU hands nothing on, and behind it the peer is to close.
faulty_row : (titles : List (Title View)) (state : State) (f : PduFault) → state ≢ Sta1
    → (handed_on titles state (Bad f) ≡ []) × (next_of state (kind_for titles (Bad f)) ≡ Sta13)
faulty_row titles Sta1 f connected = absurd (connected refl)
faulty_row titles Sta2 faults.UnknownType connected = (refl, refl)
faulty_row titles Sta2 faults.BadLength connected = (refl, refl)
faulty_row titles Sta2 faults.BadItem connected = (refl, refl)
faulty_row titles Sta2 faults.TooLong connected = (refl, refl)
faulty_row titles Sta2 faults.Memory connected = (refl, refl)
faulty_row titles Sta6 faults.UnknownType connected = (refl, refl)
faulty_row titles Sta6 faults.BadLength connected = (refl, refl)
faulty_row titles Sta6 faults.BadItem connected = (refl, refl)
faulty_row titles Sta6 faults.TooLong connected = (refl, refl)
faulty_row titles Sta6 faults.Memory connected = (refl, refl)
faulty_row titles Sta13 faults.UnknownType connected = (refl, refl)
faulty_row titles Sta13 faults.BadLength connected = (refl, refl)
faulty_row titles Sta13 faults.BadItem connected = (refl, refl)
faulty_row titles Sta13 faults.TooLong connected = (refl, refl)
faulty_row titles Sta13 faults.Memory connected = (refl, refl)

no_answers : (a b : Assembly) (fed : List Pdv) (answers : List (Result (Option Message) DimseFault)) → fed ≡ []
    → Run a fed answers b → answers ≡ []
no_answers a b [] [] none run = refl
no_answers a b [] (r ∷ answers) none run = absurd run
no_answers a b (p ∷ fed) answers none run = absurd cc

no_values : (fed left : List Pdv) → fed ++ left ≡ [] → fed ≡ []
no_values [] left e = refl
no_values (p ∷ fed) left e = absurd cc

-- Each call has its reply.
replied_all : {P : Type 0} (ops : P → List Op) (own : P → List (List ℕ)) (a b : P) (calls : List Call)
    (replies : List Reply) → History ops own a calls replies b → length calls ≡ length replies
replied_all ops own a b [] [] h = refl
replied_all ops own a b [] (r ∷ rs) h = absurd h
replied_all ops own a b (c ∷ cs) [] h = absurd h
replied_all ops own a b (c ∷ cs) (r ∷ rs) h = ap suc (replied_all ops own h.0 b cs rs h.2)

-- Where no value is handed on nothing is said.
nothing_said : (titles : List (Title View)) (old : Place) (values : List Pdv) (said : List Heard)
    (left : List Pdv) (new : Place) → values ≡ [] → Says titles old values said left new → new.within ≡ old.within
nothing_said titles old values said left new none p =
    let fed : p.fed ≡ [] = no_values p.fed left (sym p.parts ∙ none) in
    let said_none : said ≡ [] = p.says ∙ ap heard_in (no_answers _ _ p.fed p.answers fed p.run) in
    subst (λ (t : List Heard). Leads titles old.within t new.within) said_none p.leads

dropped_state : (titles : List (Title View)) (old : Place) (f : PduFault) (heard : List Heard)
    (new : Place) → old.within.state ≢ Sta1 → Hears titles old (Bad f) heard new → new.within.state ≡ Sta13
dropped_state titles old f heard new connected h =
    let row = faulty_row titles old.within.state f connected in
    ap (λ (w : Within). w.state) (nothing_said titles _ _ h.1.said h.0 new row.0 h.1.values) ∙ row.1

-- ---- how it ends

or_four : (a b c d : Bool) → ((a || b) || (c || d)) ≡ ((a || c) || (b || d))
or_four true b c d = refl
or_four false true true d = refl
or_four false true false d = refl
or_four false false true d = refl
or_four false false false d = refl

aborted_push : (pieces : List Piece) (done : List Deed) (piece : Piece) (deeds : List Deed) (before after : Bool)
    → before ≡ was_aborted pieces done → after ≡ (before || (is_abort_piece piece || list_any is_abort deeds))
    → after ≡ was_aborted (pieces ++ piece ∷ []) (done ++ deeds)
aborted_push pieces done piece deeds before after so goes =
    goes ∙ ap (λ (b : Bool). b || (is_abort_piece piece || list_any is_abort deeds)) so
    ∙ or_four (list_any is_abort_piece pieces) (list_any is_abort done) (is_abort_piece piece) (list_any is_abort deeds)
    ∙ ap (λ (b : Bool). (list_any is_abort_piece pieces || is_abort_piece piece) || b)
    (sym (list_any-append is_abort done deeds))
    ∙ ap (λ (b : Bool). (list_any is_abort_piece pieces || b) || list_any is_abort (done ++ deeds))
    (sym (or_none (is_abort_piece piece)))
    ∙ ap (λ (b : Bool). b || list_any is_abort (done ++ deeds))
    (sym (list_any-append is_abort_piece pieces (piece ∷ [])))

released_push : (done deeds : List Deed) (before after : Bool) → before ≡ was_released done
    → after ≡ (before || list_any is_release deeds) → after ≡ was_released (done ++ deeds)
released_push done deeds before after so goes =
    goes ∙ ap (λ (b : Bool). b || list_any is_release deeds) so ∙ sym (list_any-append is_release done deeds)

-- ---- what counts

counts_none : (state : State) → counts state 0 ≡ 0
counts_none Sta1 = refl
counts_none Sta2 = refl
counts_none Sta6 = refl
counts_none Sta13 = refl

counted_empty : (intake : Intake) (state : State) → intake.inbox.text ≡ [] → counted_in intake state ≡ intake.counted
counted_empty intake state empty =
    ap (λ (t : List ℕ). intake.counted + counts state (length t)) empty ∙ ap (λ (n : ℕ). intake.counted + n)
    (counts_none state) ∙ omega arith

counted_is : (state : State) (counted : ℕ) (intake : Intake) (pieces : List Piece) (rest : List ℕ)
    → IsInHand intake pieces rest counted ⊎ IsDropped intake state pieces rest counted
    → counted + counts state (length rest) ≡ counted_in intake state
counted_is state counted intake pieces rest (inl hand) = ap (λ (n : ℕ). n + counts state (length rest)) hand.3
    ∙ ap (λ (t : List ℕ). intake.counted + counts state (length t)) hand.2
counted_is state counted intake pieces rest (inr dropped) =
    ap (λ (k : State). counted + counts k (length rest)) dropped.4 ∙ sym dropped.2
    ∙ sym (counted_empty intake state dropped.3)

left_of : (intake : Intake) (state : State) (pieces : List Piece) (rest : List ℕ) (counted : ℕ)
    → IsUnfinished intake.inbox.text → IsInHand intake pieces rest counted ⊎ IsDropped intake state pieces rest counted
    → IsLeft pieces rest
left_of intake state pieces rest counted unfinished (inl hand) =
    inl (subst (λ (t : List ℕ). IsUnfinished t) (sym hand.2) unfinished)
left_of intake state pieces rest counted unfinished (inr dropped) = inr dropped.1

-- what a read brings to the rest
held_more : (before after : Intake) (state : State) (pieces : List Piece) (rest bytes : List ℕ) (counted : ℕ)
    → Adds before bytes after ⊎ Drops before bytes after
    → IsInHand before pieces rest counted ⊎ IsDropped before state pieces rest counted
    → IsInHand after pieces (rest ++ bytes) counted ⊎ IsDropped after state pieces (rest ++ bytes) counted
held_more before after state pieces rest bytes counted (inl adds) (inl hand) =
    inl (adds.1, hand.1, ap (λ (t : List ℕ). t ++ bytes) hand.2 ∙ sym adds.3, hand.3 ∙ sym adds.2)
held_more before after state pieces rest bytes counted (inl adds) (inr dropped) = absurd (let e = sym adds.0
    ∙ dropped.0 in cc)
held_more before after state pieces rest bytes counted (inr drops) (inl hand) = absurd (let e = sym hand.0 ∙ drops.0 in
    cc)
held_more before after state pieces rest bytes counted (inr drops) (inr dropped) =
    inr (
      drops.1,
      dropped.1,
      omega (arith, drops.2, dropped.2, length-append rest bytes),
      ap (λ (h : InHand). h.text)
          drops.3 ∙ dropped.3,
      dropped.4,
    )

not_over : (state : State) (counted : ℕ) → is_over state counted ≡ false → (state ≢ Sta1) × (counted ≢ MOST_DROPPED)
not_over Sta1 counted e = absurd cc
not_over Sta2 counted e = (λ f. absurd cc, eqb-false counted MOST_DROPPED e)
not_over Sta6 counted e = (λ f. absurd cc, eqb-false counted MOST_DROPPED e)
not_over Sta13 counted e = (λ f. absurd cc, eqb-false counted MOST_DROPPED e)

module _ {P : Type 0} (ops : P → List Op) (own : P → List (List ℕ)) (titles : List (Title View)) where
  -- where it is, with the bytes that were counted, and what was heard, replied and done
  abbrev course_at : SessionState → ℕ → List Heard → List Reply → List Deed → Course
  course_at s counted heard replies done = record {
    place = place_of s.association;
    counted = counted;
    heard = heard;
    replies = replies;
    done = done;
  }

  pub nothing_yet : (r : Option (List ℕ)) (a : Sides P) (s : SessionState) → s.association ≡ start → s.aborted ≡ false
      → s.released ≡ false → Progress ops own titles r r a a s NOTHING_READ 0
  nothing_yet r a s is aborted released = record {
    text = [];
    read = nothing_read r;
    many = omega arith;
    pieces = [];
    rest = [];
    counted = 0;
    cut = refl;
    heard = [];
    replies = [];
    done = [];
    hears = (
      refl,
      ap (λ (t : AssociationState). record { place = place_of t; counted = 0; heard = []; replies = []; done = [] }) is,
    );
    takes = λ us rs rest owed. subst (λ (t : AssociationState). Owes titles t us rs rest) is owed;
    state = ap (λ (t : AssociationState). t.within.state) is;
    idle = ap (λ (t : AssociationState). t.awaited) is;
    did = did_none ops own a;
    held = inl (refl, refl, refl, refl);
    within = subst (λ (k : AssociationState). counted_in NOTHING_READ k.within.state ≤ MOST_DROPPED) (sym is)
        (omega arith);
    aborted = aborted;
    released = released;
  }

  pub after_read : (r0 r1 r2 : Option (List ℕ)) (old now : Sides P) (s : SessionState) (before after : Intake)
      (n count : ℕ) → Progress ops own titles r0 r1 old now s before n → Reads r1 r2 before count after
      → counted_in after s.association.within.state ≤ MOST_DROPPED → Progress ops own titles r0 r2 old now s
      after (n + count)
  after_read r0 r1 r2 old now s before after n count so r within = record {
    text = so.text ++ r.bytes;
    read = read_further r0 r1 r2 so.text r.bytes so.read r.read;
    many = omega (arith, so.many, r.long, length-append so.text r.bytes);
    pieces = so.pieces;
    rest = so.rest ++ r.bytes;
    counted = so.counted;
    cut = cuts_more so.text so.pieces so.rest r.bytes so.cut;
    heard = so.heard;
    replies = so.replies;
    done = so.done;
    hears = so.hears;
    takes = so.takes;
    state = so.state;
    idle = so.idle;
    did = so.did;
    held = held_more before after s.association.within.state so.pieces so.rest r.bytes so.counted r.brought so.held;
    within = within;
    aborted = so.aborted;
    released = so.released;
  }

  -- what is held behind a piece
  held_behind : (old new : Place) (before after : Intake) (pieces : List Piece) (piece : Piece) (counted : ℕ)
      (heard : List Heard) → old.within.state ≢ Sta1 → Hears titles old (event_of piece) heard new
      → is_cut pieces ≡ true → counted ≡ before.counted → after.counted ≡ before.counted + counts old.within.state
      (size_of_piece piece) → after.is_cut ≡ is_whole piece → after.inbox ≡ EMPTY
      → IsInHand after (pieces ++ piece ∷ []) [] (counted + counts old.within.state (size_of_piece piece))
      ⊎ IsDropped after new.within.state (pieces ++ piece ∷ []) []
      (counted + counts old.within.state (size_of_piece piece))
  held_behind old new before after pieces (Whole p n) counted heard connected h cut same more is empty =
      inl (
        is,
        is_cut-push pieces (Whole p n) cut,
        ap (λ (k : InHand). k.text) (sym empty),
        ap (λ (k : ℕ). k + counts old.within.state n) same ∙ sym more,
      )
  held_behind old new before after pieces (Faulty f n) counted heard connected h cut same more is empty =
      inr (
        is,
        is_cut-push pieces (Faulty f n) cut,
        omega (arith, more, same),
        ap (λ (k : InHand). k.text) empty,
        dropped_state titles old f heard new connected h,
      )

  held_kept : (before after : Intake) (state : State) (pieces : List Piece) (rest : List ℕ) (counted : ℕ)
      → after.is_cut ≡ before.is_cut → after.counted ≡ before.counted → after.inbox.text ≡ before.inbox.text
      → IsInHand before pieces rest counted ⊎ IsDropped before state pieces rest counted → IsInHand after pieces rest
      counted ⊎ IsDropped after state pieces rest counted
  held_kept before after state pieces rest counted cut same text (inl hand) = inl (
    cut ∙ hand.0,
    hand.1,
    hand.2
        ∙ sym text,
    hand.3 ∙ sym same,
  )
  held_kept before after state pieces rest counted cut same text (inr dropped) = inr (
    cut ∙ dropped.0,
    dropped.1,
    same
        ∙ dropped.2,
    text ∙ dropped.3,
    dropped.4,
  )

  took_nothing : (r0 r1 : Option (List ℕ)) (old now then : Sides P) (s : SessionState) (before : Intake)
      (t : SessionState) (after : Intake) (n : ℕ) → Progress ops own titles r0 r1 old now s before n
      → then ≡ now → t ≡ s → after.is_cut ≡ before.is_cut → after.counted ≡ before.counted
      → after.inbox.text ≡ before.inbox.text → Progress ops own titles r0 r1 old then t after n
  took_nothing r0 r1 old now then s before t after n so sides_same same cut counted text =
      let kept : Progress ops own titles r0 r1 old now s after n = record {
        text = so.text;
        read = so.read;
        many = so.many;
        pieces = so.pieces;
        rest = so.rest;
        counted = so.counted;
        cut = so.cut;
        heard = so.heard;
        replies = so.replies;
        done = so.done;
        hears = so.hears;
        takes = so.takes;
        state = so.state;
        idle = so.idle;
        did = so.did;
        held = held_kept before after s.association.within.state so.pieces so.rest so.counted cut counted text so.held;
        within = rw (counted, text) so.within;
        aborted = so.aborted;
        released = so.released;
      } in
      subst (λ (k : Sides P). Progress ops own titles r0 r1 old k t after n) (sym sides_same)
      (subst (λ (k : SessionState). Progress ops own titles r0 r1 old now k after n) (sym same) kept)

  talk_of : (s : SessionState) (heard : List Heard) (replies : List Reply) (done : List Deed)
      → s.association.awaited ≡ None → Takes titles start heard replies done s.association
      → Talks titles opening None heard replies done
  talk_of s heard replies done idle takes = takes_all titles start s.association heard replies done idle takes

  took_piece : (r0 r1 : Option (List ℕ)) (old now then : Sides P) (s : SessionState) (before : Intake)
      (t : SessionState) (after : Intake) (n : ℕ) (so : Progress ops own titles r0 r1 old now s before n)
      → s.association.within.state ≢ Sta1 → HearsPiece ops own titles now then s before t after
      → IsInHand before so.pieces so.rest so.counted → Progress ops own titles r0 r1 old then t after n
  took_piece r0 r1 old now then s before t after n so connected h hand =
      let is : IsPiece h.piece so.rest = subst (λ (k : List ℕ). IsPiece h.piece k) (sym hand.2) h.is in
      let empty : after.inbox.text ≡ [] = ap (λ (k : InHand). k.text) h.empty in
      let size = long_of h.piece before.inbox.text h.is in
      let counts_kept = ap (λ (k : ℕ). counts s.association.within.state k) size in
      let w = h.heard in
      let takes = takes_then titles start s.association t.association so.heard w.heard so.replies w.replies so.done
      w.done so.takes w.takes in
      let did = did_then ops own old now then so.done w.done [] so.replies w.replies so.did w.did in
      let state = w.state ∙ ap (λ (k : State). state_after k w.done) so.state ∙ sym (state_then Sta2 so.done w.done) in
      record {
        text = so.text;
        read = so.read;
        many = so.many;
        pieces = so.pieces ++ h.piece ∷ [];
        rest = [];
        counted = so.counted + counts s.association.within.state (size_of_piece h.piece);
        cut = cuts_push so.text so.pieces so.rest h.piece so.cut hand.1 is;
        heard = so.heard ++ w.heard;
        replies = so.replies ++ w.replies;
        done = so.done ++ w.done;
        hears = takes_push titles SETTING_OUT so.pieces so.heard (course_at s so.counted so.heard so.replies so.done)
            h.piece w.heard (course_at t (so.counted + counts s.association.within.state (size_of_piece h.piece))
            (so.heard ++ w.heard) (so.replies ++ w.replies) (so.done ++ w.done)) so.hears (
              connected,
              w.hears,
              refl,
              record {
                heard = refl;
                more = (w.replies, refl);
                talk = talk_of t (so.heard ++ w.heard) (so.replies ++ w.replies) (so.done ++ w.done) w.idle takes;
                replied = replied_all ops own old.port then.port (calls_in (so.done ++ w.done))
                    (so.replies ++ w.replies)
                    did.history;
                state = state;
              },
            );
        takes = takes;
        state = state;
        idle = w.idle;
        did = did;
        held = held_behind (place_of s.association) (place_of t.association) before after so.pieces h.piece so.counted
            w.heard connected w.hears hand.1 hand.3 h.counted h.cut h.empty;
        within = omega (arith, counted_empty after t.association.within.state empty, h.counted, counts_kept, so.within);
        aborted = aborted_push so.pieces so.done h.piece w.done s.aborted t.aborted so.aborted w.aborted;
        released = released_push so.done w.done s.released t.released so.released w.released;
      }

  pub after_take : (r0 r1 : Option (List ℕ)) (old now then : Sides P) (s : SessionState) (before : Intake)
      (t : SessionState) (after : Intake) (n : ℕ) → Progress ops own titles r0 r1 old now s before n
      → s.association.within.state ≢ Sta1
      → TakesHand ops own titles now then s before t after → Progress ops own titles r0 r1 old then t after n
  after_take r0 r1 old now then s before t after n so connected (inl none) = took_nothing r0 r1 old now then s before t
      after n so none.0 none.1 none.2 none.3 none.4
  after_take r0 r1 old now then s before t after n so connected (inr h) = elim so.held
      as (λ _. Progress ops own titles r0 r1 old then t after n) [
        | inl hand ↦ took_piece r0 r1 old now then s before t after n so connected h hand
        | inr dropped ↦ absurd (no_piece h.piece (subst (λ (k : List ℕ). IsPiece h.piece k) dropped.3 h.is))
      ]

  -- A front of one talk is a front of each that goes on from there.
  whatever_comes : (heard : List Heard) (told replies : List Reply) (done : List Deed) (part : List ℕ) (all : List Deed)
      → IsFront told replies → Talks titles opening None heard told all → Begins done part all
      → (more : List Heard) (others : List Reply) (talked : List Deed) → Talks titles opening None (heard ++ more)
      (replies ++ others) talked → Begins done part talked
  whatever_comes heard told replies done part all first talk front more others talked later =
      begun_more done part all talked front
      (talks_front titles opening None heard more told (first.0 ++ others) all talked talk
      (subst (λ (t : List Reply). Talks titles opening None (heard ++ more) t talked)
      (ap (λ (t : List Reply). t ++ others)
      first.1 ∙ append_assoc told first.0 others) later))

  -- what is done is a front of itself
  pub stopped : (r0 r1 r2 : Option (List ℕ)) (old now : Sides P) (s : SessionState) (intake : Intake) (n : ℕ)
      → Progress ops own titles r0 r1 old now s intake n → Consumes r1 r2 [] → FrontOfOutput ops own titles r0 r2 old
      now
  stopped r0 r1 r2 old now s intake n so none = record {
    text = so.text ++ [];
    read = read_further r0 r1 r2 so.text [] so.read none;
    pieces = so.pieces;
    rest = so.rest ++ [];
    cut = cuts_more so.text so.pieces so.rest [] so.cut;
    heard = so.heard;
    hears = record {
      whole = so.pieces;
      behind = [];
      parts = sym (append-nil so.pieces);
      before = so.heard;
      some = [];
      course = course_at s so.counted so.heard so.replies so.done;
      takes = so.hears;
      front = refl;
      earlier = all_front so.replies;
      is = sym (append-nil so.heard);
    };
    replies = so.replies;
    done = so.done;
    part = [];
    did = so.did;
    told = so.replies;
    first = all_front so.replies;
    all = so.done;
    talk = talk_of s so.heard so.replies so.done so.idle so.takes;
    front = all_begun so.done;
    whatever = whatever_comes so.heard so.replies so.replies so.done [] so.done (all_front so.replies)
        (talk_of s so.heard so.replies so.done so.idle so.takes) (all_begun so.done);
  }

  some_front : (s : SessionState) (counted : ℕ) (piece : Piece) (heard : List Heard) → s.association.within.state ≢
      Sta1 → HearsPart titles (place_of s.association) (event_of piece) heard → (h : List Heard)
      (r : List Reply) (d : List Deed) → HearsFront titles (course_at s counted h r d) piece heard
  some_front s counted piece heard connected (inl none) h r d = inl none
  some_front s counted piece heard connected (inr some) h r d = inr (some.0, some.1, connected, some.2)

  broke_piece : (r0 r1 : Option (List ℕ)) (old now then : Sides P) (s : SessionState) (intake : Intake) (n : ℕ)
      (so : Progress ops own titles r0 r1 old now s intake n) → s.association.within.state ≢ Sta1 → (piece : Piece)
      → IsPiece piece intake.inbox.text
      → HeardFront ops own titles now then s.association (event_of piece) → IsInHand intake so.pieces so.rest
      so.counted → FrontOfOutput ops own titles r0 r1 old then
  broke_piece r0 r1 old now then s intake n so connected piece is f hand =
      let here : IsPiece piece so.rest = subst (λ (k : List ℕ). IsPiece piece k) (sym hand.2) is in
      let takes = takes_then titles start s.association f.to so.heard f.heard so.replies f.told so.done f.all so.takes
      f.takes in
      let talk = takes_front titles start f.to (so.heard ++ f.heard) (so.replies ++ f.told) (so.done ++ f.all) f.fits
      takes in
      let first = front_behind so.replies f.told f.replies f.first in
      let front = begun_more (so.done ++ f.done) f.part (so.done ++ f.all) ((so.done ++ f.all) ++ talk.0)
      (begun_behind so.done f.done f.part f.all f.front) (talk.0, refl) in
      record {
        text = so.text;
        read = so.read;
        pieces = so.pieces ++ piece ∷ [];
        rest = [];
        cut = cuts_push so.text so.pieces so.rest piece so.cut hand.1 here;
        heard = so.heard ++ f.heard;
        hears = record {
          whole = so.pieces;
          behind = piece ∷ [];
          parts = refl;
          before = so.heard;
          some = f.heard;
          course = course_at s so.counted so.heard so.replies so.done;
          takes = so.hears;
          front = some_front s so.counted piece f.heard connected f.hears so.heard so.replies so.done;
          earlier = (f.told, refl);
          is = refl;
        };
        replies = so.replies ++ f.replies;
        done = so.done ++ f.done;
        part = f.part;
        did = did_then ops own old now then so.done f.done f.part so.replies f.replies so.did f.did;
        told = so.replies ++ f.told;
        first = first;
        all = (so.done ++ f.all) ++ talk.0;
        talk = talk.1;
        front = front;
        whatever = whatever_comes (so.heard ++ f.heard) (so.replies ++ f.told) (so.replies ++ f.replies)
            (so.done ++ f.done) f.part ((so.done ++ f.all) ++ talk.0) first talk.1 front;
      }

  pub broken : (r0 r1 : Option (List ℕ)) (old now then : Sides P) (s : SessionState) (intake : Intake) (n : ℕ)
      → Progress ops own titles r0 r1 old now s intake n → s.association.within.state ≢ Sta1
      → TakingFails ops own titles now then s intake → FrontOfOutput ops own titles r0 r1 old then
  broken r0 r1 old now then s intake n so connected (inl same) = subst (λ (k : Sides P). FrontOfOutput ops own titles
      r0 r1 old k) (sym same) (stopped r0 r1 r1 old now s intake n so (nothing_read r1))
  broken r0 r1 old now then s intake n so connected (inr b) = elim so.held as (λ _. FrontOfOutput ops own titles r0 r1
      old then) [
        | inl hand ↦ broke_piece r0 r1 old now then s intake n so connected b.0 b.1 b.2 hand
        | inr dropped ↦ absurd (no_piece b.0 (subst (λ (k : List ℕ). IsPiece b.0 k) dropped.3 b.1))
      ]

  over_by : (c : Course) (rest : List ℕ) (r : Option (List ℕ)) (counted : ℕ) → all_counted c rest ≡ counted
      → (c.place.within.state ≡ Sta1) ⊎ ((counted ≡ MOST_DROPPED) ⊎ IsAtEnd r) → IsOver c rest r
  over_by c rest r counted all (inl closed) = inl closed
  over_by c rest r counted all (inr (inl full)) = inr (inl (all ∙ full))
  over_by c rest r counted all (inr (inr end)) = inr (inr end)

  -- Where the connection is closed nothing is in hand, so nothing is left.
  none_left : (intake : Intake) (state : State) (pieces : List Piece) (rest : List ℕ) (counted : ℕ)
      → (state ≡ Sta1 → intake.inbox.text ≡ []) → IsInHand intake pieces rest counted ⊎ IsDropped intake state pieces
      rest counted → state ≡ Sta1 → rest ≡ []
  none_left intake state pieces rest counted empty (inl hand) closed = hand.2 ∙ empty closed
  none_left intake state pieces rest counted empty (inr dropped) closed = absurd (let e = sym closed ∙ dropped.4 in cc)

  pub finished : (r0 r1 : Option (List ℕ)) (old now : Sides P) (s : SessionState) (intake : Intake) (n : ℕ)
      (end : End) → Progress ops own titles r0 r1 old now s intake n → IsUnfinished intake.inbox.text
      → (s.association.within.state ≡ Sta1) ⊎ ((counted_in intake s.association.within.state ≡ MOST_DROPPED)
      ⊎ IsAtEnd r1) → (s.association.within.state ≡ Sta1 → intake.inbox.text ≡ [])
      → end ≡ end_in (counted_in intake s.association.within.state) s.aborted s.released → Output ops own titles r0 r1
      old now end
  finished r0 r1 old now s intake n end so unfinished over empty ends =
      let c = course_at s so.counted so.heard so.replies so.done in
      let all : all_counted c so.rest ≡ counted_in intake s.association.within.state = counted_is
      s.association.within.state so.counted intake so.pieces so.rest so.held in
      record {
        text = so.text;
        read = so.read;
        pieces = so.pieces;
        rest = so.rest;
        cut = so.cut;
        left = left_of intake s.association.within.state so.pieces so.rest so.counted unfinished so.held;
        heard = so.heard;
        course = c;
        hears = so.hears;
        replies = so.replies;
        all_replied = refl;
        done = so.done;
        talk = talk_of s so.heard so.replies so.done so.idle so.takes;
        did = so.did;
        within = rw all so.within;
        over = over_by c so.rest r1 (counted_in intake s.association.within.state) all over;
        closed = none_left intake s.association.within.state so.pieces so.rest so.counted empty so.held;
        ended = ends ∙ ap (λ (k : ℕ). end_in k s.aborted s.released) (sym all)
            ∙ ap (λ (b : Bool). end_in (all_counted c so.rest) b s.released) so.aborted
            ∙ ap (λ (b : Bool). end_in (all_counted c so.rest) (was_aborted so.pieces so.done) b) so.released;
      }

  pub fewer_reads : (r0 r1 : Option (List ℕ)) (old now : Sides P) (s : SessionState) (intake : Intake) (m n : ℕ)
      → Progress ops own titles r0 r1 old now s intake n → m ≤ n → Progress ops own titles r0 r1 old now s intake m
  fewer_reads r0 r1 old now s intake m n so few = record {
    text = so.text;
    read = so.read;
    many = omega (arith, so.many, few);
    pieces = so.pieces;
    rest = so.rest;
    counted = so.counted;
    cut = so.cut;
    heard = so.heard;
    replies = so.replies;
    done = so.done;
    hears = so.hears;
    takes = so.takes;
    state = so.state;
    idle = so.idle;
    did = so.did;
    held = so.held;
    within = so.within;
    aborted = so.aborted;
    released = so.released;
  }

  pub unfinished_after : (now then : Sides P) (s : SessionState) (before : Intake) (t : SessionState)
      (after : Intake) → TakesHand ops own titles now then s before t after → IsUnfinished after.inbox.text
  unfinished_after now then s before t after (inl none) = none.6
  unfinished_after now then s before t after (inr h) = subst (λ (k : InHand). IsUnfinished k.text) (sym h.empty)
      (inl (omega arith))

  -- Behind the piece that closes the connection nothing is in hand.
  pub empty_after : (now then : Sides P) (s : SessionState) (before : Intake) (t : SessionState) (after : Intake)
      → s.association.within.state ≢ Sta1 → TakesHand ops own titles now then s before t after
      → t.association.within.state ≡ Sta1 → after.inbox.text ≡ []
  empty_after now then s before t after connected (inl none) closed =
      absurd (connected (sym (ap (λ (k : SessionState). k.association.within.state) none.1) ∙ closed))
  empty_after now then s before t after connected (inr h) closed = ap (λ (k : InHand). k.text) h.empty

  ready_idle : (now then : Sides P) (s : SessionState) (before : Intake) (t : SessionState) (after : Intake)
      → s.association.awaited ≡ None → TakesHand ops own titles now then s before t after
      → t.association.awaited ≡ None
  ready_idle now then s before t after idle (inl none) = ap (λ (k : SessionState). k.association.awaited) none.1
      ∙ idle
  ready_idle now then s before t after idle (inr h) = h.heard.idle

  ready_finished : (now then : Sides P) (s : SessionState) (before : Intake) (t : SessionState) (after : Intake)
      → is_left s.association.within.state s.association.queue ≡ false → TakesHand ops own titles now then s before t
      after
      → is_left t.association.within.state t.association.queue ≡ false
  ready_finished now then s before t after finished (inl none) =
      ap (λ (k : SessionState). is_left k.association.within.state k.association.queue) none.1 ∙ finished
  ready_finished now then s before t after finished (inr h) = h.heard.finished

  dropped_piece : (piece : Piece) (old new : Place) (heard : List Heard) → old.within.state ≢ Sta1
      → Hears titles old (event_of piece) heard new → is_whole piece ≡ false → new.within.state ≡ Sta13
  dropped_piece (Whole p n) old new heard connected h faulty = absurd cc
  dropped_piece (Faulty f n) old new heard connected h faulty = dropped_state titles old f heard new connected h

  dropping_after : (now then : Sides P) (s : SessionState) (before : Intake) (t : SessionState) (after : Intake)
      → s.association.within.state ≢ Sta1 → (before.is_cut ≡ false → s.association.within.state ≡ Sta13)
      → TakesHand ops own titles now then s before t after → after.is_cut ≡ false → t.association.within.state ≡ Sta13
  dropping_after now then s before t after connected dropping (inl none) cut =
      ap (λ (k : SessionState). k.association.within.state) none.1 ∙ dropping (sym none.2 ∙ cut)
  dropping_after now then s before t after connected dropping (inr h) cut =
      dropped_piece h.piece (place_of s.association) (place_of t.association) h.heard.heard connected h.heard.hears
      (sym h.cut ∙ cut)

  short_after : (now then : Sides P) (s : SessionState) (before : Intake) (t : SessionState) (after : Intake)
      → TakesHand ops own titles now then s before t after → length after.inbox.text < after.inbox.wanted
  short_after now then s before t after (inl none) = none.5
  short_after now then s before t after (inr h) = subst (λ (k : InHand). length k.text < k.wanted) (sym h.empty)
      (omega arith)

  within_after : (now then : Sides P) (s : SessionState) (before : Intake) (t : SessionState) (after : Intake)
      → counted_in before s.association.within.state ≤ MOST_DROPPED → TakesHand ops own titles now then s before t
      after
      → counted_in after t.association.within.state ≤ MOST_DROPPED
  within_after now then s before t after within (inl none) =
      subst (λ (k : SessionState). counted_in after k.association.within.state ≤ MOST_DROPPED) (sym none.1)
      (rw (none.3, none.4) within)
  within_after now then s before t after within (inr h) =
      let empty : after.inbox.text ≡ [] = ap (λ (k : InHand). k.text) h.empty in
      let size = long_of h.piece before.inbox.text h.is in
      omega (
        arith,
        counted_empty after t.association.within.state empty,
        h.counted,
        ap (λ (k : ℕ). counts s.association.within.state k) size,
        within,
      )

  -- a turn that goes on
  pub ready_after : (now then : Sides P) (s : SessionState) (before : Intake) (t : SessionState) (after : Intake)
      → s.association.awaited ≡ None → is_left s.association.within.state s.association.queue ≡ false
      → s.association.within.state ≢ Sta1 → (before.is_cut ≡ false → s.association.within.state ≡ Sta13)
      → counted_in before s.association.within.state ≤ MOST_DROPPED → TakesHand ops own titles now then s before t
      after
      → is_over t.association.within.state (counted_in after t.association.within.state) ≡ false → IsReady t after
  ready_after now then s before t after idle finished connected dropping within takes over =
      let more = not_over t.association.within.state (counted_in after t.association.within.state) over in
      record {
        idle = ready_idle now then s before t after idle takes;
        finished = ready_finished now then s before t after finished takes;
        connected = more.0;
        room = lt_of_le-ne (within_after now then s before t after within takes) more.1;
        short = short_after now then s before t after takes;
        unfinished = unfinished_after now then s before t after takes;
        dropping = dropping_after now then s before t after connected dropping takes;
      }

-- A read that dropped bytes is one of a stream that is no longer cut.
pub read_dropping : (r0 r1 : Option (List ℕ)) (state : State) (before after : Intake) (count : ℕ)
    → (before.is_cut ≡ false → state ≡ Sta13) → Reads r0 r1 before count after → after.is_cut ≡ false → state ≡ Sta13
read_dropping r0 r1 state before after count dropping r cut = elim r.brought as (λ _. state ≡ Sta13) [
  | inl adds ↦ absurd (let e = sym cut ∙ adds.1 in cc)
  | inr drops ↦ dropping drops.0
]

-- a read that brought nothing
still_unfinished : (before after : Intake) (bytes : List ℕ) → bytes ≡ [] → Adds before bytes after ⊎ Drops before bytes
    after → IsUnfinished before.inbox.text → IsUnfinished after.inbox.text
still_unfinished before after bytes none (inl adds) unfinished =
    subst (λ (t : List ℕ). IsUnfinished t) (sym (adds.3 ∙ ap (λ (t : List ℕ). before.inbox.text ++ t) none
    ∙ append-nil before.inbox.text)) unfinished
still_unfinished before after bytes none (inr drops) unfinished = subst (λ (k : InHand). IsUnfinished k.text)
    (sym drops.3) unfinished

pub nothing_more : (r0 r1 : Option (List ℕ)) (before after : Intake) (count : ℕ) → Reads r0 r1 before count after
    → count ≡ 0 → IsUnfinished before.inbox.text → IsUnfinished after.inbox.text
nothing_more r0 r1 before after count r none unfinished = still_unfinished before after
    r.bytes (no_bytes r.bytes (r.long ∙ none)) r.brought unfinished

full_of : (counted : ℕ) → (counted == MOST_DROPPED) ≡ true → counted ≡ MOST_DROPPED
full_of counted e = eqb-true counted MOST_DROPPED e

pub over_of : (state : State) (counted : ℕ) → is_over state counted ≡ true → (state ≡ Sta1) ⊎ (counted ≡ MOST_DROPPED)
over_of Sta1 counted e = inl refl
over_of Sta2 counted e = inr (full_of counted e)
over_of Sta6 counted e = inr (full_of counted e)
over_of Sta13 counted e = inr (full_of counted e)

pub or_at_end : {A B C : Type 0} → A ⊎ B → A ⊎ (B ⊎ C)
or_at_end (inl a) = inl a
or_at_end (inr b) = inr (inl b)

pub starts_ready : (s : SessionState) → s.association ≡ start → IsReady s NOTHING_READ
starts_ready s is = record {
  idle = ap (λ (k : AssociationState). k.awaited) is;
  finished = ap (λ (k : AssociationState). is_left k.within.state k.queue) is;
  connected = λ e. let f = sym e ∙ ap (λ (k : AssociationState). k.within.state) is in cc;
  room = subst (λ (k : AssociationState). counted_in NOTHING_READ k.within.state < MOST_DROPPED) (sym is)
      (omega arith);
  short = omega arith;
  unfinished = inl (omega arith);
  dropping = λ e. absurd cc;
}
