-- Deeds that were done, one after another.
use Rattle.std.proofs.Common.{◌≡◌, ℕ, List, [], ◌∷◌, ◌++◌, map, Option, Some, inl, inr, refl, sym, ap, subst}
use Rattle.std.proofs.Common.{◌∙◌, append_assoc, append-nil, arith}
use Rattle.std.specs.Prelude.{All, option_to_list}
use Rattle.std.specs.List.{flat_map}
use Rattle.std.specs.Io.KnownBytes.{Appends}
use Rattle.std.proofs.lemmas.Grind.{flat_map-append}
use Rattle.pdu.specs.declared.value.Pdu.{Pdu}
use Rattle.pdu.specs.Spelling.{IsPdu, text_of}
use Rattle.operation.specs.declared.op.Op.{Op}
use Rattle.association_services.specs.declared.call.Call.{Call}
use Rattle.association_session.specs.declared.deed.Deed.{Deed}
use Rattle.association_session.specs.declared.deed.Deed.TheVariants.{Send, Reach, Ask, Close}
use Rattle.association_session.specs.declared.deed.Moment.{Moment}
use Rattle.association_services.specs.declared.reply.Reply.{Reply}
use Rattle.association_session.specs.Projections.{IsFront, sent_in, moments_in, calls_in}
use Rattle.association_session.specs.Session.{IsWritable}
use Rattle.association_run.specs.Port.{Replies, History}
use Rattle.association_run.specs.Parts.{Passed, Sides, sides, bytes_in, Performs, next_bytes, Begins}
use Rattle.association_run.specs.inner.Outbox.{Puts, PutsFront}
use Rattle.association_run.specs.inner.Sides.{OnlyWrites, Asks, Reaches}
use Rattle.association_run.specs.inner.Steps.{Halts, BreaksOff}
use Rattle.association_run.proofs.Fronts.{further, nothing_written, no_front, all_front, front_behind, front_of_front}
use Rattle.association_run.proofs.Fronts.{front_split, passed_none, passed_on}

-- ---- projections

sent_on : (xs ys : List Deed) → sent_in (xs ++ ys) ≡ sent_in xs ++ sent_in ys
sent_on [] ys = refl
sent_on (Send pdu ∷ xs) ys = ap (λ (t : List Pdu). pdu ∷ t) (sent_on xs ys)
sent_on (Reach moment ∷ xs) ys = sent_on xs ys
sent_on (Ask call ∷ xs) ys = sent_on xs ys
sent_on (Close ∷ xs) ys = sent_on xs ys

moments_on : (xs ys : List Deed) → moments_in (xs ++ ys) ≡ moments_in xs ++ moments_in ys
moments_on [] ys = refl
moments_on (Send pdu ∷ xs) ys = moments_on xs ys
moments_on (Reach moment ∷ xs) ys = ap (λ (t : List Moment). moment ∷ t) (moments_on xs ys)
moments_on (Ask call ∷ xs) ys = moments_on xs ys
moments_on (Close ∷ xs) ys = moments_on xs ys

calls_on : (xs ys : List Deed) → calls_in (xs ++ ys) ≡ calls_in xs ++ calls_in ys
calls_on [] ys = refl
calls_on (Send pdu ∷ xs) ys = calls_on xs ys
calls_on (Reach moment ∷ xs) ys = calls_on xs ys
calls_on (Ask call ∷ xs) ys = ap (λ (t : List Call). call ∷ t) (calls_on xs ys)
calls_on (Close ∷ xs) ys = calls_on xs ys

bytes_on : (xs ys : List Deed) → bytes_in (xs ++ ys) ≡ bytes_in xs ++ bytes_in ys
bytes_on xs ys = ap (λ (t : List Pdu). flat_map text_of t) (sent_on xs ys) ∙ flat_map-append text_of (sent_in xs)
    (sent_in ys)

-- the bytes of some deeds, and of more with a part of the next one
bytes_behind : (xs ys : List Deed) (part : List ℕ) → (bytes_in xs ++ []) ++ (bytes_in ys ++ part) ≡ bytes_in (xs ++ ys)
    ++ part
bytes_behind xs ys part =
    ap (λ (t : List ℕ). t ++ (bytes_in ys ++ part)) (append-nil (bytes_in xs))
    ∙ sym (append_assoc (bytes_in xs) (bytes_in ys) part) ∙ ap (λ (t : List ℕ). t ++ part) (sym (bytes_on xs ys))

-- ---- the next deed

pub next_is : (items rest : List Deed) (next : Option Deed) (d : Deed) → items ≡ option_to_list next ++ rest
    → next ≡ Some d → items ≡ d ∷ rest
next_is items rest next d parts is = parts ∙ ap (λ (n : Option Deed). option_to_list n ++ rest) is

-- A PDU that is next can be written.
pub first_writable : (items rest : List Deed) (d : Deed) (pdu : Pdu) → items ≡ d ∷ rest → d ≡ Send pdu
    → All IsWritable items → IsPdu pdu
first_writable items rest d pdu parts is all =
    subst (λ (t : List Deed). All IsWritable t) (parts ∙ ap (λ (k : Deed). k ∷ rest) is) all 0 d (omega arith)

-- ---- PDUs that are sent

no_calls : (pdus : List Pdu) → calls_in (map Send pdus) ≡ []
no_calls [] = refl
no_calls (p ∷ pdus) = no_calls pdus

no_moments : (pdus : List Pdu) → moments_in (map Send pdus) ≡ []
no_moments [] = refl
no_moments (p ∷ pdus) = no_moments pdus

all_sent : (pdus : List Pdu) → sent_in (map Send pdus) ≡ pdus
all_sent [] = refl
all_sent (p ∷ pdus) = ap (λ (t : List Pdu). p ∷ t) (all_sent pdus)

sent_more : (pdus : List Pdu) (pdu : Pdu) (rest : List Deed) → map Send pdus ++ Send pdu ∷ rest ≡ map
    Send (pdus ++ pdu ∷ []) ++ rest
sent_more [] pdu rest = refl
sent_more (p ∷ pdus) pdu rest = ap (λ (t : List Deed). Send p ∷ t) (sent_more pdus pdu rest)

sends_on : (xs ys : List Pdu) (rest : List Deed) → map Send (xs ++ ys) ++ rest ≡ map Send xs ++ (map Send ys ++ rest)
sends_on [] ys rest = refl
sends_on (p ∷ xs) ys rest = ap (λ (t : List Deed). Send p ∷ t) (sends_on xs ys rest)

one_more : (pdus : List Pdu) (pdu : Pdu) → flat_map text_of (pdus ++ pdu ∷ []) ≡ flat_map text_of pdus ++ text_of pdu
one_more pdus pdu = flat_map-append text_of pdus (pdu ∷ []) ∙ ap (λ (t : List ℕ). flat_map text_of pdus ++ t)
    (append-nil (text_of pdu))

-- a front of the bytes of PDUs, and of some bytes of the next deed: whole PDUs, and a front of what comes next
record SentFront (sent : List Pdu) (out : List ℕ) (rest : List Deed) : Type 0 where
  pub done : List Pdu
  pub left : List Pdu
  pub part : List ℕ
  pub parts : sent ≡ done ++ left
  pub front : IsFront part (next_bytes (map Send left ++ rest))
  pub is : out ≡ flat_map text_of done ++ part

sent_front : (sent : List Pdu) (out text : List ℕ) (rest : List Deed) → IsFront text (next_bytes rest)
    → IsFront out (flat_map text_of sent ++ text) → SentFront sent out rest
sent_front [] out text rest fits front = record {
  done = [];
  left = [];
  part = out;
  parts = refl;
  front = front_of_front
      out text (next_bytes rest) front fits;
  is = refl;
}
sent_front (p ∷ pdus) out text rest fits front =
    elim (front_split out (text_of p) (flat_map text_of pdus ++ text) (subst (λ (t : List ℕ). IsFront out t)
    (append_assoc (text_of p) (flat_map text_of pdus) text) front)) as (λ _. SentFront (p ∷ pdus) out rest) [
      | inl f ↦ record { done = []; left = p ∷ pdus; part = out; parts = refl; front = f; is = refl }
      | inr q ↦
          let more = sent_front pdus q.0 text rest fits q.2 in
          record {
            done = p ∷ more.done;
            left = more.left;
            part = more.part;
            parts = ap (λ (t : List Pdu). p ∷ t) more.parts;
            front = more.front;
            is = q.1 ∙ ap (λ (t : List ℕ). text_of p ++ t) more.is
                ∙ sym (append_assoc (text_of p) (flat_map text_of more.done) more.part);
          }
    ]

-- ---- deeds, one after another

module _ {P : Type 0} (ops : P → List Op) (own : P → List (List ℕ)) where
  history_on : (a : P) (xs : List Call) (rs : List Reply) (b : P) (ys : List Call) (ss : List Reply) (c : P)
      → History ops own a xs rs b → History ops own b ys ss c → History ops own a (xs ++ ys) (rs ++ ss) c
  history_on a [] [] b ys ss c p q = subst (λ (k : P). History ops own k ys ss c) p q
  history_on a [] (r ∷ rs) b ys ss c p q = absurd p
  history_on a (x ∷ xs) [] b ys ss c p q = absurd p
  history_on a (x ∷ xs) (r ∷ rs) b ys ss c p q = (p.0, p.1, history_on p.0 xs rs b ys ss c p.2 q)

  pub did_none : (a : Sides P) → Performs ops own a a [] [] []
  did_none a = record { history = refl; appended = nothing_written a.written; passed = passed_none a.reached }

  pub did_then : (a b c : Sides P) (d1 d2 : List Deed) (part : List ℕ) (r1 r2 : List Reply)
      → Performs ops own a b d1 [] r1
      → Performs ops own b c d2 part r2 → Performs ops own a c (d1 ++ d2) part (r1 ++ r2)
  did_then a b c d1 d2 part r1 r2 p q = record {
    history = subst (λ (t : List Call). History ops own a.port t (r1 ++ r2) c.port) (sym (calls_on d1 d2))
        (history_on a.port (calls_in d1) r1 b.port (calls_in d2) r2 c.port p.history q.history);
    appended = subst (λ (t : List ℕ). Appends a.written c.written t) (bytes_behind d1 d2 part)
        (further a.written b.written c.written (bytes_in d1 ++ []) (bytes_in d2 ++ part) p.appended q.appended);
    passed = subst (λ (t : List Moment). Passed a.reached c.reached t) (sym (moments_on d1 d2))
        (passed_on a.reached b.reached c.reached (moments_in d1) (moments_in d2) p.passed q.passed);
  }

  -- ---- one deed

  pub did_send : (port : P) (w0 w1 : Option (List ℕ)) (m : Option (List Moment)) (pdu : Pdu)
      → Appends w0 w1 (text_of pdu) → Performs ops own (sides port w0 m) (sides port w1 m) (Send pdu ∷ []) [] []
  did_send port w0 w1 m pdu p = record {
    history = refl;
    appended = subst (λ (t : List ℕ). Appends w0 w1 t) (sym (append-nil (text_of pdu ++ []) ∙ append-nil (text_of pdu)))
        p;
    passed = passed_none m;
  }

  pub did_reach : (port : P) (w : Option (List ℕ)) (m0 m1 : Option (List Moment)) (moment : Moment)
      → Passed m0 m1 (moment ∷ []) → Performs ops own (sides port w m0) (sides port w m1) (Reach moment ∷ []) [] []
  did_reach port w m0 m1 moment p = record { history = refl; appended = nothing_written w; passed = p }

  pub did_ask : (p0 p1 : P) (w : Option (List ℕ)) (m : Option (List Moment)) (call : Call) (reply : Reply)
      → Replies ops own p0 call reply p1
      → Performs ops own (sides p0 w m) (sides p1 w m) (Ask call ∷ []) [] (reply ∷ [])
  did_ask p0 p1 w m call reply p = record {
    history = (p1, p, refl);
    appended = nothing_written w;
    passed = passed_none
        m;
  }

  pub did_close : (a : Sides P) → Performs ops own a a (Close ∷ []) [] []
  did_close a = record { history = refl; appended = nothing_written a.written; passed = passed_none a.reached }

  pub did_part : (port : P) (w0 w1 : Option (List ℕ)) (m : Option (List Moment)) (part : List ℕ) → Appends w0 w1 part
      → Performs ops own (sides port w0 m) (sides port w1 m) [] part []
  did_part port w0 w1 m part p = record { history = refl; appended = p; passed = passed_none m }

  -- ---- PDUs that are sent one after another

  pub did_sends : (port : P) (w0 w1 : Option (List ℕ)) (m : Option (List Moment)) (pdus : List Pdu) (part : List ℕ)
      → Appends w0 w1 (flat_map text_of pdus ++ part)
      → Performs ops own (sides port w0 m) (sides port w1 m) (map Send pdus) part []
  did_sends port w0 w1 m pdus part p = record {
    history = subst (λ (t : List Call). History ops own port t [] port) (sym (no_calls pdus)) refl;
    appended = subst (λ (t : List Pdu). Appends w0 w1 (flat_map text_of t ++ part)) (sym (all_sent pdus)) p;
    passed = subst (λ (t : List Moment). Passed m m t) (sym (no_moments pdus)) (passed_none m);
  }

  -- ---- deeds that are walked

  -- The first deeds were done, none of them a call, and the rest is left.
  pub record Acted (old now : Sides P) (all rest : List Deed) : Type 0 where
    pub done : List Deed
    pub parts : all ≡ done ++ rest
    pub halts : Halts rest
    pub did : Performs ops own old now done [] []

  -- The first deeds were done, none of them a call, and then these PDUs were sent, of whose bytes some are held; the
  -- rest is left.
  pub record Acting (old now : Sides P) (held : List ℕ) (all rest : List Deed) : Type 0 where
    pub done : List Deed
    pub sent : List Pdu
    pub written : Option (List ℕ)
    pub out : List ℕ
    pub parts : all ≡ done ++ (map Send sent ++ rest)
    pub halts : Halts rest
    pub did : Performs ops own old (sides now.port written now.reached) done [] []
    pub appended : Appends written now.written out
    pub bytes : out ++ held ≡ flat_map text_of sent

  acting_start : (port : P) (w : Option (List ℕ)) (m : Option (List Moment)) (held : List ℕ) (all items : List Deed)
      → held ≡ [] → items ≡ all → Halts all → Acting (sides port w m) (sides port w m) held all items
  acting_start port w m held all items none is halts = record {
    done = [];
    sent = [];
    written = w;
    out = [];
    parts = sym is;
    halts = subst (λ (t : List Deed). Halts t) (sym is) halts;
    did = did_none (sides port w m);
    appended = nothing_written w;
    bytes = none;
  }

  -- what is left begins with this deed
  acting_at : (a b : Sides P) (held : List ℕ) (all items : List Deed) (d deed : Deed) (rest : List Deed)
      → items ≡ d ∷ rest → d ≡ deed → Acting a b held all items → Acting a b held all (deed ∷ rest)
  acting_at a b held all items d deed rest parts is so = subst (λ (t : List Deed). Acting a b held all t)
      (parts ∙ ap (λ (k : Deed). k ∷ rest) is) so

  next_parts : (done all : List Deed) (d : Deed) (rest : List Deed) → all ≡ done ++ d ∷ rest → all ≡ (done ++ d ∷ [])
      ++ rest
  next_parts done all d rest parts = parts ∙ sym (append_assoc done (d ∷ []) rest)

  -- A PDU more is sent.
  acting_send : (a : Sides P) (port : P) (w0 w1 : Option (List ℕ)) (m : Option (List Moment)) (held left : List ℕ)
      (all items : List Deed) (d : Deed) (pdu : Pdu) (rest : List Deed) → items ≡ d ∷ rest → d ≡ Send pdu
      → Acting a (sides port w0 m) held all items → Puts w0 held w1 left (text_of pdu) → Acting a (sides port w1 m) left
      all rest
  acting_send a port w0 w1 m held left all items d pdu rest parts is so p =
      let at = acting_at a (sides port w0 m) held all items d (Send pdu) rest parts is so in
      record {
        done = at.done;
        sent = at.sent ++ pdu ∷ [];
        written = at.written;
        out = at.out ++ p.0;
        parts = at.parts ∙ ap (λ (t : List Deed). at.done ++ t) (sent_more at.sent pdu rest);
        halts = at.halts;
        did = at.did;
        appended = further at.written w0 w1 at.out p.0 at.appended p.1;
        bytes = append_assoc at.out p.0 left ∙ ap (λ (t : List ℕ). at.out ++ t) p.2
            ∙ sym (append_assoc at.out held (text_of pdu))
            ∙ ap (λ (t : List ℕ). t ++ text_of pdu) at.bytes ∙ sym (one_more at.sent pdu);
      }

  -- What was held is written.
  pub flushed : (a : Sides P) (port : P) (w0 w1 : Option (List ℕ)) (m : Option (List Moment)) (held : List ℕ)
      (all rest : List Deed) → Acting a (sides port w0 m) held all rest → Appends w0 w1 held
      → Acted a (sides port w1 m) all rest
  flushed a port w0 w1 m held all rest at p = record {
    done = at.done ++ map Send at.sent;
    parts = at.parts ∙ sym (append_assoc at.done (map Send at.sent) rest);
    halts = at.halts;
    did = did_then a (sides port at.written m) (sides port w1 m) at.done (map Send at.sent) [] [] [] at.did
        (did_sends port at.written w1 m at.sent [] (subst (λ (t : List ℕ). Appends at.written w1 t)
        (at.bytes ∙ sym (append-nil (flat_map text_of at.sent))) (further at.written w0 w1 at.out held at.appended
        p)));
  }

  -- Nothing is held.
  acting_on : (a : Sides P) (port : P) (w : Option (List ℕ)) (m : Option (List Moment)) (held : List ℕ)
      (all rest : List Deed) → held ≡ [] → Acted a (sides port w m) all rest → Acting a (sides port w m) held all rest
  acting_on a port w m held all rest none at = record {
    done = at.done;
    sent = [];
    written = w;
    out = [];
    parts = at.parts;
    halts = at.halts;
    did = at.did;
    appended = nothing_written w;
    bytes = none;
  }

  -- What was held is written, and the gate is reached.
  acting_reach : (a : Sides P) (port : P) (w0 w1 : Option (List ℕ)) (m0 m1 : Option (List Moment))
      (held left : List ℕ) (all items : List Deed) (d : Deed) (moment : Moment) (rest : List Deed) → items ≡ d ∷ rest
      → d ≡ Reach moment
      → Acting a (sides port w0 m0) held all items → Appends w0 w1 held → left ≡ [] → Passed m0 m1 (moment ∷ [])
      → Acting a (sides port w1 m1) left all rest
  acting_reach a port w0 w1 m0 m1 held left all items d moment rest parts is so p none q =
      let at = flushed a port w0 w1 m0 held all (Reach moment ∷ rest) (acting_at a (sides port w0 m0) held all items
      d (Reach moment) rest parts is so) p in
      acting_on a port w1 m1 left all rest none (record {
        done = at.done ++ Reach moment ∷ [];
        parts = next_parts at.done all (Reach moment) rest at.parts;
        halts = at.halts;
        did = did_then a (sides port w1 m0) (sides port w1 m1) at.done (Reach moment ∷ []) [] [] []
            at.did (did_reach port w1 m0 m1 moment q);
      })

  -- the last deed
  ends_with : (done all : List Deed) (d : Deed) (rest : List Deed) → all ≡ done ++ d ∷ rest → rest ≡ []
      → all ≡ done ++ d ∷ []
  ends_with done all d rest parts none = parts ∙ ap (λ (t : List Deed). done ++ d ∷ t) none

  acted_ask : (a : Sides P) (p0 p1 : P) (w0 w1 : Option (List ℕ)) (m : Option (List Moment)) (held : List ℕ)
      (all items : List Deed) (d : Deed) (call : Call) (reply : Reply) (rest : List Deed) → items ≡ d ∷ rest
      → d ≡ Ask call
      → Acting a (sides p0 w0 m) held all items → Appends w0 w1 held → Replies ops own p0 call reply p1
      → Performs ops own a (sides p1 w1 m) all [] (reply ∷ [])
  acted_ask a p0 p1 w0 w1 m held all items d call reply rest parts is so p q =
      let at = flushed a p0 w0 w1 m held all (Ask call ∷ rest) (acting_at a (sides p0 w0 m) held all items d (Ask call)
      rest parts is so) p in
      subst (λ (t : List Deed). Performs ops own a (sides p1 w1 m) t [] (reply ∷ []))
      (sym (ends_with at.done all (Ask call) rest at.parts at.halts))
      (did_then a (sides p0 w1 m) (sides p1 w1 m) at.done (Ask call ∷ []) [] [] (reply ∷ [])
      at.did (did_ask p0 p1 w1 m call reply q))

  acted_close : (a : Sides P) (port : P) (w0 w1 : Option (List ℕ)) (m : Option (List Moment)) (held : List ℕ)
      (all items : List Deed) (d : Deed) (rest : List Deed) → items ≡ d ∷ rest → d ≡ Close
      → Acting a (sides port w0 m) held all items → Appends w0 w1 held → Performs ops own a (sides port w1 m) all [] []
  acted_close a port w0 w1 m held all items d rest parts is so p =
      let at = flushed a port w0 w1 m held all (Close ∷ rest) (acting_at a (sides port w0 m) held all items d Close rest
      parts is so) p in
      subst (λ (t : List Deed). Performs ops own a (sides port w1 m) t [] [])
      (sym (ends_with at.done all Close rest at.parts at.halts))
      (did_then a (sides port w1 m) (sides port w1 m) at.done (Close ∷ []) [] [] []
      at.did (did_close (sides port w1 m)))

  -- No deed is left.
  acted_all : (a : Sides P) (port : P) (w0 w1 : Option (List ℕ)) (m : Option (List Moment)) (held : List ℕ)
      (all items : List Deed) → items ≡ [] → Acting a (sides port w0 m) held all items → Appends w0 w1 held
      → Performs ops own a (sides port w1 m) all [] []
  acted_all a port w0 w1 m held all items none so p =
      let at = flushed a port w0 w1 m held all items so p in
      subst (λ (t : List Deed). Performs ops own a (sides port w1 m) t [] [])
      (sym (at.parts ∙ ap (λ (t : List Deed). at.done ++ t) none ∙ append-nil at.done)) at.did

  -- A front of what was held, and of these bytes of the next deed, was written.
  acting_broke : (a : Sides P) (port : P) (w0 w1 : Option (List ℕ)) (m : Option (List Moment)) (held : List ℕ)
      (all rest : List Deed) (text : List ℕ) → IsFront text (next_bytes rest)
      → Acting a (sides port w0 m) held all rest → PutsFront w0 held w1 text → BreaksOff ops own a (sides port w1 m)
      all
  acting_broke a port w0 w1 m held all rest text fits at p =
      let total : at.out ++ (held ++ text) ≡ flat_map text_of at.sent ++ text = sym (append_assoc at.out held text)
      ∙ ap (λ (t : List ℕ). t ++ text) at.bytes in
      let front = subst (λ (t : List ℕ). IsFront (at.out ++ p.0) t) total (front_behind at.out p.0 (held ++ text) p.2)
      in
      let split = sent_front at.sent (at.out ++ p.0) text rest fits front in (
        at.done ++ map Send split.done,
        split.part,
        (
          map Send split.left ++ rest,
          at.parts ∙ ap (λ (t : List Pdu). at.done ++ (map Send t ++ rest)) split.parts
              ∙ ap (λ (t : List Deed). at.done ++ t) (sends_on split.done split.left rest)
              ∙ sym (append_assoc at.done (map Send split.done) (map Send split.left ++ rest)),
          split.front,
        ),
        did_then a (sides port at.written m) (sides port w1 m) at.done (map Send split.done) split.part [] [] at.did
            (did_sends port at.written w1 m split.done split.part (subst (λ (t : List ℕ). Appends at.written w1 t)
            split.is (further at.written w0 w1 at.out p.0 at.appended p.1))),
      )

  -- a PDU of which a front was put
  acting_broke_at : (a : Sides P) (port : P) (w0 w1 : Option (List ℕ)) (m : Option (List Moment)) (held : List ℕ)
      (all items : List Deed) (d : Deed) (pdu : Pdu) (rest : List Deed) → items ≡ d ∷ rest → d ≡ Send pdu
      → Acting a (sides port w0 m) held all items → PutsFront w0 held w1 (text_of pdu) → BreaksOff ops own
      a (sides port w1 m) all
  acting_broke_at a port w0 w1 m held all items d pdu rest parts is so p =
      acting_broke a port w0 w1 m held all (Send pdu ∷ rest) (text_of pdu) (all_front (text_of pdu))
      (acting_at a (sides port w0 m) held all items d (Send pdu) rest parts is so) p

  -- Nothing of what was held was written.
  acting_stopped : (a : Sides P) (port : P) (w : Option (List ℕ)) (m : Option (List Moment)) (held : List ℕ)
      (all rest : List Deed) → Acting a (sides port w m) held all rest → BreaksOff ops own a (sides port w m) all
  acting_stopped a port w m held all rest at =
      acting_broke a port w w m held all rest [] (no_front (next_bytes rest)) at
      ([], nothing_written w, no_front (held ++ []))

  -- ---- the same, as the sides of a run say it

  pub sides_start : (a b : Sides P) (held : List ℕ) (all items : List Deed) → b ≡ a → held ≡ [] → items ≡ all
      → Halts all → Acting a b held all items
  sides_start a b held all items same none is halts = subst (λ (k : Sides P). Acting a k held all items) (sym same)
      (acting_start a.port a.written a.reached held all items none is halts)

  -- A PDU more is sent.
  pub sides_send : (a b c : Sides P) (held left : List ℕ) (all items : List Deed) (d : Deed) (pdu : Pdu)
      (rest : List Deed) → items ≡ d ∷ rest → d ≡ Send pdu → Acting a b held all items → OnlyWrites b c
      → Puts b.written held c.written left (text_of pdu) → Acting a c left all rest
  sides_send a b c held left all items d pdu rest parts is so only p =
      subst (λ (k : Sides P). Acting a k left all rest) (sym only)
      (acting_send a b.port b.written c.written b.reached held left all items d pdu rest parts is so p)

  -- What was held is written, and the gate is reached.
  pub sides_reach : (a b m c : Sides P) (held left : List ℕ) (all items : List Deed) (d : Deed) (moment : Moment)
      (rest : List Deed) → items ≡ d ∷ rest → d ≡ Reach moment → Acting a b held all items → OnlyWrites b m
      → Appends b.written m.written held → left ≡ [] → Reaches m moment c → Acting a c left all rest
  sides_reach a b m c held left all items d moment rest parts is so only p none reaches =
      subst (λ (k : Sides P). Acting a k left all rest)
      (sym (reaches.0 ∙ ap (λ (k : Sides P). sides k.port m.written c.reached) only))
      (acting_reach a b.port b.written m.written b.reached c.reached held left all items d moment rest parts is so p
      none (subst (λ (k : Sides P). Passed k.reached c.reached (moment ∷ [])) only reaches.1))

  -- What was held is written, and the port replied.
  pub sides_ask : (a b m c : Sides P) (held : List ℕ) (all items : List Deed) (d : Deed) (call : Call) (reply : Reply)
      (rest : List Deed) → items ≡ d ∷ rest → d ≡ Ask call → Acting a b held all items → OnlyWrites b m
      → Appends b.written m.written held → Asks ops own m call reply c → Performs ops own a c all [] (reply ∷ [])
  sides_ask a b m c held all items d call reply rest parts is so only p asks =
      subst (λ (k : Sides P). Performs ops own a k all [] (reply ∷ []))
      (sym (asks.0 ∙ ap (λ (k : Sides P). sides c.port m.written k.reached) only))
      (acted_ask a b.port c.port b.written m.written b.reached held all items d call reply rest parts is so p
      (subst (λ (k : Sides P). Replies ops own k.port call reply c.port) only asks.1))

  pub sides_close : (a b m : Sides P) (held : List ℕ) (all items : List Deed) (d : Deed) (rest : List Deed)
      → items ≡ d ∷ rest → d ≡ Close → Acting a b held all items → OnlyWrites b m → Appends b.written m.written held
      → Performs ops own a m all [] []
  sides_close a b m held all items d rest parts is so only p =
      subst (λ (k : Sides P). Performs ops own a k all [] []) (sym only)
      (acted_close a b.port b.written m.written b.reached held all items d rest parts is so p)

  -- No deed is left.
  pub sides_all : (a b m : Sides P) (held : List ℕ) (all items : List Deed) → items ≡ [] → Acting a b held all items
      → OnlyWrites b m → Appends b.written m.written held → Performs ops own a m all [] []
  sides_all a b m held all items none so only p =
      subst (λ (k : Sides P). Performs ops own a k all [] []) (sym only)
      (acted_all a b.port b.written m.written b.reached held all items none so p)

  -- A front of what was held was written.
  pub sides_broke : (a b m : Sides P) (held : List ℕ) (all rest : List Deed) → Acting a b held all rest
      → OnlyWrites b m → PutsFront b.written held m.written [] → BreaksOff ops own a m all
  sides_broke a b m held all rest at only p =
      subst (λ (k : Sides P). BreaksOff ops own a k all) (sym only)
      (acting_broke a b.port b.written m.written b.reached held all rest [] (no_front (next_bytes rest)) at p)

  -- So was one of the bytes of a PDU behind it.
  pub sides_broke_at : (a b m : Sides P) (held : List ℕ) (all items : List Deed) (d : Deed) (pdu : Pdu)
      (rest : List Deed) → items ≡ d ∷ rest → d ≡ Send pdu → Acting a b held all items → OnlyWrites b m
      → PutsFront b.written held m.written (text_of pdu) → BreaksOff ops own a m all
  sides_broke_at a b m held all items d pdu rest parts is so only p =
      subst (λ (k : Sides P). BreaksOff ops own a k all) (sym only)
      (acting_broke_at a b.port b.written m.written b.reached held all items d pdu rest parts is so p)

  -- Nothing of it was written.
  pub sides_stopped : (a b : Sides P) (held : List ℕ) (all rest : List Deed) → Acting a b held all rest
      → BreaksOff ops own a b all
  sides_stopped a b held all rest at = acting_stopped a b.port b.written b.reached held all rest at

-- ---- fronts of deeds

pub all_begun : (done : List Deed) → Begins done [] done
all_begun done = ([], sym (append-nil done), all_front [])

pub begun_behind : (before done : List Deed) (part : List ℕ) (all : List Deed) → Begins done part all
    → Begins (before ++ done) part (before ++ all)
begun_behind before done part all f = (
  f.0,
  ap (λ (t : List Deed). before ++ t) f.1
      ∙ sym (append_assoc before done f.0),
  f.2,
)

no_part : (part : List ℕ) → IsFront part [] → part ≡ []
no_part [] f = refl
no_part (b ∷ part) f = absurd (let e = f.1 in cc)

next_more : (rest more : List Deed) (part : List ℕ) → IsFront part (next_bytes rest)
    → IsFront part (next_bytes (rest ++ more))
next_more [] more part f = subst (λ (t : List ℕ). IsFront t (next_bytes more)) (sym (no_part part f))
    (next_bytes more, refl)
next_more (Send pdu ∷ rest) more part f = f
next_more (Reach moment ∷ rest) more part f = f
next_more (Ask call ∷ rest) more part f = f
next_more (Close ∷ rest) more part f = f

-- What begins a list begins each that it begins.
pub begun_more : (done : List Deed) (part : List ℕ) (all more : List Deed) → Begins done part all → IsFront all more
    → Begins done part more
begun_more done part all more f g =
    (f.0 ++ g.0, g.1 ∙ ap (λ (t : List Deed). t ++ g.0) f.1 ∙ append_assoc done f.0 g.0, next_more f.0 g.0 part f.2)
