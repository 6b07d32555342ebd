-- An exchange, turn by turn.
use Rattle.std.proofs.Common.{inl, inr, ◌≡◌, ◌≤◌, ◌+◌, ℕ, List, [], ◌∷◌, ◌++◌, length, Bool, true, false}
use Rattle.std.proofs.Common.{Option, Some, None, Result, Ok, Err, refl, sym, ap, subst, ◌∙◌, append_assoc, append-nil}
use Rattle.std.proofs.Common.{arith}
use Rattle.std.specs.Prelude.{◌↔◌, IfSome, MatchBool, IsTrue, if◌then◌else◌}
use Rattle.std.specs.List.{AllByRecursion}
use Rattle.std.specs.Io.KnownBytes.{Appends, Consumes}
use Rattle.std.proofs.KnownBytes.{Appends-trans, Consumes-nil, Consumes-trans}
use Rattle.std.proofs.lemmas.Grind.{flat_map-append}
use Rattle.std.proofs.lemmas.List.{length-append}
use Rattle.devices.specs.Failures.{Rose}
use Rattle.operation.specs.declared.taken.Taken.{Taken}
use Rattle.operation.specs.declared.taken.Taken.TheVariants.{New, Known}
use Rattle.site_state.specs.Site.{Map}
use Rattle.exchange_frames.specs.declared.frame.Frame.{Frame}
use Rattle.exchange_frames.specs.Spelling.{text_of}
use Rattle.exchange.specs.declared.fault.ExchangeFault.{ExchangeFault}
use Rattle.exchange.specs.declared.fault.ExchangeFault.TheVariants.{BadFrame, TooLong, Stranger, Io, Memory, Turns}
use Rattle.exchange.specs.declared.fault.ExchangeFault.TheVariants.{Refused}
use Rattle.exchange.specs.declared.fault.HolderFault.{HolderFault}
use Rattle.exchange.specs.declared.fault.HolderFault.TheVariants as holders
use Rattle.exchange.specs.Fault.{of_holder}
use Rattle.exchange.specs.Round.{IsFinished}
use Rattle.exchange.specs.declared.role.Role.{Role}
use Rattle.exchange.specs.declared.role.Role.TheVariants.{Caller, Callee, OldCaller}
use Rattle.exchange.specs.declared.role.Ended.{Ended}
use Rattle.exchange.specs.declared.run.TheConstants.{MOST_READS}
use Rattle.exchange.specs.declared.side.Side.{Side}
use Rattle.exchange.specs.declared.task.Awaited.TheVariants as awaits
use Rattle.exchange.specs.declared.task.Task.{Task}
use Rattle.exchange.specs.declared.task.Task.TheVariants as tasks
use Rattle.exchange.specs.Tasks.{task_for}
use Rattle.exchange.specs.declared.side.Said.{Said}
use Rattle.exchange.specs.Held.{HasGrown}
use Rattle.exchange.specs.Course.{news, passed_over, Does, DoesAll, SetsOut, Performs, SetOut, HoldsGifts, Loads}
use Rattle.exchange.specs.Course.{Talks}
use Rattle.exchange.specs.Course.{Idles, IsOfHolder, Why}
use Rattle.exchange.specs.Hearing.{texts, is_io, Heard, Unheard, WhyUnheard}
use Rattle.exchange.specs.Saying.{WroteFront, WhyUnsaid, AreSayable, SpeaksSaid, WasUnreadable}
use Rattle.exchange.specs.Run.{Ends, ends, NoneFailed, CountsFailures, Exchanged, EndsEarly}
use Rattle.exchange.specs.Run.{Progress, WereUnreadable}
use Rattle.exchange.proofs.Agreed.{agreed_ends}
use Rattle.exchange.proofs.Wholes.{seen_whole_ends}
use Rattle.exchange.proofs.Frames.{frames_more, told_frames, first_frames}
use Rattle.exchange.proofs.Gifts.{does_loads, sets_out_loads, loads_idle, so_said, so_holds, all_on, unread_since}
use Rattle.exchange.proofs.Holders.{idles_same}
use Rattle.exchange.proofs.Writings.{texts_more, why_behind, unsaid_turns}
use Rattle.exchange.proofs.Outcomes.{outcome_of}
use Rattle.exchange.proofs.Turns.{fits}

-- ---- texts

pub texts_then : (frames : List Frame) (frame : Frame) → texts (frames ++ frame ∷ []) ≡ texts frames ++ text_of frame
texts_then frames frame = flat_map-append text_of frames (frame ∷ [])
    ∙ ap (λ (t : List ℕ). texts frames ++ t) (append-nil (text_of frame))

some_text : (frame : Frame) → 1 ≤ length (text_of frame)
unfolding text_of
some_text frame = omega arith

-- ---- one frame more

then_frame : {H : Type 0} (holds : H → Map) (alone : H → Type 0) (s : Side) (h : H) (heard told : List Frame) (t : Side)
    (k : H) (frame : Frame) (more : List Frame) (u : Side) (j : H) → DoesAll holds alone s h heard told t k
    → Does holds alone (task_for t.awaited frame t.role) t k more u j
    → DoesAll holds alone s h (heard ++ frame ∷ []) (told ++ more) u j
then_frame {H = H} holds alone s h [] told t k frame more u j d does =
    let at_s = subst (λ (x : Side). Does holds alone (task_for x.awaited frame x.role) x k more u j) d.1 does in
    let at_h = subst (λ (y : H). Does holds alone (task_for s.awaited frame s.role) s y more u j) d.2 at_s in
    (more, [], u, j, at_h, (refl, refl, refl), ap (λ (l : List Frame). l ++ more) d.0 ∙ sym (append-nil more))
then_frame holds alone s h (f ∷ heard) told t k frame more u j d does = (
  d.0,
  d.1 ++ more,
  d.2,
  d.3,
  d.4,
  then_frame holds alone d.2 d.3 heard d.1 t k frame more u j d.5 does,
  ap (λ (l : List Frame). l ++ more) d.6 ∙ append_assoc d.0 d.1 more,
)

pub talk_then : {H : Type 0} (holds : H → Map) (alone : H → Type 0) (role : Role) (before : H)
    (heard told : List Frame) (t : Side) (k : H) (frame : Frame) (more : List Frame) (u : Side) (j : H)
    → Talks holds alone role before heard told t k → Does holds alone (task_for t.awaited frame t.role) t k more u j
    → Talks holds alone role before (heard ++ frame ∷ []) (told ++ more) u j
talk_then holds alone role before heard told t k frame more u j talk does = record {
  first = talk.first;
  rest = talk.rest ++ more;
  from = talk.from;
  mid = talk.mid;
  sets_out = talk.sets_out;
  goes_on = then_frame holds alone talk.from talk.mid heard talk.rest t k frame more u j talk.goes_on does;
  told_is = ap (λ (l : List Frame). l ++ more) talk.told_is ∙ append_assoc talk.first talk.rest more;
}

-- ---- how many were taken

few_news : (taken : Taken) → news taken ≤ 1
few_news New = omega arith
few_news Known = omega arith

taken_after : {H : Type 0} (holds : H → Map) (alone : H → Type 0) (task : Task) (s : Side) (h : H) (told : List Frame)
    (t : Side) (k : H) → Does holds alone task s h told t k → t.taken ≤ s.taken + 1
taken_after holds alone tasks.Refuse s h told t k d = absurd d
taken_after holds alone (tasks.Begin v) s h told t k d = omega (arith, ap (λ (x : Side). x.taken) d.0)
taken_after holds alone (tasks.Meet v) s h told t k d = omega (arith, ap (λ (x : Side). x.taken) d.0)
taken_after holds alone (tasks.Compare b) s h told t k d = omega (arith, ap (λ (x : Side). x.taken) d.same)
taken_after holds alone (tasks.Offer p) s h told t k d = omega (arith, ap (λ (x : Side). x.taken) d.0)
taken_after holds alone (tasks.Ask a) s h told t k d = omega (arith, ap (λ (x : Side). x.taken) d.same)
taken_after holds alone (tasks.Give w) s h told t k d = omega (arith, ap (λ (x : Side). x.taken) d.same)
taken_after holds alone (tasks.Take op) s h told t k d = omega (
  arith,
  ap (λ (x : Side). x.taken) d.same,
  few_news d.taken,
)
taken_after holds alone tasks.Show s h told t k d = omega (arith, ap (λ (x : Side). x.taken) d.0)
taken_after holds alone tasks.Rest s h told t k d = omega (arith, ap (λ (x : Side). x.taken) d.0)

start_taken : {H : Type 0} (holds : H → Map) (alone : H → Type 0) (role : Role) (h : H) (told : List Frame) (s : Side)
    (k : H) → SetsOut holds alone role h told s k → s.taken ≡ 0
start_taken holds alone Caller h told s k d = ap (λ (x : Side). x.taken) d.0
start_taken holds alone Callee h told s k d = ap (λ (x : Side). x.taken) d.0
start_taken holds alone OldCaller h told s k d = ap (λ (x : Side). x.taken) d.0

-- ---- failures

-- whether a fault is told of neither a device nor too many reads
quiet : ExchangeFault → Bool
quiet BadFrame = true
quiet TooLong = true
quiet Stranger = true
quiet Io = false
quiet Memory = true
quiet Turns = false
quiet Refused = true

module _ {H : Type 0} (from to : Ends H) where
  counts_quiet : (fault : ExchangeFault) → quiet fault ≡ true → NoneFailed from to → CountsFailures fault from to
  unfolding quiet
  counts_quiet BadFrame q n = n
  counts_quiet TooLong q n = n
  counts_quiet Stranger q n = n
  counts_quiet Io q n = absurd cc
  counts_quiet Memory q n = n
  counts_quiet Turns q n = n
  counts_quiet Refused q n = n

  counts_reader : (fault : ExchangeFault) → MatchBool (is_io fault) (Rose from.read_failures to.read_failures)
      (to.read_failures ≡ from.read_failures) → to.write_failures ≡ from.write_failures → CountsFailures fault from to
  counts_reader BadFrame r w = (r, w)
  counts_reader TooLong r w = (r, w)
  counts_reader Stranger r w = (r, w)
  counts_reader Io r w = inl (r, w)
  counts_reader Memory r w = (r, w)
  counts_reader Turns r w = (r, w)
  counts_reader Refused r w = (r, w)

  counts_writer : (fault : ExchangeFault) → MatchBool (is_io fault) (Rose from.write_failures to.write_failures)
      (to.write_failures ≡ from.write_failures) → to.read_failures ≡ from.read_failures → CountsFailures fault from to
  counts_writer BadFrame w r = (r, w)
  counts_writer TooLong w r = (r, w)
  counts_writer Stranger w r = (r, w)
  counts_writer Io w r = inr (r, w)
  counts_writer Memory w r = (r, w)
  counts_writer Turns w r = (r, w)
  counts_writer Refused w r = (r, w)

quiet_holder : (cause : HolderFault) → quiet (of_holder cause) ≡ true
unfolding quiet
quiet_holder holders.Memory = refl
quiet_holder holders.Refused = refl
quiet_holder holders.Unreadable = refl

quiet_of : (fault : ExchangeFault) → IsOfHolder fault → quiet fault ≡ true
quiet_of fault p = ap quiet p.1 ∙ quiet_holder p.0

quiet_refusal : (b : Bool) (c : Bool) (fault : ExchangeFault)
    → (if b then (if c then None else Some Stranger) else Some BadFrame) ≡ Some fault → quiet fault ≡ true
unfolding quiet
quiet_refusal true true fault e = absurd cc
quiet_refusal true false fault e = let is : Stranger ≡ fault = cc in ap quiet (sym is)
quiet_refusal false c fault e = let is : BadFrame ≡ fault = cc in ap quiet (sym is)

quiet_why : (task : Task) (s : Side) (fault : ExchangeFault) → Why task s fault → quiet fault ≡ true
unfolding quiet
quiet_why tasks.Refuse s fault why = ap quiet why
quiet_why (tasks.Begin v) s fault why = quiet_of fault why
quiet_why (tasks.Meet v) s fault why = absurd why
quiet_why (tasks.Compare b) s fault why = quiet_of fault why
quiet_why (tasks.Offer p) s fault why = quiet_of fault why
quiet_why (tasks.Ask h) s fault why = quiet_of fault why
quiet_why (tasks.Give w) s fault why = quiet_of fault why
quiet_why (tasks.Take op) s fault (inl e) = quiet_refusal _ _ fault e
quiet_why (tasks.Take op) s fault (inr why) = quiet_of fault why
quiet_why tasks.Show s fault why = quiet_of fault why
quiet_why tasks.Rest s fault why = absurd why

abbrev pub err : ExchangeFault → Result (Unit {0}) ExchangeFault
err fault = Err fault

quiet_turns : (fault : ExchangeFault) → quiet fault ≡ true → fault ≡ Turns → ⊥
unfolding quiet
quiet_turns fault q e = let f : quiet Turns ≡ true = subst (λ (x : ExchangeFault). quiet x ≡ true) e q in cc

-- no frame that was not heard is a refusal
pub unheard_refused : (r : Option (List ℕ)) (text : List ℕ) (fault : ExchangeFault) → WhyUnheard r text fault
    → err fault ≡ err Refused → ⊥
unheard_refused r text fault why e =
    let is : fault ≡ Refused = cc in subst (λ (x : ExchangeFault). WhyUnheard r text x) is why

-- ---- what could not be read

-- What was passed over since a set that has grown was passed over since it was before.
unread_on : {H : Type 0} (holds : H → Map) (alone : H → Type 0) (refuses : H → H → List ℕ → HolderFault → Type 0)
    (start mid : H) (s : Side) (unread : Option (List (List ℕ))) → HasGrown (holds start) (holds mid)
    → WereUnreadable holds alone refuses start s.unread
    → IfSome unread (AllByRecursion (WasUnreadable holds alone refuses mid))
    → WereUnreadable holds alone refuses start (passed_over unread s).unread
unread_on holds alone refuses start mid s None grown before now = before
unread_on holds alone refuses start mid s (Some unread) grown before now =
    all_on (WasUnreadable holds alone refuses mid) (WasUnreadable holds alone refuses start)
    (unread_since holds alone refuses start mid grown) unread now

-- ---- a turn

module _ {H : Type 0} (holds : H → Map) (alone : H → Type 0) (refuses : H → H → List ℕ → HolderFault → Type 0)
    (role : Role) (from : Ends H) (h : H) (r0 r1 w : Option (List ℕ)) (rf wf : ℕ) (side : Side) (reads n : ℕ)
    (so : Progress holds alone refuses role from (ends h r0 w rf wf) side reads n) where
  -- No frame was heard.
  pub unheard_breaks : (rf1 : ℕ) (fault : ExchangeFault) → Unheard r0 r1 reads fault
      → MatchBool (is_io fault) (Rose rf rf1) (rf1 ≡ rf)
      → EndsEarly holds alone refuses role from (ends h r1 w rf1 wf) fault
  unheard_breaks rf1 fault u failed = inr (record {
    heard = so.heard;
    told = so.told;
    side = side;
    mid = h;
    talk = so.talk;
    comes_to = outcome_of holds alone role from.holder so.heard so.told side h so.talk;
    refused = so.refused;
    idle = idles_same holds alone h h refl;
    rest = u.text;
    read = Consumes-trans from.left r0 r1 (texts so.heard) u.text so.read u.read;
    out = texts so.told;
    wrote = so.wrote;
    front = ([], sym (append-nil (texts so.told)));
    why = inl (refl, u.why);
    turns = λ e. omega (arith, so.many, u.turns e, length-append (texts so.heard) u.text);
    failed = counts_reader from (ends h r1 w rf1 wf) fault (subst (λ (k : ℕ). MatchBool (is_io fault) (Rose k rf1)
        (rf1 ≡ k)) so.failed.0 failed) so.failed.1;
  })

  module _ (left : ℕ) (frame : Frame) (heard : Heard r0 r1 reads left frame) (rf1 : ℕ) (same : rf1 ≡ rf) where
    -- One was, and was refused.
    pub refused_breaks : (k : H) (fault : ExchangeFault) → Idles holds alone h k
        → Why (task_for side.awaited frame side.role) side fault
        → EndsEarly holds alone refuses role from (ends k r1 w rf1 wf) fault
    refused_breaks k fault idle why =
        let q = quiet_why (task_for side.awaited frame side.role) side fault why in
        inr (record {
          heard = so.heard;
          told = so.told;
          side = side;
          mid = h;
          talk = so.talk;
          comes_to = outcome_of holds alone role from.holder so.heard so.told side h so.talk;
          refused = so.refused;
          idle = idle;
          rest = text_of frame;
          read = Consumes-trans from.left r0 r1 (texts so.heard) (text_of frame) so.read heard.read;
          out = texts so.told;
          wrote = so.wrote;
          front = ([], sym (append-nil (texts so.told)));
          why = inr (inl (refl, (frame, refl, heard.lawful, why)));
          turns = λ e. absurd (quiet_turns fault q e);
          failed = counts_quiet from (ends k r1 w rf1 wf) fault q (same ∙ so.failed.0, so.failed.1);
        })

    module _ (k : H) (more : List Frame) (u : Side)
        (does : Does holds alone (task_for side.awaited frame side.role) side h more u k) where
      read_too : Consumes from.left r1 (texts (so.heard ++ frame ∷ []))
      read_too = subst (λ (t : List ℕ). Consumes from.left r1 t) (sym (texts_then so.heard frame))
          (Consumes-trans from.left r0 r1 (texts so.heard) (text_of frame) so.read heard.read)

      talk_too : Talks holds alone role from.holder (so.heard ++ frame ∷ []) (so.told ++ more) u k
      talk_too = talk_then holds alone role from.holder so.heard so.told side h frame more u k so.talk does

      -- Nothing that was held is lost.
      grown_too : HasGrown (holds from.holder) (holds k)
      grown_too = (outcome_of holds alone role from.holder (so.heard ++ frame ∷ []) (so.told ++ more) u k
          talk_too).grown

      -- It was answered, and the answer was written.
      pub answered : (w1 : Option (List ℕ)) (wf1 : ℕ) → WereUnreadable holds alone refuses from.holder u.unread
          → Appends w w1 (texts more) → AreSayable more → wf1 ≡ wf
          → Progress holds alone refuses role from (ends k r1 w1 rf1 wf1) u left (n + 1)
      answered w1 wf1 unreadable wrote sayable fine = record {
        heard = so.heard ++ frame ∷ [];
        told = so.told ++ more;
        talk = talk_too;
        refused = unreadable;
        heard_are = frames_more so.heard (frame ∷ []) so.heard_are (heard.lawful, tt);
        told_are = frames_more so.told more so.told_are (told_frames holds alone
            (task_for side.awaited frame side.role) side h frame more u k (fits side.awaited frame side.role)
            heard.lawful does sayable);
        read = read_too;
        wrote = subst (λ (t : List ℕ). Appends from.written w1 t) (sym (texts_more so.told more))
            (Appends-trans from.written w w1 (texts so.told) (texts more) so.wrote wrote);
        many = omega (
          arith,
          so.many,
          heard.many,
          ap (λ (t : List ℕ). length t) (texts_then so.heard frame),
          length-append (texts so.heard) (text_of frame),
        );
        turned = omega (
          arith,
          so.turned,
          some_text frame,
          ap (λ (t : List ℕ). length t) (texts_then so.heard frame),
          length-append (texts so.heard) (text_of frame),
        );
        few = omega (
          arith,
          so.few,
          taken_after holds alone (task_for side.awaited frame side.role) side h more u k
              does,
        );
        failed = (same ∙ so.failed.0, fine ∙ so.failed.1);
      }

      -- Of the answer a front was written.
      pub unsaid_breaks : (j : H) (w1 : Option (List ℕ)) (wf1 : ℕ) (fault : ExchangeFault)
          → WereUnreadable holds alone refuses from.holder u.unread → Idles holds alone k j
          → WroteFront w w1 (texts more) → WhyUnsaid more fault → MatchBool (is_io fault) (Rose wf wf1) (wf1 ≡ wf)
          → EndsEarly holds alone refuses role from (ends j r1 w1 rf1 wf1) fault
      unsaid_breaks j w1 wf1 fault unreadable idle wrote why failed = inr (record {
        heard = so.heard ++ frame ∷ [];
        told = so.told ++ more;
        side = u;
        mid = k;
        talk = talk_too;
        comes_to = outcome_of holds alone role from.holder (so.heard ++ frame ∷ []) (so.told ++ more) u k talk_too;
        refused = unreadable;
        idle = idle;
        rest = [];
        read = subst (λ (t : List ℕ). Consumes from.left r1 t) (sym (append-nil (texts (so.heard ++ frame ∷ []))))
            read_too;
        out = texts so.told ++ wrote.0;
        wrote = Appends-trans from.written w w1 (texts so.told) wrote.0 so.wrote wrote.1;
        front = (
          wrote.2.0,
          texts_more so.told more ∙ ap (λ (t : List ℕ). texts so.told ++ t) wrote.2.1
              ∙ sym (append_assoc (texts so.told) wrote.0 wrote.2.0),
        );
        why = inr (inr (refl, why_behind so.told more fault why));
        turns = λ e. absurd (unsaid_turns more fault why e);
        failed = counts_writer from (ends j r1 w1 rf1 wf1) fault (subst (λ (x : ℕ). MatchBool (is_io fault) (Rose x wf1)
            (wf1 ≡ x)) so.failed.1 failed) (same ∙ so.failed.0);
      })

    module _ (k j : H) (u : Side) (said : Said) (w1 : Option (List ℕ)) (wf1 : ℕ)
        (does : Performs holds alone (task_for side.awaited frame side.role) side h (Ok said) u k)
        (kept : u.unread ≡ side.unread) (loads : Loads holds alone said k j) where
      abbrev task : Task
      task = task_for side.awaited frame side.role

      module _ (r : Result (Option (List (List ℕ))) ExchangeFault)
          (spoke : SpeaksSaid (WasUnreadable holds alone refuses k) (holds k) said w w1 r) where
        -- what was done, once it was said
        done : Does holds alone task side h spoke.told (passed_over spoke.unread u) k
        done = so_said (holds k) said _ does spoke.told spoke.unread spoke.says

        unreadable : WereUnreadable holds alone refuses from.holder (passed_over spoke.unread u).unread
        unreadable = unread_on holds alone refuses from.holder k u spoke.unread
            (grown_too k spoke.told (passed_over spoke.unread u) done)
            (subst (λ (ds : List (List ℕ)). WereUnreadable holds alone refuses from.holder ds) (sym kept) so.refused)
            spoke.refused

      -- What is said for it was said; the holder has loaded what was given.
      pub said_on : (v : Side) (passed : Option (List (List ℕ))) → v ≡ passed_over passed u
          → (HoldsGifts (holds k) said
          → SpeaksSaid (WasUnreadable holds alone refuses k) (holds k) said w w1 (Ok passed))
          → wf1 ≡ wf → Progress holds alone refuses role from (ends j r1 w1 rf1 wf1) v left (n + 1)
      said_on v passed is speaks fine =
          let spoke = speaks (so_holds (holds k) said _ does) in
          subst (λ (x : Side). Progress holds alone refuses role from (ends j r1 w1 rf1 wf1) x left (n + 1))
          (sym (is ∙ ap (λ (p : Option (List (List ℕ))). passed_over p u) spoke.answer))
          (answered j spoke.told (passed_over spoke.unread u)
          (does_loads holds alone task said side h spoke.told (passed_over spoke.unread u) k j spoke.unread spoke.says
          (done (Ok passed) spoke) loads) w1 wf1 (unreadable (Ok passed) spoke) spoke.spoke.0 spoke.spoke.1 fine)

      -- A front of it was.
      pub said_breaks : (fault : ExchangeFault)
          → (HoldsGifts (holds k) said
          → SpeaksSaid (WasUnreadable holds alone refuses k) (holds k) said w w1 (Err fault))
          → MatchBool (is_io fault) (Rose wf wf1) (wf1 ≡ wf)
          → EndsEarly holds alone refuses role from (ends j r1 w1 rf1 wf1) fault
      said_breaks fault speaks failed =
          let spoke = speaks (so_holds (holds k) said _ does) in
          unsaid_breaks k spoke.told (passed_over spoke.unread u) (done (Err fault) spoke) j w1 wf1 fault
          (unreadable (Err fault) spoke) (loads_idle holds alone said k j loads) spoke.spoke.0 spoke.spoke.1 failed

-- ---- the first words

module _ {H : Type 0} (holds : H → Map) (alone : H → Type 0) (refuses : H → H → List ℕ → HolderFault → Type 0)
    (role : Role) (h k : H) (left w0 w1 : Option (List ℕ)) (rf wf0 wf1 : ℕ) (told : List Frame) (s : Side)
    (out : SetsOut holds alone role h told s k) where
  pub opening : Talks holds alone role h [] told s k
  opening = record {
    first = told;
    rest = [];
    from = s;
    mid = k;
    sets_out = out;
    goes_on = (refl, refl, refl);
    told_is = sym (append-nil told);
  }

  pub begun : WereUnreadable holds alone refuses h s.unread → Appends w0 w1 (texts told) → wf1 ≡ wf0
      → Progress holds alone refuses role (ends h left w0 rf wf0) (ends k left w1 rf wf1) s MOST_READS 0
  begun unreadable wrote fine = record {
    heard = [];
    told = told;
    talk = opening;
    refused = unreadable;
    heard_are = tt;
    told_are = first_frames holds alone role h told s k out;
    read = Consumes-nil left;
    wrote = wrote;
    many = omega arith;
    turned = omega arith;
    few = omega (arith, start_taken holds alone role h told s k out);
    failed = (refl, fine);
  }

  pub unbegun : (j : H) (fault : ExchangeFault) → WereUnreadable holds alone refuses h s.unread
      → Idles holds alone k j → WroteFront w0 w1 (texts told) → WhyUnsaid told fault
      → MatchBool (is_io fault) (Rose wf0 wf1) (wf1 ≡ wf0)
      → EndsEarly holds alone refuses role (ends h left w0 rf wf0) (ends j left w1 rf wf1) fault
  unbegun j fault unreadable idle wrote why failed = inr (record {
    heard = [];
    told = told;
    side = s;
    mid = k;
    talk = opening;
    comes_to = outcome_of holds alone role h [] told s k opening;
    refused = unreadable;
    idle = idle;
    rest = [];
    read = Consumes-nil left;
    out = wrote.0;
    wrote = wrote.1;
    front = wrote.2;
    why = inr (inr (refl, why));
    turns = λ e. absurd (unsaid_turns told fault why e);
    failed = counts_writer (ends h left w0 rf wf0) (ends j left w1 rf wf1) fault failed refl;
  })

-- The first words were said, or a front of them.
module _ {H : Type 0} (holds : H → Map) (alone : H → Type 0) (refuses : H → H → List ℕ → HolderFault → Type 0)
    (role : Role) (h k j : H) (said : Said) (s : Side) (w0 w1 : Option (List ℕ)) (wf0 wf1 : ℕ)
    (out : SetOut holds alone role h (Ok said) s k) (none : s.unread ≡ []) (loads : Loads holds alone said k j) where
  module _ (r : Result (Option (List (List ℕ))) ExchangeFault)
      (spoke : SpeaksSaid (WasUnreadable holds alone refuses k) (holds k) said w0 w1 r) where
    -- what was set out with, once it was said
    set : SetsOut holds alone role h spoke.told (passed_over spoke.unread s) k
    set = so_said (holds k) said _ out spoke.told spoke.unread spoke.says

    -- nothing could not be read before
    first_unread : WereUnreadable holds alone refuses h (passed_over spoke.unread s).unread
    first_unread = unread_on holds alone refuses h k s spoke.unread
        (outcome_of holds alone role h [] spoke.told (passed_over spoke.unread s) k
        (opening holds alone refuses role h k w0 w0 w0 0 0 0 spoke.told (passed_over spoke.unread s) set)).grown
        (subst (λ (ds : List (List ℕ)). WereUnreadable holds alone refuses h ds) (sym none) tt) spoke.refused

  pub set_out_ok : (v : Side) (passed : Option (List (List ℕ))) → v ≡ passed_over passed s
      → (HoldsGifts (holds k) said
      → SpeaksSaid (WasUnreadable holds alone refuses k) (holds k) said w0 w1 (Ok passed)) → wf1 ≡ wf0
      → (left : Option (List ℕ)) (rf : ℕ)
      → Progress holds alone refuses role (ends h left w0 rf wf0) (ends j left w1 rf wf1) v MOST_READS 0
  set_out_ok v passed is speaks fine left rf =
      let spoke = speaks (so_holds (holds k) said _ out) in
      subst (λ (x : Side). Progress holds alone refuses role (ends h left w0 rf wf0) (ends j left w1 rf wf1) x
      MOST_READS 0) (sym (is ∙ ap (λ (p : Option (List (List ℕ))). passed_over p s) spoke.answer))
      (begun holds alone refuses role h j left w0 w1 rf wf0 wf1 spoke.told (passed_over spoke.unread s)
      (sets_out_loads holds alone role said h spoke.told (passed_over spoke.unread s) k j spoke.unread spoke.says
      (set (Ok passed) spoke) loads) (first_unread (Ok passed) spoke) spoke.spoke.0 fine)

  pub set_out_err : (fault : ExchangeFault)
      → (HoldsGifts (holds k) said
      → SpeaksSaid (WasUnreadable holds alone refuses k) (holds k) said w0 w1 (Err fault))
      → MatchBool (is_io fault) (Rose wf0 wf1) (wf1 ≡ wf0) → (left : Option (List ℕ)) (rf : ℕ)
      → EndsEarly holds alone refuses role (ends h left w0 rf wf0) (ends j left w1 rf wf1) fault
  set_out_err fault speaks failed left rf =
      let spoke = speaks (so_holds (holds k) said _ out) in
      unbegun holds alone refuses role h k left w0 w1 rf wf0 wf1 spoke.told (passed_over spoke.unread s)
      (set (Err fault) spoke) j fault (first_unread (Err fault) spoke) (loads_idle holds alone said k j loads)
      spoke.spoke.0 spoke.spoke.1 failed

-- ---- the end

-- The exchange is over.
pub ended : {H : Type 0} (holds : H → Map) (alone : H → Type 0)
    (refuses : H → H → List ℕ → HolderFault → Type 0) (role : Role) (from to : Ends H) (side : Side)
    (reads n : ℕ) (e : Ended) → Progress holds alone refuses role from to side reads n
    → side.awaited ≡ awaits.Nothing → e.given ≡ side.given → e.unread ≡ length side.unread → e.taken ≡ side.taken
    → (IsTrue e.finished ↔ IsFinished side.round) → e.agreed ≡ side.agreed → e.whole ≡ side.whole
    → Exchanged holds alone refuses role from to e
ended holds alone refuses role from to side reads n e so over given unread taken finished agreed whole =
    let comes_to = outcome_of holds alone role from.holder so.heard so.told side to.holder so.talk in
    record {
      heard = so.heard;
      told = so.told;
      side = side;
      talk = so.talk;
      comes_to = comes_to;
      heard_are = so.heard_are;
      told_are = so.told_are;
      over = over;
      read = so.read;
      wrote = so.wrote;
      given = given;
      taken = taken;
      unread = unread;
      refused = so.refused;
      finished = (λ is. comes_to.finished.0 (finished.0 is), λ all. finished.1 (comes_to.finished.1 all));
      have = λ is. comes_to.have (finished.0 is);
      shown = λ theirs heard. let was = comes_to.shown theirs heard in (was.0, was.1, λ is. was.2 (finished.0 is));
      agreed = agreed_ends holds alone role from.holder so.heard so.told side to.holder so.talk e.agreed agreed;
      whole = whole;
      seen_whole = λ is. seen_whole_ends holds alone role from.holder so.heard so.told side to.holder so.talk
          (sym whole ∙ is);
      failed = so.failed;
    }

-- It has no end.
pub endless : {H : Type 0} (holds : H → Map) (alone : H → Type 0)
    (refuses : H → H → List ℕ → HolderFault → Type 0) (role : Role) (from to : Ends H) (side : Side) (reads n : ℕ)
    → MOST_READS ≤ n → Progress holds alone refuses role from to side reads n
    → EndsEarly holds alone refuses role from to Turns
endless holds alone refuses role from to side reads n many so = inr (record {
  heard = so.heard;
  told = so.told;
  side = side;
  mid = to.holder;
  talk = so.talk;
  comes_to = outcome_of holds alone role from.holder so.heard so.told side to.holder so.talk;
  refused = so.refused;
  idle = idles_same holds alone to.holder to.holder refl;
  rest = [];
  read = subst (λ (t : List ℕ). Consumes from.left to.left t) (sym (append-nil (texts so.heard))) so.read;
  out = texts so.told;
  wrote = so.wrote;
  front = ([], sym (append-nil (texts so.told)));
  why = inl (refl, inl (omega arith));
  turns = λ e. omega (arith, many, so.turned, length-append (texts so.heard) []);
  failed = so.failed;
})
