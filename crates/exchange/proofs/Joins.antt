-- What two sides hold in the end, where each heard what the other said.
use Rattle.std.proofs.Common.{inl, inr, ◌≡◌, ◌<◌, ℕ, List, [], ◌∷◌, ◌++◌, true, false, Some, refl}
use Rattle.std.proofs.Common.{sym, ap, subst, ◌∙◌}
use Rattle.std.proofs.Common.{◌≤◌, length, arith}
use Rattle.std.specs.Prelude.{◌⊎◌, ◌↔◌, IsTrue, filter}
use Rattle.octets.specs.Members.{Has}
use Rattle.archive_model.proofs.MemberLaws.{has_filter, filter_has}
use Rattle.operation.specs.declared.op.Op.{Op}
use Rattle.operation.specs.Spelling.{digest_of}
use Rattle.records.specs.StandIn.{op_in}
use Rattle.site_state.specs.Site.{Map, held_at}
use Rattle.site_state.specs.Union.{Agree}
use Rattle.site_state.proofs.Maps.{same_sites}
use Rattle.exchange_frames.specs.declared.frame.Frame.{Frame}
use Rattle.exchange_frames.specs.declared.frame.Frame.TheVariants.{Have, Give, Buckets, Differ, Hello}
use Rattle.exchange_frames.specs.declared.reader.TheConstants.{MOST_DIGESTS}
use Rattle.exchange.specs.declared.fault.HolderFault.{HolderFault}
use Rattle.exchange.specs.declared.version.Version.{Version}
use Rattle.exchange.specs.declared.version.Version.TheVariants.{Two}
use Rattle.exchange.specs.Held.{place_of, is_in, offered, offered_in, HasGrown}
use Rattle.exchange.specs.Buckets.{bucket_list}
use Rattle.exchange.specs.Laws.{BucketsTell}
use Rattle.exchange.proofs.Bucketed.{offered_held, place_small, no_place_is_equal}
use Rattle.exchange.proofs.Rounds.{offered_has, same_option}
use Rattle.exchange.specs.declared.role.Role.{Role}
use Rattle.exchange.specs.declared.role.Role.TheVariants.{Caller, Callee, OldCaller}
use Rattle.exchange.specs.declared.role.Ended.{Ended}
use Rattle.exchange.specs.declared.side.Side.{Side}
use Rattle.exchange.specs.declared.task.Awaited.{Awaited}
use Rattle.exchange.specs.declared.task.Awaited.TheVariants as awaits
use Rattle.exchange.specs.declared.task.Task.{Task}
use Rattle.exchange.specs.declared.task.Task.TheVariants as tasks
use Rattle.exchange.specs.Tasks.{task_for}
use Rattle.exchange.specs.Course.{Does, DoesAll, SetsOut, Talks, start_of}
use Rattle.exchange.specs.RunLaws.{IsHeld, IsOffered, HoldsWhatWasShown, WasCompared, StandsForGiven}
use Rattle.exchange.specs.Run.{Ends, Exchanged}
use Rattle.exchange.specs.Joined.{AreJoined, WasGained, WasTold, lone_offer, places_of, AllFits, IsInPart, HoldsPart}
use Rattle.exchange.specs.Joined.{ExchangeGivesAll, ExchangeMakesEqual}
use Rattle.exchange.specs.Parts.{told_in}
use Rattle.exchange.proofs.Said.{offered_in_sorted}
use Rattle.exchange.proofs.PartLaws.{fitting_has}
use Rattle.exchange.proofs.Parted.{seen_fits}
use Rattle.exchange.proofs.Once.{texts_once}
use Rattle.exchange.proofs.Turns.{later_of}
use Rattle.exchange.proofs.Goings.{is_met, has_shown, Goes, goes}
use Rattle.exchange.proofs.Offers.{IsShown, Offering, offering_talk}

-- ---- the version

unmet : (a : Awaited) → is_met a ≡ true → a ≡ awaits.Greeting → ⊥
unmet a met is = let clash : false ≡ true = sym (ap is_met is) ∙ met in absurd cc

-- once a version is settled it stays so
settled_on : {H : Type 0} (holds : H → Map) (alone : H → Type 0) (task : Task) (s : Side) (h : H) (told : List Frame)
    (t : Side) (k : H) → Goes s.role s.awaited task → is_met s.awaited ≡ true → Does holds alone task s h told t k
    → (t.round.version ≡ s.round.version) × (is_met t.awaited ≡ true)
settled_on holds alone tasks.Refuse s h told t k went met d = absurd d
settled_on holds alone (tasks.Begin v) s h told t k went met d = absurd (unmet s.awaited met went)
settled_on holds alone (tasks.Meet v) s h told t k went met d = absurd (unmet s.awaited met went.0)
settled_on holds alone (tasks.Compare b) s h told t k went met d =
    (ap (λ (x : Side). x.round.version) d.same, ap (λ (x : Side). is_met x.awaited) d.same)
settled_on holds alone (tasks.Offer p) s h told t k went met d =
    (ap (λ (x : Side). x.round.version) d.0, ap (λ (x : Side). is_met x.awaited) d.0)
settled_on holds alone (tasks.Ask a) s h told t k went met d = (d.version, ap (λ (x : Side). is_met x.awaited) d.same)
settled_on holds alone (tasks.Give w) s h told t k went met d =
    (ap (λ (x : Side). x.round.version) d.same, ap (λ (x : Side). is_met x.awaited) d.same ∙ went.2)
settled_on holds alone (tasks.Take op) s h told t k went met d =
    (ap (λ (x : Side). x.round.version) d.same, ap (λ (x : Side). is_met x.awaited) d.same ∙ met)
settled_on holds alone tasks.Show s h told t k went met d =
    (ap (λ (x : Side). x.round.version) d.0, ap (λ (x : Side). is_met x.awaited) d.0)
settled_on holds alone tasks.Rest s h told t k went met d =
    (ap (λ (x : Side). x.round.version) d.0, ap (λ (x : Side). is_met x.awaited) d.0)

settled_all : {H : Type 0} (holds : H → Map) (alone : H → Type 0) (s : Side) (h : H) (heard told : List Frame)
    (t : Side) (k : H) → is_met s.awaited ≡ true → DoesAll holds alone s h heard told t k
    → t.round.version ≡ s.round.version
settled_all holds alone s h [] told t k met d = ap (λ (x : Side). x.round.version) d.1
settled_all holds alone s h (f ∷ heard) told t k met d =
    let one = settled_on holds alone (task_for s.awaited f s.role) s h d.0 d.2 d.3 (goes s.awaited f s.role) met d.4 in
    settled_all holds alone d.2 d.3 heard d.1 t k one.1 d.5 ∙ one.0

-- the role of a side stays
role_on : {H : Type 0} (holds : H → Map) (alone : H → Type 0) (task : Task) (s : Side) (h : H) (told : List Frame)
    (t : Side) (k : H) → Does holds alone task s h told t k → t.role ≡ s.role
role_on holds alone tasks.Refuse s h told t k d = absurd d
role_on holds alone (tasks.Begin v) s h told t k d = ap (λ (x : Side). x.role) d.0
role_on holds alone (tasks.Meet v) s h told t k d = ap (λ (x : Side). x.role) d.0
role_on holds alone (tasks.Compare b) s h told t k d = ap (λ (x : Side). x.role) d.same
role_on holds alone (tasks.Offer p) s h told t k d = ap (λ (x : Side). x.role) d.0
role_on holds alone (tasks.Ask a) s h told t k d = ap (λ (x : Side). x.role) d.same
role_on holds alone (tasks.Give w) s h told t k d = ap (λ (x : Side). x.role) d.same
role_on holds alone (tasks.Take op) s h told t k d = ap (λ (x : Side). x.role) d.same
role_on holds alone tasks.Show s h told t k d = ap (λ (x : Side). x.role) d.0
role_on holds alone tasks.Rest s h told t k d = ap (λ (x : Side). x.role) d.0

role_all : {H : Type 0} (holds : H → Map) (alone : H → Type 0) (s : Side) (h : H) (heard told : List Frame)
    (t : Side) (k : H) → DoesAll holds alone s h heard told t k → t.role ≡ s.role
role_all holds alone s h [] told t k d = ap (λ (x : Side). x.role) d.1
role_all holds alone s h (f ∷ heard) told t k d =
    role_all holds alone d.2 d.3 heard d.1 t k d.5
    ∙ role_on holds alone (task_for s.awaited f s.role) s h d.0 d.2 d.3 d.4

role_first : {H : Type 0} (holds : H → Map) (alone : H → Type 0) (role : Role) (h : H) (told : List Frame) (s : Side)
    (k : H) → SetsOut holds alone role h told s k → s.role ≡ role
role_first holds alone Caller h told s k d = ap (λ (x : Side). x.role) d.0
role_first holds alone Callee h told s k d = ap (λ (x : Side). x.role) d.0
role_first holds alone OldCaller h told s k d = ap (λ (x : Side). x.role) d.0

role_talk : {H : Type 0} (holds : H → Map) (alone : H → Type 0) (role : Role) (before : H) (heard told : List Frame)
    (t : Side) (k : H) → Talks holds alone role before heard told t k → t.role ≡ role
role_talk holds alone role before heard told t k talk =
    role_all holds alone talk.from talk.mid heard talk.rest t k talk.goes_on
    ∙ role_first holds alone role before talk.first talk.from talk.mid talk.sets_out

-- A callee that hears HELLO first says it first, and speaks version 2.
callee_meets : {H : Type 0} (holds : H → Map) (alone : H → Type 0) (before : H) (rest told : List Frame) (t : Side)
    (k : H) → Talks holds alone Callee before (Hello 2 ∷ rest) told t k
    → (t.round.version ≡ Two) × (more : List Frame) × (told ≡ Hello 2 ∷ more)
callee_meets holds alone before rest told t k talk = (
  settled_all holds alone d.2 d.3 rest d.1 t k (ap (λ (x : Side). is_met x.awaited) met.0) d.5
      ∙ ap (λ (x : Side). x.round.version) met.0,
  d.1,
  talk.told_is ∙ ap (λ (l : List Frame). l ++ talk.rest) talk.sets_out.1 ∙ d.6
      ∙ ap (λ (l : List Frame). l ++ d.1) met.1,
)
  where
    d : DoesAll holds alone talk.from talk.mid (Hello 2 ∷ rest) talk.rest t k
    d = talk.goes_on

    met : Does holds alone (tasks.Meet Two) (start_of Callee) talk.mid d.0 d.2 d.3
    met = subst (λ (x : Side). Does holds alone (task_for x.awaited (Hello 2) x.role) x talk.mid d.0 d.2 d.3)
        talk.sets_out.0 d.4

-- A caller says HELLO first.
caller_greets : {H : Type 0} (holds : H → Map) (alone : H → Type 0) (before : H) (heard told : List Frame) (t : Side)
    (k : H) → Talks holds alone Caller before heard told t k → (more : List Frame) × (told ≡ Hello 2 ∷ more)
caller_greets holds alone before heard told t k talk =
    (talk.rest, talk.told_is ∙ ap (λ (l : List Frame). l ++ talk.rest) talk.sets_out.1)

-- One that hears HELLO first speaks version 2.
caller_begins : {H : Type 0} (holds : H → Map) (alone : H → Type 0) (before : H) (rest told : List Frame) (t : Side)
    (k : H) → Talks holds alone Caller before (Hello 2 ∷ rest) told t k → t.round.version ≡ Two
caller_begins holds alone before rest told t k talk =
    settled_all holds alone d.2 d.3 rest d.1 t k (ap (λ (x : Side). is_met x.awaited) begun.0) d.5
    ∙ ap (λ (x : Side). x.round.version) begun.0
  where
    d : DoesAll holds alone talk.from talk.mid (Hello 2 ∷ rest) talk.rest t k
    d = talk.goes_on

    begun : Does holds alone (tasks.Begin Two) (start_of Caller) talk.mid d.0 d.2 d.3
    begun = subst (λ (x : Side). Does holds alone (task_for x.awaited (Hello 2) x.role) x talk.mid d.0 d.2 d.3)
        talk.sets_out.0 d.4

-- ---- two sides

module _ {X Y : Type 0} (holds_x : X → Map) (alone_x : X → Type 0)
    (refuses_x : X → X → List ℕ → HolderFault → Type 0) (role_x : Role) (from_x to_x : Ends X) (ended_x : Ended)
    (x : Exchanged holds_x alone_x refuses_x role_x from_x to_x ended_x) (holds_y : Y → Map) (alone_y : Y → Type 0)
    (refuses_y : Y → Y → List ℕ → HolderFault → Type 0) (role_y : Role) (from_y to_y : Ends Y) (ended_y : Ended)
    (y : Exchanged holds_y alone_y refuses_y role_y from_y to_y ended_y) (there : x.told ≡ y.heard)
    (back : y.told ≡ x.heard) (version_x : x.side.round.version ≡ Two) (version_y : y.side.round.version ≡ Two)
    (agree : Agree (holds_y to_y.holder) (holds_x to_x.holder)) where
  offering : Offering holds_y alone_y from_y.holder y.heard y.told y.side to_y.holder
  offering = offering_talk holds_y alone_y role_y from_y.holder y.heard y.told y.side to_y.holder y.talk

  shown : IsShown Two role_y (alone_y from_y.holder) (y.side.whole ≡ true) (holds_y from_y.holder) y.heard y.told
      (holds_y to_y.holder)
  shown = subst (λ (r : Role). IsShown Two r (alone_y from_y.holder) (y.side.whole ≡ true) (holds_y from_y.holder)
      y.heard y.told (holds_y to_y.holder))
      (role_talk holds_y alone_y role_y from_y.holder y.heard y.told y.side to_y.holder y.talk)
      (subst (λ (v : Version). IsShown v y.side.role (alone_y from_y.holder) (y.side.whole ≡ true)
      (holds_y from_y.holder) y.heard y.told (holds_y to_y.holder)) version_y
      (offering.some (ap (λ (a : Awaited). has_shown y.side.role a) y.over)))

  -- what nobody else changes was offered as it began, or as it ended
  lone : alone_y from_y.holder → shown.had ≡ lone_offer role_y (holds_y from_y.holder) (holds_y to_y.holder)
  lone here = by role_y (λ turn. shown.first here turn) (λ turn. shown.last here turn)
    where
      by : (r : Role) → (later_of r ≡ true → shown.had ≡ holds_y from_y.holder)
          → (later_of r ≡ false → shown.had ≡ holds_y to_y.holder)
          → shown.had ≡ lone_offer r (holds_y from_y.holder) (holds_y to_y.holder)
      by Caller first last = first refl
      by Callee first last = last refl
      by OldCaller first last = first refl

  begin : (d : List ℕ) → Has (offered Two shown.had) d → place_of d < 256
  begin d h =
      let op = offered_held Two shown.had d h in
      let at = shown.own d op.0 op.1 in
      subst (λ (q : List ℕ). place_of q < 256) at.1.1 (place_small at.0)

  -- what was compared with it
  against : (compared : Map) × WasCompared holds_x alone_x Two (offered Two shown.had) from_x.holder x.told to_x.holder
      compared × (IsTrue ended_x.finished → BucketsTell (offered Two compared) (offered Two shown.had) → (d : List ℕ)
      → Has (offered Two shown.had) d → place_of d < 256
      → (is_in (places_of compared shown.had) d ≡ true → IsOffered x.heard d) → IsHeld (holds_x to_x.holder) d)
  against = subst (λ (v : Version). HoldsWhatWasShown holds_x alone_x v (IsTrue ended_x.finished) from_x.holder x.heard
      x.told to_x.holder) version_x x.shown (offered Two shown.had) (subst (λ (l : List Frame).
      Has l (Buckets (bucket_list (offered Two shown.had)))) back shown.said)

  abbrev places : List ℕ
  places = places_of against.0 shown.had

  -- the set of which the HAVE was told
  had : (n : Map) × WasTold Two (alone_y from_y.holder) (y.side.whole ≡ true) places y.told shown.had
      (holds_y to_y.holder) n
  had = shown.offers places (subst (λ (l : List Frame). Has l (Differ places)) there against.1.said)

  -- what it tells whole was offered
  offers : (d : List ℕ) (op : Op) → held_at shown.had d ≡ Some op → IsInPart against.0 shown.had had.0 d
      → is_in places d ≡ true → IsOffered x.heard d
  offers d op e part in_places = (
    told_in Two places had.0,
    subst (λ (l : List Frame). Has l (Have (told_in Two places had.0))) back had.1.said,
    fitting_has MOST_DIGESTS (offered_in Two places had.0) d (offered_in_sorted Two places had.0)
        (has_filter (is_in places) (offered Two had.0) d
        (offered_has Two had.0 d op (had.1.since d op e) refl) in_places) (part in_places),
  )

  -- what was shown is held, of the places that do not differ and of those that were told whole
  part_gained : IsTrue ended_x.finished → BucketsTell (offered Two against.0) (offered Two shown.had)
      → HoldsPart (IsInPart against.0 shown.had had.0) shown.had (holds_x to_x.holder)
  part_gained finished tell d op part e =
      let h = offered_has Two shown.had d op e refl in
      let found = against.2 finished tell d h (begin d h) (offers d op e part) in
      found.1 ∙ ap Some (sym (agree d op found.0 (shown.until d op e) found.1))

  gained : IsTrue ended_x.finished → BucketsTell (offered Two against.0) (offered Two shown.had)
      → AllFits against.0 shown.had had.0 → HasGrown shown.had (holds_x to_x.holder)
  gained finished tell few d op e = part_gained finished tell d op (λ _. inl few) e

  -- where no place differs there is nothing to tell
  none_in : (ds : List (List ℕ)) → length (filter (is_in []) ds) ≡ 0
  none_in [] = refl
  none_in (d ∷ ds) = none_in ds

  none_fits : places ≡ [] → AllFits against.0 shown.had had.0
  none_fits none = subst (λ (p : List ℕ). length (offered_in Two p had.0) ≤ MOST_DIGESTS) (sym none)
      (omega (arith, none_in (offered Two had.0)))

  -- what a side says that tells so fits
  sent : IsTrue ended_y.whole → AllFits against.0 shown.had had.0
  sent is = had.1.fits (sym y.whole ∙ is)

  -- so does what was heard by one that tells so
  came : IsTrue ended_x.whole → AllFits against.0 shown.had had.0
  came is = seen_fits places (offered_in Two places had.0)
      (λ d h. (filter_has (is_in places) (offered Two had.0) d h).1)
      (x.seen_whole is places (told_in Two places had.0) against.1.said
      (subst (λ (l : List Frame). Has l (Have (told_in Two places had.0))) back had.1.said))

  pub was_gained : WasGained holds_x alone_x from_x to_x ended_x x.told holds_y alone_y role_y from_y to_y ended_y
      y.told
  was_gained = record {
    offer = shown.had;
    was_offered = record {
      own = shown.own;
      since = shown.since;
      until = shown.until;
      said = shown.said;
      lone = lone;
    };
    compared = against.0;
    was_compared = against.1;
    had = had.0;
    was_told = record {
      since = had.1.since;
      until = had.1.until;
      said = had.1.said;
      fits = sent;
      same = had.1.same;
    };
    part = part_gained;
    gained = gained;
    fits = λ is. none_fits ((x.agreed.0 is).here _ against.1.said);
    came = came;
    sent = sent;
    agreed = λ is. (no_place_is_equal (offered Two against.0) (offered Two shown.had)).0
        ((x.agreed.0 is).here _ against.1.said);
  }

  -- where one side agrees the other does
  pub agrees_too : IsTrue ended_x.agreed → IsTrue ended_y.agreed
  agrees_too is = y.agreed.1 (record {
    here = λ p h. (x.agreed.0 is).there p (subst (λ (l : List Frame). Has l (Differ p)) back h);
    there = λ p h. (x.agreed.0 is).here p (subst (λ (l : List Frame). Has l (Differ p)) (sym there) h);
  })

  -- what the other side has in the end it has from its begin, or was given it
  pub has_theirs : alone_y from_y.holder → alone_x from_x.holder → IsTrue ended_x.finished
      → BucketsTell (offered Two (holds_x from_x.holder))
      (offered Two (lone_offer role_y (holds_y from_y.holder) (holds_y to_y.holder)))
      → AllFits (holds_x from_x.holder) (lone_offer role_y (holds_y from_y.holder) (holds_y to_y.holder))
      (lone_offer role_y (holds_y from_y.holder) (holds_y to_y.holder))
      → ((op : Op) → Has x.told (Give op) → held_at (holds_x to_x.holder) (digest_of op) ≡ Some (op_in op))
      → HasGrown (holds_y to_y.holder) (holds_x to_x.holder)
  has_theirs here here_x finished tell fit gave d op e = by (y.comes_to.only here d op e)
    where
      tells : BucketsTell (offered Two against.0) (offered Two shown.had)
      tells = subst (λ (m : Map). BucketsTell (offered Two m) (offered Two shown.had))
          (sym (against.1.at_begin here_x))
          (subst (λ (m : Map). BucketsTell (offered Two (holds_x from_x.holder)) (offered Two m)) (sym (lone here))
          tell)

      few : AllFits against.0 shown.had had.0
      few = subst (λ (n : Map). AllFits against.0 shown.had n) (sym (had.1.same here))
          (subst (λ (m : Map). AllFits m shown.had shown.had) (sym (against.1.at_begin here_x))
          (subst (λ (n : Map). AllFits (holds_x from_x.holder) n n) (sym (lone here)) fit))

      by : (held_at (holds_y from_y.holder) d ≡ Some op) ⊎ StandsForGiven y.heard y.told d op
          → held_at (holds_x to_x.holder) d ≡ Some op
      by (inl was) = gained finished tells few d op (shown.since d op was)
      by (inr p) =
          let given = gave p.0 (subst (λ (l : List Frame). Has l (Give p.0)) (sym there) p.1) in
          ap (held_at (holds_x to_x.holder)) (sym p.3) ∙ given ∙ ap Some p.4

agree_back : (m n : Map) → Agree m n → Agree n m
agree_back m n agree d o p at_n at_m = sym (agree d p o at_m at_n)

module _ {A B : Type 0} (holds_a : A → Map) (alone_a : A → Type 0)
    (refuses_a : A → A → List ℕ → HolderFault → Type 0) (holds_b : B → Map) (alone_b : B → Type 0)
    (refuses_b : B → B → List ℕ → HolderFault → Type 0) (from_a to_a : Ends A) (ended_a : Ended)
    (from_b to_b : Ends B) (ended_b : Ended)
    (run : AreJoined holds_a alone_a refuses_a from_a to_a ended_a holds_b alone_b refuses_b from_b to_b ended_b)
    (agree : Agree (holds_b to_b.holder) (holds_a to_a.holder)) where
  abbrev a : Exchanged holds_a alone_a refuses_a Caller from_a to_a ended_a
  a = run.caller

  abbrev b : Exchanged holds_b alone_b refuses_b Callee from_b to_b ended_b
  b = run.callee

  there : a.told ≡ b.heard
  there = texts_once a.told b.heard a.told_are b.heard_are run.there

  back : b.told ≡ a.heard
  back = texts_once b.told a.heard b.told_are a.heard_are run.back

  greets : (more : List Frame) × (a.told ≡ Hello 2 ∷ more)
  greets = caller_greets holds_a alone_a from_a.holder a.heard a.told a.side to_a.holder a.talk

  meets : (b.side.round.version ≡ Two) × (more : List Frame) × (b.told ≡ Hello 2 ∷ more)
  meets = callee_meets holds_b alone_b from_b.holder greets.0 b.told b.side to_b.holder
      (subst (λ (l : List Frame). Talks holds_b alone_b Callee from_b.holder l b.told b.side to_b.holder)
      (sym there ∙ greets.1) b.talk)

  version_a : a.side.round.version ≡ Two
  version_a = caller_begins holds_a alone_a from_a.holder meets.1 a.told a.side to_a.holder
      (subst (λ (l : List Frame). Talks holds_a alone_a Caller from_a.holder l a.told a.side to_a.holder)
      (sym back ∙ meets.2) a.talk)

  agree_too : Agree (holds_a to_a.holder) (holds_b to_b.holder)
  agree_too = agree_back (holds_b to_b.holder) (holds_a to_a.holder) agree

  gives_a : WasGained holds_a alone_a from_a to_a ended_a a.told holds_b alone_b Callee from_b to_b ended_b b.told
  gives_a = was_gained holds_a alone_a refuses_a Caller from_a to_a ended_a a holds_b alone_b refuses_b Callee from_b
      to_b ended_b b there back version_a meets.0 agree

  gives_b : WasGained holds_b alone_b from_b to_b ended_b b.told holds_a alone_a Caller from_a to_a ended_a a.told
  gives_b = was_gained holds_b alone_b refuses_b Callee from_b to_b ended_b b holds_a alone_a refuses_a Caller from_a
      to_a ended_a a back there meets.0 version_a agree_too

  -- Both agree, or neither does.
  both_agree : IsTrue ended_a.agreed ↔ IsTrue ended_b.agreed
  both_agree = (
    agrees_too holds_a alone_a refuses_a Caller from_a to_a ended_a a holds_b alone_b refuses_b Callee from_b to_b
        ended_b b there back version_a meets.0 agree,
    agrees_too holds_b alone_b refuses_b Callee from_b to_b ended_b b holds_a alone_a refuses_a Caller from_a to_a
        ended_a a back there meets.0 version_a agree_too,
  )

  -- what a side was given the other side has
  gave_a : (op : Op) → Has a.told (Give op) → held_at (holds_a to_a.holder) (digest_of op) ≡ Some (op_in op)
  gave_a = (offering_talk holds_a alone_a Caller from_a.holder a.heard a.told a.side to_a.holder a.talk).gave

  gave_b : (op : Op) → Has b.told (Give op) → held_at (holds_b to_b.holder) (digest_of op) ≡ Some (op_in op)
  gave_b = (offering_talk holds_b alone_b Callee from_b.holder b.heard b.told b.side to_b.holder b.talk).gave

  equal : alone_a from_a.holder → alone_b from_b.holder → IsTrue ended_a.finished → IsTrue ended_b.finished
      → BucketsTell (offered Two (holds_b from_b.holder)) (offered Two (holds_a from_a.holder))
      → AllFits (holds_b from_b.holder) (holds_a from_a.holder) (holds_a from_a.holder)
      → BucketsTell (offered Two (holds_a from_a.holder)) (offered Two (holds_b to_b.holder))
      → AllFits (holds_a from_a.holder) (holds_b to_b.holder) (holds_b to_b.holder)
      → holds_a to_a.holder ≡ holds_b to_b.holder
  equal here_a here_b finished_a finished_b tell_b fit_b tell_a fit_a =
      let to_b_all = has_theirs holds_b alone_b refuses_b Callee from_b to_b ended_b b holds_a alone_a refuses_a
      Caller from_a to_a ended_a a back there meets.0 version_a agree_too here_a here_b finished_b tell_b fit_b gave_b in
      let to_a_all = has_theirs holds_a alone_a refuses_a Caller from_a to_a ended_a a holds_b alone_b refuses_b
      Callee from_b to_b ended_b b there back version_a meets.0 agree here_b here_a finished_a tell_a fit_a gave_a in
      same_sites (holds_a to_a.holder) (holds_b to_b.holder)
      (λ d. same_option (held_at (holds_a to_a.holder) d) (held_at (holds_b to_b.holder) d) (to_b_all d) (to_a_all d))

pub exchange_gives_all : {A B : Type 0} (holds_a : A → Map) (alone_a : A → Type 0)
    (refuses_a : A → A → List ℕ → HolderFault → Type 0) (holds_b : B → Map) (alone_b : B → Type 0)
    (refuses_b : B → B → List ℕ → HolderFault → Type 0)
    → ExchangeGivesAll holds_a alone_a refuses_a holds_b alone_b refuses_b
exchange_gives_all holds_a alone_a refuses_a holds_b alone_b refuses_b from_a to_a ended_a from_b to_b ended_b run
    agree = (
      gives_a holds_a alone_a refuses_a holds_b alone_b refuses_b from_a to_a ended_a from_b to_b ended_b run agree,
      gives_b holds_a alone_a refuses_a holds_b alone_b refuses_b from_a to_a ended_a from_b to_b ended_b run agree,
      both_agree holds_a alone_a refuses_a holds_b alone_b refuses_b from_a to_a ended_a from_b to_b ended_b run agree,
    )

pub exchange_makes_equal : {A B : Type 0} (holds_a : A → Map) (alone_a : A → Type 0)
    (refuses_a : A → A → List ℕ → HolderFault → Type 0) (holds_b : B → Map) (alone_b : B → Type 0)
    (refuses_b : B → B → List ℕ → HolderFault → Type 0)
    → ExchangeMakesEqual holds_a alone_a refuses_a holds_b alone_b refuses_b
exchange_makes_equal holds_a alone_a refuses_a holds_b alone_b refuses_b from_a to_a ended_a from_b to_b ended_b run
    agree = equal holds_a alone_a refuses_a holds_b alone_b refuses_b from_a to_a ended_a from_b to_b ended_b run agree
