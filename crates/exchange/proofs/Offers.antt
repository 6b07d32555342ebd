-- What a side offered, and what it gave.
use Rattle.std.proofs.Common.{inl, inr, ◌≡◌, ℕ, List, [], ◌∷◌, ◌++◌, Bool, true, false, Some, refl}
use Rattle.std.proofs.Common.{sym, ap, subst, ◌∙◌, append_assoc, append-nil, ◌≤◌, length, arith}
use Rattle.std.specs.Prelude.{◌⊎◌}
use Rattle.std.proofs.lemmas.Bool.{and_parts as both_true}
use Rattle.octets.specs.Members.{Has}
use Rattle.operation.specs.declared.op.Op.{Op}
use Rattle.operation.specs.Spelling.{digest_of}
use Rattle.records.specs.StandIn.{op_in}
use Rattle.site_state.specs.Site.{Map, held_at}
use Rattle.exchange_frames.specs.declared.frame.Frame.{Frame}
use Rattle.exchange_frames.specs.declared.frame.Frame.TheVariants.{Have, Want, Give, End, Buckets, Differ, Hello}
use Rattle.exchange.specs.declared.version.Version.{Version}
use Rattle.exchange.specs.Held.{offered, offered_in, held_of, IsRecorded, HasGrown}
use Rattle.exchange_frames.specs.declared.reader.TheConstants.{MOST_DIGESTS}
use Rattle.exchange.specs.Parts.{told_in, do_fit}
use Rattle.exchange.specs.Joined.{WasTold}
use Rattle.exchange.specs.Buckets.{bucket_list}
use Rattle.exchange.proofs.Gifts.{loaded_each}
use Rattle.exchange.specs.declared.role.Role.{Role}
use Rattle.exchange.specs.declared.role.Role.TheVariants.{Caller, Callee, OldCaller}
use Rattle.exchange.specs.declared.side.Side.{Side}
use Rattle.exchange.specs.declared.task.Awaited.{Awaited}
use Rattle.exchange.specs.declared.task.Awaited.TheVariants as awaits
use Rattle.exchange.specs.declared.task.Task.{Task}
use Rattle.exchange.specs.declared.task.Task.TheVariants as tasks
use Rattle.exchange.specs.Tasks.{task_for}
use Rattle.exchange.specs.Course.{gifts_of, Shows, Does, DoesAll, SetsOut, Talks, start_of}
use Rattle.exchange.specs.Course.{Idles}
use Rattle.exchange.proofs.Holders.{idles_of, idles_same, looked_same}
use Rattle.exchange.proofs.Turns.{later_of, later, Fits, fits}
use Rattle.exchange.proofs.Goings.{has_shown, Goes, goes}
use Rattle.exchange.proofs.Outcomes.{has_left, has_right, has_split, other_has, one_is, none_has_one}

-- BUCKETS were said of a set, and each DIFFER that was heard was answered over one that holds it. What nobody else
-- changes was shown as it began, or as it is now.
pub record IsShown (version : Version) (role : Role) (lone whole : Type 0) (start : Map) (heard told : List Frame)
    (now : Map) : Type 0 where
  pub had : Map
  pub own : IsRecorded had
  pub since : HasGrown start had
  pub until : HasGrown had now
  pub said : Has told (Buckets (bucket_list (offered version had)))
  pub offers : (places : List ℕ) → Has heard (Differ places) → (n : Map)
      × WasTold version lone whole places told had now n
  pub first : lone → later_of role ≡ true → had ≡ start
  pub last : lone → later_of role ≡ false → had ≡ now

-- what a side has offered and given so far
pub record Offering {H : Type 0} (holds : H → Map) (alone : H → Type 0) (start : H) (heard told : List Frame)
    (t : Side) (k : H) : Type 0
  where
    pub here : alone start → alone k
    pub early : alone start → later t.role t.awaited ≡ true → holds k ≡ holds start
    pub grown : HasGrown (holds start) (holds k)
    pub none : has_shown t.role t.awaited ≡ false → (places : List ℕ) → Has heard (Differ places) → ⊥
    pub some : has_shown t.role t.awaited ≡ true
        → IsShown t.round.version t.role (alone start) (t.whole ≡ true) (holds start) heard told (holds k)
    pub gave : (op : Op) → Has told (Give op) → held_at (holds k) (digest_of op) ≡ Some (op_in op)

fit_few : (digests : List (List ℕ)) → do_fit digests ≡ true → length digests ≤ MOST_DIGESTS
fit_few digests e = grind arith

true_or_false : (b c : Bool) → b ≡ c → b ≡ true → c ≡ false → ⊥
true_or_false b c e is isnt = let clash : true ≡ false = sym is ∙ e ∙ isnt in absurd cc

no_gift : (x : Frame) (more : List Frame) → more ≡ x ∷ [] → ((op : Op) → Give op ≡ x → ⊥) → (op : Op)
    → Has more (Give op) → ⊥
no_gift x more is other op h = other op (one_is x (Give op) more is h)

-- ---- GIVEs

gift_in : (ops : List Op) (op : Op) → Has (gifts_of ops) (Give op) → Has ops op
gift_in [] op (inl e) = absurd (let clash : Give op ≡ End = e in cc)
gift_in [] op (inr n) = absurd n
gift_in (o ∷ ops) op (inl e) = inl (let clash : Give op ≡ Give o = e in cc)
gift_in (o ∷ ops) op (inr h) = inr (gift_in ops op h)

-- ---- a frame more

module _ {H : Type 0} (holds : H → Map) (alone : H → Type 0) (start : H) (heard told : List Frame) (s : Side) (h : H)
    (know : Offering holds alone start heard told s h) (frame : Frame) (more : List Frame) (t : Side) (k : H) where
  -- where the holder idles, what nobody else changes stays
  idle_here : Idles holds alone h k → alone start → alone k
  idle_here idle lone = (idle.stays (know.here lone)).0

  idle_early : Idles holds alone h k → (later t.role t.awaited ≡ true → later s.role s.awaited ≡ true) → alone start
      → later t.role t.awaited ≡ true → holds k ≡ holds start
  idle_early idle back lone l = (idle.stays (know.here lone)).1 ∙ know.early lone (back l)

  idle_same : Idles holds alone h k → alone start → has_shown s.role s.awaited ≡ true → later_of s.role ≡ false
      → holds h ≡ holds k
  idle_same idle lone shown turn = sym (idle.stays (know.here lone)).1

  -- what was told stays told
  told_on : (version : Version) (places : List ℕ) (offer n : Map) → HasGrown (holds h) (holds k)
      → (t.whole ≡ true → s.whole ≡ true)
      → WasTold version (alone start) (s.whole ≡ true) places told offer (holds h) n
      → WasTold version (alone start) (t.whole ≡ true) places (told ++ more) offer (holds k) n
  told_on version places offer n grown back was = record {
    since = was.since;
    until = λ d op e. grown d op (was.until d op e);
    said = has_left told more _ was.said;
    fits = λ e. was.fits (back e);
    same = was.same;
  }

  shown_on : (version : Version) → HasGrown (holds h) (holds k) → (t.whole ≡ true → s.whole ≡ true)
      → ((places : List ℕ) → Differ places ≡ frame → ⊥)
      → (alone start → later_of s.role ≡ false → holds h ≡ holds k)
      → IsShown version s.role (alone start) (s.whole ≡ true) (holds start) heard told (holds h)
      → IsShown version s.role (alone start) (t.whole ≡ true) (holds start) (heard ++ frame ∷ []) (told ++ more)
      (holds k)
  shown_on version grown back other same was = record {
    first = was.first;
    last = λ lone turn. was.last lone turn ∙ same lone turn;
    had = was.had;
    own = was.own;
    since = was.since;
    until = λ d op e. grown d op (was.until d op e);
    said = has_left told more _ was.said;
    offers = λ places p. let n = was.offers places (other_has heard frame (Differ places) (other places) p) in
        (n.0, told_on version places was.had n.0 grown back n.1);
  }

  old_gift : ((op : Op) → Has more (Give op) → ⊥) → (op : Op) → Has (told ++ more) (Give op) → Has told (Give op)
  old_gift none op p = by (has_split told more (Give op) p)
    where
      by : Has told (Give op) ⊎ Has more (Give op) → Has told (Give op)
      by (inl l) = l
      by (inr r) = absurd (none op r)

  -- what neither shows, offers nor gives leaves what is known
  on : t.round.version ≡ s.round.version → t.role ≡ s.role → has_shown t.role t.awaited ≡ has_shown s.role s.awaited
      → HasGrown (holds h) (holds k) → (t.whole ≡ true → s.whole ≡ true)
      → ((places : List ℕ) → Differ places ≡ frame → ⊥) → ((op : Op) → Has more (Give op) → ⊥) → (alone start → alone k)
      → (alone start → later t.role t.awaited ≡ true → holds k ≡ holds start)
      → (alone start → has_shown s.role s.awaited ≡ true → later_of s.role ≡ false → holds h ≡ holds k)
      → Offering holds alone start (heard ++ frame ∷ []) (told ++ more) t k
  on version role same grown back other no_give here early still = record {
    here = here;
    early = early;
    grown = λ d op e. grown d op (know.grown d op e);
    none = λ e places p. know.none (sym same ∙ e) places (other_has heard frame (Differ places) (other places) p);
    some = λ e. subst (λ (r : Role). IsShown t.round.version r (alone start) (t.whole ≡ true) (holds start)
        (heard ++ frame ∷ []) (told ++ more) (holds k)) (sym role)
        (subst (λ (v : Version). IsShown v s.role (alone start) (t.whole ≡ true) (holds start) (heard ++ frame ∷ [])
        (told ++ more) (holds k)) (sym version) (shown_on s.round.version grown back other
        (λ lone turn. still lone (sym same ∙ e) turn) (know.some (sym same ∙ e))));
    gave = λ op p. grown (digest_of op) (op_in op) (know.gave op (old_gift no_give op p));
  }

  -- BUCKETS are said.
  shows : (u : Side) → has_shown s.role s.awaited ≡ false → ((places : List ℕ) → Differ places ≡ frame → ⊥)
      → (alone start → later_of u.role ≡ true → holds h ≡ holds start)
      → (later t.role t.awaited ≡ true → later s.role s.awaited ≡ true)
      → Shows holds alone u h more t k → Offering holds alone start (heard ++ frame ∷ []) (told ++ more) t k
  shows u before other begins back does = record {
    here = idle_here (idles_of does.1);
    early = idle_early (idles_of does.1) back;
    grown = λ d op e. (idles_of does.1).grown d op (know.grown d op e);
    none = λ e. absurd (let clash : true ≡ false = sym (ap (λ (x : Side). has_shown x.role x.awaited) does.0)
        ∙ e in cc);
    some = λ _. subst (λ (x : Side). IsShown x.round.version x.role (alone start) (t.whole ≡ true) (holds start)
        (heard ++ frame ∷ []) (told ++ more) (holds k))
        (sym does.0) (record {
          had = does.1.had;
          first = λ lone turn. looked_same does.1 (know.here lone) ∙ begins lone turn;
          last = λ lone turn. looked_same does.1 (know.here lone) ∙ sym (does.1.stays (know.here lone)).1;
          own = does.1.was_had.own;
          since = λ d op e. does.1.was_had.since d op (know.grown d op e);
          until = does.1.was_had.until;
          said = has_right told more _ (subst (λ (l : List Frame). Has l (Buckets (bucket_list (offered u.round.version
              does.1.had)))) (sym does.1.answers) (inl refl));
          offers = λ places p. absurd (know.none before places
              (other_has heard frame (Differ places) (other places) p));
        });
    gave = λ op p. (idles_of does.1).grown (digest_of op) (op_in op) (know.gave op (old_gift (no_gift _ more
        does.1.answers
        (λ o e. let clash : Give o ≡ Buckets _ = e in absurd cc)) op p));
  }

  -- HAVE is said.
  offers_next : (places : List ℕ) → frame ≡ Differ places → s.awaited ≡ awaits.Differ
      → (later t.role t.awaited ≡ true → later s.role s.awaited ≡ true)
      → Does holds alone (tasks.Offer places) s h more t k
      → Offering holds alone start (heard ++ frame ∷ []) (told ++ more) t k
  offers_next places is awaited back does = record {
    here = idle_here (idles_of does.1);
    early = idle_early (idles_of does.1) back;
    grown = λ d op e. (idles_of does.1).grown d op (know.grown d op e);
    none = λ e. absurd (let clash : true ≡ false = sym (ap (λ (x : Side). has_shown x.role x.awaited) does.0)
        ∙ e in cc);
    some = λ _. subst (λ (x : Side). IsShown x.round.version x.role (alone start) (t.whole ≡ true) (holds start)
        (heard ++ frame ∷ []) (told ++ more) (holds k))
        (sym does.0) (record {
          had = was.had;
          first = was.first;
          last = λ lone turn. was.last lone turn ∙ sym (does.1.stays (know.here lone)).1;
          own = was.own;
          since = was.since;
          until = λ d op e. (idles_of does.1).grown d op (was.until d op e);
          said = has_left told more _ was.said;
          offers = λ p q. by p (has_split heard (frame ∷ []) (Differ p) q);
        });
    gave = λ op p. (idles_of does.1).grown (digest_of op) (op_in op) (know.gave op (old_gift (no_gift _ more
        does.1.answers.0
        (λ o e. let clash : Give o ≡ Have _ = e in absurd cc)) op p));
  }
    where
      was : IsShown s.round.version s.role (alone start) (s.whole ≡ true) (holds start) heard told (holds h)
      was = know.some (ap (λ (a : Awaited). has_shown s.role a) awaited)

      both : t.whole ≡ true → (s.whole ≡ true) × (do_fit (offered_in s.round.version places does.1.had) ≡ true)
      both e = both_true s.whole (do_fit (offered_in s.round.version places does.1.had)) (sym does.1.answers.1 ∙ e)

      -- what nobody else changes is still what was shown
      stood : (b : Bool) → later_of s.role ≡ b → alone start → holds h ≡ was.had
      stood true turn lone =
          know.early lone (ap (λ (a : Awaited). later s.role a) awaited ∙ turn) ∙ sym (was.first lone turn)
      stood false turn lone = sym (was.last lone turn)

      by : (p : List ℕ) → Has heard (Differ p) ⊎ Has (frame ∷ []) (Differ p) → (n : Map)
          × WasTold s.round.version (alone start) (t.whole ≡ true) p (told ++ more) was.had (holds k) n
      by p (inl l) = let n = was.offers p l in
          (n.0, told_on s.round.version p was.had n.0 (idles_of does.1).grown (λ e. (both e).0) n.1)
      by p (inr r) =
          let one : Differ p ≡ Differ places = one_is frame (Differ p) (frame ∷ []) refl r ∙ is in
          let same : p ≡ places = cc in (
            does.1.had,
            record {
              since = λ d op e. does.1.was_had.since d op (was.until d op e);
              until = does.1.was_had.until;
              said = has_right told more _ (subst (λ (l : List Frame). Has l (Have (told_in s.round.version p
                  does.1.had))) (sym does.1.answers.0)
                  (inl (ap (λ (q : List ℕ). Have (told_in s.round.version q does.1.had)) same)));
              fits = λ e. subst (λ (q : List ℕ). length (offered_in s.round.version q does.1.had) ≤ MOST_DIGESTS)
                  (sym same) (fit_few _ (both e).1);
              same = λ lone. looked_same does.1 (know.here lone) ∙ stood (later_of s.role) refl lone;
            },
          )

  -- GIVEs are said.
  gives_next : (want : List (List ℕ)) → frame ≡ Want want → Goes s.role s.awaited (tasks.Give want)
      → (later t.role t.awaited ≡ true → later s.role s.awaited ≡ true)
      → Does holds alone (tasks.Give want) s h more t k
      → Offering holds alone start (heard ++ frame ∷ []) (told ++ more) t k
  gives_next want is went back does = record {
    here = idle_here (idles_of does.looks);
    early = idle_early (idles_of does.looks) back;
    grown = λ d op e. (idles_of does.looks).grown d op (know.grown d op e);
    none = λ e. absurd (let clash : true ≡ false = sym after ∙ e in cc);
    some = λ _. subst (λ (x : Side). IsShown x.round.version x.role (alone start) (t.whole ≡ true) (holds start)
        (heard ++ frame ∷ []) (told ++ more) (holds k))
        (sym does.same)
        (shown_on s.round.version (idles_of does.looks).grown (λ e. sym (ap (λ (x : Side). x.whole) does.same) ∙ e)
        (λ places e. let clash : Differ places ≡ Want want = e ∙ is in absurd cc)
        (λ lone turn. sym (does.looks.stays (know.here lone)).1)
        (know.some (ap (λ (a : Awaited). has_shown s.role a) went.0)));
    gave = λ op p. by op (has_split told more (Give op) p);
  }
    where
      after : has_shown t.role t.awaited ≡ true
      after = ap (λ (x : Side). has_shown x.role x.awaited) does.same ∙ went.1

      by : (op : Op) → Has told (Give op) ⊎ Has more (Give op) → held_at (holds k) (digest_of op) ≡ Some (op_in op)
      by op (inl l) = (idles_of does.looks).grown (digest_of op) (op_in op) (know.gave op l)
      by op (inr r) =
          let mine = gift_in does.ops op (subst (λ (l : List Frame). Has l (Give op)) does.says r) in
          does.looks.was_had.until (digest_of op) (op_in op) (loaded_each does.looks.had
          (held_of s.round.version want does.looks.had) does.ops does.unread does.looks.answers op mine)

  next : (task : Task) → Fits s.role s.awaited task frame → Goes s.role s.awaited task
      → Does holds alone task s h more t k → Offering holds alone start (heard ++ frame ∷ []) (told ++ more) t k
  next tasks.Refuse fit went does = absurd does
  next (tasks.Begin version) fit went does = shows (record s { round = record { version = version; asked = [] } })
      (ap (λ (a : Awaited). has_shown s.role a) went)
      (λ places e. let clash : Differ places ≡ Hello fit.0 = e ∙ fit.1 in absurd cc)
      (λ lone turn. know.early lone fit.2) (λ l. fit.2) does
  next (tasks.Meet version) fit went does = record {
    here = idle_here (idles_same holds alone h k does.2);
    early = idle_early (idles_same holds alone h k does.2) (λ l. fit.2);
    grown = λ d op e. same_grown d op (know.grown d op e);
    none = λ e places p. know.none (ap (λ (a : Awaited). has_shown s.role a) went.0) places
        (other_has heard frame (Differ places)
        (λ c. let clash : Differ places ≡ Hello fit.0 = c ∙ fit.1 in absurd cc) p);
    some = λ e. absurd (true_or_false (has_shown t.role t.awaited) (later_of s.role)
        (ap (λ (x : Side). has_shown x.role x.awaited) does.0) e went.1);
    gave = λ op p. same_grown (digest_of op) (op_in op) (know.gave op (old_gift (no_gift _ more does.1
        (λ o e. let clash : Give o ≡ Hello _ = e in absurd cc)) op p));
  }
    where
      same_grown : HasGrown (holds h) (holds k)
      same_grown = (idles_same holds alone h k does.2).grown
  next (tasks.Compare buckets) fit went does = on (ap (λ (x : Side). x.round.version) does.same)
      (ap (λ (x : Side). x.role) does.same)
      (ap (λ (x : Side). has_shown x.role x.awaited) does.same ∙ went) (idles_of does.looks).grown
      (λ e. sym (ap (λ (x : Side). x.whole) does.same) ∙ e)
      (λ places e. let clash : Differ places ≡ Buckets buckets = e ∙ fit.0 in absurd cc)
      (no_gift _ more does.says (λ o e. let clash : Give o ≡ Differ _ = e in absurd cc))
      (idle_here (idles_of does.looks)) (idle_early (idles_of does.looks) (λ l. fit.1))
      (idle_same (idles_of does.looks))
  next (tasks.Offer places) fit went does = offers_next places fit.0 went
      (λ l. fit.1 ∙ sym (ap (λ (x : Side). later x.role x.awaited) does.0) ∙ l) does
  next (tasks.Ask have) fit went does = on does.version (ap (λ (x : Side). x.role) does.same)
      (ap (λ (x : Side). has_shown x.role x.awaited) does.same
      ∙ sym (ap (λ (a : Awaited). has_shown s.role a) went)) (idles_of does.looks).grown
      (λ e. (both_true s.whole _ (sym (ap (λ (x : Side). x.whole) does.same) ∙ e)).0)
      (λ places e. let clash : Differ places ≡ Have have = e ∙ fit in absurd cc)
      (no_gift _ more does.says (λ o e. let clash : Give o ≡ Want _ = e in absurd cc))
      (idle_here (idles_of does.looks))
      (λ lone l. let clash : false ≡ true = sym (ap (λ (x : Side). later x.role x.awaited) does.same) ∙ l in absurd cc)
      (idle_same (idles_of does.looks))
  next (tasks.Give want) fit went does = gives_next want fit.0 went
      (λ l. fit.1 (sym (ap (λ (x : Side). later x.role x.awaited) does.same) ∙ l)) does
  next (tasks.Take op) fit went does = on (ap (λ (x : Side). x.round.version) does.same)
      (ap (λ (x : Side). x.role) does.same)
      (ap (λ (x : Side). has_shown x.role x.awaited) does.same) does.takes.takes.grown
      (λ e. sym (ap (λ (x : Side). x.whole) does.same) ∙ e)
      (λ places e. let clash : Differ places ≡ Give op = e ∙ fit.0 in absurd cc)
      (λ o p. none_has_one (Give o) more does.says p)
      (λ lone. (does.takes.takes.stays (know.here lone)).0)
      (λ lone l. let clash : false ≡ true = sym fit.1 ∙ sym (ap (λ (x : Side). later x.role x.awaited) does.same) ∙ l
      in absurd cc)
      (λ lone shown turn. let clash : true ≡ false = sym shown ∙ ap (λ (a : Awaited). has_shown s.role a) went ∙ turn
      in absurd cc)
  next tasks.Show fit went does = shows s (ap (λ (a : Awaited). has_shown s.role a) went.0 ∙ went.1)
      (λ places e. let clash : Differ places ≡ End = e ∙ fit.0 in absurd cc)
      (λ lone turn. let clash : false ≡ true = sym fit.1 ∙ turn in absurd cc)
      (λ l. let clash : false ≡ true = sym fit.1 ∙ sym (ap (λ (x : Side). later x.role x.awaited) does.0) ∙ l in
      absurd cc) does
  next tasks.Rest fit went does = on (ap (λ (x : Side). x.round.version) does.0) (ap (λ (x : Side). x.role) does.0)
      (ap (λ (x : Side). has_shown x.role x.awaited) does.0 ∙ sym went.1
      ∙ sym (ap (λ (a : Awaited). has_shown s.role a) went.0)) (idles_same holds alone h k does.2).grown
      (λ e. sym (ap (λ (x : Side). x.whole) does.0) ∙ e)
      (λ places e. let clash : Differ places ≡ End = e ∙ fit in absurd cc)
      (λ o p. none_has_one (Give o) more does.1 p) (idle_here (idles_same holds alone h k does.2))
      (λ lone l. let clash : false ≡ true = sym (ap (λ (x : Side). later x.role x.awaited) does.0) ∙ l in absurd cc)
      (idle_same (idles_same holds alone h k does.2))

-- ---- all of it

offering_all : {H : Type 0} (holds : H → Map) (alone : H → Type 0) (start : H) (before said : List Frame) (s : Side)
    (h : H) → Offering holds alone start before said s h → (heard told : List Frame) (t : Side) (k : H)
    → DoesAll holds alone s h heard told t k → Offering holds alone start (before ++ heard) (said ++ told) t k
offering_all {H = H} holds alone start before said s h know [] told t k d =
    let a = subst (λ (l : List Frame). Offering holds alone start l said s h) (sym (append-nil before)) know in
    let b = subst (λ (l : List Frame). Offering holds alone start (before ++ []) l s h) (sym (append-nil said)
    ∙ ap (λ (l : List Frame). said ++ l) (sym d.0)) a in
    let c = subst (λ (x : Side). Offering holds alone start (before ++ []) (said ++ told) x h) (sym d.1) b in
    subst (λ (x : H). Offering holds alone start (before ++ []) (said ++ told) t x) (sym d.2) c
offering_all holds alone start before said s h know (f ∷ heard) told t k d =
    let one = next holds alone start before said s h know f d.0 d.2 d.3 (task_for s.awaited f s.role)
    (fits s.awaited f s.role) (goes s.awaited f s.role) d.4 in
    let rest = offering_all holds alone start (before ++ f ∷ []) (said ++ d.0) d.2 d.3 one heard d.1 t k d.5 in
    let a = subst (λ (l : List Frame). Offering holds alone start l ((said ++ d.0) ++ d.1) t k)
    (append_assoc before (f ∷ []) heard) rest in
    subst (λ (l : List Frame). Offering holds alone start (before ++ f ∷ heard) l t k) (append_assoc said d.0 d.1
    ∙ ap (λ (l : List Frame). said ++ l) (sym d.6)) a

-- ---- the first words

-- nothing was shown yet
not_yet : {H : Type 0} (holds : H → Map) (alone : H → Type 0) (h k : H) (told : List Frame) (s : Side) → k ≡ h
    → has_shown s.role s.awaited ≡ false → ((op : Op) → Has told (Give op) → ⊥) → Offering holds alone h [] told s k
not_yet holds alone h k told s same none no_give = record {
  here = λ lone. ((idles_same holds alone h k same).stays lone).0;
  early = λ lone l. ((idles_same holds alone h k same).stays lone).1;
  grown = (idles_same holds alone h k same).grown;
  none = λ e places p. p;
  some = λ e. absurd (true_or_false (has_shown s.role s.awaited) (has_shown s.role s.awaited) refl e none);
  gave = λ op p. absurd (no_give op p);
}

offering_start : {H : Type 0} (holds : H → Map) (alone : H → Type 0) (role : Role) (h : H) (told : List Frame)
    (s : Side) (k : H) → SetsOut holds alone role h told s k → Offering holds alone h [] told s k
offering_start holds alone Caller h told s k d = not_yet holds alone h k told s d.2
    (ap (λ (x : Side). has_shown x.role x.awaited) d.0)
    (no_gift _ told d.1 (λ o e. let clash : Give o ≡ Hello _ = e in absurd cc))
offering_start holds alone Callee h told s k d = not_yet holds alone h k told s d.2
    (ap (λ (x : Side). has_shown x.role x.awaited) d.0) (λ o p. none_has_one (Give o) told d.1 p)
offering_start holds alone OldCaller h told s k d = record {
  here = λ lone. (d.1.stays lone).0;
  early = λ lone l. (d.1.stays lone).1;
  grown = (idles_of d.1).grown;
  none = λ e places p. p;
  some = λ _. subst (λ (x : Side). IsShown x.round.version x.role (alone h) (s.whole ≡ true) (holds h) [] told
      (holds k))
      (sym d.0) (record {
        had = d.1.had;
        first = λ lone turn. looked_same d.1 lone;
        last = λ lone turn. let clash : true ≡ false = turn in absurd cc;
        own = d.1.was_had.own;
        since = d.1.was_had.since;
        until = d.1.was_had.until;
        said = subst (λ (l : List Frame). Has l (Buckets (bucket_list (offered (start_of OldCaller).round.version
            d.1.had)))) (sym d.1.answers) (inl refl);
        offers = λ places p. absurd p;
      });
  gave = λ op p. absurd (no_gift _ told d.1.answers (λ o e. let clash : Give o ≡ Buckets _ = e in absurd cc) op p);
}

pub offering_talk : {H : Type 0} (holds : H → Map) (alone : H → Type 0) (role : Role) (before : H)
    (heard told : List Frame) (t : Side) (k : H) → Talks holds alone role before heard told t k
    → Offering holds alone before heard told t k
offering_talk holds alone role before heard told t k talk =
    subst (λ (l : List Frame). Offering holds alone before heard l t k) (sym talk.told_is)
    (offering_all holds alone before [] talk.first talk.from talk.mid (offering_start holds alone role before talk.first
    talk.from talk.mid talk.sets_out) heard talk.rest t k talk.goes_on)
