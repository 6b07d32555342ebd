-- What an exchange comes to, frame by frame.
use Rattle.std.proofs.Common.{inl, inr, ◌≡◌, ◌<◌, ℕ, arith, List, [], ◌∷◌, ◌++◌, Bool, true}
use Rattle.std.proofs.Common.{false, cond, Option, Some, None}
use Rattle.std.proofs.Common.{Result, Ok, Err, refl, sym, ap, subst, ◌∙◌, append_assoc, append-nil}
use Rattle.std.specs.Prelude.{◌⊎◌, ◌==◌, OnOk, is_some, IsSome, not, if◌then◌else◌, ⊤}
use Rattle.std.specs.List.{range_with_len}
use Rattle.std.specs.Map.{lookup, set_value}
use Rattle.std.specs.BTreeMap.{is_at}
use Rattle.std.specs.Ordering.{is_eq, eq_by_cmp}
use Rattle.std.specs.FinMap.{get-insert}
use Rattle.std.specs.Cmp.{eq_by_cmp_equiv, tied_itself}
use Rattle.std.specs.Cmp.Lexicographic.{nat_list_cmp_total}
use Rattle.std.proofs.lemmas.Map.{lookup-set_value}
use Rattle.std.proofs.lemmas.Bool.{not-false as negated}
use Rattle.octets.specs.Members.{Has}
use Rattle.archive_model.proofs.ModelLaws.{same_is}
use Rattle.archive_model.proofs.MemberLaws.{has_any, any_has, has_filter, filter_has}
use Rattle.operation.specs.declared.op.Op.{Op}
use Rattle.operation.specs.declared.taken.Taken.{Taken}
use Rattle.operation.specs.declared.taken.Taken.TheVariants.{New, Known}
use Rattle.operation.specs.Spelling.{digest_of}
use Rattle.records.specs.StandIn.{op_in}
use Rattle.site_state.specs.Site.{Map, held_at, digest_cmp}
use Rattle.site_state.proofs.Maps.{tied}
use Rattle.exchange_frames.specs.declared.frame.Frame.{Frame}
use Rattle.exchange_frames.specs.declared.frame.Frame.TheVariants.{Have, Want, Give, End, Buckets, Differ, Hello}
use Rattle.exchange.specs.declared.fault.ExchangeFault.TheVariants.{BadFrame, Stranger}
use Rattle.exchange.specs.declared.fault.HolderFault.{HolderFault}
use Rattle.exchange.specs.declared.version.Version.{Version}
use Rattle.exchange.specs.Held.{offered, place_of, is_in, is_lacking, is_spoken, HasGrown, WasHad, TakesIn}
use Rattle.exchange.specs.Held.{TakesAlone}
use Rattle.exchange.specs.Buckets.{bucket_list, is_unequal, unequal}
use Rattle.exchange.specs.Laws.{BucketsTell}
use Rattle.exchange.specs.Round.{RoundState, asked_at, asked_in, is_among, by_holder, IsFinished}
use Rattle.exchange.proofs.Bucketed.{bucket_at, offered_held, range_has, eqb_itself}
use Rattle.exchange.specs.declared.role.Role.{Role}
use Rattle.exchange.specs.declared.role.Role.TheVariants.{Caller, Callee, OldCaller}
use Rattle.exchange.specs.declared.side.Side.{Side}
use Rattle.exchange.specs.declared.task.Task.{Task}
use Rattle.exchange.specs.declared.task.Task.TheVariants as tasks
use Rattle.exchange.specs.Tasks.{task_for}
use Rattle.exchange.specs.Course.{gifts_of, Does, DoesAll, SetsOut, Talks, Idles}
use Rattle.exchange.specs.RunLaws.{WasAsked, WasGiven, IsGivenAll, IsHeld, HoldsWhatWasOffered}
use Rattle.exchange.specs.RunLaws.{IsOffered, differing}
use Rattle.exchange.specs.RunLaws.{WasCompared, StandsForGiven, GainsOnlyGiven, Outcome}
use Rattle.exchange.proofs.Holders.{idles_of, idles_same, grown_both, looked_same}
use Rattle.exchange.proofs.Turns.{later, Fits, fits}

-- ---- members

pub has_left : {X : Type 0} (xs ys : List X) (x : X) → Has xs x → Has (xs ++ ys) x
has_left [] ys x h = absurd h
has_left (y ∷ xs) ys x (inl e) = inl e
has_left (y ∷ xs) ys x (inr h) = inr (has_left xs ys x h)

pub has_right : {X : Type 0} (xs ys : List X) (x : X) → Has ys x → Has (xs ++ ys) x
has_right [] ys x h = h
has_right (y ∷ xs) ys x h = inr (has_right xs ys x h)

pub has_split : {X : Type 0} (xs ys : List X) (x : X) → Has (xs ++ ys) x → Has xs x ⊎ Has ys x
has_split [] ys x h = inr h
has_split (y ∷ xs) ys x (inl e) = inl (inl e)
has_split (y ∷ xs) ys x (inr h) = by (has_split xs ys x h)
  where
    by : Has xs x ⊎ Has ys x → Has (y ∷ xs) x ⊎ Has ys x
    by (inl l) = inl (inr l)
    by (inr r) = inr r

-- what stands among these and one more, which it is not, stands among these
pub other_has : {X : Type 0} (xs : List X) (y x : X) → (x ≡ y → ⊥) → Has (xs ++ y ∷ []) x → Has xs x
other_has xs y x apart h = by (has_split xs (y ∷ []) x h)
  where
    by : Has xs x ⊎ Has (y ∷ []) x → Has xs x
    by (inl l) = l
    by (inr (inl e)) = absurd (apart e)
    by (inr (inr n)) = absurd n

among_has : (digest : List ℕ) (digests : List (List ℕ)) → is_among digest digests ≡ true → Has digests digest
among_has digest digests e =
    let found = any_has (λ d. is_at (digest_cmp d) digest) digests e in
    subst (λ (d : List ℕ). Has digests d) (tied found.0 digest found.2) found.1

has_among : (digest : List ℕ) (digests : List (List ℕ)) → Has digests digest → is_among digest digests ≡ true
has_among digest digests h = has_any (λ d. is_at (digest_cmp d) digest) digests digest h (ap is_eq (tied_itself
    nat_list_cmp_total digest))

-- ---- what was asked for

abbrev pub IsAsked : List ℕ → RoundState → Type 0
IsAsked digest round = (b : Bool) × (asked_at digest round ≡ Some b)

-- where the operation of x was given, q is asked for as before, and x was given
marked_at : (x q : List ℕ) (es : List (List ℕ × Bool)) → IsSome (lookup (is_at (digest_cmp x)) es)
    → asked_in q (set_value (is_at (digest_cmp x)) es true) ≡ cond (is_at (digest_cmp x) q) (Some true) (asked_in q es)
marked_at x q es there = lookup-set_value (eq_by_cmp_equiv nat_list_cmp_total) (is_at (digest_cmp x))
    (λ a b at. ap (λ k. is_at (digest_cmp k) b) (tied x a at)) q true es there

-- ---- what is known

-- before BUCKETS are heard nothing was compared, asked for or given
record Fresh (heard told : List Frame) : Type 0 where
  no_buckets : (b : List (List ℕ)) → Has heard (Buckets b) → ⊥
  no_give : (op : Op) → Has heard (Give op) → ⊥
  no_want : (w : List (List ℕ)) → Has told (Want w) → ⊥

-- a set that a holder had since it began, and the places in which it has other buckets
record Compared {H : Type 0} (holds : H → Map) (alone : H → Type 0) (start : H) (version : Version) (after : H)
    (buckets : List (List ℕ)) (places : List ℕ) : Type 0 where
  m : Map
  had : WasHad (holds start) m (holds after)
  at_begin : alone start → m ≡ holds start
  places_are : places ≡ unequal (bucket_list (offered version m)) buckets

record Knows {H : Type 0} (holds : H → Map) (alone : H → Type 0) (start : H) (heard told : List Frame) (t : Side)
    (k : H) : Type 0 where
  grown : HasGrown (holds start) (holds k)
  only : alone start → alone k × GainsOnlyGiven (holds start) heard told (holds k)
  asked : (d : List ℕ) → IsAsked d t.round → WasAsked told d
  awaited : (d : List ℕ) → WasAsked told d → IsAsked d t.round
  given : (d : List ℕ) → asked_at d t.round ≡ Some true → WasGiven heard d
  marked : (d : List ℕ) → WasGiven heard d → asked_at d t.round ≡ Some true
  held : (op : Op) → Has heard (Give op) → held_at (holds k) (digest_of op) ≡ Some (op_in op)
  have : (x : List (List ℕ)) (d : List ℕ) → Has heard (Have x) → Has x d → IsHeld (holds k) d ⊎ WasAsked told d
  shown : (b : List (List ℕ)) → Has heard (Buckets b) → (p : List ℕ) × Has told (Differ p)
      × Compared holds alone start t.round.version k b p
  fresh : later t.role t.awaited ≡ true → Fresh heard told

asked_more : (told more : List Frame) (d : List ℕ) → WasAsked told d → WasAsked (told ++ more) d
asked_more told more d p = (p.0, has_left told more (Want p.0) p.1, p.2)

given_more : (heard more : List Frame) (d : List ℕ) → WasGiven heard d → WasGiven (heard ++ more) d
given_more heard more d p = (p.0, has_left heard more (Give p.0) p.1, p.2)

given_on : (heard told fs ms : List Frame) (d : List ℕ) (o : Op) → StandsForGiven heard told d o
    → StandsForGiven (heard ++ fs) (told ++ ms) d o
given_on heard told fs ms d o p = (p.0, has_left heard fs (Give p.0) p.1, asked_more told ms d p.2, p.3, p.4)

-- what was held, or given, still was
gained_on : (m : Map) (heard told fs ms : List Frame) (d : List ℕ) (o : Op)
    → (held_at m d ≡ Some o) ⊎ StandsForGiven heard told d o
    → (held_at m d ≡ Some o) ⊎ StandsForGiven (heard ++ fs) (told ++ ms) d o
gained_on m heard told fs ms d o (inl e) = inl e
gained_on m heard told fs ms d o (inr p) = inr (given_on heard told fs ms d o p)

held_more : (m n : Map) (d : List ℕ) → HasGrown m n → IsHeld m d → IsHeld n d
held_more m n d grown p = (p.0, grown d p.0 p.1)

none_or : (o : Option Bool) → ((b : Bool) → o ≡ Some b → ⊥) → o ≡ None
none_or None never = refl
none_or (Some b) never = absurd (never b refl)

-- ---- a frame more

module _ {H : Type 0} (holds : H → Map) (alone : H → Type 0) (start : H) (heard told : List Frame) (s : Side) (h : H)
    (know : Knows holds alone start heard told s h) (frame : Frame) (more : List Frame) (t : Side) (k : H) where
  -- what others said and did leaves what is known, where nothing is asked for and nothing is given
  quiet : ((d : List ℕ) → asked_at d t.round ≡ asked_at d s.round) → ((op : Op) → frame ≡ Give op → ⊥)
      → ((x : List (List ℕ)) → frame ≡ Have x → ⊥) → ((w : List (List ℕ)) → Has more (Want w) → ⊥)
      → Idles holds alone h k
      → ((b : List (List ℕ)) → Has (heard ++ frame ∷ []) (Buckets b) → (p : List ℕ) × Has (told ++ more) (Differ p)
      × Compared holds alone start t.round.version k b p)
      → (later t.role t.awaited ≡ true → Fresh (heard ++ frame ∷ []) (told ++ more))
      → Knows holds alone start (heard ++ frame ∷ []) (told ++ more) t k
  quiet same no_give no_have no_want idle shown fresh = record {
    grown = λ d op e. idle.grown d op (know.grown d op e);
    only = λ here. let was = know.only here in let stays = idle.stays was.0 in (
      stays.0,
      λ d op e. gained_on (holds start) heard told (frame ∷ []) more d op
          (was.1 d op (ap (λ (m : Map). held_at m d) (sym stays.1) ∙ e)),
    );
    asked = λ d p. asked_more told more d (know.asked d (p.0, sym (same d) ∙ p.1));
    awaited = λ d p. let q = know.awaited d (old_want d p) in (q.0, same d ∙ q.1);
    given = λ d e. given_more heard (frame ∷ []) d (know.given d (sym (same d) ∙ e));
    marked = λ d p. same d ∙ know.marked d (old_give d p);
    held = λ op p. idle.grown (digest_of op) (op_in op) (know.held op (other_has heard frame (Give op)
        (λ e. no_give op (sym e)) p));
    have = λ x d p q. held_or x d (know.have x d (other_has heard frame (Have x) (λ e. no_have x (sym e)) p) q);
    shown = shown;
    fresh = fresh;
  }
    where
      old_want : (d : List ℕ) → WasAsked (told ++ more) d → WasAsked told d
      old_want d p = at (has_split told more (Want p.0) p.1)
        where
          at : Has told (Want p.0) ⊎ Has more (Want p.0) → WasAsked told d
          at (inl l) = (p.0, l, p.2)
          at (inr r) = absurd (no_want p.0 r)

      old_give : (d : List ℕ) → WasGiven (heard ++ frame ∷ []) d → WasGiven heard d
      old_give d p = (p.0, other_has heard frame (Give p.0) (λ e. no_give p.0 (sym e)) p.1, p.2)

      held_or : (x : List (List ℕ)) (d : List ℕ) → IsHeld (holds h) d ⊎ WasAsked told d
          → IsHeld (holds k) d ⊎ WasAsked (told ++ more) d
      held_or x d (inl p) = inl (held_more (holds h) (holds k) d idle.grown p)
      held_or x d (inr p) = inr (asked_more told more d p)

  -- what was compared stays so, where no BUCKETS are heard
  shown_still : t.round.version ≡ s.round.version → HasGrown (holds h) (holds k)
      → ((b : List (List ℕ)) → frame ≡ Buckets b → ⊥) → (b : List (List ℕ)) → Has (heard ++ frame ∷ []) (Buckets b)
      → (p : List ℕ) × Has (told ++ more) (Differ p) × Compared holds alone start t.round.version k b p
  shown_still version grown no_buckets b has_b =
      let was = know.shown b (other_has heard frame (Buckets b) (λ e. no_buckets b (sym e)) has_b) in (
        was.0,
        has_left told more (Differ was.0) was.1,
        record {
          m = was.2.m;
          had = record {
            since = was.2.had.since;
            until = λ d op e. grown d op (was.2.had.until d op e);
            own = was.2.had.own;
          };
          at_begin = was.2.at_begin;
          places_are = was.2.places_are
              ∙ ap (λ (v : Version). unequal (bucket_list (offered v was.2.m)) b) (sym version);
        },
      )

  -- what a holder that nobody else changes has before BUCKETS are heard it had as it began
  early : alone start → later s.role s.awaited ≡ true → holds h ≡ holds start
  early lone l =
      grown_both (holds h) (holds start) (λ d op e. by d op ((know.only lone).1 d op e)) know.grown
    where
      by : (d : List ℕ) (op : Op) → (held_at (holds start) d ≡ Some op) ⊎ StandsForGiven heard told d op
          → held_at (holds start) d ≡ Some op
      by d op (inl e) = e
      by d op (inr p) = absurd ((know.fresh l).no_give p.0 p.1)

  -- nothing was compared, asked for or given yet
  fresh_still : Fresh heard told → ((b : List (List ℕ)) → frame ≡ Buckets b → ⊥) → ((op : Op) → frame ≡ Give op → ⊥)
      → ((w : List (List ℕ)) → Has more (Want w) → ⊥)
      → Fresh (heard ++ frame ∷ []) (told ++ more)
  fresh_still was no_buckets no_give no_want = record {
    no_buckets = λ b p. was.no_buckets b (other_has heard frame (Buckets b) (λ e. no_buckets b (sym e)) p);
    no_give = λ op p. was.no_give op (other_has heard frame (Give op) (λ e. no_give op (sym e)) p);
    no_want = λ w q. want w (has_split told more (Want w) q);
  }
    where
      want : (w : List (List ℕ)) → Has told (Want w) ⊎ Has more (Want w) → ⊥
      want w (inl l) = was.no_want w l
      want w (inr r) = no_want w r

  -- where nothing was asked for yet, a new round begins as the old one
  as_new : Fresh heard told → t.round.asked ≡ [] → (d : List ℕ) → asked_at d t.round ≡ asked_at d s.round
  as_new was none d = ap (λ (es : List (List ℕ × Bool)). asked_in d es) none ∙ sym (none_or (asked_at d s.round)
      (λ b e. let p = know.asked d (b, e) in was.no_want p.0 p.1))

pub one_is : {X : Type 0} (y x : X) (more : List X) → more ≡ y ∷ [] → Has more x → x ≡ y
one_is y x more e h = at (subst (λ (l : List _). Has l x) e h)
  where
    at : Has (y ∷ []) x → x ≡ y
    at (inl i) = i
    at (inr n) = absurd n

pub none_has_one : {X : Type 0} (x : X) (more : List X) → more ≡ [] → Has more x → ⊥
none_has_one x more e h = subst (λ (l : List _). Has l x) e h

-- ---- a task more

gift_or_end : Frame → Type 0
gift_or_end (Have x) = ⊥
gift_or_end (Want x) = ⊥
gift_or_end (Give op) = ⊤
gift_or_end End = ⊤
gift_or_end (Buckets x) = ⊥
gift_or_end (Differ x) = ⊥
gift_or_end (Hello n) = ⊤

gifts_are : (ops : List Op) (x : Frame) → Has (gifts_of ops) x → gift_or_end x
unfolding gift_or_end
gifts_are [] x (inl e) = subst gift_or_end (sym e) tt
gifts_are [] x (inr n) = absurd n
gifts_are (op ∷ ops) x (inl e) = subst gift_or_end (sym e) tt
gifts_are (op ∷ ops) x (inr h) = gifts_are ops x h

asked_of : (b c : Bool) → (if b then (if c then None else Some Stranger) else Some BadFrame) ≡ None → c ≡ true
asked_of true true e = refl
asked_of true false e = absurd cc
asked_of false c e = absurd cc

some_asked : (o : Option Bool) → is_some o ≡ true → (b : Bool) × (o ≡ Some b)
some_asked None e = absurd cc
some_asked (Some b) e = (b, refl)

module _ {H : Type 0} (holds : H → Map) (alone : H → Type 0) (start : H) (heard told : List Frame) (s : Side) (h : H)
    (know : Knows holds alone start heard told s h) (frame : Frame) (more : List Frame) (t : Side) (k : H) where
  knows_begin : (version : Version) → Fits s.role s.awaited (tasks.Begin version) frame
      → Does holds alone (tasks.Begin version) s h more t k
      → Knows holds alone start (heard ++ frame ∷ []) (told ++ more) t k
  knows_begin version fit does =
      let was = know.fresh fit.2 in
      let still = fresh_still holds alone start heard told s h know frame more t k was
      (λ b e. let c : Hello fit.0 ≡ Buckets b = sym fit.1 ∙ e in absurd cc)
      (λ op e. let c : Hello fit.0 ≡ Give op = sym fit.1 ∙ e in absurd cc)
      (λ w q. let c : Want w ≡ Buckets _ = one_is _ (Want w) more does.1.answers q in absurd cc) in
      quiet holds alone start heard told s h know frame more t k
      (as_new holds alone start heard told s h know frame more t k was (ap (λ (x : Side). x.round.asked) does.0))
      (λ op e. let c : Hello fit.0 ≡ Give op = sym fit.1 ∙ e in absurd cc)
      (λ x e. let c : Hello fit.0 ≡ Have x = sym fit.1 ∙ e in absurd cc)
      (λ w q. let c : Want w ≡ Buckets _ = one_is _ (Want w) more does.1.answers q in absurd cc)
      (idles_of does.1)
      (λ b has_b. absurd (still.no_buckets b has_b))
      (λ l. still)

  knows_meet : (version : Version) → Fits s.role s.awaited (tasks.Meet version) frame
      → Does holds alone (tasks.Meet version) s h more t k
      → Knows holds alone start (heard ++ frame ∷ []) (told ++ more) t k
  knows_meet version fit does =
      let was = know.fresh fit.2 in
      let still = fresh_still holds alone start heard told s h know frame more t k was
      (λ b e. let c : Hello fit.0 ≡ Buckets b = sym fit.1 ∙ e in absurd cc)
      (λ op e. let c : Hello fit.0 ≡ Give op = sym fit.1 ∙ e in absurd cc)
      (λ w q. let c : Want w ≡ Hello 2 = one_is _ (Want w) more does.1 q in absurd cc) in
      quiet holds alone start heard told s h know frame more t k
      (as_new holds alone start heard told s h know frame more t k was (ap (λ (x : Side). x.round.asked) does.0))
      (λ op e. let c : Hello fit.0 ≡ Give op = sym fit.1 ∙ e in absurd cc)
      (λ x e. let c : Hello fit.0 ≡ Have x = sym fit.1 ∙ e in absurd cc)
      (λ w q. let c : Want w ≡ Hello 2 = one_is _ (Want w) more does.1 q in absurd cc)
      (idles_same holds alone h k does.2)
      (λ b has_b. absurd (still.no_buckets b has_b))
      (λ l. still)

  knows_compare : (buckets : List (List ℕ)) → Fits s.role s.awaited (tasks.Compare buckets) frame
      → Does holds alone (tasks.Compare buckets) s h more t k
      → Knows holds alone start (heard ++ frame ∷ []) (told ++ more) t k
  knows_compare buckets fit does =
      quiet holds alone start heard told s h know frame more t k
      (λ d. ap (λ (x : Side). asked_at d x.round) does.same)
      (λ op e. let c : Buckets buckets ≡ Give op = sym fit.0 ∙ e in absurd cc)
      (λ x e. let c : Buckets buckets ≡ Have x = sym fit.0 ∙ e in absurd cc)
      (λ w q. let c : Want w ≡ Differ _ = one_is _ (Want w) more does.says q in absurd cc)
      (idles_of does.looks)
      (λ b has_b. compared b (has_split heard (frame ∷ []) (Buckets b) has_b))
      (λ l. let c : false ≡ true = sym (ap (λ (x : Side). later x.role x.awaited) does.same) ∙ l in absurd cc)
    where
      compared : (b : List (List ℕ)) → Has heard (Buckets b) ⊎ Has (frame ∷ []) (Buckets b)
          → (p : List ℕ) × Has (told ++ more) (Differ p) × Compared holds alone start t.round.version k b p
      compared b (inl l) = absurd ((know.fresh fit.1).no_buckets b l)
      compared b (inr n) =
          let one : Buckets b ≡ Buckets buckets = one_is frame (Buckets b) (frame ∷ []) refl n ∙ fit.0 in
          let is : b ≡ buckets = cc in (
            does.places,
            has_right told more (Differ does.places) (subst (λ (l : List Frame). Has l (Differ does.places))
                (sym does.says) (inl refl)),
            record {
              m = does.looks.had;
              had = record {
                since = λ d op e. does.looks.was_had.since d op (know.grown d op e);
                until = does.looks.was_had.until;
                own = does.looks.was_had.own;
              };
              at_begin = λ lone. looked_same does.looks (know.only lone).0
                  ∙ early holds alone start heard told s h know frame more t k lone fit.1;
              places_are = does.looks.answers
                  ∙ ap (λ (v : Version). unequal (bucket_list (offered v does.looks.had)) buckets)
                  (sym (ap (λ (x : Side). x.round.version) does.same))
                  ∙ ap (λ (x : List (List ℕ)). unequal (bucket_list (offered t.round.version does.looks.had)) x)
                  (sym is);
            },
          )

  knows_offer : (places : List ℕ) → Fits s.role s.awaited (tasks.Offer places) frame
      → Does holds alone (tasks.Offer places) s h more t k
      → Knows holds alone start (heard ++ frame ∷ []) (told ++ more) t k
  knows_offer places fit does =
      quiet holds alone start heard told s h know frame more t k
      (λ d. ap (λ (x : Side). asked_at d x.round) does.0)
      (λ op e. let c : Differ places ≡ Give op = sym fit.0 ∙ e in absurd cc)
      (λ x e. let c : Differ places ≡ Have x = sym fit.0 ∙ e in absurd cc)
      (λ w q. let c : Want w ≡ Have _ = one_is _ (Want w) more does.1.answers.0 q in absurd cc)
      (idles_of does.1)
      (shown_still holds alone start heard told s h know frame more t k (ap (λ (x : Side). x.round.version) does.0)
      (idles_of does.1).grown
      (λ b e. let c : Differ places ≡ Buckets b = sym fit.0 ∙ e in absurd cc))
      (λ l. fresh_still holds alone start heard told s h know frame more t k
      (know.fresh (fit.1 ∙ sym (ap (λ (x : Side). later x.role x.awaited) does.0) ∙ l))
      (λ b e. let c : Differ places ≡ Buckets b = sym fit.0 ∙ e in absurd cc)
      (λ op e. let c : Differ places ≡ Give op = sym fit.0 ∙ e in absurd cc)
      (λ w q. let c : Want w ≡ Have _ = one_is _ (Want w) more does.1.answers.0 q in absurd cc))

  knows_give : (want : List (List ℕ)) → Fits s.role s.awaited (tasks.Give want) frame
      → Does holds alone (tasks.Give want) s h more t k
      → Knows holds alone start (heard ++ frame ∷ []) (told ++ more) t k
  unfolding gift_or_end
  knows_give want fit does =
      quiet holds alone start heard told s h know frame more t k
      (λ d. ap (λ (x : Side). asked_at d x.round) does.same)
      (λ op e. let c : Want want ≡ Give op = sym fit.0 ∙ e in absurd cc)
      (λ x e. let c : Want want ≡ Have x = sym fit.0 ∙ e in absurd cc)
      (λ w q. gifts_are does.ops (Want w) (subst (λ (l : List Frame). Has l (Want w)) does.says q))
      (idles_of does.looks)
      (shown_still holds alone start heard told s h know frame more t k (ap (λ (x : Side). x.round.version) does.same)
      (idles_of does.looks).grown
      (λ b e. let c : Want want ≡ Buckets b = sym fit.0 ∙ e in absurd cc))
      (λ l. fresh_still holds alone start heard told s h know frame more t k
      (know.fresh (fit.1 (sym (ap (λ (x : Side). later x.role x.awaited) does.same) ∙ l)))
      (λ b e. let c : Want want ≡ Buckets b = sym fit.0 ∙ e in absurd cc)
      (λ op e. let c : Want want ≡ Give op = sym fit.0 ∙ e in absurd cc)
      (λ w q. gifts_are does.ops (Want w) (subst (λ (l : List Frame). Has l (Want w)) does.says q)))

  knows_show : Fits s.role s.awaited tasks.Show frame → Does holds alone tasks.Show s h more t k
      → Knows holds alone start (heard ++ frame ∷ []) (told ++ more) t k
  knows_show fit does =
      quiet holds alone start heard told s h know frame more t k
      (λ d. ap (λ (x : Side). asked_at d x.round) does.0)
      (λ op e. let c : End ≡ Give op = sym fit.0 ∙ e in absurd cc)
      (λ x e. let c : End ≡ Have x = sym fit.0 ∙ e in absurd cc)
      (λ w q. let c : Want w ≡ Buckets _ = one_is _ (Want w) more does.1.answers q in absurd cc)
      (idles_of does.1)
      (shown_still holds alone start heard told s h know frame more t k (ap (λ (x : Side). x.round.version) does.0)
      (idles_of does.1).grown
      (λ b e. let c : End ≡ Buckets b = sym fit.0 ∙ e in absurd cc))
      (λ l. let c : false ≡ true = sym fit.1 ∙ sym (ap (λ (x : Side). later x.role x.awaited) does.0) ∙ l in absurd cc)

  knows_rest : Fits s.role s.awaited tasks.Rest frame → Does holds alone tasks.Rest s h more t k
      → Knows holds alone start (heard ++ frame ∷ []) (told ++ more) t k
  knows_rest fit does =
      quiet holds alone start heard told s h know frame more t k
      (λ d. ap (λ (x : Side). asked_at d x.round) does.0)
      (λ op e. let c : End ≡ Give op = sym fit ∙ e in absurd cc)
      (λ x e. let c : End ≡ Have x = sym fit ∙ e in absurd cc)
      (λ w q. none_has_one (Want w) more does.1 q)
      (idles_same holds alone h k does.2)
      (shown_still holds alone start heard told s h know frame more t k (ap (λ (x : Side). x.round.version) does.0)
      (idles_same holds alone h k does.2).grown
      (λ b e. let c : End ≡ Buckets b = sym fit ∙ e in absurd cc))
      (λ l. let c : false ≡ true = sym (ap (λ (x : Side). later x.role x.awaited) does.0) ∙ l in absurd cc)

  knows_ask : (x : List (List ℕ)) → Fits s.role s.awaited (tasks.Ask x) frame
      → Does holds alone (tasks.Ask x) s h more t k
      → Knows holds alone start (heard ++ frame ∷ []) (told ++ more) t k
  knows_ask x fit a = record {
    grown = λ d op e. idle.grown d op (know.grown d op e);
    only = λ here. let was = know.only here in let stays = idle.stays was.0 in (
      stays.0,
      λ d op e. gained_on (holds start) heard told (frame ∷ []) more d op
          (was.1 d op (ap (λ (m : Map). held_at m d) (sym stays.1) ∙ e)),
    );
    asked = λ d p. asked_by d p.0 (is_among d a.want) refl (sym (a.asked d) ∙ p.1);
    awaited = λ d p. awaited_by d p.0 (has_split told more (Want p.0) p.1) p.2 (is_among d a.want) refl;
    given = λ d e. given_by d (is_among d a.want) (sym (a.asked d) ∙ e);
    marked = λ d p. a.asked d ∙ marked_by d (given_held d (old_give d p)) (is_among d a.want) refl
        (know.marked d (old_give d p));
    held = λ op p. idle.grown (digest_of op) (op_in op) (know.held op (other_has heard frame (Give op)
        (λ e. not_give op e) p));
    have = λ y d p q. have_by y d (has_split heard (frame ∷ []) (Have y) p) q;
    shown = shown_still holds alone start heard told s h know frame more t k a.version idle.grown
        (λ b e. let c : Have x ≡ Buckets b = sym fit ∙ e in absurd cc);
    fresh = λ l. let c : false ≡ true = sym (ap (λ (y : Side). later y.role y.awaited) a.same) ∙ l in absurd cc;
  }
    where
      idle : Idles holds alone h k
      idle = idles_of a.looks

      said : Has more (Want a.want)
      said = subst (λ (l : List Frame). Has l (Want a.want)) (sym a.says) (inl refl)

      not_give : (op : Op) → Give op ≡ frame → ⊥
      not_give op e = let c : Give op ≡ Have x = e ∙ fit in absurd cc

      old_give : (d : List ℕ) → WasGiven (heard ++ frame ∷ []) d → WasGiven heard d
      old_give d p = (
        p.0,
        other_has heard frame (Give p.0) (λ e. not_give p.0 e) p.1,
        p.2,
      )

      given_held : (d : List ℕ) → WasGiven heard d → IsHeld (holds h) d
      given_held d p = (op_in p.0, ap (held_at (holds h)) p.2 ∙ know.held p.0 p.1)

      asked_by : (d : List ℕ) (b c : Bool) → is_among d a.want ≡ c → cond c (Some false) (asked_at d s.round) ≡ Some b
          → WasAsked (told ++ more) d
      asked_by d b true among e = (a.want, has_right told more (Want a.want) said, among_has d a.want among)
      asked_by d b false among e = asked_more told more d (know.asked d (b, e))

      after_ask : (d : List ℕ) (c : Bool) → is_among d a.want ≡ c → IsAsked d s.round → IsAsked d t.round
      after_ask d true among p = (false, a.asked d ∙ ap (λ b. cond b (Some false) (asked_at d s.round)) among)
      after_ask d false among p =
          (p.0, a.asked d ∙ ap (λ b. cond b (Some false) (asked_at d s.round)) among ∙ p.1)

      awaited_by : (d : List ℕ) (w : List (List ℕ)) → Has told (Want w) ⊎ Has more (Want w) → Has w d → (c : Bool)
          → is_among d a.want ≡ c → IsAsked d t.round
      awaited_by d w (inl l) has c among = after_ask d c among (know.awaited d (w, l, has))
      awaited_by d w (inr r) has c among =
          let one : Want w ≡ Want a.want = one_is _ (Want w) more a.says r in
          let is : w ≡ a.want = cc in
          let there = has_among d a.want (subst (λ (l : List (List ℕ)). Has l d) is has) in
          (false, a.asked d ∙ ap (λ b. cond b (Some false) (asked_at d s.round)) there)

      given_by : (d : List ℕ) (c : Bool) → cond c (Some false) (asked_at d s.round) ≡ Some true
          → WasGiven (heard ++ frame ∷ []) d
      given_by d true e = absurd (let c : Some false ≡ Some true = e in cc)
      given_by d false e = given_more heard (frame ∷ []) d (know.given d e)

      marked_by : (d : List ℕ) → IsHeld (holds h) d → (c : Bool) → is_among d a.want ≡ c
          → asked_at d s.round ≡ Some true → cond (is_among d a.want) (Some false) (asked_at d s.round) ≡ Some true
      marked_by d p false among e = ap (λ b. cond b (Some false) (asked_at d s.round)) among ∙ e
      marked_by d p true among e =
          let wanted = subst (λ (l : List (List ℕ)). Has l d) a.looks.answers (among_has d a.want among) in
          let lacks = (filter_has (is_lacking a.looks.had) x d wanted).1 in
          let there = a.looks.was_had.since d p.0 p.1 in
          let clash : false ≡ true = sym (ap (λ (r : Option Op). not (is_some r)) there) ∙ lacks in absurd cc

      have_or : (d : List ℕ) → Has x d → (r : Option Op) → held_at a.looks.had d ≡ r
          → IsHeld (holds k) d ⊎ WasAsked (told ++ more) d
      have_or d has (Some op) e = inl (op, a.looks.was_had.until d op e)
      have_or d has None e =
          let lacks = has_filter (is_lacking a.looks.had) x d has (ap (λ (r : Option Op). not (is_some r)) e) in
          inr (
            a.want,
            has_right told more (Want a.want) said,
            subst (λ (l : List (List ℕ)). Has l d) (sym
                a.looks.answers) lacks,
          )

      or_more : (d : List ℕ) → IsHeld (holds h) d ⊎ WasAsked told d → IsHeld (holds k) d ⊎ WasAsked (told ++ more) d
      or_more d (inl p) = inl (held_more (holds h) (holds k) d idle.grown p)
      or_more d (inr p) = inr (asked_more told more d p)

      have_by : (y : List (List ℕ)) (d : List ℕ) → Has heard (Have y) ⊎ Has (frame ∷ []) (Have y) → Has y d
          → IsHeld (holds k) d ⊎ WasAsked (told ++ more) d
      have_by y d (inl l) has = or_more d (know.have y d l has)
      have_by y d (inr n) has =
          let one : Have y ≡ Have x = one_is frame (Have y) (frame ∷ []) refl n ∙ fit in
          let is : y ≡ x = cc in
          have_or d (subst (λ (l : List (List ℕ)). Has l d) is has) (held_at a.looks.had d) refl

  knows_take : (op : Op) → Fits s.role s.awaited (tasks.Take op) frame
      → Does holds alone (tasks.Take op) s h more t k
      → Knows holds alone start (heard ++ frame ∷ []) (told ++ more) t k
  knows_take op fit d = record {
    grown = λ x o e. takes.grown x o (know.grown x o e);
    only = λ here. let was = know.only here in let stays = takes.stays was.0 in (
      stays.0,
      λ x o e. gained x o was.1
          (taken_alone d.takes.reply reply_is stays.1 x o e),
    );
    asked = λ x p. asked_by x p.0 (is_at (digest_cmp own) x) refl (sym (after x) ∙ p.1);
    awaited = λ x p. let q = know.awaited x (old_want x p) in awaited_by x q.0 (is_at (digest_cmp own) x)
        refl q.1;
    given = λ x e. given_by x (is_at (digest_cmp own) x) refl (sym (after x) ∙ e);
    marked = λ x p. marked_by x p.0 p.2 (has_split heard (frame ∷ []) (Give p.0) p.1);
    held = λ o p. held_by o (has_split heard (frame ∷ []) (Give o) p);
    have = λ y x p q. or_more x (know.have y x (other_has heard frame (Have y) (λ e. let c : Have y ≡ Give op = e
        ∙ fit.0 in absurd cc) p) q);
    shown = shown_still holds alone start heard told s h know frame more t k (ap (λ (y : Side). y.round.version) d.same)
        takes.grown (λ b e. let c : Give op ≡ Buckets b = sym fit.0 ∙ e in absurd cc);
    fresh = λ l. let c : false ≡ true = sym fit.1 ∙ sym (ap (λ (y : Side). later y.role y.awaited) d.same) ∙ l in
        absurd cc;
  }
    where
      own : List ℕ
      own = digest_of op

      takes : TakesIn holds alone h op d.takes.reply k
      takes = d.takes.takes

      reply_is : d.takes.reply ≡ Ok d.taken
      reply_is = by (d.takes.reply) d.takes.answered
        where
          by : (r : Result Taken HolderFault) → Ok d.taken ≡ by_holder r → r ≡ Ok d.taken
          by (Ok y) e = let is : y ≡ d.taken = cc in ap Ok is
          by (Err f) e = absurd cc

      is_there : (b : Bool) × (asked_at own s.round ≡ Some b)
      is_there = some_asked (asked_at own s.round) (asked_of (is_spoken s.round.version op)
          (is_some (asked_at own s.round))
          d.asked)

      after : (x : List ℕ) → asked_at x t.round ≡ cond (is_at (digest_cmp own) x) (Some true) (asked_at x s.round)
      after x = ap (λ (y : Side). asked_at x y.round) d.same
          ∙ marked_at own x s.round.asked (ap is_some is_there.1)

      there : held_at (holds k) own ≡ Some (op_in op)
      there = subst (λ (r : Result Taken HolderFault). OnOk r (held_at (holds k) own ≡ Some (op_in op))) reply_is
          takes.held

      old_want : (x : List ℕ) → WasAsked (told ++ more) x → WasAsked told x
      old_want x p = at (has_split told more (Want p.0) p.1)
        where
          at : Has told (Want p.0) ⊎ Has more (Want p.0) → WasAsked told x
          at (inl l) = (p.0, l, p.2)
          at (inr r) = absurd (none_has_one (Want p.0) more d.says r)

      heard_it : Has (heard ++ frame ∷ []) (Give op)
      heard_it = has_right heard (frame ∷ []) (Give op) (inl (sym fit.0))

      put_in : (m : Map) (x : List ℕ) (o : Op) (b : Bool) → eq_by_cmp digest_cmp x own ≡ b
          → cond b (Some (op_in op)) (held_at m x) ≡ Some o → (held_at m x ≡ Some o) ⊎ ((x ≡ own) × (op_in op ≡ o))
      put_in m x o true at e = inr (tied x own at, cc)
      put_in m x o false at e = inl e

      taken_alone : (r : Result Taken HolderFault) → r ≡ Ok d.taken → TakesAlone (holds h) op r (holds k) → (x : List ℕ)
          (o : Op) → held_at (holds k) x ≡ Some o → (held_at (holds h) x ≡ Some o) ⊎ ((x ≡ own) × (op_in op ≡ o))
      taken_alone (Ok New) is p x o e = put_in (holds h) x o (eq_by_cmp digest_cmp x own) refl
          (sym (get-insert nat_list_cmp_total (holds h) own (op_in op) x) ∙ ap (λ (m : Map). held_at m x) (sym p.1)
          ∙ e)
      taken_alone (Ok Known) is p x o e = inl (ap (λ (m : Map). held_at m x) (sym p.1) ∙ e)
      taken_alone (Err f) is p x o e = absurd cc

      gained : (x : List ℕ) (o : Op) → GainsOnlyGiven (holds start) heard told (holds h)
          → (held_at (holds h) x ≡ Some o) ⊎ ((x ≡ own) × (op_in op ≡ o)) → (held_at (holds start) x ≡ Some o)
          ⊎ StandsForGiven (heard ++ frame ∷ []) (told ++ more) x o
      gained x o was (inl e) = gained_on (holds start) heard told (frame ∷ []) more x o (was x o e)
      gained x o was (inr is) = inr (
        op,
        heard_it,
        asked_more told more x (subst (λ (y : List ℕ). WasAsked told y) (sym is.0) (know.asked own is_there)),
        sym is.0,
        is.1,
      )

      asked_by : (x : List ℕ) (b c : Bool) → is_at (digest_cmp own) x ≡ c
          → cond c (Some true) (asked_at x s.round) ≡ Some b → WasAsked (told ++ more) x
      asked_by x b true at e = asked_more told more x (subst (λ (y : List ℕ). WasAsked told y) (tied own x at)
          (know.asked own is_there))
      asked_by x b false at e = asked_more told more x (know.asked x (b, e))

      awaited_by : (x : List ℕ) (b c : Bool) → is_at (digest_cmp own) x ≡ c → asked_at x s.round ≡ Some b
          → IsAsked x t.round
      awaited_by x b true at e = (true, after x ∙ ap (λ z. cond z (Some true) (asked_at x s.round)) at)
      awaited_by x b false at e = (b, after x ∙ ap (λ z. cond z (Some true) (asked_at x s.round)) at ∙ e)

      given_by : (x : List ℕ) (c : Bool) → is_at (digest_cmp own) x ≡ c
          → cond c (Some true) (asked_at x s.round) ≡ Some true → WasGiven (heard ++ frame ∷ []) x
      given_by x true at e = (op, heard_it, sym (tied own x at))
      given_by x false at e = given_more heard (frame ∷ []) x (know.given x e)

      true_or : (c : Bool) (o : Option Bool) → o ≡ Some true → cond c (Some true) o ≡ Some true
      true_or true o e = refl
      true_or false o e = e

      own_is : (o : Op) → Has (frame ∷ []) (Give o) → o ≡ op
      own_is o n = let one : Give o ≡ Give op = one_is frame (Give o) (frame ∷ []) refl n ∙ fit.0 in cc

      marked_by : (x : List ℕ) (o : Op) → x ≡ digest_of o → Has heard (Give o) ⊎ Has (frame ∷ []) (Give o)
          → asked_at x t.round ≡ Some true
      marked_by x o is (inl l) = after x ∙ true_or (is_at (digest_cmp own) x) (asked_at x s.round)
          (know.marked x (o, l, is))
      marked_by x o is (inr n) =
          let at : own ≡ x = sym (is ∙ ap digest_of (own_is o n)) in
          after x ∙ ap (λ z. cond z (Some true) (asked_at x s.round)) (ap (λ y. is_at (digest_cmp own) y) (sym at)
          ∙ ap is_eq (tied_itself nat_list_cmp_total own))

      held_by : (o : Op) → Has heard (Give o) ⊎ Has (frame ∷ []) (Give o)
          → held_at (holds k) (digest_of o) ≡ Some (op_in o)
      held_by o (inl l) = takes.grown (digest_of o) (op_in o) (know.held o l)
      held_by o (inr n) = subst (λ (y : Op). held_at (holds k) (digest_of y) ≡ Some (op_in y)) (sym (own_is o n)) there

      or_more : (x : List ℕ) → IsHeld (holds h) x ⊎ WasAsked told x → IsHeld (holds k) x ⊎ WasAsked (told ++ more) x
      or_more x (inl p) = inl (held_more (holds h) (holds k) x takes.grown p)
      or_more x (inr p) = inr (asked_more told more x p)

  knows_next : (task : Task) → Fits s.role s.awaited task frame → Does holds alone task s h more t k
      → Knows holds alone start (heard ++ frame ∷ []) (told ++ more) t k
  knows_next tasks.Refuse fit does = absurd does
  knows_next (tasks.Begin version) fit does = knows_begin version fit does
  knows_next (tasks.Meet version) fit does = knows_meet version fit does
  knows_next (tasks.Compare buckets) fit does = knows_compare buckets fit does
  knows_next (tasks.Offer places) fit does = knows_offer places fit does
  knows_next (tasks.Ask x) fit does = knows_ask x fit does
  knows_next (tasks.Give want) fit does = knows_give want fit does
  knows_next (tasks.Take op) fit does = knows_take op fit does
  knows_next tasks.Show fit does = knows_show fit does
  knows_next tasks.Rest fit does = knows_rest fit does

-- ---- all of it

knows_all : {H : Type 0} (holds : H → Map) (alone : H → Type 0) (start : H) (before said : List Frame) (s : Side)
    (h : H)
    → Knows holds alone start before said s h → (heard told : List Frame) (t : Side) (k : H)
    → DoesAll holds alone s h heard told t k → Knows holds alone start (before ++ heard) (said ++ told) t k
knows_all {H = H} holds alone start before said s h know [] told t k d =
    let a = subst (λ (l : List Frame). Knows holds alone start l said s h) (sym (append-nil before)) know in
    let b = subst (λ (l : List Frame). Knows holds alone start (before ++ []) l s h) (sym (append-nil said)
    ∙ ap (λ (l : List Frame). said ++ l) (sym d.0)) a in
    let c = subst (λ (x : Side). Knows holds alone start (before ++ []) (said ++ told) x h) (sym d.1) b in
    subst (λ (x : H). Knows holds alone start (before ++ []) (said ++ told) t x) (sym d.2) c
knows_all holds alone start before said s h know (f ∷ heard) told t k d =
    let next = knows_next holds alone start before said s h know f d.0 d.2 d.3 (task_for s.awaited f s.role)
    (fits s.awaited f s.role) d.4 in
    let rest = knows_all holds alone start (before ++ f ∷ []) (said ++ d.0) d.2 d.3 next heard d.1 t k d.5 in
    let a = subst (λ (l : List Frame). Knows holds alone start l ((said ++ d.0) ++ d.1) t k)
    (append_assoc before (f ∷ []) heard) rest in
    subst (λ (l : List Frame). Knows holds alone start (before ++ f ∷ heard) l t k) (append_assoc said d.0 d.1
    ∙ ap (λ (l : List Frame). said ++ l) (sym d.6)) a

-- ---- the first words

module _ {H : Type 0} (holds : H → Map) (alone : H → Type 0) (h k : H) (told : List Frame) (s : Side)
    (idle : Idles holds alone h k) (none : s.round.asked ≡ []) (no_want : (w : List (List ℕ)) → Has told (Want w) → ⊥)
  where
    knows_first : Knows holds alone h [] told s k
    knows_first = record {
      grown = idle.grown;
      only = λ here. let stays = idle.stays here in (
        stays.0,
        λ d op e. inl (ap (λ (m : Map). held_at m d) (sym stays.1)
            ∙ e),
      );
      asked = λ d p. absurd (let c : None ≡ Some p.0 = sym (ap (λ (es : List (List ℕ × Bool)). asked_in d es) none)
          ∙ p.1
          in cc);
      awaited = λ d p. absurd (no_want p.0 p.1);
      given = λ d e. absurd (let c : None ≡ Some true = sym (ap (λ (es : List (List ℕ × Bool)). asked_in d es) none) ∙ e
          in cc);
      marked = λ d p. absurd p.1;
      held = λ op p. absurd p;
      have = λ x d p q. absurd p;
      shown = λ b q. absurd q;
      fresh = λ l. record {
        no_buckets = λ b p. p;
        no_give = λ op p. p;
        no_want = no_want;
      };
    }

knows_start : {H : Type 0} (holds : H → Map) (alone : H → Type 0) (role : Role) (h : H) (told : List Frame) (s : Side)
    (k : H) → SetsOut holds alone role h told s k → Knows holds alone h [] told s k
knows_start holds alone Caller h told s k d = knows_first holds alone h k told s (idles_same holds alone h k d.2)
    (ap (λ (x : Side). x.round.asked) d.0)
    (λ w q. let c : Want w ≡ Hello 2 = one_is _ (Want w) told d.1 q in absurd cc)
knows_start holds alone Callee h told s k d = knows_first holds alone h k told s (idles_same holds alone h k d.2)
    (ap (λ (x : Side). x.round.asked) d.0) (λ w q. none_has_one (Want w) told d.1 q)
knows_start holds alone OldCaller h told s k d = knows_first holds alone h k told s (idles_of d.1)
    (ap (λ (x : Side). x.round.asked) d.0)
    (λ w q. let c : Want w ≡ Buckets _ = one_is _ (Want w) told d.1.answers q in absurd cc)

knows_talk : {H : Type 0} (holds : H → Map) (alone : H → Type 0) (role : Role) (before : H) (heard told : List Frame)
    (t : Side) (k : H) → Talks holds alone role before heard told t k → Knows holds alone before heard told t k
knows_talk holds alone role before heard told t k talk =
    subst (λ (l : List Frame). Knows holds alone before heard l t k) (sym talk.told_is)
    (knows_all holds alone before [] talk.first talk.from talk.mid (knows_start holds alone role before talk.first
    talk.from talk.mid talk.sets_out) heard talk.rest t k talk.goes_on)

-- ---- what it comes to

module _ {H : Type 0} (holds : H → Map) (alone : H → Type 0) (before : H) (heard told : List Frame) (side : Side)
    (k : H)
    (know : Knows holds alone before heard told side k) where
  given_by : (d : List ℕ) (b : Bool) → asked_at d side.round ≡ Some b → IsFinished side.round → WasGiven heard d
  given_by d true e finished = know.given d e
  given_by d false e finished = absurd (finished d e)

  given_all : IsFinished side.round → IsGivenAll heard told
  given_all finished d p = let q = know.awaited d p in given_by d q.0 q.1 finished

  finished_all : IsGivenAll heard told → IsFinished side.round
  finished_all all d e =
      let is = know.marked d (all d (know.asked d (false, e))) in
      let clash : Some false ≡ Some true = sym e ∙ is in absurd cc

  had_or : (d : List ℕ) → IsFinished side.round → IsHeld (holds k) d ⊎ WasAsked told d → IsHeld (holds k) d
  had_or d finished (inl p) = p
  had_or d finished (inr p) =
      let q = given_all finished d p in (op_in q.0, ap (held_at (holds k)) q.2 ∙ know.held q.0 q.1)

  had_all : IsFinished side.round → HoldsWhatWasOffered (holds k) heard
  had_all finished x there d has = had_or d finished (know.have x d there has)

  -- what was compared with BUCKETS that were heard
  was_compared : (theirs : List (List ℕ)) → Has heard (Buckets (bucket_list theirs)) → (m : Map)
      × WasCompared holds alone side.round.version theirs before told k m
  was_compared theirs shown =
      let was = know.shown (bucket_list theirs) shown in (
        was.2.m,
        record {
          had = was.2.had;
          said = subst (λ (p : List ℕ). Has told (Differ p)) was.2.places_are was.1;
          at_begin = was.2.at_begin;
        },
      )

  shown_all : (theirs : List (List ℕ)) → (m : Map)
      → WasCompared holds alone side.round.version theirs before told k m → IsFinished side.round
      → BucketsTell (offered side.round.version m) theirs → (d : List ℕ) → Has theirs d → place_of d < 256
      → (is_in (differing side.round.version m theirs) d ≡ true → IsOffered heard d) → IsHeld (holds k) d
  unfolding unequal
  shown_all theirs m was finished tell d has small offers = by (is_unequal (bucket_list (offered side.round.version m))
      (bucket_list theirs) place) refl
    where
      place : ℕ
      place = place_of d

      by : (b : Bool) → is_unequal (bucket_list (offered side.round.version m)) (bucket_list theirs) place ≡ b
          → IsHeld (holds k) d
      by true e =
          let there = has_filter (is_unequal (bucket_list (offered side.round.version m)) (bucket_list theirs))
          (range_with_len 0 256) place (range_has 256 0 place (omega arith)
          (omega (arith, small))) e in
          let in_places = has_any (λ q. q == place) _ place there (eqb_itself place) in
          let offer = offers in_places in
          had_all finished offer.0 offer.1 d offer.2
      by false e =
          let equal = sym (bucket_at (offered side.round.version m) place small) ∙ same_is _ _ (negated _ e)
          ∙ bucket_at theirs place small in
          let mine = subst (λ (xs : List (List ℕ)). Has xs d) (sym (tell place small equal))
          (has_filter (λ x. place_of x == place) theirs d has (eqb_itself place)) in
          let found = offered_held side.round.version m d (filter_has (λ x. place_of x == place)
          (offered side.round.version m) d mine).0 in
          (found.0, was.had.until d found.0 found.1)

  outcome : Outcome holds alone before heard told side k
  outcome = record {
    grown = know.grown;
    only = λ here. (know.only here).1;
    given = know.held;
    finished = (given_all, finished_all);
    have = had_all;
    shown = λ theirs shown. let was = was_compared theirs shown in (was.0, was.1, shown_all theirs was.0 was.1);
  }

pub outcome_of : {H : Type 0} (holds : H → Map) (alone : H → Type 0) (role : Role) (before : H)
    (heard told : List Frame)
    (side : Side) (k : H) → Talks holds alone role before heard told side k
    → Outcome holds alone before heard told side k
outcome_of holds alone role before heard told side k talk = outcome holds alone before heard told side k
    (knows_talk holds alone role before heard told side k talk)
