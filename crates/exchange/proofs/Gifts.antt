-- What is to be given: the digests of it, and the operations that are loaded under them.
use Rattle.std.proofs.Common.{inl, inr, ◌≡◌, ◌+◌, ℕ, List, [], ◌∷◌, ◌++◌, length, map, true, arith}
use Rattle.std.proofs.Math.Nat.{add-sub_cancel}
use Rattle.std.specs.List.{AllByRecursion}
use Rattle.std.proofs.Common.{Option, Some, None, Result, Ok, Err, refl, sym, ap, subst, ◌∙◌, append_assoc, append-nil}
use Rattle.std.specs.Prelude.{◌-◌, is_some, IfOk}
use Rattle.std.specs.Io.KnownBytes.{Appends}
use Rattle.std.proofs.KnownBytes.{Appends-nil, Appends-trans}
use Rattle.octets.specs.Members.{Has}
use Rattle.archive_model.proofs.MemberLaws.{filter_has}
use Rattle.operation.specs.declared.op.Op.{Op}
use Rattle.operation.specs.Spelling.{digest_of}
use Rattle.records.specs.StandIn.{op_in}
use Rattle.site_state.specs.Site.{Map, held_at}
use Rattle.exchange_frames.specs.declared.frame.Frame.{Frame}
use Rattle.exchange_frames.specs.declared.frame.Frame.TheVariants.{Give, End}
use Rattle.exchange.specs.declared.fault.ExchangeFault.{ExchangeFault}
use Rattle.exchange.specs.declared.fault.ExchangeFault.TheVariants.{Memory}
use Rattle.exchange.specs.declared.fault.HolderFault.{HolderFault}
use Rattle.exchange.specs.declared.fault.HolderFault.TheVariants.{Unreadable}
use Rattle.exchange.specs.declared.role.Role.{Role}
use Rattle.exchange.specs.declared.role.Role.TheVariants.{Caller, Callee, OldCaller}
use Rattle.exchange.specs.declared.side.Said.{Said}
use Rattle.exchange.specs.declared.side.Said.TheVariants as says
use Rattle.exchange.specs.declared.side.Side.{Side}
use Rattle.exchange.specs.declared.task.Task.{Task}
use Rattle.exchange.specs.declared.task.Task.TheVariants as tasks
use Rattle.exchange.specs.declared.version.Version.{Version}
use Rattle.exchange.specs.Fault.{of_holder}
use Rattle.exchange.specs.Held.{if_spoken, is_held, held_of, StandsFor, IsRecorded, AreLoaded, HasGrown, Looks}
use Rattle.exchange.specs.Course.{gifts_of, next_after_gifts, passed_over, IsSaid, HoldsGifts, IsSoSaid, Gives}
use Rattle.exchange.specs.Course.{Does, SetsOut}
use Rattle.exchange.specs.Course.{Idles, Loads}
use Rattle.exchange.specs.Hearing.{texts}
use Rattle.exchange.specs.Saying.{AreSayable, Speaks, SpeaksGive, PassesOver, SpeaksNext, SpeaksGifts, SpeaksSaid}
use Rattle.exchange.specs.Saying.{WasUnreadable}
use Rattle.exchange.proofs.Holders.{idles_same, idles_of}
use Rattle.exchange.proofs.Writings.{SpokeSome, breaks_off, spoke_all, wrote_nothing, texts_more, sayable_more}

-- ---- operations that are loaded

-- There are as many digests as operations and what could not be read.
loaded_many : (m : Map) (ds : List (List ℕ)) (ops : List Op) (us : List (List ℕ)) → AreLoaded m ds ops us
    → length ds ≡ length ops + length us
loaded_many m [] ops us are = omega (
  arith,
  ap (λ (l : List Op). length l) are.0,
  ap (λ (l : List (List ℕ)). length l) are.1,
)
loaded_many m (d ∷ ds) ops us (inl p) =
    omega (arith, ap (λ (l : List Op). length l) p.2, loaded_many m ds p.1 us p.4)
loaded_many m (d ∷ ds) ops us (inr p) =
    omega (arith, ap (λ (l : List (List ℕ)). length l) p.1, loaded_many m ds ops p.0 p.2)

loaded_more : (m : Map) (ds : List (List ℕ)) (ops : List Op) (us es : List (List ℕ)) (ps : List Op)
    (vs : List (List ℕ)) → AreLoaded m ds ops us → AreLoaded m es ps vs
    → AreLoaded m (ds ++ es) (ops ++ ps) (us ++ vs)
loaded_more m [] ops us es ps vs are more =
    subst (λ (l : List Op). AreLoaded m es (l ++ ps) (us ++ vs)) (sym are.0)
    (subst (λ (l : List (List ℕ)). AreLoaded m es ps (l ++ vs)) (sym are.1) more)
loaded_more m (d ∷ ds) ops us es ps vs (inl p) more = inl (
  p.0,
  p.1 ++ ps,
  ap (λ (l : List Op). l ++ ps) p.2,
  p.3,
  loaded_more m ds p.1 us es ps vs p.4 more,
)
loaded_more m (d ∷ ds) ops us es ps vs (inr p) more = inr (
  p.0 ++ vs,
  ap (λ (l : List (List ℕ)). l ++ vs) p.1,
  loaded_more m ds ops p.0 es ps vs p.2 more,
)

stands_there : (m : Map) (d : List ℕ) (op x : Op) → StandsFor m d op → x ≡ op
    → held_at m (digest_of x) ≡ Some (op_in x)
stands_there m d op x stands e =
    subst (λ (y : Op). held_at m (digest_of y) ≡ Some (op_in y)) (sym e) (ap (held_at m) stands.1 ∙ stands.0)

-- Each lies under its digest.
pub loaded_each : (m : Map) (ds : List (List ℕ)) (ops : List Op) (us : List (List ℕ)) → AreLoaded m ds ops us
    → (op : Op) → Has ops op → held_at m (digest_of op) ≡ Some (op_in op)
loaded_each m [] ops us are op h = absurd (subst (λ (l : List Op). Has l op) are.0 h)
loaded_each m (d ∷ ds) ops us (inl p) op h =
    elim (subst (λ (l : List Op). Has l op) p.2 h) as (λ _. held_at m (digest_of op) ≡ Some (op_in op)) [
      | inl e ↦ stands_there m d p.0 op p.3 e
      | inr rest ↦ loaded_each m ds p.1 us p.4 op rest
    ]
loaded_each m (d ∷ ds) ops us (inr p) op h = loaded_each m ds ops p.0 p.2 op h

-- Where one set stands for one, and another stands for another under the same digest, which has all that the first
-- has, the first stands for this too.
stands_too : (m n : Map) → HasGrown m n → (d : List ℕ) (held op : Op) → held_at m d ≡ Some held
    → StandsFor n d op → StandsFor m d op
stands_too m n grown d held op there stands = (there ∙ sym (grown d held there) ∙ stands.0, stands.1)

module _ (version : Version) (m n : Map) (grown : HasGrown m n) where
  some_held : (r : Option Op) → is_some (if_spoken version r) ≡ true → (op : Op) × (r ≡ Some op)
  some_held None e = absurd cc
  some_held (Some op) e = (op, refl)

  stood : (ds : List (List ℕ)) → ((d : List ℕ) → Has ds d → is_held version m d ≡ true) → (ops : List Op)
      (us : List (List ℕ)) → AreLoaded n ds ops us → AreLoaded m ds ops us
  stood [] each ops us are = are
  stood (d ∷ ds) each ops us (inl p) =
      let some = some_held (held_at m d) (each d (inl refl)) in inl (
        p.0,
        p.1,
        p.2,
        stands_too m n grown d some.0 p.0 some.1 p.3,
        stood ds (λ x h. each x (inr h)) p.1 us p.4,
      )
  stood (d ∷ ds) each ops us (inr p) = inr (p.0, p.1, stood ds (λ x h. each x (inr h)) ops p.0 p.2)

  -- What is loaded later was to be given before.
  given_before : (want : List (List ℕ)) (ops : List Op) (us : List (List ℕ))
      → AreLoaded n (held_of version want m) ops us → AreLoaded m (held_of version want m) ops us
  given_before want ops us are =
      stood (held_of version want m) (λ d h. (filter_has (is_held version m) want d h).1) ops us are

  stand : IsRecorded m → (ds : List (List ℕ)) → ((d : List ℕ) → Has ds d → is_held version m d ≡ true)
      → (ops : List Op) × AreLoaded n ds ops []
  stand own [] each = ([], (refl, refl))
  stand own (d ∷ ds) each =
      let some = some_held (held_at m d) (each d (inl refl)) in
      let one = own d some.0 some.1 in
      let more = stand own ds (λ x h. each x (inr h)) in
      (one.0 ∷ more.0, inl (one.0, more.0, refl, (grown d (op_in one.0) one.1.0, one.1.1), more.1))

  -- What is held later stands for operations.
  stands_later : IsRecorded m → (want : List (List ℕ)) → (ops : List Op) × AreLoaded n (held_of version want m) ops []
  stands_later own want = stand own (held_of version want m) (λ d h. (filter_has (is_held version m) want d h).1)

-- What is held of those that are wanted is given, whichever operations are loaded for it, but for what could not be
-- read, and is held still.
pub gives_loaded : {H : Type 0} (holds : H → Map) (alone : H → Type 0) (want : List (List ℕ)) (s : Side) (h : H)
    (ds : List (List ℕ)) (t : Side) (k : H) → Looks holds alone h k (λ m. ds ≡ held_of s.round.version want m)
    → t ≡ record s { awaited = next_after_gifts s.role; given = length ds }
    → ((ops : List Op) (us : List (List ℕ)) → AreLoaded (holds k) ds ops us
    → Gives holds alone want s h (gifts_of ops) (passed_over (Some us) t) k)
    × HoldsGifts (holds k) (says.Gifts ds)
gives_loaded holds alone want s h ds t k looks same = (
  λ ops us loaded. record {
    ops = ops;
    unread = us;
    looks = record {
      had = looks.had;
      was_had = looks.was_had;
      answers = given_before s.round.version looks.had (holds k) looks.was_had.until want ops us
          (subst (λ (l : List (List ℕ)). AreLoaded (holds k) l ops us) looks.answers loaded);
      stays = looks.stays;
    };
    says = refl;
    same = ap (λ (x : Side). passed_over (Some us) x) same
        ∙ ap (λ (n : ℕ). record s { awaited = next_after_gifts s.role; given = n; unread = us })
        (ap (λ (n : ℕ). n - length us) (loaded_many (holds k) ds ops us loaded)
        ∙ add-sub_cancel (length ops) (length us));
  },
  subst (λ (l : List (List ℕ)). HoldsGifts (holds k) (says.Gifts l)) (sym looks.answers)
      (stands_later s.round.version looks.had (holds k) looks.was_had.until looks.was_had.own want),
)

-- ---- GIVEs

gifts_more : (ops ps : List Op) → gifts_of (ops ++ ps) ≡ map (λ op. Give op) ops ++ gifts_of ps
gifts_more [] ps = refl
gifts_more (op ∷ ops) ps = ap (λ (l : List Frame). Give op ∷ l) (gifts_more ops ps)

gives_more : (ops ps : List Op) → map (λ op. Give op) (ops ++ ps) ≡ map (λ op. Give op) ops ++ map (λ op. Give op) ps
gives_more [] ps = refl
gives_more (op ∷ ops) ps = ap (λ (l : List Frame). Give op ∷ l) (gives_more ops ps)

-- Of the GIVEs of all these digests, and END, those of the rest are still to be written; what is held stands for them.
-- What was passed over could not be read.
pub record GaveSome (Unread : List ℕ → Type 0) (w0 w1 : Option (List ℕ)) (m : Map) (all rest unread : List (List ℕ))
    : Type 0 where
  pub done : List (List ℕ)
  pub gave : List Op
  pub left : List Op
  pub front : all ≡ done ++ rest
  pub loaded : AreLoaded m done gave unread
  pub still : AreLoaded m rest left []
  pub wrote : Appends w0 w1 (texts (map (λ op. Give op) gave))
  pub sayable : AreSayable (map (λ op. Give op) gave)
  pub refused : AllByRecursion Unread unread

pub gave_none : (Unread : List ℕ → Type 0) (w : Option (List ℕ)) (m : Map) (all : List (List ℕ))
    → (ops : List Op) × AreLoaded m all ops [] → GaveSome Unread w w m all all []
gave_none Unread w m all can = record {
  done = [];
  gave = [];
  left = can.0;
  front = refl;
  loaded = (refl, refl);
  still = can.1;
  wrote = Appends-nil w;
  sayable = tt;
  refused = tt;
}

-- The first of some digests, and the rest.
first_left : (m : Map) (d : List ℕ) (ds : List (List ℕ)) (ops : List Op) → AreLoaded m (d ∷ ds) ops []
    → (op : Op) × (more : List Op) × StandsFor m d op × AreLoaded m ds more []
first_left m d ds ops (inl p) = (p.0, p.1, p.3, p.4)
first_left m d ds ops (inr p) = absurd (let clash : [] ≡ d ∷ p.0 = p.1 in cc)

all_more : (P : List ℕ → Type 0) (ds : List (List ℕ)) (d : List ℕ) → AllByRecursion P ds → P d
    → AllByRecursion P (ds ++ d ∷ [])
all_more P [] d are is = (is, tt)
all_more P (e ∷ ds) d are is = (are.0, all_more P ds d are.1 is)

pub all_on : (P Q : List ℕ → Type 0) → ((d : List ℕ) → P d → Q d) → (ds : List (List ℕ)) → AllByRecursion P ds
    → AllByRecursion Q ds
all_on P Q on [] are = tt
all_on P Q on (d ∷ ds) are = (on d are.0, all_on P Q on ds are.1)

-- What could not be read since a holder was later could not be read since it was before.
pub unread_since : {H : Type 0} (holds : H → Map) (alone : H → Type 0)
    (refuses : H → H → List ℕ → HolderFault → Type 0) (start mid : H) → HasGrown (holds start) (holds mid)
    → (d : List ℕ) → WasUnreadable holds alone refuses mid d → WasUnreadable holds alone refuses start d
unread_since holds alone refuses start mid grown d was = record {
  before = was.before;
  after = was.after;
  since = λ x op e. was.since x op (grown x op e);
  idle = was.idle;
  refused = was.refused;
}

-- A load that its holder refused, as one that can't be read.
pub unread_here : {H : Type 0} (holds : H → Map) (alone : H → Type 0)
    (refuses : H → H → List ℕ → HolderFault → Type 0) (before after : H) (d : List ℕ) (fault : HolderFault)
    → fault ≡ Unreadable → Looks holds alone before after (λ _. refuses before after d fault)
    → WasUnreadable holds alone refuses before d
unread_here holds alone refuses before after d fault is looks = record {
  before = before;
  after = after;
  since = λ x op e. e;
  idle = idles_of looks;
  refused = subst (refuses before after d) is looks.answers;
}

module _ (Unread : List ℕ → Type 0) (w0 w1 : Option (List ℕ)) (m : Map) (all rest left unread : List (List ℕ))
    (digest : List ℕ) (is : rest ≡ digest ∷ left) (so : GaveSome Unread w0 w1 m all rest unread) where
  pub first : (op : Op) × (more : List Op) × StandsFor m digest op × AreLoaded m left more []
  first = first_left m digest left so.left (subst (λ (ds : List (List ℕ)). AreLoaded m ds so.left []) is so.still)

  -- All that is loaded, where this is given next.
  loaded_with : (op : Op) → StandsFor m digest op → AreLoaded m all (so.gave ++ op ∷ first.1) unread
  loaded_with op stands =
      subst (λ (ds : List (List ℕ)). AreLoaded m ds (so.gave ++ op ∷ first.1) unread)
      (ap (λ (ds : List (List ℕ)). so.done ++ ds) (sym is) ∙ sym so.front)
      (subst (λ (us : List (List ℕ)). AreLoaded m (so.done ++ digest ∷ left) (so.gave ++ op ∷ first.1) us)
      (append-nil unread)
      (loaded_more m so.done so.gave unread (digest ∷ left) (op ∷ first.1) [] so.loaded
      (inl (op, first.1, refl, stands, first.3))))

  spoke_with : (op : Op) → SpokeSome w0 w1 (gifts_of (so.gave ++ op ∷ first.1)) (Give op ∷ gifts_of first.1)
  spoke_with op = (map (λ o. Give o) so.gave, gifts_more so.gave (op ∷ first.1), so.wrote, so.sayable)

  module _ (n : Map) (grown : HasGrown m n) (w2 : Option (List ℕ)) where
    -- The set that has all that this has holds something under the next digest.
    there : StandsFor n digest first.0
    there = (grown digest (op_in first.0) first.2.0, first.2.1)

    -- What was loaded of it is loaded of this.
    spoke_here : (r : Result (Unit {0}) ExchangeFault) → SpeaksGive n digest w1 w2 r → SpeaksGive m digest w1 w2 r
    spoke_here r spoke =
        (spoke.0, stands_too m n grown digest (op_in first.0) spoke.0 first.2.0 spoke.1, spoke.2)

    done_more : all ≡ (so.done ++ digest ∷ []) ++ left
    done_more = so.front ∙ ap (λ (ds : List (List ℕ)). so.done ++ ds) is
        ∙ sym (append_assoc so.done (digest ∷ []) left)

    gave_next : (more : List (List ℕ)) (x : Unit {0}) → SpeaksGive m digest w1 w2 (Ok x) → more ≡ unread
        → GaveSome Unread w0 w2 m all left more
    gave_next more x spoke same = record {
      done = so.done ++ digest ∷ [];
      gave = so.gave ++ spoke.0 ∷ [];
      left = first.1;
      front = done_more;
      loaded = subst (λ (us : List (List ℕ)). AreLoaded m (so.done ++ digest ∷ []) (so.gave ++ spoke.0 ∷ []) us)
          (append-nil unread ∙ sym same) (loaded_more m so.done so.gave unread (digest ∷ []) (spoke.0 ∷ []) []
          so.loaded (inl (spoke.0, [], refl, spoke.1, (refl, refl))));
      still = first.3;
      wrote = subst (λ (t : List ℕ). Appends w0 w2 t) (sym (ap texts (gives_more so.gave (spoke.0 ∷ []))
          ∙ texts_more (map (λ op. Give op) so.gave) (Give spoke.0 ∷ [])))
          (Appends-trans w0 w1 w2 _ _ so.wrote spoke.2.0);
      sayable = subst AreSayable (sym (gives_more so.gave (spoke.0 ∷ [])))
          (sayable_more (map (λ op. Give op) so.gave) (Give spoke.0 ∷ []) so.sayable spoke.2.1);
      refused = subst (λ (us : List (List ℕ)). AllByRecursion Unread us) (sym same) so.refused;
    }

    passed_next : (Then : List ℕ → Type 0) → ((d : List ℕ) → Then d → Unread d) → (more : List (List ℕ))
        → PassesOver Then digest w1 w2 unread more → GaveSome Unread w0 w2 m all left more
    passed_next Then on more passes = record {
      done = so.done ++ digest ∷ [];
      gave = so.gave;
      left = first.1;
      front = done_more;
      loaded = subst (λ (us : List (List ℕ)). AreLoaded m (so.done ++ digest ∷ []) so.gave us) (sym passes.passed)
          (subst (λ (ops : List Op). AreLoaded m (so.done ++ digest ∷ []) ops (unread ++ digest ∷ []))
          (append-nil so.gave) (loaded_more m so.done so.gave unread (digest ∷ []) [] (digest ∷ []) so.loaded
          (inr ([], refl, (refl, refl)))));
      still = first.3;
      wrote = subst (λ (w : Option (List ℕ)). Appends w0 w (texts (map (λ op. Give op) so.gave))) (sym passes.wrote)
          so.wrote;
      sayable = so.sayable;
      refused = subst (λ (us : List (List ℕ)). AllByRecursion Unread us) (sym passes.passed)
          (all_more Unread unread digest so.refused (on digest passes.refused));
    }

    -- One more is given, or passed over.
    pub gave_one : (Then : List ℕ → Type 0) → ((d : List ℕ) → Then d → Unread d) → (more : List (List ℕ))
        (x : Unit {0})
        → ((op : Op) → StandsFor n digest op → SpeaksNext Then n digest w1 w2 unread more (Ok x))
        → GaveSome Unread w0 w2 m all left more
    gave_one Then on more x speaks = by (speaks first.0 there)
      where
        by : SpeaksNext Then n digest w1 w2 unread more (Ok x) → GaveSome Unread w0 w2 m all left more
        by (inl p) = gave_next more x (spoke_here (Ok x) p.0) p.1
        by (inr passes) = passed_next Then on more passes

    -- Of one a front was given.
    pub gave_front : (fault : ExchangeFault)
        → ((op : Op) → StandsFor n digest op → SpeaksGive n digest w1 w2 (Err fault))
        → SpeaksGifts Unread m all w0 w2 (Err fault)
    gave_front fault speaks =
        let spoke = spoke_here (Err fault) (speaks first.0 there) in
        record {
          ops = so.gave ++ spoke.0 ∷ first.1;
          unread = unread;
          loaded = loaded_with spoke.0 spoke.1;
          spoke = breaks_off w0 w1 w2 (gifts_of (so.gave ++ spoke.0 ∷ first.1)) (Give spoke.0 ∷ [])
              (gifts_of first.1) (spoke_with spoke.0) fault spoke.2;
          refused = so.refused;
          answer = tt;
        }

-- All are given, and END is said, or a front of it.
pub gave_last : (Unread : List ℕ → Type 0) (w0 w1 w2 : Option (List ℕ)) (m : Map) (all rest unread : List (List ℕ))
    (r : Result (List (List ℕ)) ExchangeFault) → rest ≡ [] → GaveSome Unread w0 w1 m all rest unread
    → Speaks w1 w2 (End ∷ []) r → IfOk r (λ passed. passed ≡ unread) → SpeaksGifts Unread m all w0 w2 r
gave_last Unread w0 w1 w2 m all rest unread r is so last answer = record {
  ops = so.gave;
  unread = unread;
  loaded = subst (λ (ds : List (List ℕ)). AreLoaded m ds so.gave unread) (sym (so.front
      ∙ ap (λ (ds : List (List ℕ)). so.done ++ ds) is ∙ append-nil so.done)) so.loaded;
  spoke = spoke_all w0 w1 w2 (gifts_of so.gave) (End ∷ []) (map (λ op. Give op) so.gave, refl, so.wrote, so.sayable)
      r last;
  refused = so.refused;
  answer = answer;
}

-- None is given yet, where memory was refused.
pub gave_no_more : (Unread : List ℕ → Type 0) (w : Option (List ℕ)) (m : Map) (all : List (List ℕ))
    → (ops : List Op) × AreLoaded m all ops [] → SpeaksGifts Unread m all w w (Err Memory)
gave_no_more Unread w m all can = record {
  ops = can.0;
  unread = [];
  loaded = can.1;
  spoke = (wrote_nothing w (texts (gifts_of can.0)), inl tt);
  refused = tt;
  answer = tt;
}

-- ---- a refused load

-- An operation that was not loaded is not written, and its GIVE is among what is unsaid.
pub not_loaded : (w : Option (List ℕ)) (op : Op) (cause : HolderFault)
    → Speaks {X = Unit {0}} w w (Give op ∷ []) (Err (of_holder cause))
not_loaded w op cause = (wrote_nothing w _, inr ((cause, refl), (op, inl refl)))

-- What was given, or a front of it, passes nothing over.
pub spoke_next : (Unread : List ℕ → Type 0) (m : Map) (d : List ℕ) (w0 w1 : Option (List ℕ)) (us : List (List ℕ))
    (r : Result (Unit {0}) ExchangeFault) → SpeaksGive m d w0 w1 r → SpeaksNext Unread m d w0 w1 us us r
spoke_next Unread m d w0 w1 us (Ok x) spoke = inl (spoke, refl)
spoke_next Unread m d w0 w1 us (Err fault) spoke = spoke

-- One that is answered stands for what is held.
pub loaded_for : (m n : Map) → HasGrown m n → (d : List ℕ) (spare op : Op) → StandsFor m d spare → StandsFor n d op
    → StandsFor m d op
loaded_for m n grown d spare op stands loaded = stands_too m n grown d (op_in spare) op stands.0 loaded

-- Where something is held, one is answered.
pub none_for : {X : Type 0} (m n : Map) → HasGrown m n → (d : List ℕ) (spare : Op) → StandsFor m d spare
    → held_at n d ≡ None → X
none_for m n grown d spare stands none =
    absurd (let clash : Some (op_in spare) ≡ None = sym (grown d (op_in spare) stands.0) ∙ none in cc)

-- ---- what was said

pub said_one : (Unread : List ℕ → Type 0) (m : Map) (frame : Frame) (w0 w1 : Option (List ℕ))
    (r : Result (Option (List (List ℕ))) ExchangeFault) → Speaks w0 w1 (frame ∷ []) r → IfOk r (λ passed. passed ≡ None)
    → SpeaksSaid Unread m (says.One frame) w0 w1 r
said_one Unread m frame w0 w1 r spoke answer = record {
  told = frame ∷ [];
  unread = None;
  says = (refl, refl);
  spoke = spoke;
  refused = tt;
  answer = answer;
}

pub said_front : (Unread : List ℕ → Type 0) (m : Map) (digests : List (List ℕ)) (w0 w1 : Option (List ℕ))
    (fault : ExchangeFault) → SpeaksGifts Unread m digests w0 w1 (Err fault)
    → SpeaksSaid Unread m (says.Gifts digests) w0 w1 (Err fault)
said_front Unread m digests w0 w1 fault gifts = record {
  told = gifts_of gifts.ops;
  unread = Some gifts.unread;
  says = (gifts.ops, gifts.unread, gifts.loaded, refl, refl);
  spoke = gifts.spoke;
  refused = gifts.refused;
  answer = tt;
}

-- ---- what is so of what is said

pub so_said : (m : Map) (said : Said) (IsSo : List Frame → Option (List (List ℕ)) → Type 0) → IsSoSaid m said IsSo
    → (told : List Frame) (unread : Option (List (List ℕ))) → IsSaid m said told unread → IsSo told unread
so_said m says.Nothing IsSo so told unread is =
    subst (λ (u : Option (List (List ℕ))). IsSo told u) (sym is.1)
    (subst (λ (l : List Frame). IsSo l None) (sym is.0) so)
so_said m (says.One frame) IsSo so told unread is =
    subst (λ (u : Option (List (List ℕ))). IsSo told u) (sym is.1)
    (subst (λ (l : List Frame). IsSo l None) (sym is.0) so)
so_said m (says.Gifts digests) IsSo so told unread is =
    subst (λ (u : Option (List (List ℕ))). IsSo told u) (sym is.4)
    (subst (λ (l : List Frame). IsSo l (Some is.1)) (sym is.3) (so.0 is.0 is.1 is.2))

pub so_holds : (m : Map) (said : Said) (IsSo : List Frame → Option (List (List ℕ)) → Type 0) → IsSoSaid m said IsSo
    → HoldsGifts m said
so_holds m says.Nothing IsSo so = tt
so_holds m (says.One frame) IsSo so = tt
so_holds m (says.Gifts digests) IsSo so = so.1

-- ---- the holder, as a side speaks

pub idles_then : {H : Type 0} {holds : H → Map} {alone : H → Type 0} {h k j : H} → Idles holds alone h k
    → Idles holds alone k j → Idles holds alone h j
idles_then one more = record {
  grown = λ d op e. more.grown d op (one.grown d op e);
  stays = λ lone. let here = one.stays lone in let there = more.stays here.0 in (there.0, there.1 ∙ here.1);
}

module _ {H : Type 0} (holds : H → Map) (alone : H → Type 0) where
  pub loads_idle : (said : Said) (k j : H) → Loads holds alone said k j → Idles holds alone k j
  loads_idle says.Nothing k j is = idles_same holds alone k j is
  loads_idle (says.One frame) k j is = idles_same holds alone k j is
  loads_idle (says.Gifts digests) k j idle = idle

  -- what was answered of a set that was had is answered of it later
  looks_on : {h k j : H} {P : Map → Type 0} → Looks holds alone h k P → Idles holds alone k j → Looks holds alone h j P
  looks_on look idle = record {
    had = look.had;
    was_had = record {
      since = look.was_had.since;
      until = λ d op e. idle.grown d op (look.was_had.until d op e);
      own = look.was_had.own;
    };
    answers = look.answers;
    stays = λ lone. let here = look.stays lone in let there = idle.stays here.0 in (there.0, there.1 ∙ here.1);
  }

  -- no single frame but END is said as gifts
  gifts_one : (ops : List Op) (x : Frame) → gifts_of ops ≡ x ∷ [] → x ≡ End
  gifts_one [] x e = let is : End ≡ x = cc in sym is
  gifts_one (op ∷ []) x e = absurd cc
  gifts_one (op ∷ p ∷ ops) x e = absurd cc

  gifts_some : (ops : List Op) → gifts_of ops ≡ [] → ⊥
  gifts_some [] e = cc
  gifts_some (op ∷ ops) e = cc

  no_end : {X : Type 0} (ops : List Op) (x : Frame) → gifts_of ops ≡ x ∷ [] → (x ≡ End → ⊥) → X
  no_end ops x e other = absurd (other (gifts_one ops x e))

  gifts_load : (task : Task) (s : Side) (h : H) (ops : List Op) (t : Side) (k j : H)
      → Does holds alone task s h (gifts_of ops) t k → Idles holds alone k j
      → Does holds alone task s h (gifts_of ops) t j
  gifts_load tasks.Refuse s h ops t k j d idle = d
  gifts_load (tasks.Begin v) s h ops t k j d idle = no_end ops _ d.1.answers (λ e. absurd cc)
  gifts_load (tasks.Meet v) s h ops t k j d idle = no_end ops _ d.1 (λ e. absurd cc)
  gifts_load (tasks.Compare b) s h ops t k j d idle = no_end ops _ d.says (λ e. absurd cc)
  gifts_load (tasks.Offer p) s h ops t k j d idle = no_end ops _ d.1.answers.0 (λ e. absurd cc)
  gifts_load (tasks.Ask a) s h ops t k j d idle = no_end ops _ d.says (λ e. absurd cc)
  gifts_load (tasks.Give w) s h ops t k j d idle = record {
    ops = d.ops;
    unread = d.unread;
    looks = looks_on d.looks idle;
    says = d.says;
    same = d.same;
  }
  gifts_load (tasks.Take op) s h ops t k j d idle = absurd (gifts_some ops d.says)
  gifts_load tasks.Show s h ops t k j d idle = no_end ops _ d.1.answers (λ e. absurd cc)
  gifts_load tasks.Rest s h ops t k j d idle = absurd (gifts_some ops d.1)

  -- What was done is done still, once the holder has loaded what is given.
  pub does_loads : (task : Task) (said : Said) (s : Side) (h : H) (told : List Frame) (t : Side) (k j : H)
      (unread : Option (List (List ℕ))) → IsSaid (holds k) said told unread → Does holds alone task s h told t k
      → Loads holds alone said k j → Does holds alone task s h told t j
  does_loads task says.Nothing s h told t k j unread here d is =
      subst (λ (x : H). Does holds alone task s h told t x) (sym is) d
  does_loads task (says.One frame) s h told t k j unread here d is =
      subst (λ (x : H). Does holds alone task s h told t x) (sym is) d
  does_loads task (says.Gifts digests) s h told t k j unread here d idle =
      subst (λ (l : List Frame). Does holds alone task s h l t j) (sym here.3)
      (gifts_load task s h here.0 t k j (subst (λ (l : List Frame). Does holds alone task s h l t k) here.3 d) idle)

  gifts_first : (role : Role) (h : H) (ops : List Op) (s : Side) (k j : H)
      → SetsOut holds alone role h (gifts_of ops) s k → SetsOut holds alone role h (gifts_of ops) s j
  gifts_first Caller h ops s k j d = no_end ops _ d.1 (λ e. absurd cc)
  gifts_first Callee h ops s k j d = absurd (gifts_some ops d.1)
  gifts_first OldCaller h ops s k j d = no_end ops _ d.1.answers (λ e. absurd cc)

  pub sets_out_loads : (role : Role) (said : Said) (h : H) (told : List Frame) (s : Side) (k j : H)
      (unread : Option (List (List ℕ))) → IsSaid (holds k) said told unread → SetsOut holds alone role h told s k
      → Loads holds alone said k j → SetsOut holds alone role h told s j
  sets_out_loads role says.Nothing h told s k j unread here d is =
      subst (λ (x : H). SetsOut holds alone role h told s x) (sym is) d
  sets_out_loads role (says.One frame) h told s k j unread here d is =
      subst (λ (x : H). SetsOut holds alone role h told s x) (sym is) d
  sets_out_loads role (says.Gifts digests) h told s k j unread here d idle =
      subst (λ (l : List Frame). SetsOut holds alone role h l s j) (sym here.3)
      (gifts_first role h here.0 s k j (subst (λ (l : List Frame). SetsOut holds alone role h l s k) here.3 d))
