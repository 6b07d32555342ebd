-- Whether no place differed.
use Rattle.std.proofs.Common.{inl, inr, ◌≡◌, ℕ, List, [], ◌∷◌, ◌++◌, Bool, true, false, refl, sym, ap, subst, ◌∙◌}
use Rattle.std.proofs.Common.{append_assoc, append-nil, length}
use Rattle.std.specs.Prelude.{◌⊎◌, ◌↔◌, IsTrue}
use Rattle.std.proofs.lemmas.Bool.{eqb-true}
use Rattle.std.proofs.lemmas.List.{nil_from_length as none_long}
use Rattle.octets.specs.Members.{Has}
use Rattle.operation.specs.declared.op.Op.{Op}
use Rattle.site_state.specs.Site.{Map}
use Rattle.exchange_frames.specs.declared.frame.Frame.{Frame}
use Rattle.exchange_frames.specs.declared.frame.Frame.TheVariants.{Have, Want, Give, End, Buckets, Differ, Hello}
use Rattle.exchange.specs.declared.role.Role.{Role}
use Rattle.exchange.specs.declared.role.Role.TheVariants.{Caller, Callee, OldCaller}
use Rattle.exchange.specs.declared.side.Side.{Side}
use Rattle.exchange.specs.declared.task.Task.{Task}
use Rattle.exchange.specs.declared.task.Task.TheVariants as tasks
use Rattle.exchange.specs.Tasks.{task_for}
use Rattle.exchange.specs.Course.{agreed_with, gifts_of, Does, DoesAll, SetsOut, Talks}
use Rattle.exchange.specs.RunLaws.{NoneDiffers, NoPlaceDiffers}
use Rattle.exchange.proofs.Turns.{Fits, fits}
use Rattle.exchange.proofs.Outcomes.{has_left, has_right, has_split, one_is, none_has_one}

-- what a side knows of the frames so far
record Agreeing (heard told : List Frame) (s : Side) : Type 0 where
  here : s.agreed ≡ true → NoneDiffers told
  there : s.agreed ≡ true → NoneDiffers heard
  all : NoneDiffers heard → NoneDiffers told → s.agreed ≡ true

no_places : (agreed : Bool) (places : List ℕ) → agreed_with agreed places ≡ true → (agreed ≡ true) × (places ≡ [])
no_places true places e = (refl, none_long places (eqb-true (length places) 0 e))
no_places false places e = absurd (let clash : false ≡ true = e in cc)

of_none : (agreed : Bool) (places : List ℕ) → agreed ≡ true → places ≡ [] → agreed_with agreed places ≡ true
of_none agreed places is none = ap (λ b. agreed_with b places) is ∙ ap (λ (l : List ℕ). agreed_with true l) none

left_none : (xs ys : List Frame) → NoneDiffers (xs ++ ys) → NoneDiffers xs
left_none xs ys none p h = none p (has_left xs ys (Differ p) h)

both_none : (xs ys : List Frame) → NoneDiffers xs → NoneDiffers ys → NoneDiffers (xs ++ ys)
both_none xs ys a b p h = by (has_split xs ys (Differ p) h)
  where
    by : Has xs (Differ p) ⊎ Has ys (Differ p) → p ≡ []
    by (inl l) = a p l
    by (inr r) = b p r

-- no DIFFER among these
no_differ : (x : Frame) (more : List Frame) → more ≡ x ∷ [] → ((p : List ℕ) → Differ p ≡ x → ⊥) → NoneDiffers more
no_differ x more is other p h = absurd (other p (one_is x (Differ p) more is h))

one_differ : (q : List ℕ) (more : List Frame) → more ≡ Differ q ∷ [] → q ≡ [] → NoneDiffers more
one_differ q more is none p h =
    let one : Differ p ≡ Differ q = one_is (Differ q) (Differ p) more is h in
    let same : p ≡ q = cc in same ∙ none

gifts_none : (ops : List Op) → NoneDiffers (gifts_of ops)
gifts_none [] p (inl e) = absurd (let c : Differ p ≡ End = e in cc)
gifts_none [] p (inr n) = absurd n
gifts_none (op ∷ ops) p (inl e) = absurd (let c : Differ p ≡ Give op = e in cc)
gifts_none (op ∷ ops) p (inr h) = gifts_none ops p h

module _ {H : Type 0} (holds : H → Map) (alone : H → Type 0) (heard told : List Frame) (s : Side) (h : H)
    (know : Agreeing heard told s) (frame : Frame) (more : List Frame) (t : Side) (k : H) where
  -- Frames that are no DIFFER leave it.
  still : t.agreed ≡ s.agreed → ((p : List ℕ) → Differ p ≡ frame → ⊥) → NoneDiffers more
      → Agreeing (heard ++ frame ∷ []) (told ++ more) t
  still same other none = record {
    here = λ e. both_none told more (know.here (sym same ∙ e)) none;
    there = λ e. both_none heard (frame ∷ []) (know.there (sym same ∙ e)) (no_differ frame (frame ∷ []) refl other);
    all = λ a b. same ∙ know.all (left_none heard (frame ∷ []) a) (left_none told more b);
  }

  next : (task : Task) → Fits s.role s.awaited task frame → Does holds alone task s h more t k
      → Agreeing (heard ++ frame ∷ []) (told ++ more) t
  next tasks.Refuse fit does = absurd does
  next (tasks.Begin version) fit does = still (ap (λ (x : Side). x.agreed) does.0)
      (λ p e. let c : Differ p ≡ Hello fit.0 = e ∙ fit.1 in absurd cc)
      (no_differ _ more does.1.answers (λ p e. let c : Differ p ≡ Buckets _ = e in absurd cc))
  next (tasks.Meet version) fit does = still (ap (λ (x : Side). x.agreed) does.0)
      (λ p e. let c : Differ p ≡ Hello fit.0 = e ∙ fit.1 in absurd cc)
      (no_differ _ more does.1 (λ p e. let c : Differ p ≡ Hello _ = e in absurd cc))
  next (tasks.Compare buckets) fit does = record {
    here = λ e. let is = no_places s.agreed does.places (sym is_t ∙ e) in
        both_none told more (know.here is.0) (one_differ does.places more does.says is.1);
    there = λ e. both_none heard (frame ∷ []) (know.there (no_places s.agreed does.places (sym is_t ∙ e)).0)
        (no_differ frame (frame ∷ []) refl (λ p e. let c : Differ p ≡ Buckets buckets = e ∙ fit.0 in absurd cc));
    all = λ a b. is_t ∙ of_none s.agreed does.places (know.all (left_none heard (frame ∷ []) a) (left_none told more b))
        (b does.places (has_right told more (Differ does.places) (subst (λ (l : List Frame). Has l (Differ does.places))
        (sym does.says) (inl refl))));
  }
    where
      is_t : t.agreed ≡ agreed_with s.agreed does.places
      is_t = ap (λ (x : Side). x.agreed) does.same
  next (tasks.Offer places) fit does = record {
    here = λ e. both_none told more (know.here (no_places s.agreed places (sym is_t ∙ e)).0)
        (no_differ _ more does.1.answers.0 (λ p e. let c : Differ p ≡ Have _ = e in absurd cc));
    there = λ e. let is = no_places s.agreed places (sym is_t ∙ e) in
        both_none heard (frame ∷ []) (know.there is.0)
        (one_differ places (frame ∷ []) (ap (λ (f : Frame). f ∷ []) fit.0) is.1);
    all = λ a b. is_t ∙ of_none s.agreed places (know.all (left_none heard (frame ∷ []) a) (left_none told more b))
        (a places (has_right heard (frame ∷ []) (Differ places) (inl (sym fit.0))));
  }
    where
      is_t : t.agreed ≡ agreed_with s.agreed places
      is_t = ap (λ (x : Side). x.agreed) does.0
  next (tasks.Ask have) fit does = still (ap (λ (x : Side). x.agreed) does.same)
      (λ p e. let c : Differ p ≡ Have have = e ∙ fit in absurd cc)
      (no_differ _ more does.says (λ p e. let c : Differ p ≡ Want _ = e in absurd cc))
  next (tasks.Give want) fit does = still (ap (λ (x : Side). x.agreed) does.same)
      (λ p e. let c : Differ p ≡ Want want = e ∙ fit.0 in absurd cc)
      (subst NoneDiffers (sym does.says) (gifts_none does.ops))
  next (tasks.Take op) fit does = still (ap (λ (x : Side). x.agreed) does.same)
      (λ p e. let c : Differ p ≡ Give op = e ∙ fit.0 in absurd cc)
      (λ p h. absurd (none_has_one (Differ p) more does.says h))
  next tasks.Show fit does = still (ap (λ (x : Side). x.agreed) does.0)
      (λ p e. let c : Differ p ≡ End = e ∙ fit.0 in absurd cc)
      (no_differ _ more does.1.answers (λ p e. let c : Differ p ≡ Buckets _ = e in absurd cc))
  next tasks.Rest fit does = still (ap (λ (x : Side). x.agreed) does.0)
      (λ p e. let c : Differ p ≡ End = e ∙ fit in absurd cc)
      (λ p h. absurd (none_has_one (Differ p) more does.1 h))

-- ---- all of it

agreeing_all : {H : Type 0} (holds : H → Map) (alone : H → Type 0) (before said : List Frame) (s : Side) (h : H)
    → Agreeing before said s → (heard told : List Frame) (t : Side) (k : H)
    → DoesAll holds alone s h heard told t k → Agreeing (before ++ heard) (said ++ told) t
agreeing_all holds alone before said s h know [] told t k d =
    let a = subst (λ (l : List Frame). Agreeing l said s) (sym (append-nil before)) know in
    let b = subst (λ (l : List Frame). Agreeing (before ++ []) l s) (sym (append-nil said)
    ∙ ap (λ (l : List Frame). said ++ l) (sym d.0)) a in
    subst (λ (x : Side). Agreeing (before ++ []) (said ++ told) x) (sym d.1) b
agreeing_all holds alone before said s h know (f ∷ heard) told t k d =
    let one = next holds alone before said s h know f d.0 d.2 d.3 (task_for s.awaited f s.role)
    (fits s.awaited f s.role) d.4 in
    let rest = agreeing_all holds alone (before ++ f ∷ []) (said ++ d.0) d.2 d.3 one heard d.1 t k d.5 in
    let a = subst (λ (l : List Frame). Agreeing l ((said ++ d.0) ++ d.1) t)
    (append_assoc before (f ∷ []) heard) rest in
    subst (λ (l : List Frame). Agreeing (before ++ f ∷ heard) l t) (append_assoc said d.0 d.1
    ∙ ap (λ (l : List Frame). said ++ l) (sym d.6)) a

first_agrees : (told : List Frame) (s : Side) → s.agreed ≡ true → NoneDiffers told → Agreeing [] told s
first_agrees told s is none = record { here = λ e. none; there = λ e p h. absurd h; all = λ a b. is }

agreeing_start : {H : Type 0} (holds : H → Map) (alone : H → Type 0) (role : Role) (h : H) (told : List Frame)
    (s : Side) (k : H) → SetsOut holds alone role h told s k → Agreeing [] told s
agreeing_start holds alone Caller h told s k d = first_agrees told s (ap (λ (x : Side). x.agreed) d.0)
    (no_differ _ told d.1 (λ p e. let c : Differ p ≡ Hello _ = e in absurd cc))
agreeing_start holds alone Callee h told s k d = first_agrees told s (ap (λ (x : Side). x.agreed) d.0)
    (λ p q. absurd (none_has_one (Differ p) told d.1 q))
agreeing_start holds alone OldCaller h told s k d = first_agrees told s (ap (λ (x : Side). x.agreed) d.0)
    (no_differ _ told d.1.answers (λ p e. let c : Differ p ≡ Buckets _ = e in absurd cc))

agreeing_talk : {H : Type 0} (holds : H → Map) (alone : H → Type 0) (role : Role) (before : H)
    (heard told : List Frame) (t : Side) (k : H) → Talks holds alone role before heard told t k
    → Agreeing heard told t
agreeing_talk holds alone role before heard told t k talk =
    subst (λ (l : List Frame). Agreeing heard l t) (sym talk.told_is)
    (agreeing_all holds alone [] talk.first talk.from talk.mid (agreeing_start holds alone role before talk.first
    talk.from talk.mid talk.sets_out) heard talk.rest t k talk.goes_on)

-- What a side tells in the end is whether no place differed.
pub agreed_ends : {H : Type 0} (holds : H → Map) (alone : H → Type 0) (role : Role) (before : H)
    (heard told : List Frame) (t : Side) (k : H) → Talks holds alone role before heard told t k
    → (agreed : Bool) → agreed ≡ t.agreed → IsTrue agreed ↔ NoPlaceDiffers heard told
agreed_ends holds alone role before heard told t k talk agreed is =
    let know = agreeing_talk holds alone role before heard told t k talk in (
      λ e. record { here = know.here (sym is ∙ e); there = know.there (sym is ∙ e) },
      λ none. is ∙ know.all none.there none.here,
    )
