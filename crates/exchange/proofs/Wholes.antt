-- Whether each HAVE that was heard is seen to have all.
use Rattle.std.proofs.Common.{inl, inr, ◌≡◌, ℕ, List, [], ◌∷◌, ◌++◌, true, false, refl, sym, ap, subst, ◌∙◌}
use Rattle.std.proofs.Common.{append_assoc, append-nil}
use Rattle.std.specs.Prelude.{◌⊎◌}
use Rattle.std.proofs.lemmas.Bool.{and_parts as both_true}
use Rattle.octets.specs.Members.{Has}
use Rattle.operation.specs.declared.op.Op.{Op}
use Rattle.site_state.specs.Site.{Map}
use Rattle.exchange_frames.specs.declared.frame.Frame.{Frame}
use Rattle.exchange_frames.specs.declared.frame.Frame.TheVariants.{Have, Want, Give, End, Buckets, Differ, Hello}
use Rattle.exchange.specs.declared.role.Role.{Role}
use Rattle.exchange.specs.declared.role.Role.TheVariants.{Caller, Callee, OldCaller}
use Rattle.exchange.specs.declared.side.Side.{Side}
use Rattle.exchange.specs.declared.task.Task.{Task}
use Rattle.exchange.specs.declared.task.Task.TheVariants as tasks
use Rattle.exchange.specs.Tasks.{task_for}
use Rattle.exchange.specs.Parts.{is_seen_whole}
use Rattle.exchange.specs.Course.{gifts_of, Does, DoesAll, SetsOut, Talks}
use Rattle.exchange.specs.RunLaws.{AreSeenWhole}
use Rattle.exchange.proofs.Turns.{later, Fits, fits}
use Rattle.exchange.proofs.Outcomes.{has_split, one_is, none_has_one, other_has}

-- what a side knows of the frames so far
record Seeing (heard told : List Frame) (s : Side) : Type 0 where
  fresh : later s.role s.awaited ≡ true → ((p : List ℕ) → Has told (Differ p) → ⊥)
      × ((x : List (List ℕ)) → Has heard (Have x) → ⊥)
  one : (p : List ℕ) → Has told (Differ p) → p ≡ s.places
  all : s.whole ≡ true → AreSeenWhole heard told

-- no DIFFER among these
no_differ : (x : Frame) (more : List Frame) → more ≡ x ∷ [] → ((p : List ℕ) → Differ p ≡ x → ⊥) → (p : List ℕ)
    → Has more (Differ p) → ⊥
no_differ x more is other p h = other p (one_is x (Differ p) more is h)

gifts_no : (ops : List Op) (p : List ℕ) → Has (gifts_of ops) (Differ p) → ⊥
gifts_no [] p (inl e) = let c : Differ p ≡ End = e in absurd cc
gifts_no [] p (inr n) = n
gifts_no (op ∷ ops) p (inl e) = let c : Differ p ≡ Give op = e in absurd cc
gifts_no (op ∷ ops) p (inr h) = gifts_no ops p h

module _ {H : Type 0} (holds : H → Map) (alone : H → Type 0) (heard told : List Frame) (s : Side) (h : H)
    (know : Seeing heard told s) (frame : Frame) (more : List Frame) (t : Side) (k : H) where
  old_have : ((x : List (List ℕ)) → Have x ≡ frame → ⊥) → (x : List (List ℕ)) → Has (heard ++ frame ∷ []) (Have x)
      → Has heard (Have x)
  old_have other x p = other_has heard frame (Have x) (other x) p

  old_differ : ((p : List ℕ) → Has more (Differ p) → ⊥) → (p : List ℕ) → Has (told ++ more) (Differ p)
      → Has told (Differ p)
  old_differ none p q = by (has_split told more (Differ p) q)
    where
      by : Has told (Differ p) ⊎ Has more (Differ p) → Has told (Differ p)
      by (inl l) = l
      by (inr r) = absurd (none p r)

  -- Where no HAVE is heard and no DIFFER is said, nothing changes.
  still : t.places ≡ s.places → (t.whole ≡ true → s.whole ≡ true)
      → (later t.role t.awaited ≡ true → later s.role s.awaited ≡ true) → ((x : List (List ℕ)) → Have x ≡ frame → ⊥)
      → ((p : List ℕ) → Has more (Differ p) → ⊥) → Seeing (heard ++ frame ∷ []) (told ++ more) t
  still same was back other none = record {
    fresh = λ l. let old = know.fresh (back l) in
        (λ p q. old.0 p (old_differ none p q), λ x q. old.1 x (old_have other x q));
    one = λ p q. know.one p (old_differ none p q) ∙ sym same;
    all = λ e p x d q. know.all (was e) p x (old_differ none p d) (old_have other x q);
  }

  -- DIFFER is said, for the first time.
  compares : (buckets : List (List ℕ)) → Fits s.role s.awaited (tasks.Compare buckets) frame
      → Does holds alone (tasks.Compare buckets) s h more t k → Seeing (heard ++ frame ∷ []) (told ++ more) t
  compares buckets fit does = record {
    fresh = λ l. let c : false ≡ true = sym (ap (λ (x : Side). later x.role x.awaited) does.same) ∙ l in absurd cc;
    one = λ p q. by p (has_split told more (Differ p) q);
    all = λ e p x d q. absurd ((know.fresh fit.1).1 x (old_have
        (λ y c. let clash : Have y ≡ Buckets buckets = c ∙ fit.0 in absurd cc) x q));
  }
    where
      by : (p : List ℕ) → Has told (Differ p) ⊎ Has more (Differ p) → p ≡ t.places
      by p (inl l) = absurd ((know.fresh fit.1).0 p l)
      by p (inr r) =
          let one : Differ p ≡ Differ does.places = one_is _ (Differ p) more does.says r in
          let is : p ≡ does.places = cc in is ∙ sym (ap (λ (x : Side). x.places) does.same)

  -- HAVE is heard.
  asks : (have : List (List ℕ)) → Fits s.role s.awaited (tasks.Ask have) frame
      → Does holds alone (tasks.Ask have) s h more t k → Seeing (heard ++ frame ∷ []) (told ++ more) t
  asks have fit does = record {
    fresh = λ l. let c : false ≡ true = sym (ap (λ (x : Side). later x.role x.awaited) does.same) ∙ l in absurd cc;
    one = λ p q. know.one p (old_differ none p q) ∙ sym (ap (λ (x : Side). x.places) does.same);
    all = λ e p x d q. by e p x (old_differ none p d) (has_split heard (frame ∷ []) (Have x) q);
  }
    where
      none : (p : List ℕ) → Has more (Differ p) → ⊥
      none = no_differ _ more does.says (λ p e. let c : Differ p ≡ Want _ = e in absurd cc)

      both : t.whole ≡ true → (s.whole ≡ true) × (is_seen_whole s.places have ≡ true)
      both e = both_true s.whole (is_seen_whole s.places have) (sym (ap (λ (x : Side). x.whole) does.same) ∙ e)

      by : t.whole ≡ true → (p : List ℕ) (x : List (List ℕ)) → Has told (Differ p)
          → Has heard (Have x) ⊎ Has (frame ∷ []) (Have x) → is_seen_whole p x ≡ true
      by e p x d (inl l) = know.all (both e).0 p x d l
      by e p x d (inr r) =
          let one : Have x ≡ Have have = one_is frame (Have x) (frame ∷ []) refl r ∙ fit in
          let is : x ≡ have = cc in
          ap (is_seen_whole p) is ∙ ap (λ (q : List ℕ). is_seen_whole q have) (know.one p d) ∙ (both e).1

  next : (task : Task) → Fits s.role s.awaited task frame → Does holds alone task s h more t k
      → Seeing (heard ++ frame ∷ []) (told ++ more) t
  next tasks.Refuse fit does = absurd does
  next (tasks.Begin version) fit does = still (ap (λ (x : Side). x.places) does.0)
      (λ e. sym (ap (λ (x : Side). x.whole) does.0) ∙ e) (λ l. fit.2)
      (λ x e. let c : Have x ≡ Hello fit.0 = e ∙ fit.1 in absurd cc)
      (no_differ _ more does.1.answers (λ p e. let c : Differ p ≡ Buckets _ = e in absurd cc))
  next (tasks.Meet version) fit does = still (ap (λ (x : Side). x.places) does.0)
      (λ e. sym (ap (λ (x : Side). x.whole) does.0) ∙ e) (λ l. fit.2)
      (λ x e. let c : Have x ≡ Hello fit.0 = e ∙ fit.1 in absurd cc)
      (no_differ _ more does.1 (λ p e. let c : Differ p ≡ Hello _ = e in absurd cc))
  next (tasks.Compare buckets) fit does = compares buckets fit does
  next (tasks.Offer places) fit does = still (ap (λ (x : Side). x.places) does.0)
      (λ e. (both_true s.whole _ (sym does.1.answers.1 ∙ e)).0)
      (λ l. fit.1 ∙ sym (ap (λ (x : Side). later x.role x.awaited) does.0) ∙ l)
      (λ x e. let c : Have x ≡ Differ places = e ∙ fit.0 in absurd cc)
      (no_differ _ more does.1.answers.0 (λ p e. let c : Differ p ≡ Have _ = e in absurd cc))
  next (tasks.Ask have) fit does = asks have fit does
  next (tasks.Give want) fit does = still (ap (λ (x : Side). x.places) does.same)
      (λ e. sym (ap (λ (x : Side). x.whole) does.same) ∙ e)
      (λ l. fit.1 (sym (ap (λ (x : Side). later x.role x.awaited) does.same) ∙ l))
      (λ x e. let c : Have x ≡ Want want = e ∙ fit.0 in absurd cc)
      (λ p q. gifts_no does.ops p (subst (λ (l : List Frame). Has l (Differ p)) does.says q))
  next (tasks.Take op) fit does = still (ap (λ (x : Side). x.places) does.same)
      (λ e. sym (ap (λ (x : Side). x.whole) does.same) ∙ e)
      (λ l. sym (ap (λ (x : Side). later x.role x.awaited) does.same) ∙ l)
      (λ x e. let c : Have x ≡ Give op = e ∙ fit.0 in absurd cc)
      (λ p q. none_has_one (Differ p) more does.says q)
  next tasks.Show fit does = still (ap (λ (x : Side). x.places) does.0)
      (λ e. sym (ap (λ (x : Side). x.whole) does.0) ∙ e)
      (λ l. let c : false ≡ true = sym fit.1 ∙ sym (ap (λ (x : Side). later x.role x.awaited) does.0) ∙ l in absurd cc)
      (λ x e. let c : Have x ≡ End = e ∙ fit.0 in absurd cc)
      (no_differ _ more does.1.answers (λ p e. let c : Differ p ≡ Buckets _ = e in absurd cc))
  next tasks.Rest fit does = still (ap (λ (x : Side). x.places) does.0)
      (λ e. sym (ap (λ (x : Side). x.whole) does.0) ∙ e)
      (λ l. let c : false ≡ true = sym (ap (λ (x : Side). later x.role x.awaited) does.0) ∙ l in absurd cc)
      (λ x e. let c : Have x ≡ End = e ∙ fit in absurd cc)
      (λ p q. none_has_one (Differ p) more does.1 q)

-- ---- all of it

seeing_all : {H : Type 0} (holds : H → Map) (alone : H → Type 0) (before said : List Frame) (s : Side) (h : H)
    → Seeing before said s → (heard told : List Frame) (t : Side) (k : H)
    → DoesAll holds alone s h heard told t k → Seeing (before ++ heard) (said ++ told) t
seeing_all holds alone before said s h know [] told t k d =
    let a = subst (λ (l : List Frame). Seeing l said s) (sym (append-nil before)) know in
    let b = subst (λ (l : List Frame). Seeing (before ++ []) l s) (sym (append-nil said)
    ∙ ap (λ (l : List Frame). said ++ l) (sym d.0)) a in
    subst (λ (x : Side). Seeing (before ++ []) (said ++ told) x) (sym d.1) b
seeing_all holds alone before said s h know (f ∷ heard) told t k d =
    let one = next holds alone before said s h know f d.0 d.2 d.3 (task_for s.awaited f s.role)
    (fits s.awaited f s.role) d.4 in
    let rest = seeing_all holds alone (before ++ f ∷ []) (said ++ d.0) d.2 d.3 one heard d.1 t k d.5 in
    let a = subst (λ (l : List Frame). Seeing l ((said ++ d.0) ++ d.1) t) (append_assoc before (f ∷ []) heard) rest in
    subst (λ (l : List Frame). Seeing (before ++ f ∷ heard) l t) (append_assoc said d.0 d.1
    ∙ ap (λ (l : List Frame). said ++ l) (sym d.6)) a

first_sees : (told : List Frame) (s : Side) → ((p : List ℕ) → Has told (Differ p) → ⊥) → Seeing [] told s
first_sees told s none = record {
  fresh = λ l. (none, λ x q. q);
  one = λ p q. absurd (none p q);
  all = λ e p x d q. absurd (none p d);
}

seeing_start : {H : Type 0} (holds : H → Map) (alone : H → Type 0) (role : Role) (h : H) (told : List Frame)
    (s : Side) (k : H) → SetsOut holds alone role h told s k → Seeing [] told s
seeing_start holds alone Caller h told s k d = first_sees told s
    (no_differ _ told d.1 (λ p e. let c : Differ p ≡ Hello _ = e in absurd cc))
seeing_start holds alone Callee h told s k d = first_sees told s (λ p q. none_has_one (Differ p) told d.1 q)
seeing_start holds alone OldCaller h told s k d = first_sees told s
    (no_differ _ told d.1.answers (λ p e. let c : Differ p ≡ Buckets _ = e in absurd cc))

-- Where a side tells so in the end, each HAVE that it heard is seen to have all.
pub seen_whole_ends : {H : Type 0} (holds : H → Map) (alone : H → Type 0) (role : Role) (before : H)
    (heard told : List Frame) (t : Side) (k : H) → Talks holds alone role before heard told t k
    → t.whole ≡ true → AreSeenWhole heard told
seen_whole_ends holds alone role before heard told t k talk =
    (subst (λ (l : List Frame). Seeing heard l t) (sym talk.told_is)
    (seeing_all holds alone [] talk.first talk.from talk.mid (seeing_start holds alone role before talk.first
    talk.from talk.mid talk.sets_out) heard talk.rest t k talk.goes_on)).all
