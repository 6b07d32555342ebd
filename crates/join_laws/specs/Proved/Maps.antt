-- Key by key is a join where the values' is one.
use Rattle.std.specs.Prelude.{◌≡◌, Bool, true, false, cond, List, [], ◌∷◌, All, Option, None, Some, IfSome}
use Rattle.std.specs.List.Sorted.{IsStrictlySortedBy}
use Rattle.std.proofs.Common.{refl, sym, ap, ◌∙◌, subst}
use mathlib.Core.Bool.{true≢false}
use Rattle.std.specs.Cmp.{IsTotalOrder}
use Rattle.std.specs.Ordering.{is_eq, match_ordering, ordering_reverse}
use Rattle.std.specs.declared.cmp.Ordering.{Ordering}
use Rattle.std.specs.declared.cmp.Ordering.TheVariants.{Less, Equal, Greater}
use Rattle.std.specs.BTreeMap.{is_at}
use Rattle.std.specs.BTreeSet.{insert_key}
use Rattle.std.specs.Map.{keys_of, lookup}
use Rattle.std.proofs.lemmas.Cmp.{eq_by_cmp_equiv, tied_itself}
use Rattle.std.proofs.lemmas.List.Elements.{All-nil, All-cons, All-head, All-tail}
use Rattle.std.proofs.lemmas.Map.{lookup-none}
use Rattle.std.proofs.lemmas.Map.Keys.{IsDistinct-from_sorted, sorted_tail}
use Rattle.std.proofs.lemmas.Map.Entries.{lookup_head, lookup_tail, none_below_head, none_past_head, All-lookup}
use Rattle.std.proofs.lemmas.Option.{same_Some as some_same}
use Rattle.join_laws.specs.Laws.{IsExact, JoinLaws, SummaryLaws, joined_options}
use Rattle.join_laws.specs.MapOf.{IsMapOf, put_joined, map_joined, entry_of}
use Rattle.join_laws.specs.Proved.Options.{option_laws}
use Rattle.join_laws.specs.Proved.Sets.{sorted-insert_key}

-- ---- choices
swap_conds : {X : Type 0} (a b : Bool) (x y z : X) → (a ≡ true → b ≡ true → ⊥) → cond a x (cond b y z) ≡ cond b
    y (cond a x z)
swap_conds true true x y z apart = absurd (apart refl refl)
swap_conds true false x y z apart = refl
swap_conds false b x y z apart = refl

cond_again : {X : Type 0} (b : Bool) (x y z : X) → cond b x z ≡ cond b x (cond b y z)
cond_again true x y z = refl
cond_again false x y z = refl

pub equal_from_is_eq : (o : Ordering) → is_eq o ≡ true → o ≡ Equal
equal_from_is_eq Less h = absurd (true≢false (sym h))
equal_from_is_eq Equal h = refl
equal_from_is_eq Greater h = absurd (true≢false (sym h))

joined_none : {J : Type 0} (join : J → J → J) (a : Option J) → joined_options join a None ≡ a
joined_none join None = refl
joined_none join (Some x) = refl

pub none_is_not_some : {J : Type 0} (v : J) → Some v ≡ None → ⊥
none_is_not_some v h = cc

-- ---- what holds of each value
pub All-put_joined : {K J : Type 0} (R : K → K → Ordering) (join : J → J → J) (P : J → Type 0)
    → ((a b : J) → P a → P b → P (join a b)) → (k : K) (w : J) → P w → (es : List (K × J)) → All (λ (e : K × J). P e.1)
    es → All (λ (e : K × J). P e.1) (put_joined R join es k w)
All-put_joined {K} {J} R join P closed k w p [] a = All-cons (λ (e : K × J). P e.1) (k, w) [] p a
All-put_joined {K} {J} R join P closed k w p (e ∷ es) a = by (R k e.0) (All-put_joined R join P closed k w p es rest)
  where
    Held : K × J → Type 0
    Held = λ e. P e.1

    rest : All (λ (e : K × J). P e.1) es
    rest = All-tail (λ (e : K × J). P e.1) e es a

    by : (o : Ordering) → All (λ (e : K × J). P e.1) (put_joined R join es k w) → All (λ (e : K × J). P e.1)
        (match_ordering o ((k, w) ∷ e ∷ es) ((e.0, join e.1 w) ∷ es) (e ∷ put_joined R join es k w))
    by Less later = All-cons (λ (e : K × J). P e.1) (k, w) (e ∷ es) p a
    by Equal later = All-cons (λ (e : K × J). P e.1) (e.0, join e.1 w)
        es (closed e.1 w (All-head (λ (e : K × J). P e.1) e es a) p) rest
    by Greater later = All-cons (λ (e : K × J). P e.1) e (put_joined R join es k w)
        (All-head (λ (e : K × J). P e.1) e es a) later

keys-put_joined : {K J : Type 0} (R : K → K → Ordering) (join : J → J → J) (k : K) (w : J) (es : List (K × J))
    → keys_of (put_joined R join es k w) ≡ insert_key R (keys_of es) k
keys-put_joined R join k w [] = refl
keys-put_joined R join k w (e ∷ es) = by (R k e.0) (keys-put_joined R join k w es)
  where
    by : (o : Ordering) → keys_of (put_joined R join es k w) ≡ insert_key R (keys_of es) k
        → keys_of (match_ordering o ((k, w) ∷ e ∷ es) ((e.0, join e.1 w) ∷ es) (e ∷ put_joined R join es k w))
        ≡ match_ordering o (k ∷ e.0 ∷ keys_of es) (e.0 ∷ keys_of es) (e.0 ∷ insert_key R (keys_of es) k)
    by Less later = refl
    by Equal later = refl
    by Greater later = ap (λ ks. e.0 ∷ ks) later

module _ {K : Type 0} {R : K → K → Ordering} (o : IsTotalOrder R) where
  itself : (k : K) → is_at (R k) k ≡ true
  itself k = ap is_eq (tied_itself o k)

  same_key : IsExact R → (q k : K) → is_at (R q) k ≡ true → q ≡ k
  same_key exact q k h = exact q k (equal_from_is_eq (R q k) h)

  not_above_itself : (k e : K) → k ≡ e → R k e ≡ Greater → ⊥
  not_above_itself k e same h = let wrong : Greater ≡ Equal = sym h ∙ ap (R k) (sym same) ∙ tied_itself o k in cc

module _ {K J : Type 0} {R : K → K → Ordering} (o : IsTotalOrder R) (exact : IsExact R) where
  abbrev at : K → List (K × J) → Option J
  at q es = lookup (is_at (R q)) es

  none_below : (q : K) (e : K × J) (es : List (K × J)) → IsStrictlySortedBy R (keys_of (e ∷ es)) → R q e.0 ≡ Less
      → lookup (is_at (R q)) (e ∷ es) ≡ None
  none_below q e es s h = lookup-none (is_at (R q)) (e ∷ es) (none_below_head o q e es s h)

  none_past : (q : K) (e : K × J) (es : List (K × J)) → IsStrictlySortedBy R (keys_of (e ∷ es)) → is_at (R q) e.0 ≡ true
      → lookup (is_at (R q)) es ≡ None
  none_past q e es s h = lookup-none (is_at (R q)) es (none_past_head (eq_by_cmp_equiv o) q e
      es (IsDistinct-from_sorted R (keys_of (e ∷ es)) s) h)

  -- ---- ascending entries with the same look-ups are equal
  first_found : (e : K × J) (es : List (K × J)) → lookup (is_at (R e.0)) (e ∷ es) ≡ Some e.1
  first_found e es = lookup_head (is_at (R e.0)) e es (itself o e.0)

  same_later : (e : K × J) (xs : List (K × J)) (f : K × J) (ys : List (K × J)) → IsStrictlySortedBy R (keys_of (e ∷ xs))
      → IsStrictlySortedBy R (keys_of (f ∷ ys)) → ((q : K) → lookup (is_at (R q)) (e ∷ xs) ≡ lookup (is_at (R q))
      (f ∷ ys)) → e.0 ≡ f.0 → (q : K) → lookup (is_at (R q)) xs ≡ lookup (is_at (R q)) ys
  same_later e xs f ys s t h key q = by (is_at (R q) e.0) refl
    where
      by : (b : Bool) → is_at (R q) e.0 ≡ b → lookup (is_at (R q)) xs ≡ lookup (is_at (R q)) ys
      by true l = none_past q e xs s l ∙ sym (none_past q f ys t (ap (is_at (R q)) (sym key) ∙ l))
      by false l = sym (lookup_tail (is_at (R q)) e xs l) ∙ h q ∙ lookup_tail (is_at (R q)) f
          ys (ap (is_at (R q)) (sym key) ∙ l)

  pub same_entries : (xs ys : List (K × J)) → IsStrictlySortedBy R (keys_of xs) → IsStrictlySortedBy R (keys_of ys)
      → ((q : K) → lookup (is_at (R q)) xs ≡ lookup (is_at (R q)) ys) → xs ≡ ys
  same_entries [] [] s t h = refl
  same_entries [] (f ∷ ys) s t h = absurd (none_is_not_some f.1 (sym (first_found f ys) ∙ sym (h f.0)))
  same_entries (e ∷ xs) [] s t h = absurd (none_is_not_some e.1 (sym (first_found e xs) ∙ h e.0))
  same_entries (e ∷ xs) (f ∷ ys) s t h = by (R e.0 f.0) refl (same_entries xs ys (sorted_tail R e.0 (keys_of xs) s)
      (sorted_tail R f.0 (keys_of ys) t))
    where
      by : (r : Ordering) → R e.0 f.0 ≡ r → (((q : K) → lookup (is_at (R q)) xs ≡ lookup (is_at (R q)) ys) → xs ≡ ys)
          → (e ∷ xs) ≡ (f ∷ ys)
      by Less l later = absurd (none_is_not_some e.1 (sym (first_found e xs) ∙ h e.0 ∙ none_below e.0 f ys t l))
      by Greater l later = absurd (none_is_not_some f.1 (sym (first_found f ys) ∙ sym (h f.0) ∙ none_below f.0 e xs
          s (o.antisymm f.0 e.0 ∙ ap ordering_reverse l)))
      by Equal l later =
          let key : e.0 ≡ f.0 = exact e.0 f.0 l in
          let value : e.1 ≡ f.1 = some_same e.1 f.1 (sym (first_found e xs) ∙ h e.0 ∙ lookup_head (is_at (R e.0)) f
          ys (ap is_eq l)) in
          let rest : xs ≡ ys = later (same_later e xs f ys s t h key) in
          λ i. (key i, value i) ∷ rest i

  -- ---- what a look-up finds
  pub sorted-put_joined : (join : J → J → J) (k : K) (w : J) (es : List (K × J)) → IsStrictlySortedBy R (keys_of es)
      → IsStrictlySortedBy R (keys_of (put_joined R join es k w))
  sorted-put_joined join k w es s = subst (IsStrictlySortedBy R) (sym (keys-put_joined R join k w es))
      (sorted-insert_key o k (keys_of es) s)

  pub lookup-put_joined : (join : J → J → J) (q k : K) (w : J) (es : List (K × J)) → IsStrictlySortedBy R (keys_of es)
      → lookup (is_at (R q)) (put_joined R join es k w) ≡ cond (is_at (R q) k)
      (joined_options join (lookup (is_at (R k)) es) (Some w)) (lookup (is_at (R q)) es)
  lookup-put_joined join q k w [] s = refl
  lookup-put_joined join q k w (e ∷ es) s = by (R k e.0)
      refl (lookup-put_joined join q k w es (sorted_tail R e.0 (keys_of es) s))
    where
      by : (r : Ordering) → R k e.0 ≡ r → lookup (is_at (R q)) (put_joined R join es k w) ≡ cond (is_at (R q) k)
          (joined_options join (lookup (is_at (R k)) es) (Some w)) (lookup (is_at (R q)) es)
          → lookup (is_at (R q)) (match_ordering r ((k, w) ∷ e ∷ es) ((e.0, join e.1 w) ∷ es)
          (e ∷ put_joined R join es k w)) ≡ cond (is_at (R q) k) (joined_options join (lookup (is_at (R k)) (e ∷ es))
          (Some w)) (lookup (is_at (R q)) (e ∷ es))
      by Less l later = ap (λ v. cond (is_at (R q) k) (joined_options join v (Some w)) (at q (e ∷ es)))
          (sym (none_below k e es s l))
      by Equal l later =
          let key : k ≡ e.0 = exact k e.0 l in
          let found : lookup (is_at (R k)) (e ∷ es) ≡ Some e.1 = lookup_head (is_at (R k)) e es (ap is_eq l) in
          cond_again (is_at (R q) e.0) _ _ _
          ∙ ap (λ v. cond (is_at (R q) v) (Some (join e.1 w)) (at q (e ∷ es))) (sym key)
          ∙ ap (λ v. cond (is_at (R q) k) (joined_options join v (Some w)) (at q (e ∷ es))) (sym found)
      by Greater l later =
          ap (λ v. cond (is_at (R q) e.0) (Some e.1) v) later
          ∙ swap_conds (is_at (R q) e.0) (is_at (R q) k) (Some e.1) (joined_options join (at k es) (Some w)) (at q es)
          (λ a b. not_above_itself o k e.0 (sym (same_key o exact q k b) ∙ same_key o exact q e.0 a) l)
          ∙ ap (λ v. cond (is_at (R q) k) (joined_options join v (Some w)) (at q (e ∷ es)))
          (sym (lookup_tail (is_at (R k)) e es (ap is_eq l)))

  pub lookup-map_joined : (join : J → J → J) (q : K) (ys xs : List (K × J)) → IsStrictlySortedBy R (keys_of xs)
      → IsStrictlySortedBy R (keys_of ys) → lookup (is_at (R q)) (map_joined R join xs ys) ≡ joined_options
      join (lookup (is_at (R q)) xs) (lookup (is_at (R q)) ys)
  lookup-map_joined join q [] xs s t = sym (joined_none join (at q xs))
  lookup-map_joined join q (e ∷ ys) xs s t =
      lookup-map_joined join q ys (put_joined R join xs e.0 e.1) (sorted-put_joined join e.0 e.1 xs s)
      (sorted_tail R e.0 (keys_of ys) t)
      ∙ ap (λ v. joined_options join v (at q ys)) (lookup-put_joined join q e.0 e.1 xs s)
      ∙ by (is_at (R q) e.0) refl
    where
      by : (b : Bool) → is_at (R q) e.0 ≡ b → joined_options join (cond b (joined_options join (at e.0 xs) (Some e.1))
          (at q xs)) (at q ys) ≡ joined_options join (at q xs) (cond b (Some e.1) (at q ys))
      by true h =
          ap (joined_options join (joined_options join (at e.0 xs) (Some e.1))) (none_past q e ys t h)
          ∙ joined_none join (joined_options join (at e.0 xs) (Some e.1))
          ∙ ap (λ v. joined_options join (at v xs) (Some e.1)) (sym (same_key o exact q e.0 h))
      by false h = refl

  pub sorted-map_joined : (join : J → J → J) (ys xs : List (K × J)) → IsStrictlySortedBy R (keys_of xs)
      → IsStrictlySortedBy R (keys_of (map_joined R join xs ys))
  sorted-map_joined join [] xs s = s
  sorted-map_joined join (e ∷ ys) xs s = sorted-map_joined join ys (put_joined R join xs e.0 e.1)
      (sorted-put_joined join e.0 e.1 xs s)

  -- put into nothing, entries come out as they were
  pub map_joined_none : (join : J → J → J) (es : List (K × J)) → IsStrictlySortedBy R (keys_of es)
      → map_joined R join [] es ≡ es
  unfolding IsStrictlySortedBy
  map_joined_none join es s = same_entries (map_joined R join [] es) es (sorted-map_joined join es [] tt)
      s (λ q. lookup-map_joined join q es [] tt s)

  -- ---- the laws
  module _ {P : J → Type 0} {join : J → J → J} (laws : JoinLaws P join) where
    pub All-map_joined : (ys xs : List (K × J)) → All (λ (e : K × J). P e.1) xs → All (λ (e : K × J). P e.1) ys
        → All (λ (e : K × J). P e.1) (map_joined R join xs ys)
    All-map_joined [] xs h a = h
    All-map_joined (e ∷ ys) xs h a =
        All-map_joined ys (put_joined R join xs e.0 e.1)
        (All-put_joined R join P laws.held e.0 e.1 (All-head (λ (e : K × J). P e.1) e ys a) xs h)
        (All-tail (λ (e : K × J). P e.1) e ys a)

    map_held : (ys xs : List (K × J)) → IsMapOf R P xs → All (λ (e : K × J). P e.1) ys
        → IsMapOf R P (map_joined R join xs ys)
    map_held ys xs h a = (sorted-map_joined join ys xs h.0, All-map_joined ys xs h.1 a)

    held_at : (q : K) (es : List (K × J)) → IsMapOf R P es → IfSome (lookup (is_at (R q)) es) P
    held_at q es h = All-lookup P (is_at (R q)) es h.1

    pub map_laws : JoinLaws (IsMapOf R P) (map_joined R join)
    map_laws = record {
      held = λ a b h k. map_held b a h k.1;
      commutative = λ a b h k. same_entries _ _ (map_held b a h k.1).0 (map_held a b k h.1).0 (λ q.
          lookup-map_joined join q b a h.0 k.0
          ∙ (option_laws laws).commutative (at q a) (at q b) (held_at q a h) (held_at q b k)
          ∙ sym (lookup-map_joined join q a b k.0 h.0));
      associative = λ a b c h k l.
          let ab = map_held b a h k.1 in
          let bc = map_held c b k l.1 in
          same_entries _ _ (map_held c (map_joined R join a b) ab l.1).0 (map_held (map_joined R join b c) a h bc.1).0
          (λ q.
          lookup-map_joined join q c (map_joined R join a b) ab.0 l.0
          ∙ ap (λ v. joined_options join v (at q c)) (lookup-map_joined join q b a h.0 k.0)
          ∙ (option_laws laws).associative (at q a) (at q b) (at q c) (held_at q a h) (held_at q b k) (held_at q c l)
          ∙ sym (lookup-map_joined join q (map_joined R join b c) a h.0 bc.0 ∙ ap (joined_options join (at q a))
          (lookup-map_joined join q c b k.0 l.0)));
      idempotent = λ a h. same_entries _ _ (map_held a a h h.1).0 h.0 (λ q.
          lookup-map_joined join q a a h.0 h.0 ∙ (option_laws laws).idempotent (at q a) (held_at q a h));
    }

    pub map_summary_laws : {O : Type 0} {nothing : J} {of_one : O → J} → SummaryLaws P join nothing of_one
        → SummaryLaws (IsMapOf R P) (map_joined R join) [] (entry_of of_one)
    unfolding IsStrictlySortedBy
    map_summary_laws more = record {
      nothing_held = (tt, All-nil (λ (e : K × J). P e.1));
      one_held = λ op. (
        (tt, tt),
        All-cons (λ (e : K × J). P e.1) (op.0, _) [] (more.one_held op.1)
            (All-nil (λ (e : K × J). P e.1)),
      );
      neutral = λ a h. map_joined_none join a h.0;
    }
