-- What was put in last is taken out again.
use Rattle.std.specs.Prelude.{◌≡◌, Bool, true, false, not, ◌||◌, List, [], ◌∷◌, cond, None, Some}
use Rattle.std.proofs.Common.{refl, sym, ap, ◌∙◌, subst}
use mathlib.Core.Bool.{true≢false}
use Rattle.std.specs.Cmp.{IsTotalOrder}
use Rattle.std.specs.List.{list_any}
use Rattle.std.specs.List.Sorted.{IsStrictlySortedBy}
use Rattle.std.specs.Ordering.{is_eq, match_ordering}
use Rattle.std.specs.declared.cmp.Ordering.{Ordering}
use Rattle.std.specs.declared.cmp.Ordering.TheVariants.{Less, Equal, Greater}
use Rattle.std.specs.BTreeMap.{is_at}
use Rattle.std.specs.BTreeSet.{insert_key}
use Rattle.std.specs.Set.{remove_key}
use Rattle.std.specs.Map.{keys_of, lookup, set_value, remove_entry}
use Rattle.std.proofs.lemmas.Cmp.{tied_itself}
use Rattle.std.proofs.lemmas.Map.{lookup-none}
use Rattle.std.proofs.lemmas.Map.Keys.{sorted_tail}
use Rattle.std.proofs.lemmas.Map.Entries.{none_below_head, All-lookup}
use Rattle.join_laws.specs.Laws.{IsExact, joined_options}
use Rattle.join_laws.specs.MapOf.{put_joined}
use Rattle.join_laws.specs.Proved.Sets.{same_keys, sorted-insert_key, has-insert_key}
use Rattle.join_laws.specs.Proved.Maps.{lookup-put_joined, none_is_not_some, equal_from_is_eq}
use Rattle.std.specs.Prelude.{All, IfSome}
use Rattle.std.proofs.lemmas.List.Elements.{All-cons, All-head, All-tail}
use Rattle.std.proofs.lemmas.Option.{same_Some as some_same}

pub not_true : (b : Bool) → true ≡ not b → b ≡ false
not_true true h = absurd (true≢false h)
not_true false h = refl

pub not_false : (b : Bool) → false ≡ not b → b ≡ true
not_false true h = refl
not_false false h = absurd (true≢false (sym h))

or_absorbed : (a b : Bool) → (a ≡ true → b ≡ true) → (a || b) ≡ b
or_absorbed true b h = sym (h refl)
or_absorbed false b h = refl

module _ {K : Type 0} {R : K → K → Ordering} (o : IsTotalOrder R) (k : K) where
  itself : is_at (R k) k ≡ true
  itself = ap is_eq (tied_itself o k)

  -- a key that was absent
  pub remove-insert_key : (ks : List K) → list_any (is_at (R k)) ks ≡ false → remove_key (is_at (R k))
      (insert_key R ks k) ≡ ks
  remove-insert_key [] h = ap (λ b. cond b [] (k ∷ [])) itself
  remove-insert_key (x ∷ xs) h = by (R k x) refl h (remove-insert_key xs)
    where
      by : (r : Ordering) → R k x ≡ r → (is_eq r || list_any (is_at (R k)) xs) ≡ false
          → (list_any (is_at (R k)) xs ≡ false → remove_key (is_at (R k)) (insert_key R xs k) ≡ xs)
          → remove_key (is_at (R k)) (match_ordering r (k ∷ x ∷ xs) (x ∷ xs) (x ∷ insert_key R xs k)) ≡ x ∷ xs
      by Less l absent later = ap (λ b. cond b (x ∷ xs) (k ∷ remove_key (is_at (R k)) (x ∷ xs))) itself
      by Equal l absent later = absurd (true≢false absent)
      by Greater l absent later = ap (λ b. cond b (insert_key R xs k)
          (x ∷ remove_key (is_at (R k)) (insert_key R xs k))) (ap is_eq l) ∙ ap (λ ks. x ∷ ks) (later absent)

  -- a key that was there
  pub insert_key_present : IsExact R → (ks : List K) → IsStrictlySortedBy R ks → list_any (is_at (R k)) ks ≡ true
      → insert_key R ks k ≡ ks
  insert_key_present exact ks s h = same_keys o exact (insert_key R ks k) ks (sorted-insert_key o k ks s) s (λ q.
      has-insert_key o exact q k ks
      ∙ or_absorbed (is_at (R q) k) (list_any (is_at (R q)) ks) (λ at. ap (λ v. list_any (is_at (R v)) ks)
      (exact q k (equal_from_is_eq (R q k) at)) ∙ h))

-- ---- what holds of each entry
pub held_at : {K J : Type 0} (P : J → Type 0) (test : K → Bool) (es : List (K × J)) (v : J) → All (λ (e : K × J). P e.1)
    es → lookup test es ≡ Some v → P v
held_at P test es v all found = subst (λ o. IfSome o P) found (All-lookup P test es all)

module _ {K J : Type 0} (test : K → Bool) (Q : K × J → Type 0) where
  pub All-remove_entry : (es : List (K × J)) → All Q es → All Q (remove_entry test es)
  All-remove_entry [] a = a
  All-remove_entry (e ∷ es) a = by (test e.0) (All-tail Q e es a) (All-remove_entry es (All-tail Q e es a))
    where
      by : (b : Bool) → All Q es → All Q (remove_entry test es) → All Q (cond b es (e ∷ remove_entry test es))
      by true rest later = rest
      by false rest later = All-cons Q e (remove_entry test es) (All-head Q e es a) later

  pub All-set_value : (w : J) → ((k : K) → Q (k, w)) → (es : List (K × J)) → All Q es → All Q (set_value test es w)
  All-set_value w q [] a = a
  All-set_value w q (e ∷ es) a = by (test e.0) (All-tail Q e es a) (All-set_value w q es (All-tail Q e es a))
    where
      by : (b : Bool) → All Q es → All Q (set_value test es w)
          → All Q (cond b ((e.0, w) ∷ es) (e ∷ set_value test es w))
      by true rest later = All-cons Q (e.0, w) es (q e.0) rest
      by false rest later = All-cons Q e (set_value test es w) (All-head Q e es a) later

module _ {K J : Type 0} {R : K → K → Ordering} (o : IsTotalOrder R) (join : J → J → J) (k : K) (w : J) where
  -- an entry whose key was absent
  pub remove-put_joined : (es : List (K × J)) → lookup (is_at (R k)) es ≡ None → remove_entry (is_at (R k))
      (put_joined R join es k w) ≡ es
  remove-put_joined [] h = ap (λ b. cond b [] ((k, w) ∷ [])) (itself o k)
  remove-put_joined (e ∷ es) h = by (R k e.0) refl h (remove-put_joined es)
    where
      by : (r : Ordering) → R k e.0 ≡ r → cond (is_eq r) (Some e.1) (lookup (is_at (R k)) es) ≡ None
          → (lookup (is_at (R k)) es ≡ None → remove_entry (is_at (R k)) (put_joined R join es k w) ≡ es)
          → remove_entry (is_at (R k)) (match_ordering r ((k, w) ∷ e ∷ es) ((e.0, join e.1 w) ∷ es)
          (e ∷ put_joined R join es k w)) ≡ e ∷ es
      by Less l absent later = ap (λ b. cond b (e ∷ es) ((k, w) ∷ remove_entry (is_at (R k)) (e ∷ es))) (itself o k)
      by Equal l absent later = absurd (none_is_not_some e.1 absent)
      by Greater l absent later =
          ap (λ b. cond b (put_joined R join es k w) (e ∷ remove_entry (is_at (R k)) (put_joined R join es k w)))
          (ap is_eq l)
          ∙ ap (λ es. e ∷ es) (later absent)

  -- a value that was there
  pub set_value-put_joined : (es : List (K × J)) (v : J) → IsStrictlySortedBy R (keys_of es) → lookup (is_at (R k))
      es ≡ Some v → set_value (is_at (R k)) (put_joined R join es k w) v ≡ es
  set_value-put_joined [] v s h = absurd (none_is_not_some v (sym h))
  set_value-put_joined (e ∷ es) v s h = by (R k e.0) refl
      h (set_value-put_joined es v (sorted_tail R e.0 (keys_of es) s))
    where
      by : (r : Ordering) → R k e.0 ≡ r → cond (is_eq r) (Some e.1) (lookup (is_at (R k)) es) ≡ Some v
          → (lookup (is_at (R k)) es ≡ Some v → set_value (is_at (R k)) (put_joined R join es k w) v ≡ es)
          → set_value (is_at (R k)) (match_ordering r ((k, w) ∷ e ∷ es) ((e.0, join e.1 w) ∷ es)
          (e ∷ put_joined R join es k w)) v ≡ e ∷ es
      by Less l f later = absurd (none_is_not_some v (sym h ∙ lookup-none (is_at (R k)) (e ∷ es)
          (none_below_head o k e es s l)))
      by Equal l f later =
          ap (λ b. cond b ((e.0, v) ∷ es) ((e.0, join e.1 w) ∷ set_value (is_at (R k)) es v)) (ap is_eq l)
          ∙ ap (λ x. (e.0, x) ∷ es) (some_same v e.1 (sym f))
      by Greater l f later =
          ap (λ b. cond b ((e.0, v) ∷ put_joined R join es k w) (e ∷ set_value (is_at (R k)) (put_joined R join es k w)
          v)) (ap is_eq l)
          ∙ ap (λ es. e ∷ es) (later f)

  -- the value at the key afterwards
  pub lookup_itself : IsExact R → (es : List (K × J)) (v : J) → IsStrictlySortedBy R (keys_of es) → lookup (is_at (R k))
      es ≡ Some v → lookup (is_at (R k)) (put_joined R join es k w) ≡ Some (join v w)
  lookup_itself exact es v s h =
      lookup-put_joined o exact join k k w es s
      ∙ ap (λ b. cond b (joined_options join (lookup (is_at (R k)) es) (Some w)) (lookup (is_at (R k)) es)) (itself o k)
      ∙ ap (λ x. joined_options join x (Some w)) h
