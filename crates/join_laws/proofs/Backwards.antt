-- Keys that are put in from the last one on.
use Rattle.std.proofs.Common.{◌≡◌, ◌||◌, Bool, true, false, cond, None, Some, Option, List, [], ◌∷◌, ◌++◌, fold}
use Rattle.std.proofs.Common.{refl, subst, sym, ap, ◌∙◌}
use Rattle.std.specs.Cmp.{IsTotalOrder}
use Rattle.std.specs.List.{list_any}
use Rattle.std.specs.Map.{keys_of, lookup}
use Rattle.std.specs.Ordering.{is_eq, ordering_reverse}
use Rattle.std.specs.List.Sorted.{IsStrictlySortedBy}
use Rattle.std.specs.declared.cmp.Ordering.{Ordering}
use Rattle.std.specs.declared.cmp.Ordering.TheVariants.{Greater}
use Rattle.std.specs.BTreeMap.{is_at}
use Rattle.std.specs.BTreeSet.{insert_key}
use mathlib.Core.Bool.{or_assoc}
use Rattle.join_laws.specs.Laws.{IsExact, joined_options}
use Rattle.join_laws.specs.GrowSet.{union_of}
use Rattle.join_laws.specs.MapOf.{map_joined, put_joined}
use Rattle.join_laws.specs.Proved.Maps.{same_entries, lookup-put_joined, lookup-map_joined, sorted-map_joined}
use Rattle.join_laws.specs.Proved.Maps.{sorted-put_joined, equal_from_is_eq}
use Rattle.join_laws.specs.Proved.Ascending.{below_last, front_ascends}
use Rattle.join_laws.specs.Proved.Sets.{same_keys, sorted-insert_key, sorted-union, has-insert_key, has-union}

fold_last : {A B : Type 0} (f : A → B → A) (a : A) (xs : List B) (x : B)
    → fold f a (xs ++ x ∷ []) ≡ f (fold f a xs) x
fold_last f a [] x = λ i. f a x
fold_last f a (y ∷ xs) x = fold_last f (f a y) xs x

module _ {K : Type 0} {R : K → K → Ordering} (o : IsTotalOrder R) (exact : IsExact R) where
  -- a key that is put in last may go first
  put_first : (k : K) (xs ys : List K) → IsStrictlySortedBy R xs
      → insert_key R (union_of R xs ys) k ≡ union_of R (insert_key R xs k) ys
  put_first k xs ys s =
      same_keys o exact _ _ (sorted-insert_key o k (union_of R xs ys) (sorted-union o ys xs s))
      (sorted-union o ys (insert_key R xs k) (sorted-insert_key o k xs s)) (λ q.
      has-insert_key o exact q k (union_of R xs ys)
      ∙ ap (λ b. is_at (R q) k || b) (has-union o exact q ys xs)
      ∙ sym (or_assoc (is_at (R q) k) (list_any (is_at (R q)) xs) (list_any (is_at (R q)) ys))
      ∙ sym (has-union o exact q ys (insert_key R xs k)
      ∙ ap (λ b. b || list_any (is_at (R q)) ys) (has-insert_key o exact q k xs)))

  -- the last of the keys that are left is put in before the others
  pub last_first : (k : K) (xs rest left : List K) → IsStrictlySortedBy R xs → left ≡ rest ++ k ∷ []
      → union_of R (insert_key R xs k) rest ≡ union_of R xs left
  last_first k xs rest left s are = sym (ap (union_of R xs) are
      ∙ fold_last (insert_key R) xs rest k
      ∙ put_first k xs rest s)

module _ {K J : Type 0} {R : K → K → Ordering} (o : IsTotalOrder R) (exact : IsExact R) where
  -- the last key is none of those before it
  none_before : (q : K) (rest : List (K × J)) (e : K × J) → IsStrictlySortedBy R (keys_of (rest ++ e ∷ []))
      → is_at (R q) e.0 ≡ true → lookup (is_at (R q)) rest ≡ None
  unfolding IsStrictlySortedBy
  none_before q [] e s at = refl
  none_before q (f ∷ rest) e s at =
      let is : q ≡ e.0 = exact q e.0 (equal_from_is_eq (R q e.0) at) in
      let above : R q f.0 ≡ Greater =
      ap (λ (k : K). R k f.0) is ∙ o.antisymm e.0 f.0 ∙ ap ordering_reverse (below_last R f.0 rest e s.0) in
      ap (λ (r : Ordering). cond (is_eq r) (Some f.1) (lookup (is_at (R q)) rest)) above
      ∙ none_before q rest e s.1 at

  -- what is found with one entry more at the end
  at_last : (q : K) (rest : List (K × J)) (e : K × J) → lookup (is_at (R q)) rest ≡ None
      → lookup (is_at (R q)) (rest ++ e ∷ []) ≡ cond (is_at (R q) e.0) (Some e.1) None
  at_last q [] e none = refl
  at_last q (f ∷ rest) e none = by (is_at (R q) f.0) none (at_last q rest e)
    where
      by : (b : Bool) → cond b (Some f.1) (lookup (is_at (R q)) rest) ≡ None
          → (lookup (is_at (R q)) rest ≡ None
          → lookup (is_at (R q)) (rest ++ e ∷ []) ≡ cond (is_at (R q) e.0) (Some e.1) None)
          → cond b (Some f.1) (lookup (is_at (R q)) (rest ++ e ∷ [])) ≡ cond (is_at (R q) e.0) (Some e.1) None
      by true bad later = absurd cc
      by false none later = later none

  at_other : (q : K) (rest : List (K × J)) (e : K × J) → is_at (R q) e.0 ≡ false
      → lookup (is_at (R q)) (rest ++ e ∷ []) ≡ lookup (is_at (R q)) rest
  at_other q [] e other = ap (λ (b : Bool). cond b (Some e.1) None) other
  at_other q (f ∷ rest) e other = ap (λ r. cond (is_at (R q) f.0) (Some f.1) r) (at_other q rest e other)

  none_more : (join : J → J → J) (v : Option J) (w : J)
      → joined_options join (joined_options join v (Some w)) None ≡ joined_options join v (Some w)
  none_more join None w = refl
  none_more join (Some x) w = refl

  -- at one key, what the last entry brings may be joined first
  last_found : (join : J → J → J) (q : K) (xs rest : List (K × J)) (e : K × J)
      → IsStrictlySortedBy R (keys_of (rest ++ e ∷ [])) → (b : Bool) → is_at (R q) e.0 ≡ b
      → joined_options join (cond b (joined_options join (lookup (is_at (R e.0)) xs) (Some e.1))
      (lookup (is_at (R q)) xs)) (lookup (is_at (R q)) rest)
      ≡ joined_options join (lookup (is_at (R q)) xs) (lookup (is_at (R q)) (rest ++ e ∷ []))
  last_found join q xs rest e s true at =
      let none = none_before q rest e s at in
      let is : q ≡ e.0 = exact q e.0 (equal_from_is_eq (R q e.0) at) in
      ap (joined_options join (joined_options join (lookup (is_at (R e.0)) xs) (Some e.1))) none
      ∙ none_more join (lookup (is_at (R e.0)) xs) e.1
      ∙ ap (λ (k : K). joined_options join (lookup (is_at (R k)) xs) (Some e.1)) (sym is)
      ∙ ap (joined_options join (lookup (is_at (R q)) xs))
      (sym (at_last q rest e none ∙ ap (λ (b : Bool). cond b (Some e.1) None) at))
  last_found join q xs rest e s false at =
      ap (joined_options join (lookup (is_at (R q)) xs)) (sym (at_other q rest e at))

  -- the last of the entries that are left is put in before the others
  pub last_entry_first : (join : J → J → J) (e : K × J) (xs rest left : List (K × J))
      → IsStrictlySortedBy R (keys_of xs) → IsStrictlySortedBy R (keys_of left) → left ≡ rest ++ e ∷ []
      → map_joined R join (put_joined R join xs e.0 e.1) rest ≡ map_joined R join xs left
  last_entry_first join e xs rest left s t are =
      let u = subst (λ (es : List (K × J)). IsStrictlySortedBy R (keys_of es)) are t in
      let put = sorted-put_joined o exact join e.0 e.1 xs s in
      same_entries o exact _ _ (sorted-map_joined o exact join rest (put_joined R join xs e.0 e.1) put)
      (sorted-map_joined o exact join left xs s) (λ q.
      lookup-map_joined o exact join q rest (put_joined R join xs e.0 e.1) put (front_ascends R rest e u)
      ∙ ap (λ v. joined_options join v (lookup (is_at (R q)) rest)) (lookup-put_joined o exact join q e.0 e.1 xs s)
      ∙ last_found join q xs rest e u (is_at (R q) e.0) refl
      ∙ ap (λ es. joined_options join (lookup (is_at (R q)) xs) (lookup (is_at (R q)) es)) (sym are)
      ∙ sym (lookup-map_joined o exact join q left xs s t))
