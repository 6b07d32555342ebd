-- Union is a join.
use Rattle.std.specs.Prelude.{◌≡◌, Bool, true, false, ◌||◌, List, [], ◌∷◌}
use Rattle.std.specs.List.{list_any, AllByRecursion}
use Rattle.std.specs.List.Sorted.{IsStrictlySortedBy}
use Rattle.std.proofs.Common.{refl, sym, ap, ◌∙◌}
use Rattle.std.specs.Cmp.{IsTotalOrder}
use Rattle.std.specs.Ordering.{match_ordering, ordering_reverse}
use Rattle.std.specs.declared.cmp.Ordering.{Ordering}
use Rattle.std.specs.declared.cmp.Ordering.TheVariants.{Less, Equal, Greater}
use Rattle.std.specs.BTreeMap.{is_at}
use Rattle.std.specs.BTreeSet.{BTreeSet, insert_key}
use Rattle.std.proofs.lemmas.Map.Lookups.{btree_set_from_contains}
use mathlib.Core.Bool.{or-false as or_false, or_comm, or_assoc}
use Rattle.join_laws.specs.Laws.{IsExact, JoinLaws, SummaryLaws}
use Rattle.join_laws.specs.GrowSet.{union_of, only}

-- ---- tests
or_same : (a : Bool) → (a || a) ≡ a
or_same true = refl
or_same false = refl

or_front : (a b c : Bool) → (a || (b || c)) ≡ (b || (a || c))
or_front true true c = refl
or_front true false c = refl
or_front false true c = refl
or_front false false c = refl

or_again : (a b : Bool) → (a || b) ≡ (a || (a || b))
or_again true b = refl
or_again false b = refl

-- ---- what holds of each key
AllBR-weaker : {K : Type 0} (P Q : K → Type 0) → ((x : K) → P x → Q x) → (ks : List K) → AllByRecursion P ks
    → AllByRecursion Q ks
AllBR-weaker P Q f [] a = tt
AllBR-weaker P Q f (x ∷ xs) a = (f x a.0, AllBR-weaker P Q f xs a.1)

AllBR-insert_key : {K : Type 0} (cmp : K → K → Ordering) (P : K → Type 0) (k : K) → P k → (ks : List K)
    → AllByRecursion P ks → AllByRecursion P (insert_key cmp ks k)
AllBR-insert_key cmp P k p [] a = (p, tt)
AllBR-insert_key cmp P k p (x ∷ xs) a = by (cmp k x) (AllBR-insert_key cmp P k p xs a.1)
  where
    by : (o : Ordering) → AllByRecursion P (insert_key cmp xs k)
        → AllByRecursion P (match_ordering o (k ∷ x ∷ xs) (x ∷ xs) (x ∷ insert_key cmp xs k))
    by Less later = (p, a)
    by Equal later = a
    by Greater later = (a.0, later)

module _ {K : Type 0} {R : K → K → Ordering} (o : IsTotalOrder R) where
  less_back : (x y : K) → R x y ≡ Greater → R y x ≡ Less
  less_back x y h = o.antisymm y x ∙ ap ordering_reverse h

  pub sorted-insert_key : (k : K) (ks : List K) → IsStrictlySortedBy R ks → IsStrictlySortedBy R (insert_key R ks k)
  unfolding IsStrictlySortedBy
  sorted-insert_key k [] s = (tt, tt)
  sorted-insert_key k (x ∷ xs) s = by (R k x) refl (sorted-insert_key k xs s.1)
    where
      by : (r : Ordering) → R k x ≡ r → IsStrictlySortedBy R (insert_key R xs k) → IsStrictlySortedBy
          R (match_ordering r (k ∷ x ∷ xs) (x ∷ xs) (x ∷ insert_key R xs k))
      by Less h later = ((h, AllBR-weaker (λ y. R x y ≡ Less) (λ y. R k y ≡ Less) (λ y l. o.trans k x y h l) xs s.0), s)
      by Equal h later = s
      by Greater h later = (AllBR-insert_key R (λ y. R x y ≡ Less) k (less_back k x h) xs s.0, later)

  pub sorted-union : (ys xs : List K) → IsStrictlySortedBy R xs → IsStrictlySortedBy R (union_of R xs ys)
  sorted-union [] xs s = s
  sorted-union (y ∷ ys) xs s = sorted-union ys (insert_key R xs y) (sorted-insert_key y xs s)

  module _ (exact : IsExact R) where
    abbrev has : List K → K → Bool
    has ks q = list_any (is_at (R q)) ks

    pub has-insert_key : (q k : K) (ks : List K) → list_any (is_at (R q)) (insert_key R ks k) ≡ (is_at (R q) k ||
        list_any (is_at (R q)) ks)
    has-insert_key q k [] = refl
    has-insert_key q k (x ∷ xs) = by (R k x) refl (has-insert_key q k xs)
      where
        by : (r : Ordering) → R k x ≡ r → list_any (is_at (R q)) (insert_key R xs k) ≡ (is_at (R q) k || list_any
            (is_at (R q)) xs) → list_any (is_at (R q)) (match_ordering r (k ∷ x ∷ xs) (x ∷ xs) (x ∷ insert_key R xs k))
            ≡ (is_at (R q) k || (is_at (R q) x || list_any (is_at (R q)) xs))
        by Less h later = refl
        by Equal h later = or_again (is_at (R q) x) (has xs q) ∙ ap (λ v. is_at (R q) v || (is_at (R q) x || has xs q))
            (sym (exact k x h))
        by Greater h later = ap (λ b. is_at (R q) x || b) later ∙ or_front (is_at (R q) x) (is_at (R q) k) (has xs q)

    pub has-union : (q : K) (ys xs : List K) → list_any (is_at (R q)) (union_of R xs ys) ≡ (list_any (is_at (R q)) xs ||
        list_any (is_at (R q)) ys)
    has-union q [] xs = sym (or_false (has xs q))
    has-union q (y ∷ ys) xs =
        has-union q ys (insert_key R xs y)
        ∙ ap (λ b. b || has ys q) (has-insert_key q y xs)
        ∙ or_assoc (is_at (R q) y) (has xs q) (has ys q)
        ∙ or_front (is_at (R q) y) (has xs q) (has ys q)

    -- ascending lists with the same keys are equal
    pub same_keys : (xs ys : List K) → IsStrictlySortedBy R xs → IsStrictlySortedBy R ys
        → ((q : K) → list_any (is_at (R q)) xs ≡ list_any (is_at (R q)) ys) → xs ≡ ys
    same_keys xs ys s t h =
        let a : BTreeSet K = record { keys = xs } in
        let b : BTreeSet K = record { keys = ys } in
        btree_set_from_contains o a b s t h exact

    pub union_of_none : (xs : List K) → IsStrictlySortedBy R xs → union_of R [] xs ≡ xs
    unfolding IsStrictlySortedBy
    union_of_none xs s = same_keys (union_of R [] xs) xs (sorted-union xs [] tt) s (λ q. has-union q xs [])

    pub set_laws : JoinLaws (IsStrictlySortedBy R) (union_of R)
    set_laws = record {
      held = λ a b s t. sorted-union b a s;
      commutative = λ a b s t. same_keys _ _ (sorted-union b a s) (sorted-union a b t) (λ q.
          has-union q b a ∙ or_comm (has a q) (has b q) ∙ sym (has-union q a b));
      associative = λ a b c s t u. same_keys _ _ (sorted-union c _ (sorted-union b a s))
          (sorted-union (union_of R b c) a s) (λ q.
          has-union q c (union_of R a b) ∙ ap (λ v. v || has c q) (has-union q b a)
          ∙ or_assoc (has a q) (has b q) (has c q)
          ∙ sym (has-union q (union_of R b c) a ∙ ap (λ v. has a q || v) (has-union q c b)));
      idempotent = λ a s. same_keys _ _ (sorted-union a a s) s (λ q. has-union q a a ∙ or_same (has a q));
    }

    pub set_summary_laws : SummaryLaws (IsStrictlySortedBy R) (union_of R) [] only
    unfolding IsStrictlySortedBy
    set_summary_laws = record {
      nothing_held = tt;
      one_held = λ op. (tt, tt);
      neutral = λ a s. union_of_none a s;
    }
