-- Lists of keys, and what is put in and taken out of them.
use Rattle.std.specs.Prelude.{◌≡◌, ℕ, ◌+◌, ◌<◌, Bool, true, false, cond, not, ◌&&◌, ◌||◌, List, [], ◌∷◌, ◌++◌}
use Rattle.std.proofs.Common.{refl, sym, ap, ◌∙◌, take, length, get_or}
use mathlib.Core.Bool.{true≢false, or-false as or_none}
use Rattle.std.specs.Cmp.{IsTotalOrder}
use Rattle.std.specs.Ordering.{is_eq, ordering_reverse}
use Rattle.std.specs.declared.cmp.Ordering.{Ordering}
use Rattle.std.specs.declared.cmp.Ordering.TheVariants.{Less, Equal, Greater}
use Rattle.std.specs.BTreeMap.{is_at}
use Rattle.std.proofs.lemmas.Cmp.{tied_itself}
use Rattle.std.proofs.lemmas.List.{take_more}
use Rattle.std.proofs.lemmas.List.Folds.{list_any-append}
use Rattle.join_laws.specs.Laws.{IsExact}
use Rattle.join_laws.specs.Proved.Maps.{equal_from_is_eq}
use Rattle.study_index.specs.Keys.{has}

-- ---- tests

is_eq_reverse : (o : Ordering) → is_eq (ordering_reverse o) ≡ is_eq o
is_eq_reverse Less = refl
is_eq_reverse Equal = refl
is_eq_reverse Greater = refl

-- ---- what is put in and taken out again
pub moved_over : (in_tree left at : Bool) → ((at || in_tree) || left) ≡ (in_tree || (left || at))
moved_over true left true = refl
moved_over true left false = refl
moved_over false true true = refl
moved_over false true false = refl
moved_over false false true = refl
moved_over false false false = refl

pub step_out : (old front at new both : Bool) → both ≡ (old && not front) → new ≡ cond at false both
    → new ≡ (old && not (front || at))
step_out true true true new both h k = k
step_out true false true new both h k = k
step_out false front true new both h k = k
step_out true true false new both h k = k ∙ h
step_out true false false new both h k = k ∙ h
step_out false front false new both h k = k ∙ h

pub out_again : (old front all : Bool) → (front ≡ true → all ≡ true) → (old ≡ true → all ≡ false)
    → ((old || front) && not all) ≡ old
out_again true front true h k = absurd (true≢false (k refl))
out_again true front false h k = refl
out_again false true true h k = refl
out_again false false true h k = refl
out_again false true false h k = absurd (true≢false (sym (h refl)))
out_again false false false h k = refl

pub out_with_left : (in_tree left all old : Bool) → (in_tree || left) ≡ (old || all) → (left ≡ true → all ≡ true)
    → (old ≡ true → all ≡ false) → (in_tree && not all) ≡ old
out_with_left true left true true h among apart = absurd (true≢false (apart refl))
out_with_left true left true false h among apart = refl
out_with_left true left false true h among apart = refl
out_with_left true left false false h among apart = absurd (true≢false h)
out_with_left false left all true h among apart = absurd (true≢false (sym (among h) ∙ apart refl))
out_with_left false left all false h among apart = refl

module _ {K : Type 0} {R : K → K → Ordering} (o : IsTotalOrder R) where
  pub at_itself : (q : K) → is_at (R q) q ≡ true
  at_itself q = ap is_eq (tied_itself o q)

  pub at_either : (q p : K) → is_at (R q) p ≡ is_at (R p) q
  at_either q p = ap is_eq (o.antisymm q p) ∙ is_eq_reverse (R p q)

pub same_key : {K : Type 0} {R : K → K → Ordering} → IsExact R → (q p : K) → is_at (R q) p ≡ true → q ≡ p
same_key {K} {R} exact q p h = exact q p (equal_from_is_eq (R q p) h)

module _ {K : Type 0} (R : K → K → Ordering) where
  pub has-append : (xs ys : List K) (q : K) → has R (xs ++ ys) q ≡ (has R xs q || has R ys q)
  has-append xs ys q = list_any-append (is_at (R q)) xs ys

  pub has-take_more : (xs : List K) (i : ℕ) (x q : K) → i < length xs → x ≡ get_or xs i x → has R (take (i + 1) xs)
      q ≡ (has R (take i xs) q || is_at (R q) x)
  has-take_more xs i x q within read =
      ap (λ ys. has R ys q) (take_more xs i x within ∙ ap (λ y. take i xs ++ y ∷ []) (sym read))
      ∙ has-append (take i xs) (x ∷ []) q
      ∙ ap (λ b. has R (take i xs) q || b) (or_none (is_at (R q) x))

  pub has-last : (xs : List K) (x q : K) → has R (xs ++ x ∷ []) q ≡ (has R xs q || is_at (R q) x)
  has-last xs x q = has-append xs (x ∷ []) q ∙ ap (λ b. has R xs q || b) (or_none (is_at (R q) x))
