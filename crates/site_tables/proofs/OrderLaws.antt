-- What is sorted by the order of the rows is in order.
use Rattle.std.proofs.Common.{◌≡◌, ℕ, suc, ◌+◌, false, List, [], ◌∷◌, get_or, ap, subst, ◌∙◌, refl}
use Rattle.std.proofs.Common.{arith, Less, Equal, Greater}
use Rattle.std.specs.Prelude.{map, Bool}
use Rattle.std.specs.List.Sorted.{IsSortedBy}
use Rattle.std.specs.Ordering.{ordering_reverse, is_lt, is_gt}
use Rattle.std.specs.declared.cmp.Ordering.{Ordering}
use Rattle.std.specs.Cmp.{IsTotalOrder, IsStrictWeakOrder, nat_cmp_total}
use Rattle.std.specs.Cmp.Lexicographic.{nat_list_cmp_total}
use Rattle.std.proofs.lemmas.Cmp.{then_total, on_total}
use Rattle.std.proofs.lemmas.List.MinMax.{ranks_by}
use Rattle.operation.specs.Parts.{CorrectionParts, key_of}
use Rattle.site_tables.specs.Corrections.{kind_word, target_cmp, order_cmp, AreInOrder}

target_total : IsTotalOrder target_cmp
target_total = then_total (on_total kind_word nat_list_cmp_total) (on_total key_of nat_list_cmp_total)

pub order_total : IsTotalOrder order_cmp
order_total =
    then_total (on_total (λ k. k.target) target_total)
    (then_total (on_total (λ k. k.tag) nat_cmp_total)
    (then_total (on_total (λ k. k.stamp.counter) nat_cmp_total)
    (then_total (on_total (λ k. k.stamp.site) nat_cmp_total) (on_total (λ k. k.value) nat_list_cmp_total))))

-- whether an element comes before another, by the corrections that they are
abbrev pub is_before : {X : Type 0} → (X → CorrectionParts) → X → X → Bool
is_before key x y = is_lt (order_cmp (key x) (key y))

pub before_order : {X : Type 0} (key : X → CorrectionParts) → IsStrictWeakOrder (is_before key)
before_order key = ranks_by order_total key

turned : (o : Ordering) → is_gt (ordering_reverse o) ≡ is_lt o
turned Less = refl
turned Equal = refl
turned Greater = refl

pub sorted_in_order : {X : Type 0} (key : X → CorrectionParts) (xs : List X) → IsSortedBy (is_before key) xs
    → AreInOrder (map key xs)
sorted_in_order key [] sorted = tt
sorted_in_order key (x ∷ []) sorted = tt
sorted_in_order {X} key (x ∷ y ∷ xs) sorted = (
  ap is_gt (order_total.antisymm (key x) (key y)) ∙ turned (order_cmp (key y) (key x))
      ∙ sorted 0 x (omega arith) (omega arith),
  sorted_in_order key (y ∷ xs) (λ k d low high.
      let next : suc k + 1 ≡ suc (k + 1) = omega arith in
      subst (λ (m : ℕ). is_before key (get_or (x ∷ y ∷ xs) m d) (get_or (x ∷ y ∷ xs) (suc k) d) ≡ false)
      next (sorted (suc k) d (omega arith) (omega arith))),
)
