-- What is sorted by the texts of the digests.
use Rattle.std.proofs.Common.{◌≡◌, ◌+◌, ◌<◌, List, [], ◌∷◌, map, length, Bool, IsSorted, is_lt, ap, ap₂, ◌∙◌, arith}
use Rattle.std.proofs.lemmas.List.{get_or-map, length-map}
use Rattle.std.proofs.lemmas.List.MinMax.{ranks_by}
use Rattle.std.specs.List.Sorted.{IsSortedBy}
use Rattle.std.specs.Cmp.{IsStrictWeakOrder}
use Rattle.sqlite.specs.Order.{Row, column}
use Rattle.sqlite_value.proofs.OrderLemmas.{value_cmp_total}
use Rattle.operation.specs.declared.op.Op.{Op}
use Rattle.op_shelf.specs.States.{digest_cmp}

module _ (entry : Op → Row) where
  -- whether the entry of an operation comes before that of another
  abbrev pub is_before : Op → Op → Bool
  is_before a b = is_lt (digest_cmp (entry a) (entry b))

  pub before_order : IsStrictWeakOrder is_before
  before_order = ranks_by value_cmp_total (λ op. column (entry op) 0)

  pub sorted_entries : (ops : List Op) → IsSortedBy is_before ops → IsSorted digest_cmp (map entry ops)
  sorted_entries [] sorted k d low high = absurd (omega (arith, high))
  sorted_entries (x ∷ rest) sorted k d low high =
      let ops = x ∷ rest in
      let many : length (map entry ops) ≡ length ops = length-map ops entry in
      let next : k + 1 < length ops = omega (arith, high, many) in
      let here : k < length ops = omega (arith, high, many) in
      ap is_lt (ap₂ digest_cmp (get_or-map entry ops (k + 1) x d next) (get_or-map entry ops k x d here))
      ∙ sorted k x low next
