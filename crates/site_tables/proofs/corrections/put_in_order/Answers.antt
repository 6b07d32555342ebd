use Rattle.std.proofs.Common.{rules, Bor}
use Rattle.std.proofs.lemmas.List.Sorted.{answers_always}
use Rattle.operation.specs.declared.correction.Correction.{Correction}
use Rattle.site_tables.proofs.OrderLaws.{is_before, before_order, sorted_in_order}
use Rattle.site_tables.proofs.corrections.put_in_order.Goals as goal

-- What is sorted by the order is in it.
pub returns-clause-ordered : goal.returns-clause-ordered
returns-clause-ordered c =
    let key = λ (x : Bor Correction). x.now in
    sorted_in_order key c.sort_unstable_by.new.self.items (c.sort_unstable_by.ensures.sorted (is_before key)
    (before_order key) (answers_always _ _ _ (λ f a r g called. search rules)))
