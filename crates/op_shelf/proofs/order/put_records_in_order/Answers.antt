use Rattle.std.proofs.Common.{rules}
use Rattle.std.proofs.lemmas.List.Sorted.{answers_always}
use Rattle.op_shelf.specs.Entries.{own_entry}
use Rattle.op_shelf.proofs.Orders.{is_before, before_order, sorted_entries}
use Rattle.op_shelf.proofs.order.put_records_in_order.Goals as goal

-- What is sorted by the digests ascends by them.
pub returns-clause-ascending : goal.returns-clause-ascending
returns-clause-ascending c =
    sorted_entries own_entry c.sort_unstable_by.new.self.items (c.sort_unstable_by.ensures.sorted (is_before own_entry) (before_order own_entry)
    (answers_always _ _ _ (λ f a r g called. search rules)))
