use Rattle.std.proofs.Common.{rules}
use Rattle.std.proofs.lemmas.List.Sorted.{answers_always}
use Rattle.std.specs.List.Sorted.{IsStableBy}
use Rattle.site_tables.specs.declared.under.Under.{Under}
use Rattle.site_tables.proofs.UnderLaws.{is_before, before_order, holds_sorted, on_ok}
use Rattle.site_tables.proofs.under.put_in_order.Goals as goal

-- The sort is by UID and stable.
pub returns : goal.returns
returns g c =
    let text = λ (e : Under g.row.T.Denot). e.uid.now in
    let stable : IsStableBy (is_before text) c.args.entries.now.items c.sort_by.new.self.items =
    c.sort_by.ensures.stable (is_before text) (before_order text)
    (answers_always _ _ _ (λ f a r g called. search rules))
    in
    on_ok c.sort_by.result (λ sorted. holds_sorted c.args.entries.now.items c.sort_by.new.self.items
    (sorted (is_before text) (before_order text)
    (answers_always _ _ _ (λ f a r g called. search rules))) stable) c.sort_by.ensures.sorted
