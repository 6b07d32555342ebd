use Rattle.std.proofs.Common.{List, map, ap, sym, Some}
use Rattle.data_set.specs.Tree.{Tree}
use Rattle.data_set.proofs.Lists.{rows_list}
use Rattle.data_set.proofs.element.Element.items.Goals as goal

-- The items of a node are those of its rows.
pub returns-in-Items : goal.returns-in-Items
returns-in-Items c =
    rw (← c.self.view_is, c.in-Items.is, c.as_slice.ensures.value) (ap (λ (rows : List (List Tree)). Some rows)
    (sym (rows_list (map (λ item. item.items) c.in-Items.items.items))))
