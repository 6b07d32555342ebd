-- What contracts see of an element: its tree.
use Rattle.std.specs.Prelude.{ℕ, List, Option, map}
use Rattle.data_set.specs.Tree.{Tree, leaf, node, rows_of}
use Rattle.data_set.specs.declared.element.Content.{Content}
use Rattle.data_set.specs.declared.element.Content.TheVariants.{Bytes, Items}
use Rattle.data_set.specs.declared.element.Element.TheInside.{Inside}

abbrev pub tree_of : ℕ → Option (List ℕ) → Content → Tree
tree_of tag vr (Bytes value) = leaf tag vr value
tree_of tag vr (Items items) = node tag vr (rows_of (map (λ item. item.items) items.items))

abbrev pub view_of : Inside → Tree
view_of a = tree_of a.tag a.vr a.content
