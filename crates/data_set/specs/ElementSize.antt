-- The items of an element have fewer elements.
use Rattle.std.specs.Prelude.{ℕ, ◌+◌, ◌≤◌, List, [], ◌∷◌, Option, map}
use Rattle.std.proofs.Common.{arith}
use denote.Param.Weighed.{most}
use Rattle.std.specs.Global.{Vec}
use Rattle.data_set.specs.Tree.{Tree, rows_of, trees_of, count, count_rows, count_trees}
use Rattle.data_set.specs.ElementView.{tree_of}
use Rattle.data_set.specs.declared.element.Content.{Content}
use Rattle.data_set.specs.declared.element.Content.TheVariants.{Bytes, Items}
use Rattle.data_set.specs.declared.element.Element.TheDeep.{deep-Content}

inner : (ts : List Tree) → most (λ y. count y + 1) ts ≤ count_trees (trees_of ts) + 1
inner [] = omega arith
inner (t ∷ ts) = omega (arith, inner ts)

rows : (vs : List (Vec Tree)) → most (λ w. most (λ y. count y + 1) w.items) vs ≤ count_rows
    (rows_of (map (λ w. w.items) vs)) + 1
rows [] = omega arith
rows (v ∷ vs) = omega (arith, inner v.items, rows vs)

pub falls : (a : Content) (tag : ℕ) (vr : Option (List ℕ)) → deep-Content a ≤ count (tree_of tag vr a)
falls (Bytes v) tag vr = omega arith
falls (Items v) tag vr = let r : most (λ w. most (λ y. count y + 1) w.items) v.items ≤ count_rows
    (rows_of (map (λ w. w.items) v.items)) + 1 = rows v.items in omega (arith, r)
