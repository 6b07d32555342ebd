-- Data sets made of a data set: in the implicit syntax, and with one value put in. Group lengths (gggg,0000) are left
-- out of
-- both, at every depth (PS3.5, 7.2).
use Rattle.std.specs.Prelude.{ℕ, List, ◌∷◌, ◌++◌, Option, Some, None, nat_lt, filter, if◌then◌else◌}
use Rattle.data_set.specs.declared.syntax.Syntax.{Syntax}
use Rattle.data_set.specs.declared.syntax.Syntax.TheVariants.{Implicit, Explicit}
use Rattle.data_set.specs.Tree.{Tree, Rows, Trees, leaf, node, no_rows, row, no_trees, tree, tag_of, trees_of}
use Rattle.data_set.specs.Tree.{list_trees, rows_of, list_rows}
use Rattle.data_set.specs.Tags.{is_group_length}
use Rattle.data_set.specs.Values.{padded}

-- the implicit syntax spells no value representation
abbrev pub vr_in : Syntax → Option (List ℕ) → Option (List ℕ)
vr_in Implicit vr = None
vr_in Explicit vr = vr

abbrev mutual
  pub converted_tree : Syntax → Tree → Tree
  converted_tree syntax (leaf tag vr value) = leaf tag (vr_in syntax vr) value
  converted_tree syntax (node tag vr rows) = node tag (vr_in syntax vr) (converted_rows syntax rows)

  pub converted_rows : Syntax → Rows → Rows
  converted_rows syntax no_rows = no_rows
  converted_rows syntax (row ts rows) = row (converted_trees syntax ts) (converted_rows syntax rows)

  pub converted_trees : Syntax → Trees → Trees
  converted_trees syntax no_trees = no_trees
  converted_trees syntax (tree t ts) =
      if is_group_length (tag_of t) then converted_trees syntax ts else tree (converted_tree syntax t)
      (converted_trees syntax ts)

-- the elements without group lengths, and in the implicit syntax without value representations
abbrev pub converted : Syntax → List Tree → List Tree
converted syntax ts = list_trees (converted_trees syntax (trees_of ts))

-- the same of the elements of each item
abbrev pub converted_items_of : Syntax → List (List Tree) → List (List Tree)
converted_items_of syntax items = list_rows (converted_rows syntax (rows_of items))

-- those of lesser and of greater tags
abbrev pub below : ℕ → List Tree → List Tree
below tag ts = filter (λ t. nat_lt (tag_of t) tag) ts

abbrev pub above : ℕ → List Tree → List Tree
above tag ts = filter (λ t. nat_lt tag (tag_of t)) ts

-- an element put in its place, where it replaces the one of its tag
abbrev pub with_element : Syntax → Tree → List Tree → List Tree
with_element syntax new ts = converted syntax (below (tag_of new) ts)
    ++ (new ∷ converted syntax (above (tag_of new) ts))

-- a value, padded to even length, put in its place
abbrev pub with_value : Syntax → ℕ → List ℕ → List ℕ → List Tree → List Tree
with_value syntax tag vr value ts = with_element syntax (leaf tag (vr_in syntax (Some vr)) (padded vr value)) ts
