-- Lengths that their headers can spell, at every depth.
use Rattle.std.specs.Prelude.{◌^◌, ◌<◌, length}
use Rattle.data_set.specs.Tree.{Tree, Rows, Trees, leaf, node, no_rows, row, no_trees, tree}
use Rattle.data_set.specs.Vr.{undefined_length}
use Rattle.data_set.specs.Spelling.{FitsHead}

abbrev mutual
  pub FitsTree : Tree → Type 0
  FitsTree (leaf tag vr value) = FitsHead vr (length value) × (length value < 2 ^ 32)
  FitsTree (node tag vr rows) = FitsHead vr undefined_length × FitsRows rows

  pub FitsRows : Rows → Type 0
  FitsRows no_rows = Unit {0}
  FitsRows (row ts rows) = FitsTrees ts × FitsRows rows

  pub FitsTrees : Trees → Type 0
  FitsTrees no_trees = Unit {0}
  FitsTrees (tree t ts) = FitsTree t × FitsTrees ts
