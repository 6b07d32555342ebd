-- The elements of a data set as trees: an element holds a value, or items, each of which holds elements (PS3.5, 7.1 and
-- 7.5).
use Rattle.std.specs.Prelude.{ℕ, ◌+◌, List, [], ◌∷◌, Option}

-- `leaf` and `node` have the tag and the value representation, where the syntax spells one
mutual
  pub data Tree : Type 0 where
    leaf : ℕ → Option (List ℕ) → List ℕ → Tree
    node : ℕ → Option (List ℕ) → Rows → Tree

  -- the items of a sequence
  pub data Rows : Type 0 where
    no_rows : Rows
    row : Trees → Rows → Rows

  -- the elements of an item
  pub data Trees : Type 0 where
    no_trees : Trees
    tree : Tree → Trees → Trees

abbrev pub tag_of : Tree → ℕ
tag_of (leaf tag vr value) = tag
tag_of (node tag vr rows) = tag

abbrev pub vr_of : Tree → Option (List ℕ)
vr_of (leaf tag vr value) = vr
vr_of (node tag vr rows) = vr

-- ---- a list of elements, and a list of items, as those of a tree, and back

abbrev pub trees_of : List Tree → Trees
trees_of [] = no_trees
trees_of (t ∷ ts) = tree t (trees_of ts)

abbrev pub rows_of : List (List Tree) → Rows
rows_of [] = no_rows
rows_of (ts ∷ rows) = row (trees_of ts) (rows_of rows)

abbrev pub list_trees : Trees → List Tree
list_trees no_trees = []
list_trees (tree t ts) = t ∷ list_trees ts

abbrev pub list_rows : Rows → List (List Tree)
list_rows no_rows = []
list_rows (row ts rows) = list_trees ts ∷ list_rows rows

-- ---- how many elements and items there are

abbrev mutual
  pub count : Tree → ℕ
  count (leaf tag vr value) = 1
  count (node tag vr rows) = count_rows rows + 1

  pub count_rows : Rows → ℕ
  count_rows no_rows = 0
  count_rows (row ts rows) = count_trees ts + count_rows rows + 1

  pub count_trees : Trees → ℕ
  count_trees no_trees = 0
  count_trees (tree t ts) = count t + count_trees ts
