-- Lists of elements and of items, as trees and back.
use Rattle.std.proofs.Common.{◌≡◌, List, [], ◌∷◌, refl, ap, ◌∙◌}
use Rattle.data_set.specs.Tree.{Tree, Rows, Trees, no_rows, row, no_trees, tree, list_rows, list_trees, rows_of}
use Rattle.data_set.specs.Tree.{trees_of}

pub trees_back : (ts : Trees) → trees_of (list_trees ts) ≡ ts
trees_back no_trees = refl
trees_back (tree t ts) = ap (tree t) (trees_back ts)

pub rows_back : (rows : Rows) → rows_of (list_rows rows) ≡ rows
rows_back no_rows = refl
rows_back (row ts rows) = ap (λ (us : Trees). row us (rows_of (list_rows rows))) (trees_back ts)
    ∙ ap (row ts) (rows_back rows)

pub list_back : (ts : List Tree) → list_trees (trees_of ts) ≡ ts
list_back [] = refl
list_back (t ∷ ts) = ap (λ (us : List Tree). t ∷ us) (list_back ts)

pub rows_list : (rows : List (List Tree)) → list_rows (rows_of rows) ≡ rows
rows_list [] = refl
rows_list (ts ∷ rows) = ap (λ (us : List Tree). us ∷ list_rows (rows_of rows)) (list_back ts)
    ∙ ap (λ (r : List (List Tree)). ts ∷ r) (rows_list rows)
