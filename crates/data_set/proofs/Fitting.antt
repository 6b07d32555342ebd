-- The elements of a data set have lengths that their headers can spell.
use Rattle.std.proofs.Common.{ℕ, zero, suc, ◌<◌, ◌^◌, Bool, true, false, MatchBool, List, [], ◌∷◌, length, Option, Some}
use Rattle.std.proofs.Common.{None, arith}
use Rattle.data_set.specs.declared.syntax.Syntax.{Syntax}
use Rattle.data_set.specs.Tree.{Tree, Rows, Trees, leaf, node, no_rows, row, no_trees, tree, tag_of, trees_of}
use Rattle.data_set.specs.Vr.{is_short}
use Rattle.data_set.specs.Spelling.{FitsHead}
use Rattle.data_set.specs.Texts.{deepest}
use Rattle.data_set.specs.Written.{IsTree, AreRows, AreTrees, IsSet}
use Rattle.data_set.specs.Lengths.{FitsTree, FitsRows, FitsTrees}

below : (known : Bool) (size : ℕ) → MatchBool known (size < 2 ^ 16) (size < 2 ^ 32) → size < 2 ^ 32
below true size fits = omega arith
below false size fits = fits

pub size_fits : (vr : Option (List ℕ)) (size : ℕ) → FitsHead vr size → size < 2 ^ 32
size_fits None size fits = fits
size_fits (Some []) size fits = absurd fits
size_fits (Some (a ∷ [])) size fits = absurd fits
size_fits (Some (a ∷ b ∷ [])) size fits = below (is_short a b) size fits
size_fits (Some (a ∷ b ∷ c ∷ vr)) size fits = absurd fits

mutual
  fits_tree : (t : Tree) (n : ℕ) (s : Syntax) (p : Option ℕ) → IsTree t n s p → FitsTree t
  fits_tree (leaf tag vr value) n s p may = (may.fits, size_fits vr (length value) may.fits)
  fits_tree (node tag vr rows) n s p (inner, may, are) = (may.fits, fits_rows rows n inner are)

  fits_rows : (rows : Rows) (n : ℕ) (s : Syntax) → AreRows rows n s → FitsRows rows
  fits_rows no_rows n s are = tt
  fits_rows (row ts rows) zero s (deep, are) = absurd deep
  fits_rows (row ts rows) (suc m) s (deep, are) = (fits_trees ts m s None deep, fits_rows rows (suc m) s are)

  pub fits_trees : (ts : Trees) (n : ℕ) (s : Syntax) (p : Option ℕ) → AreTrees ts n s p → FitsTrees ts
  fits_trees no_trees n s p are = tt
  fits_trees (tree t ts) n s p are = (fits_tree t n s p are.0, fits_trees ts n s (Some (tag_of t)) are.1)

pub set_fits : (s : Syntax) (ts : List Tree) → IsSet s ts → FitsTrees (trees_of ts)
unfolding IsSet
set_fits s ts are = fits_trees (trees_of ts) deepest s None are
