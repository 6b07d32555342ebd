-- A tree as a list of tokens, and back: what tells trees apart.
use Rattle.std.specs.Prelude.{◌≡◌, ℕ, zero, suc, List, [], ◌∷◌, Option, None, refl}
use Rattle.std.proofs.Common.{ap, ◌∙◌}
use Rattle.std.specs.Coded.{Coded, code_by, coded×, coded_ℕ, coded_list, coded_option}
use Rattle.data_set.specs.Tree.{Tree, Rows, Trees, leaf, node, no_rows, row, no_trees, tree}

-- a kind, a tag, a value representation and bytes
abbrev pub Token : Type 0
Token = ℕ × (ℕ × (Option (List ℕ) × List ℕ))

pub data Frame : Type 0 where
  in_trees : Trees → Frame
  in_rows : Rows → Frame

abbrev mutual
  pub put_tree : Tree → List Token → List Token
  put_tree (leaf t v b) k = (0, (t, (v, b))) ∷ k
  put_tree (node t v rows) k = (1, (t, (v, []))) ∷ put_rows rows ((2, (0, (None, []))) ∷ k)

  pub put_rows : Rows → List Token → List Token
  put_rows no_rows k = k
  put_rows (row ts rows) k = (3, (0, (None, []))) ∷ put_trees ts ((4, (0, (None, []))) ∷ put_rows rows k)

  pub put_trees : Trees → List Token → List Token
  put_trees no_trees k = k
  put_trees (tree t ts) k = put_tree t (put_trees ts k)

-- what a token does to what stands behind it
abbrev pub step : ℕ → ℕ → Option (List ℕ) → List ℕ → List Frame → List Frame
step zero t v b (in_trees ts ∷ s) = in_trees (tree (leaf t v b) ts) ∷ s
step (suc zero) t v b (in_rows rs ∷ in_trees ts ∷ s) = in_trees (tree (node t v rs) ts) ∷ s
step (suc (suc zero)) t v b s = in_rows no_rows ∷ s
step (suc (suc (suc zero))) t v b (in_trees ts ∷ in_rows rs ∷ s) = in_rows (row ts rs) ∷ s
step (suc (suc (suc (suc zero)))) t v b s = in_trees no_trees ∷ s
step _ t v b s = s

abbrev pub back : List Token → List Frame
back [] = in_trees no_trees ∷ []
back (x ∷ xs) = step x.0 x.1.0 x.1.1.0 x.1.1.1 (back xs)

abbrev pub join_trees : Trees → Trees → Trees
join_trees no_trees us = us
join_trees (tree t ts) us = tree t (join_trees ts us)

abbrev pub join_rows : Rows → Rows → Rows
join_rows no_rows qs = qs
join_rows (row ts rows) qs = row ts (join_rows rows qs)

join_trees-none : (ts : Trees) → join_trees ts no_trees ≡ ts
join_trees-none no_trees = refl
join_trees-none (tree t ts) = ap (tree t) (join_trees-none ts)

join_rows-none : (rows : Rows) → join_rows rows no_rows ≡ rows
join_rows-none no_rows = refl
join_rows-none (row ts rows) = ap (row ts) (join_rows-none rows)

mutual
  back_tree : (t : Tree) (k : List Token) (us : Trees) (s : List Frame) → back k ≡ in_trees us ∷ s
      → back (put_tree t k) ≡ in_trees (tree t us) ∷ s
  back_tree (leaf t v b) k us s e = ap (step 0 t v b) e
  back_tree (node t v rows) k us s e =
      ap (step 1 t v []) (back_rows rows ((2, (0, (None, []))) ∷ k) no_rows (in_trees us ∷ s) (ap (step 2 0 None []) e)
      ∙ ap (λ (r : Rows). in_rows r ∷ in_trees us ∷ s) (join_rows-none rows))

  back_rows : (rows : Rows) (k : List Token) (qs : Rows) (s : List Frame) → back k ≡ in_rows qs ∷ s
      → back (put_rows rows k) ≡ in_rows (join_rows rows qs) ∷ s
  back_rows no_rows k qs s e = e
  back_rows (row ts rows) k qs s e =
      ap (step 3 0 None []) (back_trees ts ((4, (0, (None, []))) ∷ put_rows rows k) no_trees
      (in_rows (join_rows rows qs) ∷ s) (ap (step 4 0 None []) (back_rows rows k qs s e))
      ∙ ap (λ (r : Trees). in_trees r ∷ in_rows (join_rows rows qs) ∷ s) (join_trees-none ts))

  back_trees : (ts : Trees) (k : List Token) (us : Trees) (s : List Frame) → back k ≡ in_trees us ∷ s
      → back (put_trees ts k) ≡ in_trees (join_trees ts us) ∷ s
  back_trees no_trees k us s e = e
  back_trees (tree t ts) k us s e = back_tree t (put_trees ts k) (join_trees ts us) s (back_trees ts k us s e)

abbrev pub first_tree : List Frame → Tree
first_tree (in_trees (tree t ts) ∷ s) = t
first_tree _ = leaf 0 None []

pub back_first : (t : Tree) → first_tree (back (put_tree t [])) ≡ t
back_first t = ap first_tree (back_tree t [] no_trees [] refl)

abbrev pub tree_code : Coded Tree
tree_code = code_by (List Token) (coded_list
    (coded× coded_ℕ (coded× coded_ℕ (coded× (coded_option (coded_list coded_ℕ)) (coded_list coded_ℕ)))))
    (λ t. put_tree t []) (λ xs. first_tree (back xs)) back_first
