-- What a schema of a shelf is made of.
use Rattle.std.proofs.Common.{◌≡◌, ◌+◌, List, [], ◌∷◌, ℕ, true, codes, length, get_or, refl}
use Rattle.std.proofs.Common.{sym, ap, subst, ◌∙◌, arith}
use Rattle.std.proofs.lemmas.Fmt.{decimal_digit}
use Rattle.sqlite.specs.Term.{Term}
use Rattle.sqlite_schema.specs.declared.schema.Index.{Index}
use Rattle.sqlite.specs.Schema.{Schema}
use Rattle.sqlite.specs.Table.{Table}
use Rattle.op_shelf.specs.Table.{ops2, index_of, AreTrees, AreParts, IsShelf, shelf_schema}

abbrev own_index : ℕ → Index
own_index tree = record {
  name = codes "sqlite_autoindex_ops2_1";
  tree = tree + 1;
  table = tree;
  columns =
      1 ∷ [];
  order = record { digits = 0 };
  is_unique = true;
}

-- the database counts its indexes from 1
written_out : (tree : ℕ) (checks : List Term) → shelf_schema tree checks ≡ record
    { tables = ops2 tree checks ∷ []; indexes = own_index tree ∷ []; views = [] }
written_out tree checks = rw (decimal_digit 1 (omega arith)) refl

-- a list of one element
pub single : {X : Type 0} (xs : List X) (x : X) → length xs ≡ 1 → x ≡ get_or xs 0 x → xs ≡ x ∷ []
single [] x one is = absurd (omega (arith, one))
single (y ∷ []) x one is = ap (λ z. z ∷ []) (sym is)
single (y ∷ z ∷ more) x one is = absurd (omega (arith, one))

module _ (s : Schema) (t : Table) (i : Index) (tables : s.tables ≡ t ∷ []) (indexes : s.indexes ≡ i ∷ []) where
  pub made_of : AreParts s t i → IsShelf s
  made_of p =
      let renamed : index_of i ≡ own_index t.tree = rw (p.trees.1, p.trees.2) refl in
      let all : s ≡ record { tables = ops2 t.tree t.checks ∷ []; indexes = own_index t.tree ∷ []; views = [] } =
      rw (tables ∙ ap (λ x. x ∷ []) p.table, indexes ∙ ap (λ x. x ∷ []) (p.index ∙ renamed), p.views) refl in
      (t.tree, p.trees.0, t.checks, all ∙ sym (written_out t.tree t.checks))

  pub parts_of : IsShelf s → AreParts s t i
  parts_of shelf =
      let is = shelf.3 ∙ written_out shelf.0 shelf.2 in
      let both : t ∷ [] ≡ ops2 shelf.0 shelf.2 ∷ [] = sym tables ∙ ap (λ (x : Schema). x.tables) is in
      let other : i ∷ [] ≡ own_index shelf.0 ∷ [] = sym indexes ∙ ap (λ (x : Schema). x.indexes) is in
      let table : t ≡ ops2 shelf.0 shelf.2 = cc in
      let index : i ≡ own_index shelf.0 = cc in
      record {
        views = ap (λ (x : Schema). x.views) is;
        table = subst (λ (x : Table). x ≡ ops2 x.tree x.checks) (sym table) refl;
        index = subst (λ (x : Index). x ≡ index_of x) (sym index) refl;
        trees = subst (λ (x : Index). AreTrees t.tree x) (sym index)
            (subst (λ (x : Table). AreTrees x.tree (own_index shelf.0)) (sym table) (shelf.1, refl, refl));
      }
