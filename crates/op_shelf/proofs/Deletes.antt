-- What the DELETE takes out of the table.
use Rattle.std.proofs.Common.{◌≡◌, ◌&&◌, ◌||◌, inl, inr, ℤ, ℕ, List, [], ◌∷◌, Bool, true, false, not, cond, None, Ok}
use Rattle.std.proofs.Common.{IsPermutation, filter, map, refl, sym, ap, subst, ◌∙◌}
use Rattle.std.proofs.lemmas.Bool.{cases_Bool}
use Rattle.std.specs.Cmp.{tied_itself}
use Rattle.std.specs.List.{list_any}
use Rattle.std.specs.Ordering.{is_eq}
use Rattle.sqlite_value.proofs.OrderLemmas.{value_cmp_total}
use Rattle.sqlite_trees.specs.Tree.{has_rowid, without_rowid}
use Rattle.sqlite_rules.specs.Calls.{ids_of}
use Rattle.sqlite_rules.specs.Edit.{without_all}
use Rattle.sqlite_rules.specs.Lists.{Has}
use Rattle.sqlite_rules.proofs.ListLemmas.{has_filtered, has_kept, some_from, some_has}
use Rattle.sqlite.specs.declared.types.Value.TheVariants.{Null, Int, Text}
use Rattle.sqlite.specs.Does.{Tally, Does}
use Rattle.sqlite.specs.Edit.{edit_of, id_in}
use Rattle.sqlite.specs.Effect.{Database}
use Rattle.sqlite.specs.Listing.{understood}
use Rattle.sqlite.specs.Order.{Row, column, value_cmp}
use Rattle.sqlite.specs.Rows.{Written}
use Rattle.sqlite.specs.Rowids.TheVariants.{Given}
use Rattle.sqlite.specs.State.{State, mode_of}
use Rattle.sqlite.specs.Term.{Term}
use Rattle.sqlite.specs.Tree.{Trees}
use Rattle.sqlite.proofs.Callers.{one_permutation, one_step, statement_of}
use Rattle.op_shelf.specs.Entries.{entries}
use Rattle.op_shelf.specs.Group.{IsSole, rows_at, rows_under, shown_id}
use Rattle.op_shelf.specs.States.{apart}
use Rattle.op_shelf.specs.Table.{ops2, shelf_schema}
use Rattle.op_shelf.specs.Texts.{delete_text}
use Rattle.op_shelf.proofs.Changes.{same_value, went}
use Rattle.op_shelf.proofs.Queries.{ids_shown, sifted}
use Rattle.op_shelf.proofs.Texts.{Serves, delete_command}

-- one filter behind another
both : (p q r : Row → Bool) → ((x : Row) → r x ≡ (q x && p x)) → (xs : List Row)
    → filter p (filter q xs) ≡ filter r xs
both p q r is [] = refl
both p q r is (x ∷ xs) = step (q x) (is x) (both p q r is xs)
  where
    inner : (b c : Bool) → c ≡ b → filter p (filter q xs) ≡ filter r xs
        → cond b (x ∷ filter p (filter q xs)) (filter p (filter q xs)) ≡ cond c (x ∷ filter r xs) (filter r xs)
    inner true true e later = ap (λ ys. x ∷ ys) later
    inner true false e later = absurd cc
    inner false true e later = absurd cc
    inner false false e later = later

    step : (a : Bool) → r x ≡ (a && p x) → filter p (filter q xs) ≡ filter r xs
        → filter p (cond a (x ∷ filter q xs) (filter q xs)) ≡ cond (r x) (x ∷ filter r xs) (filter r xs)
    step true e later = inner (p x) (r x) e later
    step false e later = inner false (r x) e later

all_kept : (rows : List Row) → filter (λ r. true) rows ≡ rows
all_kept [] = refl
all_kept (r ∷ rows) = ap (λ xs. r ∷ xs) (all_kept rows)

and_not : (a b : Bool) → not (a || b) ≡ (not a && not b)
and_not true b = refl
and_not false b = refl

-- what has none of the rowids is left
without_is : (ids : List ℤ) (rows : List Row)
    → without_all rows ids ≡ filter (λ r. not (list_any (λ id. has_rowid id r) ids)) rows
without_is [] rows = sym (all_kept rows)
without_is (id ∷ ids) rows =
    without_is ids (without_rowid id rows)
    ∙ both (λ r. not (list_any (λ i. has_rowid i r) ids)) (λ r. not (has_rowid id r))
    (λ r. not (list_any (λ i. has_rowid i r) (id ∷ ids)))
    (λ r. and_not (has_rowid id r) (list_any (λ i. has_rowid i r) ids)) rows

-- tests that answer alike for each of some rows
alike_kept : (p q : Row → Bool) (xs : List Row) → ((x : Row) → Has xs x → p x ≡ q x) → filter p xs ≡ filter q xs
alike_kept p q [] same = refl
alike_kept p q (x ∷ xs) same = step (p x) (q x) (same x (inl refl)) (alike_kept p q xs (λ y h. same y (inr h)))
  where
    step : (a b : Bool) → a ≡ b → filter p xs ≡ filter q xs
        → cond a (x ∷ filter p xs) (filter p xs) ≡ cond b (x ∷ filter q xs) (filter q xs)
    step true true e later = ap (λ ys. x ∷ ys) later
    step true false e later = absurd cc
    step false true e later = absurd cc
    step false false e later = later

only_is : {X : Type 0} (x : X) (xs : List X) (y : X) → xs ≡ x ∷ [] → Has xs y → y ≡ x
only_is x [] y is h = absurd h
only_is x (z ∷ zs) y is (inl same) = let first : z ≡ x = cc in same ∙ first
only_is x (z ∷ zs) y is (inr later) = let none : zs ≡ [] = cc in absurd (subst (λ ws. Has ws y) none later)

module _ (digest : List ℕ) (id : ℤ) (table rows : List Row) (sole : IsSole digest id table)
    (shown : IsPermutation (map shown_id (rows_under digest table)) rows) where
  abbrev test : Row → Bool
  test r = is_eq (value_cmp (column r 1) (Text digest))

  ids_are : ids_of rows ≡ id ∷ []
  ids_are =
      let one : rows ≡ shown_id sole.row ∷ [] = one_permutation (shown_id sole.row) rows
      (subst (λ ps. IsPermutation (map shown_id ps) rows) sole.under shown) in
      ap ids_of one ∙ ap (λ v. id_in v ∷ []) sole.rowid

  own_id : has_rowid id sole.row ≡ true
  own_id = subst (λ v. is_eq (value_cmp v (Int id)) ≡ true) (sym sole.rowid)
      (ap is_eq (tied_itself value_cmp_total (Int id)))

  passes : test sole.row ≡ true
  passes = (has_filtered test table sole.row (subst (λ rs. Has rs sole.row) (sym sole.under) (inl refl))).1

  -- a row has the rowid just where it is under the digest
  same_test : (r : Row) → Has table r → list_any (λ i. has_rowid i r) (id ∷ []) ≡ test r
  same_test r here = elim (cases_Bool (test r)) [
    | inl passed ↦
        let same = only_is sole.row (rows_under digest table) r sole.under (has_kept test table r here passed) in
        some_from (λ i. has_rowid i r) (id ∷ []) id (inl refl) (subst (λ x. has_rowid id x ≡ true) (sym same) own_id)
        ∙ sym passed
    | inr failed ↦ elim (cases_Bool (list_any (λ i. has_rowid i r) (id ∷ []))) [
      | inl some ↦
          let it = some_has (λ i. has_rowid i r) (id ∷ []) some in
          let is : it.0 ≡ id = only_is id (id ∷ []) it.0 refl it.1 in
          let its = subst (λ i. has_rowid i r ≡ true) is it.2 in
          let same = only_is sole.row (rows_at id table) r sole.alone (has_kept (has_rowid id) table r here its) in
          let wrong : true ≡ false = sym passes ∙ ap test (sym same) ∙ failed in
          absurd cc
      | inr none ↦ none ∙ sym failed
    ]
  ]

  pub left : without_all table (ids_of rows) ≡ filter (λ r. not (test r)) table
  left = ap (without_all table) ids_are ∙ without_is (id ∷ []) table
      ∙ alike_kept _ _ table (λ r here. ap not (same_test r here))

-- what a DELETE leaves
pub deletes : (tree : ℕ) (checks : List Term) → Serves tree → (old : State) (after : Database) (tally : Tally)
    (digest : List ℕ) (id : ℤ) → old.now.schema ≡ shelf_schema tree checks → IsSole digest id (old.now.trees tree)
    → Does old.step_limit (mode_of old) (Text digest ∷ []) old.now
    (statement_of delete_text (understood (shelf_schema tree checks) delete_text)) None (delete_command tree)
    (Ok (tally, after))
    → (after.schema ≡ shelf_schema tree checks)
    × (entries (after.trees tree) ≡ apart digest (entries (old.now.trees tree)))
deletes tree checks serves old after tally digest id has sole h =
    let params : Row = Text digest ∷ [] in
    let db = old.now.trees in
    let command = delete_command tree in
    let text = statement_of delete_text (understood (shelf_schema tree checks) delete_text) in
    let done = went (subst (λ s. Does old.step_limit (mode_of old) params (record old.now { schema = s }) text None
    command (Ok (tally, after))) has h) in
    let now = ap (λ (p : Tally × Database). p.1) (same_value (went (went done.2).2).2) in
    let asked = went done.1 in
    let written = went asked.2 in
    let trees : done.0.trees ≡ written.0 = ap (λ (it : Written). it.trees) (same_value written.2) in
    let applied = one_step (shelf_schema tree checks) _ db written.0
    (edit_of db (ops2 tree checks) (ids_of asked.0) Given 0 []) refl written.1 in
    let shown = ids_shown tree serves db digest asked.0 (asked.1.answer Null) in
    let test : Row → Bool = λ r. is_eq (value_cmp (column r 1) (Text digest)) in
    let gone : written.0 tree ≡ filter (λ r. not (test r)) (db tree) = applied.rows
    ∙ left digest id (db tree) asked.0 sole shown in
    let rows : after.trees tree ≡ filter (λ r. not (test r)) (db tree) = ap (λ (d : Database). d.trees tree) now
    ∙ ap (λ (t : Trees). t tree) trees ∙ gone in (
      ap (λ (d : Database). d.schema) now,
      ap entries rows ∙ sifted (λ entry. not (is_eq (value_cmp (column entry 0) (Text digest)))) (db tree),
    )
