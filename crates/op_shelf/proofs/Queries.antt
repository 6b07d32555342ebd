-- What the queries show.
use Rattle.std.proofs.Common.{flat_map, ◌≡◌, ◌++◌, ◌&&◌, inl, inr, ℕ, ℤ, pos, List}
use Rattle.std.proofs.Common.{[], ◌∷◌, map, filter, length, Bool, true, false, cond, Some}
use Rattle.std.proofs.Common.{IsPermutation, refl, sym, ap, subst, ◌∙◌}
use Rattle.std.proofs.lemmas.List.{length-map}
use Rattle.std.specs.Ordering.{is_eq}
use Rattle.std.proofs.lemmas.List.Sorted.{IsPermutation-map, length_permutation}
use mathlib.Core.Bool.{and-true as and_true}
use Rattle.sqlite.specs.declared.types.Value.{Value}
use Rattle.sqlite.specs.declared.types.Value.TheVariants.{Null, Int, Real, Text, Blob}
use Rattle.sqlite.specs.Order.{Row, column, value_cmp}
use Rattle.sqlite_value.proofs.OrderLemmas.{value_cmp-Null}
use Rattle.sqlite.specs.Term.{Term, Env}
use Rattle.sqlite.specs.Ops.{unary, binary, is_true, from_truth}
use Rattle.sqlite_sql.specs.declared.ops.CompareOp.TheVariants.{Eq}
use Rattle.sqlite_sql.specs.declared.ops.UnaryOp.TheVariants.{ToNumeric}
use Rattle.sqlite_sql.specs.declared.ops.BinaryOp.TheVariants.{Compare}
use Rattle.sqlite.specs.Collation.TheVariants.{Binary}
use Rattle.sqlite.specs.Query.{IsAnswer, output, Output}
use Rattle.sqlite.specs.Program.{overlay}
use Rattle.sqlite.specs.Tree.{Trees}
use Rattle.sqlite.specs.State.{State, Shown}
use Rattle.sqlite.specs.Schema.{Schema}
use Rattle.sqlite.specs.Listing.{understood}
use Rattle.sqlite.proofs.Callers.{IsPlain, reads_as}
use Rattle.op_shelf.specs.Entries.{entries, entry_in}
use Rattle.op_shelf.specs.States.{under, count_of, rows_of, tree_in}
use Rattle.op_shelf.specs.Table.{shelf_schema, IsShelf}
use Rattle.op_shelf.specs.Group.{rows_at, rows_under, shown_id}
use Rattle.op_shelf.specs.Texts.{all_text, held_text, ids_text, kind_text, rowid_text}
use Rattle.op_shelf.proofs.Texts.{Serves, all_is, all_query, held_is, held_query, ids_is, ids_query, kind_is, kind_query}
use Rattle.op_shelf.proofs.Texts.{rowid_is, rowid_query}

truth_of : (b : Bool) → is_true (from_truth (Some b)) ≡ b
truth_of true = refl
truth_of false = refl

-- WHERE finds a text, and an integer, by the order of values
pub text_is : (v : Value) (t : List ℕ) → (is_true (binary (Compare Eq Binary) v (Text t)) && true) ≡ is_eq
    (value_cmp v (Text t))
unfolding binary
text_is Null t = sym (ap is_eq (value_cmp-Null (Text t)))
text_is (Int n) t = and_true _ ∙ truth_of _
text_is (Real x) t = and_true _ ∙ truth_of _
text_is (Text s) t = and_true _ ∙ truth_of _
text_is (Blob b) t = and_true _ ∙ truth_of _

kind_equal : (v : Value) (k : ℕ) → (is_true (binary (Compare Eq Binary) v (unary ToNumeric (Int (pos k)))) && true)
    ≡ is_eq (value_cmp v (Int (pos k)))
unfolding binary unary
kind_equal Null k = sym (ap is_eq (value_cmp-Null (Int (pos k))))
kind_equal (Int n) k = and_true _ ∙ truth_of _
kind_equal (Real x) k = and_true _ ∙ truth_of _
kind_equal (Text s) k = and_true _ ∙ truth_of _
kind_equal (Blob b) k = and_true _ ∙ truth_of _

pub id_equal : (v : Value) (n : ℤ) → (is_true (binary (Compare Eq Binary) v (Int n)) && true)
    ≡ is_eq (value_cmp v (Int n))
unfolding binary
id_equal Null n = sym (ap is_eq (value_cmp-Null (Int n)))
id_equal (Int m) n = and_true _ ∙ truth_of _
id_equal (Real x) n = and_true _ ∙ truth_of _
id_equal (Text s) n = and_true _ ∙ truth_of _
id_equal (Blob b) n = and_true _ ∙ truth_of _

-- the matches of a query over one table
pub matched : (p : Row) (f g : Row → Bool) → ((r : Row) → f r ≡ g r) → (rows : List Row)
    → flat_map (λ (r : Row). cond (f r) ((p ∷ r ∷ []) ∷ []) []) rows ≡ map (λ (r : Row). p ∷ r ∷ []) (filter g rows)
matched p f g same [] = refl
matched p f g same (r ∷ rows) = step (f r) (g r) (same r) (matched p f g same rows)
  where
    step : (a b : Bool) → a ≡ b → flat_map (λ (r : Row). cond (f r) ((p ∷ r ∷ []) ∷ []) []) rows ≡ map
        (λ (r : Row). p ∷ r ∷ []) (filter g rows)
        → cond a ((p ∷ r ∷ []) ∷ []) [] ++ flat_map (λ (r : Row). cond (f r) ((p ∷ r ∷ []) ∷ []) []) rows ≡ map
        (λ (r : Row). p ∷ r ∷ []) (cond b (r ∷ filter g rows) (filter g rows))
    step true true e later = ap (λ xs. (p ∷ r ∷ []) ∷ xs) later
    step true false e later = absurd cc
    step false true e later = absurd cc
    step false false e later = later

pub each : (rows : List Row) → flat_map (λ (r : Row). ([] ∷ r ∷ []) ∷ []) rows ≡ map (λ (r : Row). [] ∷ r ∷ []) rows
each [] = refl
each (r ∷ rows) = ap (λ xs. ([] ∷ r ∷ []) ∷ xs) (each rows)

-- what is shown of the matches
pub outs : (f : Env → Output) (g : Row → Output) (p : Row) → ((r : Row) → f (p ∷ r ∷ []) ≡ g r) → (rows : List Row)
    → map f (map (λ (r : Row). p ∷ r ∷ []) rows) ≡ map g rows
outs f g p same [] = refl
outs f g p same (r ∷ rows) = rw (same r) (ap (λ xs. g r ∷ xs) (outs f g p same rows))

seconds : (g : Row → Output) (rows : List Row) → map (λ (o : Output). o.1) (map g rows) ≡ map (λ r. (g r).1) rows
seconds g [] = refl
seconds g (r ∷ rows) = ap (λ xs. (g r).1 ∷ xs) (seconds g rows)

pub sifted : (test : Row → Bool) (rows : List Row) → map entry_in (filter (λ r. test (entry_in r)) rows) ≡ filter
    test (entries rows)
sifted test [] = refl
sifted test (r ∷ rows) = step (test (entry_in r)) (sifted test rows)
  where
    step : (b : Bool) → map entry_in (filter (λ r. test (entry_in r)) rows) ≡ filter test (entries rows)
        → map entry_in (cond b (r ∷ filter (λ r. test (entry_in r)) rows) (filter (λ r. test (entry_in r)) rows)) ≡ cond
        b (entry_in r ∷ filter test (entries rows)) (filter test (entries rows))
    step true e = ap (λ xs. entry_in r ∷ xs) e
    step false e = e

-- the rows that an order gives are those that were kept
pub permuted : (g : Row → Output) (picked rows : List Row) (kept ordered : List Output) → kept ≡ map g picked
    → IsPermutation kept ordered → rows ≡ map (λ (o : Output). o.1) ordered
    → IsPermutation (map (λ r. (g r).1) picked) rows
permuted g picked rows kept ordered is same shown =
    let firsts : map (λ (o : Output). o.1) kept ≡ map (λ r. (g r).1) picked = ap (map (λ (o : Output). o.1)) is
    ∙ seconds g picked in
    subst (λ (xs : List Row). IsPermutation (map (λ r. (g r).1) picked) xs) (sym shown)
    (subst (λ (xs : List Row). IsPermutation xs (map (λ (o : Output). o.1) ordered))
    firsts (IsPermutation-map (λ (o : Output). o.1) kept ordered same))

pub overlaid : (db : Trees) (tree : ℕ) → Serves tree → overlay db [] tree ≡ db tree
overlaid db tree (inl first) = rw first
overlaid db tree (inr third) = rw third

-- what the query of rowids shows of a table
pub ids_shown : (tree : ℕ) → Serves tree → (db : Trees) (digest : List ℕ) (rows : List Row)
    → IsAnswer (ids_query tree) (overlay db []) (Text digest ∷ []) rows
    → IsPermutation (map shown_id (rows_under digest (db tree))) rows
ids_shown tree serves db digest rows a =
    let p : Row = Text digest ∷ [] in
    let shows : Row → Output = λ r. ([], shown_id r) in
    let picked = rows_under digest (db tree) in
    let staged : a.staged ≡ map (λ (r : Row). p ∷ r ∷ []) picked = a.grouped ∙ rw (overlaid db tree serves)
    (matched p _ (λ r. is_eq (value_cmp (column r 1) (Text digest))) (λ r. text_is (column r 1) digest) (db tree)) in
    let kept : a.kept ≡ map shows picked = a.distinct ∙ ap (map (output (ids_query tree))) staged
    ∙ outs (output (ids_query tree)) shows p (λ r. refl) picked in
    permuted shows picked rows a.kept a.ordered kept a.same (a.shown ∙ refl)

module _ (tree : ℕ) (checks : List Term) (serves : Serves tree) (old new : State) (has : old.now.schema ≡ shelf_schema
    tree checks) (rows : List Row) where
  abbrev table : List Row
  table = old.now.trees tree

  finds_in : (digest : List ℕ) → Shown held_text (Text digest ∷ []) old new rows → IsPermutation (under digest table)
      rows
  finds_in digest h =
      let q = held_is tree checks serves in
      let p : Row = Text digest ∷ [] in
      let got = reads_as held_text p old new (shelf_schema tree checks) has _ q.is q.plain q.unlisted rows h in
      let a : IsAnswer (held_query tree) (overlay old.now.trees []) p rows = got.answer Null in
      let test : Row → Bool = λ r. is_eq (value_cmp (column r 1) (Text digest)) in
      let shows : Row → Output = λ r. ([], entry_in r) in
      let picked : List Row = filter test table in
      let staged : a.staged ≡ map (λ (r : Row). p ∷ r ∷ []) picked = a.grouped ∙ rw (overlaid old.now.trees tree serves)
      (matched p _ test (λ r. text_is (column r 1) digest) table) in
      let kept : a.kept ≡ map shows picked = a.distinct ∙ ap (map (output (held_query tree))) staged
      ∙ outs (output (held_query tree)) shows p (λ r. refl) picked in
      subst (λ (xs : List Row). IsPermutation xs rows)
      (sifted (λ entry. is_eq (value_cmp (column entry 0) (Text digest))) table)
      (permuted shows picked rows a.kept a.ordered kept a.same (a.shown ∙ refl))

  ids_in : (digest : List ℕ) → Shown ids_text (Text digest ∷ []) old new rows
      → IsPermutation (map shown_id (rows_under digest table)) rows
  ids_in digest h =
      let q = ids_is tree checks serves in
      let p : Row = Text digest ∷ [] in
      let got = reads_as ids_text p old new (shelf_schema tree checks) has _ q.is q.plain q.unlisted rows h in
      ids_shown tree serves old.now.trees digest rows (got.answer Null)

  rowids_in : (id : ℤ) → Shown rowid_text (Int id ∷ []) old new rows
      → IsPermutation (map shown_id (rows_at id table)) rows
  rowids_in id h =
      let q = rowid_is tree checks serves in
      let p : Row = Int id ∷ [] in
      let got = reads_as rowid_text p old new (shelf_schema tree checks) has _ q.is q.plain q.unlisted rows h in
      let a : IsAnswer (rowid_query tree) (overlay old.now.trees []) p rows = got.answer Null in
      let shows : Row → Output = λ r. ([], shown_id r) in
      let staged : a.staged ≡ map (λ (r : Row). p ∷ r ∷ []) (rows_at id table) = a.grouped
      ∙ rw (overlaid old.now.trees tree serves)
      (matched p _ (λ r. is_eq (value_cmp (column r 0) (Int id))) (λ r. id_equal (column r 0) id) table) in
      let kept : a.kept ≡ map shows (rows_at id table) = a.distinct ∙ ap (map (output (rowid_query tree))) staged
      ∙ outs (output (rowid_query tree)) shows p (λ r. refl) (rows_at id table) in
      permuted shows (rows_at id table) rows a.kept a.ordered kept a.same (a.shown ∙ refl)

  counts_in : (kind : ℕ) → Shown kind_text (Int (pos kind) ∷ []) old new rows → length rows ≡ count_of kind table
  counts_in kind h =
      let q = kind_is tree checks serves in
      let p : Row = Int (pos kind) ∷ [] in
      let got = reads_as kind_text p old new (shelf_schema tree checks) has _ q.is q.plain q.unlisted rows h in
      let a : IsAnswer (kind_query tree) (overlay old.now.trees []) p rows = got.answer Null in
      let test : Row → Bool = λ r. is_eq (value_cmp (column r 2) (Int (pos kind))) in
      let shows : Row → Output = λ r. ([], column r 2 ∷ []) in
      let picked : List Row = filter test table in
      let staged : a.staged ≡ map (λ (r : Row). p ∷ r ∷ []) picked = a.grouped ∙ rw (overlaid old.now.trees tree serves)
      (matched p _ test (λ r. kind_equal (column r 2) kind) table) in
      let kept : a.kept ≡ map shows picked = a.distinct ∙ ap (map (output (kind_query tree))) staged
      ∙ outs (output (kind_query tree)) shows p (λ r. refl) picked in
      let all = permuted shows picked rows a.kept a.ordered kept a.same (a.shown ∙ refl) in
      length_permutation _ rows all ∙ length-map picked (λ r. (shows r).1) ∙ sym (length-map picked entry_in)
      ∙ ap length (sifted (λ entry. is_eq (value_cmp (column entry 1) (Int (pos kind)))) table)

  lists_in : Shown all_text [] old new rows → IsPermutation (entries table) rows
  lists_in h =
      let q = all_is tree checks serves in
      let got = reads_as all_text [] old new (shelf_schema tree checks) has _ q.is q.plain q.unlisted rows h in
      let a : IsAnswer (all_query tree) (overlay old.now.trees []) [] rows = got.answer Null in
      let shows : Row → Output = λ r. ([], entry_in r) in
      let staged : a.staged ≡ map (λ (r : Row). [] ∷ r ∷ []) table = a.grouped ∙ rw (overlaid old.now.trees tree serves)
      (each table) in
      let kept : a.kept ≡ map shows table = a.distinct ∙ ap (map (output (all_query tree))) staged
      ∙ outs (output (all_query tree)) shows [] (λ r. refl) table in
      permuted shows table rows a.kept a.ordered kept a.same (a.shown ∙ refl)

-- the same of any schema of a shelf
pub plain_all : (s : Schema) → IsShelf s → IsPlain (understood s all_text)
plain_all s shelf = subst (λ s. IsPlain (understood s all_text)) (sym shelf.3) (all_is shelf.0 shelf.2 shelf.1).plain

pub plain_held : (s : Schema) → IsShelf s → IsPlain (understood s held_text)
plain_held s shelf = subst (λ s. IsPlain (understood s held_text)) (sym shelf.3) (held_is shelf.0 shelf.2 shelf.1).plain

pub plain_ids : (s : Schema) → IsShelf s → IsPlain (understood s ids_text)
plain_ids s shelf = subst (λ s. IsPlain (understood s ids_text)) (sym shelf.3) (ids_is shelf.0 shelf.2 shelf.1).plain

pub plain_rowid : (s : Schema) → IsShelf s → IsPlain (understood s rowid_text)
plain_rowid s shelf = subst (λ s. IsPlain (understood s rowid_text)) (sym shelf.3)
    (rowid_is shelf.0 shelf.2 shelf.1).plain

pub plain_kind : (s : Schema) → IsShelf s → IsPlain (understood s kind_text)
plain_kind s shelf = subst (λ s. IsPlain (understood s kind_text)) (sym shelf.3) (kind_is shelf.0 shelf.2 shelf.1).plain

module _ (old new : State) (shelf : IsShelf old.now.schema) (rows : List Row) where
  pub finds : (digest : List ℕ) → Shown held_text (Text digest ∷ []) old new rows
      → IsPermutation (under digest (rows_of old)) rows
  finds digest h = subst (λ n. IsPermutation (under digest (old.now.trees n)) rows) (sym (ap tree_in shelf.3))
      (finds_in shelf.0 shelf.2 shelf.1 old new shelf.3 rows digest h)

  pub ids : (digest : List ℕ) → Shown ids_text (Text digest ∷ []) old new rows
      → IsPermutation (map shown_id (rows_under digest (rows_of old))) rows
  ids digest h = subst (λ n. IsPermutation (map shown_id (rows_under digest (old.now.trees n))) rows)
      (sym (ap tree_in shelf.3)) (ids_in shelf.0 shelf.2 shelf.1 old new shelf.3 rows digest h)

  pub rowids : (id : ℤ) → Shown rowid_text (Int id ∷ []) old new rows
      → IsPermutation (map shown_id (rows_at id (rows_of old))) rows
  rowids id h = subst (λ n. IsPermutation (map shown_id (rows_at id (old.now.trees n))) rows)
      (sym (ap tree_in shelf.3)) (rowids_in shelf.0 shelf.2 shelf.1 old new shelf.3 rows id h)

  pub counts : (kind : ℕ) → Shown kind_text (Int (pos kind) ∷ []) old new rows → length rows ≡ count_of
      kind (rows_of old)
  counts kind h = subst (λ n. length rows ≡ count_of kind (old.now.trees n)) (sym (ap tree_in shelf.3))
      (counts_in shelf.0 shelf.2 shelf.1 old new shelf.3 rows kind h)

  pub lists : Shown all_text [] old new rows → IsPermutation (entries (rows_of old)) rows
  lists h = subst (λ n. IsPermutation (entries (old.now.trees n)) rows)
      (sym (ap tree_in shelf.3)) (lists_in shelf.0 shelf.2 shelf.1 old new shelf.3 rows h)
