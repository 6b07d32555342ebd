-- What the statements write.
use Rattle.std.proofs.Common.{◌≡◌, ◌⊎◌, ◌||◌, ◌&&◌, inl, inr, ℕ, ℤ, pos, List, [], ◌∷◌, Bool}
use Rattle.std.proofs.Common.{true, false, not, cond, None, Ok, Err, Result, IsPermutation, Ordering}
use Rattle.std.proofs.Common.{Less, Equal, Greater, refl, sym, ap, subst, ◌∙◌}
use Rattle.std.specs.Ordering.{is_eq, match_ordering}
use Rattle.std.proofs.lemmas.List.Sorted.{IsPermutation-refl, IsPermutation-trans, IsPermutation-cons}
use Rattle.std.proofs.lemmas.List.Sorted.{IsPermutation-map, IsPermutation-append_comm, IsPermutation-append_left}
use Rattle.sqlite.specs.declared.types.Value.{Value}
use Rattle.sqlite.specs.declared.types.Value.TheVariants.{Null, Int, Text, Blob}
use Rattle.sqlite.specs.Order.{Row, value_cmp}
use Rattle.sqlite.specs.Ops.{unary}
use Rattle.sqlite.specs.Kind.TheVariants.{Integer}
use Rattle.sqlite.specs.Source.TheVariants.{Values}
use Rattle.sqlite.specs.Command.TheVariants.{Insert}
use Rattle.sqlite.specs.Edit.{edit_of, edited, next_rowid, is_taken}
use Rattle.sqlite.specs.Cast.{cast}
use Rattle.sqlite.specs.Rowids.TheVariants.{Chosen}
use Rattle.sqlite.specs.Does.{Tally, Does}
use Rattle.sqlite.specs.Rows.{Written}
use Rattle.sqlite.specs.Term.{Term}
use Rattle.sqlite.specs.Tree.{Trees, put_row, rowid}
use Rattle.sqlite.specs.Listing.{understood}
use Rattle.sqlite.specs.Effect.{Database}
use Rattle.sqlite.specs.State.{State, mode_of}
use Rattle.sqlite.proofs.Callers.{statement_of, one_step}
use Rattle.op_shelf.specs.Entries.{entries, entry_in, Adds}
use Rattle.op_shelf.specs.Table.{shelf_schema, ops2}
use Rattle.op_shelf.specs.Texts.{insert_text}
use Rattle.op_shelf.proofs.Texts.{terms}

-- a part that gave a value did not stop on the way
pub went : {B E R : Type 0} {b : B} {Stops : E → Type 0} → ((stop : E) × Stops stop × (Ok b ≡ Err stop)) ⊎ R → R
went (inl stopped) = absurd (let e = stopped.2 in cc)
went (inr on) = on

pub same_value : {B E : Type 0} {a b : B} → ◌≡◌ {A = Result B E} (Ok a) (Ok b) → a ≡ b
same_value e = cc

cond_same : (b : Bool) (x : Value) → cond b x x ≡ x
cond_same true x = refl
cond_same false x = refl

pub cast_null : cast Integer Null ≡ Null
unfolding unary
cast_null = cond_same _ Null

pub cast_int : (n : ℤ) → cast Integer (Int n) ≡ Int n
unfolding unary
cast_int n = cond_same _ (Int n)

swapped : (a b : Row) (rows : List Row) → IsPermutation (a ∷ b ∷ rows) (b ∷ a ∷ rows)
swapped a b rows = IsPermutation-append_left rows (a ∷ b ∷ []) (b ∷ a ∷ [])
    (IsPermutation-append_comm (a ∷ []) (b ∷ []))

-- a row under a rowid that none has comes to the others
pub put_adds : (new : Row) (rows : List Row) → is_taken rows new ≡ false → IsPermutation (new ∷ rows) (put_row new rows)
put_adds new [] free = IsPermutation-refl (new ∷ [])
put_adds new (r ∷ rows) free = step (value_cmp (rowid r) (rowid new)) free (put_adds new rows)
  where
    step : (o : Ordering) → (is_eq o || is_taken rows new) ≡ false
        → (is_taken rows new ≡ false → IsPermutation (new ∷ rows) (put_row new rows)) → IsPermutation (new ∷ r ∷ rows)
        (match_ordering o (r ∷ put_row new rows) (new ∷ rows) (new ∷ r ∷ rows))
    step Less e later = IsPermutation-trans (new ∷ r ∷ rows) (r ∷ new ∷ rows) (r ∷ put_row new rows)
        (swapped new r rows) (IsPermutation-cons r (new ∷ rows) (put_row new rows) (later e))
    step Equal e later = absurd cc
    step Greater e later = IsPermutation-refl (new ∷ r ∷ rows)

pub fresh_free : (b : Bool) → (not b && true) ≡ true → b ≡ false
fresh_free true e = absurd cc
fresh_free false e = refl

-- the row that the INSERT makes of an entry
abbrev pub row_of : List Row → List ℕ → ℕ → List ℕ → Row
row_of rows digest kind body = Int (next_rowid rows) ∷ Text digest ∷ Int (pos kind) ∷ Blob body ∷ []

-- what an INSERT leaves
pub puts : (tree : ℕ) (checks : List Term) (old : State) (after : Database) (tally : Tally) (digest body : List ℕ)
    (kind : ℕ) → old.now.schema ≡ shelf_schema tree checks
    → Does old.step_limit (mode_of old) (Text digest ∷ Int (pos kind) ∷ Blob body ∷ [])
    old.now (statement_of insert_text (understood (shelf_schema tree checks) insert_text))
    None (Insert 0 (Values terms 4)) (Ok (tally, after))
    → (after.schema ≡ shelf_schema tree checks) × Adds (old.now.trees tree) (after.trees tree)
    (Text digest ∷ Int (pos kind) ∷ Blob body ∷ [])
puts tree checks old after tally digest body kind has h =
    let params = Text digest ∷ Int (pos kind) ∷ Blob body ∷ [] in
    let db = old.now.trees in
    let command = Insert 0 (Values terms 4) in
    let text = statement_of insert_text (understood (shelf_schema tree checks) insert_text) in
    let done = went (subst (λ s. Does old.step_limit (mode_of old) params (record old.now { schema = s }) text None
    command (Ok (tally, after))) has h) in
    let now = ap (λ (p : Tally × Database). p.1) (same_value (went (went done.2).2).2) in
    let given = went done.1 in
    let written = went (went given.2).2 in
    let counted = went written.2 in
    let trees : done.0.trees ≡ written.0 = ap (λ (it : Written). it.trees) (same_value counted.2) ∙ same_value counted.1
    in
    let applied = one_step (shelf_schema tree checks) _ db written.0 (edit_of db (ops2 tree checks) [] Chosen 0 given.0)
    refl written.1 in
    let new = row_of (db tree) digest kind body in
    let edit : edited db (edit_of db (ops2 tree checks) [] Chosen 0 given.0) ≡ put_row new (db tree) =
    ap (λ all. edited db (edit_of db (ops2 tree checks) [] Chosen 0 all)) given.1.1 ∙ rw (cast_null, cast_int) refl
    in
    let news : (edit_of db (ops2 tree checks) [] Chosen 0 given.0).news ≡ new ∷ [] =
    ap (λ all. (edit_of db (ops2 tree checks) [] Chosen 0 all).news) given.1.1 ∙ rw (cast_null, cast_int) refl in
    let free : is_taken (db tree) new ≡ false = fresh_free _ (rw news at applied.fresh) in
    let rows : after.trees tree ≡ put_row new (db tree) = ap (λ (d : Database). d.trees tree) now
    ∙ ap (λ (t : Trees). t tree) trees ∙ applied.rows ∙ edit in (
      ap (λ (d : Database). d.schema) now,
      subst (λ all. IsPermutation (params ∷ entries (db tree)) (entries all))
          (sym rows) (IsPermutation-map entry_in (new ∷ db tree) (put_row new (db tree)) (put_adds new (db tree) free)),
    )
