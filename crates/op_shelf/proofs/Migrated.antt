-- What the statements of a migration write.
use Rattle.std.proofs.Common.{◌≡◌, ◌++◌, ◌+◌, ◌<◌, suc, take, take-suc, length, get_or, arith, ℕ, pos}
use Rattle.std.proofs.Common.{List, [], ◌∷◌, map, true, false, None, Ok, Err, Result, OnOk, IfErr, All}
use Rattle.std.proofs.Common.{IsPermutation, refl, sym, ap, subst, ◌∙◌}
use Rattle.std.proofs.lemmas.List.Sorted.{IsPermutation-refl, IsPermutation-trans, IsPermutation-cons}
use Rattle.std.proofs.lemmas.List.Sorted.{IsPermutation-sym, IsPermutation-map, IsPermutation-append_comm}
use Rattle.std.proofs.lemmas.List.Sorted.{All-permutation}
use Rattle.sqlite.specs.declared.types.Value.TheVariants.{Int, Text, Blob}
use Rattle.sqlite.specs.Order.{Row}
use Rattle.sqlite.specs.Source.TheVariants.{Values}
use Rattle.sqlite.specs.Command.TheVariants.{Insert, CreateTable, DropTable}
use Rattle.sqlite.specs.Change.{created, next_tree}
use Rattle.sqlite.specs.Edit.{edit_of, edited, is_taken}
use Rattle.sqlite.specs.Rowids.TheVariants.{Chosen}
use Rattle.sqlite.specs.Does.{Tally, Does, lacks_sequence}
use Rattle.sqlite.specs.Rows.{Written}
use Rattle.sqlite.specs.Term.{Term}
use Rattle.sqlite.specs.Tree.{Trees, put_row}
use Rattle.sqlite.specs.Effect.{Database}
use Rattle.sqlite.specs.Listing.{understood}
use Rattle.sqlite.specs.State.{State, mode_of, Writes, Shows, KeepsCommit, HasCleanDisk, Survives}
use Rattle.sqlite.specs.State.{IsUnchanged, ExecutesInside}
use Rattle.sqlite.specs.Store.{Ghosts}
use Rattle.sqlite.specs.Held.{Held, state}
use Rattle.sqlite.specs.declared.error.Error.{Error}
use Rattle.sqlite_tied.specs.Compute.{everything}
use Rattle.sqlite.proofs.InsideLemmas.{keeps_then}
use Rattle.sqlite.proofs.StateLemmas.{survives_then}
use Rattle.sqlite.proofs.Callers.{IsPlain, command_of, statement_of, runs_as, one_step}
use Rattle.op_shelf.specs.Entries.{entries, entry_in, Adds}
use Rattle.op_shelf.specs.Migration.{IsOlder, IsStarted, IsMoving, IsMoved, IsSwapped, IsSwap, IsMigrated, IsMigration}
use Rattle.op_shelf.specs.Older.{older_schema, both_schema, moved, pairs, IsPair}
use Rattle.op_shelf.specs.Table.{ops2, shelf_schema}
use Rattle.op_shelf.specs.Texts.{create_text, insert_text, drop_text}
use Rattle.op_shelf.proofs.Changes.{went, same_value, cast_null, cast_int, put_adds, fresh_free, row_of}
use Rattle.op_shelf.proofs.Made.{made_checks, table_is}
use Rattle.op_shelf.proofs.Texts.{terms}

create_is : (command_of (understood older_schema create_text) ≡ CreateTable)
    × (statement_of create_text (understood older_schema create_text) ≡ create_text)
unfolding understood everything
create_is = (refl, refl)

create_plain : IsPlain (understood older_schema create_text)
unfolding understood everything
create_plain = (refl, refl)

insert_is : (checks : List Term) → command_of (understood (both_schema checks) insert_text) ≡ Insert 1 (Values terms 4)
unfolding understood everything
insert_is checks = refl

insert_plain : (checks : List Term) → IsPlain (understood (both_schema checks) insert_text)
unfolding understood everything
insert_plain checks = (refl, refl)

drop_is : (checks : List Term) → command_of (understood (both_schema checks) drop_text) ≡ DropTable 0
unfolding understood everything
drop_is checks = refl

drop_plain : (checks : List Term) → IsPlain (understood (both_schema checks) drop_text)
unfolding understood everything
drop_plain checks = (refl, refl)

-- the table that is made beside the older one stands in the third tree
makes : (old : State) (after : Database) (tally : Tally) → old.now.schema ≡ older_schema
    → Does old.step_limit (mode_of old) [] old.now create_text None CreateTable (Ok (tally, after))
    → (after.schema ≡ both_schema made_checks) × (after.trees 2 ≡ [])
makes old after tally has h =
    let all = went h in
    let first = went all.1 in
    let made = first.1 in
    let both : Ok made.table ≡ Ok (ops2 0 made_checks) = sym made.defined ∙ table_is in
    let same : made.table ≡ ops2 0 made_checks = cc in
    let schema : first.0.schema ≡ both_schema made_checks = made.is ∙ ap (λ s. created s made.table) has ∙ ap
    (created older_schema) same in
    let plain : lacks_sequence first.0.schema ≡ false = ap lacks_sequence schema in
    let now : after ≡ first.0 = ap (λ (p : Tally × Database). p.1) (same_value all.2) ∙ same_value (rw plain at first.2)
    in (
      ap (λ (d : Database). d.schema) now ∙ schema,
      ap (λ (d : Database). d.trees 2) now
          ∙ subst (λ s. first.0.trees (next_tree s) ≡ []) has made.empty,
    )

pub begins : (old new : State) (r : Result ℕ Error) → IsStarted old → ExecutesInside 0 create_text [] old new r
    → OnOk r (IsMoving new [])
begins old new (Err e) started h = tt
begins old new (Ok count) started h =
    let w = subst (λ t. Writes old new None CreateTable t [] count) create_is.1 (runs_as create_text [] old new
    older_schema started.older CreateTable create_is.0 create_plain count h.0) in
    let it = makes old new.now w.tally started.older w.changed in
    record {
      inside = h.1.mode;
      checks = made_checks;
      both = it.0;
      rows =
          subst (λ (xs : List Row). IsPermutation [] (map entry_in xs)) (sym it.1) (IsPermutation-refl []);
    }

-- the INSERT within adds its entry
puts : (checks : List Term) (old : State) (after : Database) (tally : Tally) (digest body : List ℕ) (kind : ℕ)
    → old.now.schema ≡ both_schema checks
    → Does old.step_limit (mode_of old) (Text digest ∷ Int (pos kind) ∷ Blob body ∷ [])
    old.now (statement_of insert_text (understood (both_schema checks) insert_text)) None (Insert 1 (Values terms 4))
    (Ok (tally, after))
    → (after.schema ≡ both_schema checks) × Adds (old.now.trees 2) (after.trees 2) (Text digest ∷ Int (pos kind) ∷ Blob
    body ∷ [])
puts checks old after tally digest body kind has h =
    let params = Text digest ∷ Int (pos kind) ∷ Blob body ∷ [] in
    let db = old.now.trees in
    let table = ops2 2 checks in
    let command = Insert 1 (Values terms 4) in
    let text = statement_of insert_text (understood (both_schema checks) insert_text) in
    let done = went (subst (λ s. Does old.step_limit (mode_of old) params (record old.now { schema = s }) text None
    command (Ok (tally, after))) has h) in
    let now = ap (λ (p : Tally × Database). p.1) (same_value (went (went done.2).2).2) in
    let given = went done.1 in
    let written = went (went given.2).2 in
    let counted = went written.2 in
    let trees : done.0.trees ≡ written.0 = ap (λ (it : Written). it.trees) (same_value counted.2) ∙ same_value counted.1
    in
    let applied = one_step (both_schema checks) _ db written.0 (edit_of db table [] Chosen 0 given.0) refl written.1 in
    let new = row_of (db 2) digest kind body in
    let edit : edited db (edit_of db table [] Chosen 0 given.0) ≡ put_row new (db 2) =
    ap (λ all. edited db (edit_of db table [] Chosen 0 all)) given.1.1 ∙ rw (cast_null, cast_int) refl in
    let news : (edit_of db table [] Chosen 0 given.0).news ≡ new ∷ [] =
    ap (λ all. (edit_of db table [] Chosen 0 all).news) given.1.1 ∙ rw (cast_null, cast_int) refl in
    let free : is_taken (db 2) new ≡ false = fresh_free _ (rw news at applied.fresh) in
    let rows : after.trees 2 ≡ put_row new (db 2) = ap (λ (d : Database). d.trees 2) now ∙ ap (λ (t : Trees). t 2) trees
    ∙ applied.rows ∙ edit in (
      ap (λ (d : Database). d.schema) now,
      subst (λ all. IsPermutation (params ∷ entries (db 2)) (entries all))
          (sym rows) (IsPermutation-map entry_in (new ∷ db 2) (put_row new (db 2)) (put_adds new (db 2) free)),
    )

pub adds_within : (old new : State) (digest body : List ℕ) (kind : ℕ) (r : Result ℕ Error) (done : List Row)
    → IsMoving old done → ExecutesInside 0 insert_text (Text digest ∷ Int (pos kind) ∷ Blob body ∷ []) old new r
    → OnOk r (IsMoving new ((Text digest ∷ Int (pos kind) ∷ Blob body ∷ []) ∷ done))
adds_within old new digest body kind (Err e) done moving h = tt
adds_within old new digest body kind (Ok count) done moving h =
    let entry = Text digest ∷ Int (pos kind) ∷ Blob body ∷ [] in
    let checks = moving.checks in
    let w = runs_as insert_text entry old new (both_schema checks) moving.both (Insert 1 (Values terms 4))
    (insert_is checks) (insert_plain checks) count h.0 in
    let it = puts checks old new.now w.tally digest body kind moving.both w.changed in
    record {
      inside = h.1.mode;
      checks = checks;
      both = it.0;
      rows = IsPermutation-trans (entry ∷ done) (entry ∷ entries (old.now.trees 2)) (entries (new.now.trees 2))
          (IsPermutation-cons entry done (entries (old.now.trees 2)) moving.rows) it.1;
    }

-- the DROP leaves the newer table alone
drops : (checks : List Term) (old : State) (after : Database) (tally : Tally) → old.now.schema ≡ both_schema checks
    → Does old.step_limit (mode_of old) [] old.now (statement_of drop_text (understood (both_schema checks) drop_text))
    None (DropTable 0) (Ok (tally, after))
    → (after.schema ≡ shelf_schema 2 checks) × (after.trees 2 ≡ old.now.trees 2)
drops checks old after tally has h =
    let text = statement_of drop_text (understood (both_schema checks) drop_text) in
    let emptied = went (subst (λ s. Does old.step_limit (mode_of old) [] (record old.now { schema = s }) text
    None (DropTable 0) (Ok (tally, after))) has h) in
    let counted = went emptied.2 in
    let tested = went counted.2 in
    let left = went tested.2 in
    let now = ap (λ (p : Tally × Database). p.1) (same_value left.2) in
    let first : emptied.0 ≡ old.now.trees = same_value emptied.1 in
    let second : counted.0 ≡ emptied.0 = same_value counted.1 in
    let rows : left.0.trees 2 ≡ counted.0 2 = left.1.1.0 in (
      ap (λ (d : Database). d.schema) now ∙ left.1.0,
      ap (λ (d : Database). d.trees 2) now ∙ rows
          ∙ ap (λ (t : Trees). t 2) (second ∙ first),
    )

pub drops_within : (old new : State) (r : Result ℕ Error) (done : List Row) → IsMoving old done
    → ExecutesInside 0 drop_text [] old new r → OnOk r (IsMoved new done)
drops_within old new (Err e) done moving h = tt
drops_within old new (Ok count) done moving h =
    let checks = moving.checks in
    let w = runs_as drop_text [] old new (both_schema checks) moving.both (DropTable 0) (drop_is checks)
    (drop_plain checks) count h.0 in
    let it = drops checks old new.now w.tally moving.both w.changed in
    record {
      inside = h.1.mode;
      checks = checks;
      shelf = it.0;
      rows = subst (λ all. IsPermutation done (entries all))
          (sym it.1) moving.rows;
      sound = w.sound;
    }

pub halts : (sql : List ℕ) (params : Row) (old new : State) (r : Result ℕ Error) → ExecutesInside 0 sql params old new r
    → IfErr r (λ e. ExecutesInside 0 sql params old new (Err e))
halts sql params old new (Ok count) h = tt
halts sql params old new (Err e) h = h

pub swapped_by : (s m t : State) (done : List Row) → KeepsCommit s m → IsMoved m done → Shows m t m.now m.now false
    → IsSwapped s t done
swapped_by s m t done keeps moved shown = record {
  was_open = keeps.was_open shown.was_open;
  is_open = shown.is_open;
  checks = moved.checks;
  shelf = ap (λ (d : Database). d.schema) shown.now_is ∙ moved.shelf;
  rows = subst (λ (d : Database). IsPermutation done (entries (d.trees 2))) (sym shown.now_is) moved.rows;
  committed = shown.committed_is ∙ sym shown.now_is;
  alone = shown.mode;
}

pub swap_of : (m : State) (done : List Row) (trees : Trees) → IsMoved m done → trees ≡ m.now.trees → IsSwap done trees
swap_of m done trees moved is = record {
  after = m.now;
  is = is;
  sound = moved.sound;
  checks = moved.checks;
  shelf = moved.shelf;
  rows = subst (λ (t : Trees). IsPermutation done (entries (t 2))) (sym is) moved.rows;
}

pub all_done : (old new : State) (digest body : List ℕ) (kind : ℕ) (r : Result ℕ Error) → ExecutesInside 0 insert_text
    (Text digest ∷ Int (pos kind) ∷ Blob body ∷ []) old new r
    → OnOk r ((done : List Row) → IsMoving old done → IsMoving new ((Text digest ∷ Int (pos kind) ∷ Blob body ∷ [])
    ∷ done))
all_done old new digest body kind (Err e) h = tt
all_done old new digest body kind (Ok count) h = λ done moving. adds_within old new digest body kind (Ok count) done
    moving h

pub all_dropped : (old new : State) (r : Result ℕ Error) → ExecutesInside 0 drop_text [] old new r
    → OnOk r ((done : List Row) → IsMoving old done → IsMoved new done)
all_dropped old new (Err e) h = tt
all_dropped old new (Ok count) h = λ done moving. drops_within old new (Ok count) done moving h

-- one more row of those so far has become its entry
pub moving_on : (s : State) (xs : List Row) (i : ℕ) (x : Row) → i < length xs → x ≡ get_or xs i x
    → IsMoving s (moved x ∷ map moved (take i xs)) → IsMoving s (map moved (take (i + 1) xs))
moving_on s xs i x low at moving =
    let step : i + 1 ≡ suc i = omega arith in
    let is : take (i + 1) xs ≡ take i xs ++ x ∷ [] = ap (λ n. take n xs) step ∙ take-suc xs i x low
    ∙ ap (λ y. take i xs ++ y ∷ []) (sym at) in
    let turned = IsPermutation-map moved (take i xs ++ x ∷ []) (x ∷ take i xs) (IsPermutation-append_comm (take i xs)
    (x ∷ [])) in
    record {
      inside = moving.inside;
      checks = moving.checks;
      both = moving.both;
      rows = IsPermutation-trans (map moved (take (i + 1) xs)) (moved x ∷ map moved (take i xs))
          (entries (s.now.trees 2)) (subst (λ ys. IsPermutation (map moved ys) (moved x ∷ map moved (take i xs)))
          (sym is) turned) moving.rows;
    }

pub keeps_itself : (s : State) → KeepsCommit s s
keeps_itself s = record { was_open = λ h. h; committed = λ _. refl }

-- of two steps within a transaction
pub kept_then : (a b c : State) → (HasCleanDisk b → KeepsCommit a b) → Survives b c (λ _. ⊥)
    → (HasCleanDisk c → KeepsCommit b c) → HasCleanDisk c → KeepsCommit a c
kept_then a b c one step two clean = keeps_then a b c (one (omega (arith, step.clean, clean))) (two clean)

pub crash_then : (a b c : State) → Survives a b (λ _. ⊥) → Survives b c (λ _. ⊥) → Survives a c (λ _. ⊥)
crash_then a b c one two = survives_then a b c _ _ (λ _. ⊥) (λ _ db none. none) (λ _ db none. none) one two

-- the rows that were shown are those of the table
pub migrated_by : (s m t : State) (rows : List Row) → IsUnchanged s m → IsPermutation (pairs (s.now.trees 0)) rows
    → All IsPair rows → IsSwapped m t (map moved rows) → IsMigrated s t
migrated_by s m t rows same shown all swapped = record {
  lawful = All-permutation IsPair rows (pairs (s.now.trees 0)) (IsPermutation-sym (pairs (s.now.trees 0)) rows shown)
      all;
  swapped = record {
    was_open = same.0.was_open;
    is_open = swapped.is_open;
    checks = swapped.checks;
    shelf = swapped.shelf;
    rows = IsPermutation-trans (map moved (pairs (s.now.trees 0))) (map moved rows) (entries (t.now.trees 2))
        (IsPermutation-map moved (pairs (s.now.trees 0)) rows shown) swapped.rows;
    committed = swapped.committed;
    alone = swapped.alone;
  };
}

pub migration_of : (s : State) (rows : List Row) (trees : Trees) → IsPermutation (pairs (s.now.trees 0)) rows
    → All IsPair rows → IsSwap (map moved rows) trees → IsMigration s trees
migration_of s rows trees shown all swap = record {
  lawful = All-permutation IsPair rows (pairs (s.now.trees 0)) (IsPermutation-sym (pairs (s.now.trees 0)) rows shown)
      all;
  swap = record {
    after = swap.after;
    is = swap.is;
    sound = swap.sound;
    checks = swap.checks;
    shelf = swap.shelf;
    rows = IsPermutation-trans (map moved (pairs (s.now.trees 0))) (map moved rows) (entries (trees 2))
        (IsPermutation-map moved (pairs (s.now.trees 0)) rows shown) swap.rows;
  };
}

pub older_then : (s m : State) → IsOlder s → IsUnchanged s m → IsOlder m
older_then s m older same = record {
  older = ap (λ (d : Database). d.schema) same.0.now_is ∙ older.older;
  alone = same.0.mode ∙ older.alone;
  settled = λ up. same.0.now_is ∙ older.settled same.0.was_open ∙ sym same.0.committed_is;
}

-- `transaction` does nothing to what is committed
pub keeps_begin : {S : Type 0} (g : Ghosts S) (old : Held S) (new : State)
    → KeepsCommit (state g (record old { in_transaction = true })) new → KeepsCommit (state g old) new
keeps_begin g old new kept = record { was_open = kept.was_open; committed = kept.committed }
