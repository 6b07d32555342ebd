-- A look and then a put.
use Rattle.std.proofs.Common.{◌≡◌, ◌<◌, inl, inr, ℕ, List, [], ◌∷◌, length, All, Contains, IsTrue, IsPermutation}
use Rattle.std.proofs.Common.{Result, Ok, Err, OnOk}
use Rattle.std.proofs.Common.{refl, sym, ap, subst, ◌∙◌, le_refl, arith}
use Rattle.std.specs.Ordering.{is_eq}
use Rattle.std.proofs.lemmas.List.Sorted.{IsPermutation-sym, Contains-permutation, All-permutation}
use Rattle.sqlite.specs.Order.{Row, column, value_cmp}
use Rattle.sqlite.specs.declared.types.Value.TheVariants.{Text}
use Rattle.sqlite.specs.Tree.{Trees}
use Rattle.sqlite.specs.Effect.{Database}
use Rattle.sqlite.specs.State.{State, HasCleanDisk, IsUnchanged, Survives}
use Rattle.sqlite.proofs.StateLemmas.{survives_then, survives_weaker}
use Rattle.op_shelf.specs.Entries.{IsWhole, entries}
use Rattle.op_shelf.specs.States.{rows_of, rows_left, tree_in, apart, under, IsBare, IsMade, IsReady, IsReplaced, IsKnown}
use Rattle.op_shelf.specs.States.{KeepsAll, Mends, Replaces, Spares, MayBecome}
use Rattle.op_shelf.specs.Migration.{IsOlder, IsMigrated, IsMigration}
use Rattle.op_shelf.specs.Table.{IsShelf}
use Rattle.op_shelf.proofs.Ops.{first_is, kept_was}

pub spares_keeps : (s t : State) → IsReady s → Spares s t → KeepsAll s t
spares_keeps s t ready (inl same) = λ up. (same.0.was_open, same.0.now_is)
spares_keeps s t ready (inr back) = λ up. (
  back.was_open up,
  (back.undone up).0
      ∙ sym (ready.settled (back.was_open up)),
)

pub bare_keeps : (s t : State) → IsBare s → Spares s t → KeepsAll s t
bare_keeps s t bare (inl same) = λ up. (same.0.was_open, same.0.now_is)
bare_keeps s t bare (inr back) = λ up. (back.was_open up, (back.undone up).0 ∙ sym (bare.settled (back.was_open up)))

pub older_keeps : (s t : State) → IsOlder s → Spares s t → KeepsAll s t
older_keeps s t older (inl same) = λ up. (same.0.was_open, same.0.now_is)
older_keeps s t older (inr back) = λ up. (back.was_open up, (back.undone up).0 ∙ sym (older.settled (back.was_open up)))

pub ready_then : (s t : State) → IsReady s → IsUnchanged s t → IsReady t
ready_then s t ready same = record {
  shelf = subst (λ (d : Database). IsShelf d.schema) (sym same.0.now_is) ready.shelf;
  alone = same.0.mode ∙ ready.alone;
  settled = λ up. same.0.now_is ∙ ready.settled same.0.was_open ∙ sym same.0.committed_is;
}

-- what is open afterwards is ready, as it was
pub spares_ready : (s t : State) → IsReady s → Spares s t → IsTrue t.is_open → IsReady t
spares_ready s t ready (inl same) up = ready_then s t ready same
spares_ready s t ready (inr back) up =
    let settled = ready.settled (back.was_open up) in
    let now = (back.undone up).0 ∙ sym settled in
    record {
      shelf = subst (λ (d : Database). IsShelf d.schema) (sym now) ready.shelf;
      alone = back.autocommit;
      settled = λ _. (back.undone up).0 ∙ sym (back.undone up).1;
    }

pub made_ready : (s t : State) → IsMade s t → IsReady t
made_ready s t made = record { shelf = made.shelf; alone = made.alone; settled = λ _. sym made.committed }

pub migrated_ready : (s t : State) → IsMigrated s t → IsReady t
migrated_ready s t it = record {
  shelf = (2, inr refl, it.swapped.checks, it.swapped.shelf);
  alone = it.swapped.alone;
  settled = λ _. sym it.swapped.committed;
}

pub ready_after : {A E : Type 0} (s t : State) (r : Result A E) → OnOk r (IsMigrated s t) → OnOk r (IsReady t)
ready_after s t (Ok a) it = migrated_ready s t it
ready_after s t (Err e) it = tt

pub keeps_then : (s m t : State) → IsUnchanged s m → KeepsAll m t → KeepsAll s t
keeps_then s m t same keeps = λ up. (same.0.was_open, (keeps up).1 ∙ same.0.now_is)

pub known_from : (s t : State) (digest : List ℕ) (entry : Row) (rows : List Row)
    → IsPermutation (under digest (rows_of s)) rows → 0 < length rows → All (λ e. e ≡ entry) rows → IsUnchanged s t
    → IsKnown s t digest entry
known_from s t digest entry rows found some all same =
    let back = IsPermutation-sym (under digest (rows_of s)) rows found in
    let test = λ (e : Row). is_eq (value_cmp (column e 0) (Text digest)) in
    record {
      held = kept_was test (entries (rows_of s)) entry (Contains-permutation rows (under digest (rows_of s)) entry
          back (first_is entry rows some all));
      alone = All-permutation (λ e. e ≡ entry) rows (under digest (rows_of s)) back all;
      same = same;
    }

pub replaced_after : (s m t : State) (digest : List ℕ) (entry : Row) → IsUnchanged s m → IsReplaced m t digest entry
    → IsReplaced s t digest entry
replaced_after s m t digest entry same it = record {
  was_open = same.0.was_open;
  is_open = it.is_open;
  schema = it.schema ∙ ap (λ (d : Database). d.schema) same.0.now_is;
  rows = subst (λ (d : Database). Replaces digest entry (entries (d.trees (tree_in d.schema))) (entries (rows_of t)))
      same.0.now_is it.rows;
  committed = it.committed;
  alone = it.alone;
}

-- no call was made
pub survives_none : (s : State) (P : Trees → Type 0) → Survives s s P
survives_none s P = record {
  clean = le_refl _;
  shield = λ up. up;
  counts = le_refl _;
  limit = refl;
  closes =
      λ _ up. inl up;
  crash = λ _ db may. inl may;
}

-- what a crash may find of an open
pub survives_bare : (s t : State) → IsBare s → Survives s t (λ trees. trees 0 ≡ []) → Survives s t (MayBecome s)
survives_bare s t bare h = survives_weaker s t (λ trees. trees 0 ≡ []) (MayBecome s) (λ _ db empty. inl (bare, empty)) h

pub survives_older : (s t : State) → IsOlder s → Survives s t (IsMigration s) → Survives s t (MayBecome s)
survives_older s t older h = survives_weaker s t (IsMigration s) (MayBecome s) (λ _ db it. inr (older, it)) h

-- what a crash finds after a look and a put
pub survives_put : (s m t : State) (digest : List ℕ) (entry : Row) → (HasCleanDisk m → IsUnchanged s m)
    → (HasCleanDisk m → All (λ e. ¬ IsWhole e) (under digest (rows_of s))) → Survives s m (λ _. ⊥)
    → Survives m t (λ trees. Replaces digest entry (entries (rows_of m)) (entries (rows_left m trees)))
    → Survives s t (λ trees. Mends digest entry (entries (rows_of s)) (entries (rows_left s trees)))
survives_put s m t digest entry same spoiled one two =
    survives_then s m t (λ _. ⊥) (λ trees. Replaces digest entry (entries (rows_of m)) (entries (rows_left m trees)))
    (λ trees. Mends digest entry (entries (rows_of s)) (entries (rows_left s trees))) (λ _ db none. absurd none)
    (λ clean db replaces.
    let early : HasCleanDisk m = omega (arith, two.clean, clean) in
    record {
      spoiled = spoiled early;
      rows = subst (λ (d : Database). Replaces digest entry (entries (d.trees (tree_in d.schema)))
          (entries (db (tree_in d.schema)))) (same early).0.now_is replaces;
    }) one two

-- every crash leaves what was committed
module _ (s t : State) (entry : Row) (settled : (db : Trees) → IsTrue t.is_open → t.may_leave db
    → db ≡ t.committed.trees) where
  left_of : IsTrue t.is_open → t.committed ≡ t.now → Contains (entries (rows_of t)) entry → (trees : Trees)
      → t.may_leave trees → Contains (entries (rows_left t trees)) entry
  left_of up is held trees may =
      let same : trees ≡ t.now.trees = settled trees up may ∙ ap (λ (d : Database). d.trees) is in
      subst (λ (x : Trees). Contains (entries (rows_left t x)) entry) (sym same) held

  pub lasts_known : (digest : List ℕ) → IsReady s → IsKnown s t digest entry → (trees : Trees) → t.may_leave trees
      → Contains (entries (rows_left t trees)) entry
  lasts_known digest ready it =
      left_of it.same.0.is_open (it.same.0.committed_is ∙ sym (ready.settled it.same.0.was_open) ∙ sym it.same.0.now_is)
      (subst (λ (d : Database). Contains (entries (d.trees (tree_in d.schema))) entry) (sym it.same.0.now_is) it.held)

  pub lasts_replaced : (digest : List ℕ) → IsReplaced s t digest entry → (trees : Trees) → t.may_leave trees
      → Contains (entries (rows_left t trees)) entry
  lasts_replaced digest it = left_of it.is_open it.committed
      (Contains-permutation (entry ∷ apart digest (entries (rows_of s))) (entries (rows_of t)) entry it.rows
      (0, omega arith, refl))
