-- Puts of a group.
use Rattle.std.proofs.Common.{◌≡◌, ◌⊎◌, ◌++◌, ◌<◌, ◌+◌, inl, inr, suc, pos, ℕ, ℤ, List, [], ◌∷◌, false, true, Ok, Err}
use Rattle.std.proofs.Common.{Result, IfOk, OnOk, IfErr, IsPermutation, IsSome, All, Contains, IsTrue}
use Rattle.std.proofs.Common.{length, take, drop, get_or, take-suc, append_assoc, refl, sym, ap, subst, subst₂, ◌∙◌}
use Rattle.std.proofs.Common.{arith, map, Bool, cond, not}
use Rattle.std.proofs.lemmas.List.{take-append-drop}
use Rattle.std.proofs.lemmas.List.Elements.{All-cons}
use Rattle.std.proofs.lemmas.List.Sorted.{Contains-permutation, length_permutation}
use Rattle.sqlite.specs.declared.types.Value.TheVariants.{Int, Text, Blob}
use Rattle.sqlite.specs.declared.error.Error.{Error}
use Rattle.sqlite.specs.Order.{Row, column, value_cmp}
use Rattle.sqlite_value.proofs.OrderLemmas.{value_cmp_total}
use Rattle.sqlite_rules.specs.Lists.{Has}
use Rattle.sqlite_rules.proofs.ListLemmas.{has_filtered, has_kept}
use Rattle.std.specs.Cmp.{tied_itself}
use Rattle.std.specs.Ordering.{is_eq}
use Rattle.sqlite.specs.Source.TheVariants.{Values}
use Rattle.sqlite.specs.Command.TheVariants.{Insert}
use Rattle.sqlite.specs.Effect.{Database}
use Rattle.sqlite.specs.Held.{Held, state}
use Rattle.sqlite.specs.Store.{Ghosts}
use Rattle.sqlite.specs.Tree.{Trees}
use Rattle.sqlite.specs.Listing.{understood}
use Rattle.sqlite.specs.State.{State, Shows, KeepsCommit, IsUnchanged, IsRolledBack, ExecutesInside, FailsToQuery}
use Rattle.sqlite.specs.State.{IsTooLate}
use Rattle.sqlite.proofs.Callers.{IsPlain, one_permutation, runs_as}
use Rattle.operation.specs.declared.op.Op.{Op}
use Rattle.op_shelf.specs.declared.fault.ShelfFault.{ShelfFault}
use Rattle.op_shelf.specs.declared.kept.Kept.{Kept}
use Rattle.op_shelf.specs.declared.kept.Kept.TheVariants.{New, Known}
use Rattle.op_shelf.specs.Entries.{IsWhole, entries, entry_in, entry_of, digest_text, Adds, Holds}
use Rattle.op_shelf.specs.States.{rows_of, rows_left, tree_in, apart, under, Replaces, Spares, IsKnown, IsReady}
use Rattle.op_shelf.specs.States.{IsReplaced, KeepsAll, HasOther}
use Rattle.op_shelf.specs.Group.{Puts, PutsAll, IsPutAll, MayHaveAll, IsFilling, HasAdded, HasCleared, HasMended, HasPut}
use Rattle.op_shelf.specs.Group.{HasReplaced, IsSole, FindsOther, rows_at, rows_under, shown_id}
use Rattle.op_shelf.specs.Table.{shelf_schema, IsShelf}
use Rattle.op_shelf.specs.Texts.{delete_text, insert_text}
use Rattle.op_shelf.proofs.Back.{query_spares}
use Rattle.op_shelf.proofs.Changes.{puts}
use Rattle.op_shelf.proofs.Deletes.{deletes}
use Rattle.op_shelf.proofs.Ops.{still_apart, whole_entry}
use Rattle.op_shelf.proofs.Texts.{delete_command, delete_is, insert_is, insert_plain, terms}

-- a query that writes nothing is not too late
pub query_within : (sql : List ℕ) (params : Row) (old new : State) (e : Error) → IsPlain (understood old.now.schema sql)
    → FailsToQuery sql params old new e ⊎ IsTooLate sql params old new e → FailsToQuery sql params old new e
query_within sql params old new e plain (inl fails) = fails
query_within sql params old new e plain (inr late) =
    let none = (subst IsPlain late.1.is plain).0 in
    let some : false ≡ true = subst IsSome none late.2 in
    absurd cc

pub same_keeps : (s t : State) → IsUnchanged s t → KeepsCommit s t
same_keeps s t same = record { was_open = λ _. same.0.was_open; committed = λ _. same.0.committed_is }

pub spares_commit : (s t : State) → Spares s t → KeepsCommit s t
spares_commit s t (inl same) = same_keeps s t same
spares_commit s t (inr back) = record { was_open = back.was_open; committed = λ up. (back.undone up).1 }

pub queried_keeps : {A : Type 0} (sql : List ℕ) (params : Row) (old new : State) (r : Result A Error)
    → IsPlain (understood old.now.schema sql) → OnOk r (IsUnchanged old new)
    → IfErr r (FailsToQuery sql params old new) → KeepsCommit old new
queried_keeps sql params old new (Ok rows) plain same fails = same_keeps old new same
queried_keeps sql params old new (Err e) plain same fails = spares_commit old new
    (query_spares sql params old new e plain fails)

-- the INSERT within adds its entry
pub added_within : (old new : State) (digest body : List ℕ) (kind : ℕ) (r : Result ℕ Error) → IsFilling old
    → ExecutesInside 0 insert_text (Text digest ∷ Int (pos kind) ∷ Blob body ∷ []) old new r
    → OnOk r (HasAdded old new (Text digest ∷ Int (pos kind) ∷ Blob body ∷ []))
added_within old new digest body kind (Err e) filling h = tt
added_within old new digest body kind (Ok count) filling h =
    let tree = filling.shelf.0 in
    let checks = filling.shelf.2 in
    let has = filling.shelf.3 in
    let params = Text digest ∷ Int (pos kind) ∷ Blob body ∷ [] in
    let w = runs_as insert_text params old new (shelf_schema tree checks) has (Insert 0 (Values terms 4))
    (insert_is tree checks) (insert_plain tree checks) count h.0 in
    let it = puts tree checks old new.now w.tally digest body kind has w.changed in
    record {
      inside = h.1.mode;
      schema = it.0 ∙ sym has;
      rows = subst (λ n. Adds (old.now.trees n) (new.now.trees (tree_in new.now.schema)) params) (sym (ap tree_in has))
          (subst (λ n. Adds (old.now.trees tree) (new.now.trees n) params) (sym (ap tree_in it.0)) it.1);
    }

pub filling_same : (s t : State) → IsFilling s → IsUnchanged s t → IsFilling t
filling_same s t filling same = record {
  inside = subst IsTrue (sym same.0.mode) filling.inside;
  shelf = subst (λ (d : Database). IsShelf d.schema) (sym same.0.now_is) filling.shelf;
}

first_same : {x y : Row} → y ∷ [] ≡ x ∷ [] → x ≡ y
first_same e = sym cc

all_apart : (digest : List ℕ) (rows : List Row) → map shown_id (rows_under digest rows) ≡ []
    → apart digest (entries rows) ≡ entries rows
all_apart digest [] none = refl
all_apart digest (r ∷ rows) none = step (is_eq (value_cmp (column r 1) (Text digest))) none (all_apart digest rows)
  where
    step : (b : Bool) → map shown_id (cond b (r ∷ rows_under digest rows) (rows_under digest rows)) ≡ []
        → (map shown_id (rows_under digest rows) ≡ [] → apart digest (entries rows) ≡ entries rows)
        → cond (not b) (entry_in r ∷ apart digest (entries rows)) (apart digest (entries rows)) ≡ entry_in r ∷ entries rows
    step true e later = absurd cc
    step false e later = ap (λ es. entry_in r ∷ es) (later e)

-- the DELETE within takes out what is under its digest
pub cleared_within : (old new : State) (digest : List ℕ) (r : Result ℕ Error) → (filling : IsFilling old)
    → (id : ℤ) × IsSole digest id (rows_of old)
    → ExecutesInside 0 delete_text (Text digest ∷ []) old new r → OnOk r (HasCleared old new digest)
cleared_within old new digest (Err e) filling sole h = tt
cleared_within old new digest (Ok count) filling sole h =
    let tree = filling.shelf.0 in
    let checks = filling.shelf.2 in
    let has = filling.shelf.3 in
    let it = delete_is tree checks filling.shelf.1 in
    let w = runs_as delete_text (Text digest ∷ []) old new (shelf_schema tree checks) has (delete_command tree) it.is
    it.plain count h.0 in
    let here = subst (λ n. IsSole digest sole.0 (old.now.trees n)) (ap tree_in has) sole.1 in
    let done = deletes tree checks filling.shelf.1 old new.now w.tally digest sole.0 has here w.changed in
    record {
      inside = h.1.mode;
      schema = done.0 ∙ sym has;
      rows = subst (λ n. entries (new.now.trees (tree_in new.now.schema)) ≡ apart digest (entries (old.now.trees n)))
          (sym (ap tree_in has))
          (subst (λ n. entries (new.now.trees n) ≡ apart digest (entries (old.now.trees tree))) (sym (ap tree_in done.0))
          done.1);
    }

-- what is under a digest is one row that alone has its rowid, by what two queries show
pub sole_of : (digest : List ℕ) (id : ℤ) (rows : List Row)
    → IsPermutation (map shown_id (rows_under digest rows)) ((Int id ∷ []) ∷ [])
    → length (rows_at id rows) ≡ 1 → IsSole digest id rows
sole_of digest id rows shown one = by (rows_under digest rows) refl shown
  where
    test : Row → Bool
    test r = is_eq (value_cmp (column r 1) (Text digest))

    alone : (row : Row) (ps : List Row) → length ps ≡ 1 → Has ps row → ps ≡ row ∷ []
    alone row [] long here = absurd here
    alone row (p ∷ []) long (inl same) = ap (λ x. x ∷ []) (sym same)
    alone row (p ∷ []) long (inr none) = absurd none
    alone row (p ∷ q ∷ ps) long here = absurd (omega (arith, long))

    by : (ps : List Row) → rows_under digest rows ≡ ps → IsPermutation (map shown_id ps) ((Int id ∷ []) ∷ [])
        → IsSole digest id rows
    by [] is same = absurd (omega (arith, length_permutation [] ((Int id ∷ []) ∷ []) same))
    by (p ∷ q ∷ ps) is same = absurd (omega (
      arith,
      length_permutation (map shown_id (p ∷ q ∷ ps))
          ((Int id ∷ []) ∷ []) same,
    ))
    by (p ∷ []) is same =
        let both : shown_id p ≡ Int id ∷ [] = first_same (one_permutation (shown_id p) ((Int id ∷ []) ∷ []) same) in
        let rowid : column p 0 ≡ Int id = ap (λ r. column r 0) both in
        let here = has_filtered test rows p (subst (λ rs. Has rs p) (sym is) (inl refl)) in
        let own : is_eq (value_cmp (column p 0) (Int id)) ≡ true = subst (λ v. is_eq (value_cmp v (Int id)) ≡ true)
        (sym rowid) (ap is_eq (tied_itself value_cmp_total (Int id))) in
        record {
          row = p;
          under = is;
          rowid = rowid;
          alone = alone p (rows_at id rows) one
              (has_kept (λ r. is_eq (value_cmp (column r 0) (Int id))) rows p here.0 own);
        }

pub sole_same : (s t : State) (digest : List ℕ) (id : ℤ) → IsUnchanged s t → IsSole digest id (rows_of s)
    → IsSole digest id (rows_of t)
sole_same s t digest id same sole = subst (λ (d : Database). IsSole digest id (d.trees (tree_in d.schema)))
    (sym same.0.now_is) sole

-- where nothing is under a digest, nothing is taken out
pub none_cleared : (s t : State) (digest : List ℕ) → IsFilling s → IsUnchanged s t
    → map shown_id (rows_under digest (rows_of s)) ≡ [] → HasCleared s t digest
none_cleared s t digest filling same none = record {
  inside = subst IsTrue (sym same.0.mode) filling.inside;
  schema = ap (λ (d : Database). d.schema) same.0.now_is;
  rows = ap (λ (d : Database). entries (d.trees (tree_in d.schema))) same.0.now_is
      ∙ sym (all_apart digest (rows_of s) none);
}

pub cleared_after : (s m t : State) (digest : List ℕ) → IsUnchanged s m → HasCleared m t digest → HasCleared s t digest
cleared_after s m t digest same it = record {
  inside = it.inside;
  schema = it.schema ∙ ap (λ (d : Database). d.schema) same.0.now_is;
  rows = subst (λ (d : Database). entries (rows_of t) ≡ apart digest (entries (d.trees (tree_in d.schema))))
      same.0.now_is it.rows;
}

-- then the INSERT
pub replaced_within : (s m t : State) (digest : List ℕ) (entry : Row) → HasCleared s m digest → HasAdded m t entry
    → HasReplaced s t digest entry
replaced_within s m t digest entry cleared added = record {
  inside = added.inside;
  schema = added.schema ∙ cleared.schema;
  rows = subst (λ es. IsPermutation (entry ∷ es) (entries (rows_of t))) cleared.rows added.rows;
}

pub cleared_filling : (s t : State) (digest : List ℕ) → IsFilling s → HasCleared s t digest → IsFilling t
cleared_filling s t digest filling cleared = record {
  inside = cleared.inside;
  shelf = subst IsShelf (sym cleared.schema) filling.shelf;
}

-- behind a look
pub mended_within : (s m t : State) (digest : List ℕ) (entry : Row) → IsUnchanged s m
    → All (λ e. ¬ IsWhole e) (under digest (rows_of s)) → HasReplaced m t digest entry → HasMended s t digest entry
mended_within s m t digest entry same spoiled it = record {
  spoiled = spoiled;
  added = record {
    inside = it.inside;
    schema = it.schema ∙ ap (λ (d : Database). d.schema) same.0.now_is;
    rows = subst (λ (d : Database). Replaces digest entry (entries (d.trees (tree_in d.schema))) (entries (rows_of t)))
        same.0.now_is it.rows;
  };
}

-- what was put alone is committed
pub replaced_by : (s m t : State) (digest : List ℕ) (entry : Row) → KeepsCommit s m → HasReplaced s m digest entry
    → Shows m t m.now m.now false → IsReplaced s t digest entry
replaced_by s m t digest entry keeps put shown = record {
  was_open = keeps.was_open shown.was_open;
  is_open = shown.is_open;
  schema = ap (λ (d : Database). d.schema) shown.now_is ∙ put.schema;
  rows = subst (λ (d : Database). Replaces digest entry (entries (rows_of s)) (entries (d.trees (tree_in d.schema))))
      (sym shown.now_is) put.rows;
  committed = shown.committed_is ∙ sym shown.now_is;
  alone = shown.mode;
}

pub may_replace : (s m : State) (digest : List ℕ) (entry : Row) (trees : Trees) → HasReplaced s m digest entry
    → trees ≡ m.now.trees → Replaces digest entry (entries (rows_of s)) (entries (rows_left s trees))
may_replace s m digest entry trees put is = subst₂ (λ (x : Trees) n. Replaces digest entry (entries (rows_of s))
    (entries (x n))) (sym is) (ap tree_in put.schema) put.rows

pub replaced_begin : {S : Type 0} (g : Ghosts S) (old : Held S) (new : State) (digest : List ℕ) (entry : Row)
    → HasReplaced (state g (record old { in_transaction = true })) new digest entry
    → HasReplaced (state g old) new digest entry
replaced_begin g old new digest entry put = record { inside = put.inside; schema = put.schema; rows = put.rows }

pub replaced_ready : (s t : State) (digest : List ℕ) (entry : Row) → IsReady s → IsReplaced s t digest entry → IsReady t
replaced_ready s t digest entry ready put = record {
  shelf = subst IsShelf (sym put.schema) ready.shelf;
  alone = put.alone;
  settled = λ _. sym put.committed;
}

-- what was put of the group by one put
pub put_new : (s t : State) (op : Op) → HasMended s t (digest_text op) (entry_of op) → HasPut s t (op ∷ []) (New ∷ [])
put_new s t op it = record {
  inside = it.added.inside;
  schema = it.added.schema;
  rows = (entries (rows_of t), record { spoiled = it.spoiled; rows = it.added.rows }, refl);
}

pub put_known : (s t : State) (op : Op) → IsTrue s.in_transaction → IsKnown s t (digest_text op) (entry_of op)
    → HasPut s t (op ∷ []) (Known ∷ [])
put_known s t op inside known = record {
  inside = subst IsTrue (sym known.same.0.mode) inside;
  schema = ap (λ (d : Database). d.schema) known.same.0.now_is;
  rows = (
    entries (rows_of t),
    (known.held, known.alone, ap (λ (d : Database). entries (d.trees (tree_in d.schema))) known.same.0.now_is),
    refl,
  );
}

pub put_one : (s t : State) (op : Op) (r : Result Kept ShelfFault) → IsTrue s.in_transaction
    → (r ≡ Ok New → HasMended s t (digest_text op) (entry_of op))
    → (r ≡ Ok Known → IsKnown s t (digest_text op) (entry_of op))
    → IfOk r (λ kept. HasPut s t (op ∷ []) (kept ∷ []))
put_one s t op (Ok New) inside new known = put_new s t op (new refl)
put_one s t op (Ok Known) inside new known = put_known s t op inside (known refl)
put_one s t op (Err e) inside new known = tt

pub filling_then : (s t : State) (ops : List Op) (kepts : List Kept) → IsFilling s → HasPut s t ops kepts → IsFilling t
filling_then s t ops kepts filling put = record {
  inside = put.inside;
  shelf = subst IsShelf (sym put.schema) filling.shelf;
}

-- one part of a group, and then another
puts_then : (a b c : List Row) (xs ys : List Op) (js ks : List Kept) → PutsAll a xs js b → PutsAll b ys ks c
    → PutsAll a (xs ++ ys) (js ++ ks) c
puts_then a b c [] ys [] ks one two = subst (λ r. PutsAll r ys ks c) one two
puts_then a b c [] ys (j ∷ js) ks one two = absurd one
puts_then a b c (x ∷ xs) ys [] ks one two = absurd one
puts_then a b c (x ∷ xs) ys (j ∷ js) ks one two = (one.0, one.1, puts_then one.0 b c xs ys js ks one.2 two)

pub put_none : (s : State) → IsTrue s.in_transaction → HasPut s s [] []
put_none s inside = record { inside = inside; schema = refl; rows = refl }

pub put_then : (s m t : State) (xs ys : List Op) (js ks : List Kept) → HasPut s m xs js → HasPut m t ys ks
    → HasPut s t (xs ++ ys) (js ++ ks)
put_then s m t xs ys js ks one two = record {
  inside = two.inside;
  schema = two.schema ∙ one.schema;
  rows = puts_then (entries (rows_of s)) (entries (rows_of m)) (entries (rows_of t)) xs ys js ks one.rows two.rows;
}

-- one more of those so far
pub one_more : (s m t : State) (ops : List Op) (i : ℕ) (op : Op) (js : List Kept) (kept : Kept) → i < length ops
    → op ≡ get_or ops i op → HasPut s m (take i ops) js → HasPut m t (op ∷ []) (kept ∷ [])
    → HasPut s t (take (i + 1) ops) (js ++ kept ∷ [])
one_more s m t ops i op js kept low at one two =
    let step : i + 1 ≡ suc i = omega arith in
    let is : take (i + 1) ops ≡ take i ops ++ op ∷ [] = ap (λ n. take n ops) step ∙ take-suc ops i op low
    ∙ ap (λ y. take i ops ++ y ∷ []) (sym at) in
    subst (λ xs. HasPut s t xs (js ++ kept ∷ [])) (sym is) (put_then s m t (take i ops) (op ∷ []) js (kept ∷ []) one
    two)

-- the one that found another entry, in its turn
pub other_at : (s m : State) (ops : List Op) (i : ℕ) (op : Op) (js : List Kept) → i < length ops
    → op ≡ get_or ops i op → HasPut s m (take i ops) js → HasOther (rows_of m) (digest_text op) (entry_of op)
    → FindsOther s ops
other_at s m ops i op js low at put other =
    let is : take (suc i) ops ≡ take i ops ++ op ∷ [] = take-suc ops i op low
    ∙ ap (λ y. take i ops ++ y ∷ []) (sym at) in
    let whole : (take i ops ++ op ∷ []) ++ drop (suc i) ops ≡ ops = ap (λ xs. xs ++ drop (suc i) ops) (sym is)
    ∙ take-append-drop (suc i) ops in
    record {
      before = take i ops;
      op = op;
      behind = drop (suc i) ops;
      group = sym whole ∙ append_assoc (take i ops) (op ∷ []) (drop (suc i) ops);
      kepts = js;
      held = entries (rows_of m);
      put = put.rows;
      other = other;
    }

-- what was put is committed
pub committed_by : (s m t : State) (ops : List Op) (kepts : List Kept) → KeepsCommit s m → HasPut s m ops kepts
    → Shows m t m.now m.now false → IsPutAll s t ops kepts
committed_by s m t ops kepts keeps put shown = record {
  was_open = keeps.was_open shown.was_open;
  is_open = shown.is_open;
  schema = ap (λ (d : Database). d.schema) shown.now_is ∙ put.schema;
  rows = subst (λ (d : Database). PutsAll (entries (rows_of s)) ops kepts (entries (d.trees (tree_in d.schema))))
      (sym shown.now_is) put.rows;
  committed = shown.committed_is ∙ sym shown.now_is;
  alone = shown.mode;
}

pub may_have_all : (s m : State) (ops : List Op) (kepts : List Kept) (trees : Trees) → HasPut s m ops kepts
    → trees ≡ m.now.trees → MayHaveAll s ops trees
may_have_all s m ops kepts trees put is = (
  kepts,
  subst₂ (λ (x : Trees) n. PutsAll (entries (rows_of s)) ops kepts (entries (x n))) (sym is) (ap tree_in put.schema)
      put.rows,
)

-- what was rolled back is as it was
pub back_keeps : (s m t : State) → IsReady s → KeepsCommit s m → IsRolledBack m t → KeepsAll s t
back_keeps s m t ready keeps back up =
    let mid = back.was_open up in (
      keeps.was_open mid,
      (back.undone up).0 ∙ keeps.committed mid ∙ sym (ready.settled (keeps.was_open mid)),
    )

-- what is held, and has the bytes of its digest, is held by what comes after
pub holds_on : (a b : List Row) (ops : List Op) (kepts : List Kept) → PutsAll a ops kepts b → (entry : Row)
    → IsWhole entry → Contains a entry → Contains b entry
holds_on a b [] [] put entry whole held = subst (λ r. Contains r entry) (sym put) held
holds_on a b [] (k ∷ ks) put entry whole held = absurd put
holds_on a b (op ∷ ops) [] put entry whole held = absurd put
holds_on a b (op ∷ ops) (New ∷ ks) put entry whole held =
    let there = still_apart (digest_text op) a entry put.1.spoiled whole held in
    holds_on put.0 b ops ks put.2 entry whole
    (Contains-permutation (entry_of op ∷ apart (digest_text op) a) put.0 entry put.1.rows
    (suc there.0, omega (arith, there.1), there.2))
holds_on a b (op ∷ ops) (Known ∷ ks) put entry whole held = holds_on put.0 b ops ks put.2 entry whole
    (subst (λ r. Contains r entry) (sym put.1.2) held)

held_one : (a b : List Row) (op : Op) (kept : Kept) → Puts a op kept b → Contains b (entry_of op)
held_one a b op New put = Contains-permutation (entry_of op ∷ apart (digest_text op) a) b (entry_of op) put.rows
    (0, omega arith, refl)
held_one a b op Known put = subst (λ r. Contains r (entry_of op)) (sym put.2) put.0

-- each of the group is there
pub all_held : (a b : List Row) (ops : List Op) (kepts : List Kept) → PutsAll a ops kepts b
    → All (λ op. Contains b (entry_of op)) ops
all_held a b [] [] put = λ k d low. absurd (omega (arith, low))
all_held a b [] (k ∷ ks) put = absurd put
all_held a b (op ∷ ops) [] put = absurd put
all_held a b (op ∷ ops) (kept ∷ ks) put =
    All-cons (λ op. Contains b (entry_of op)) op ops
    (holds_on put.0 b ops ks put.2 (entry_of op) (whole_entry op) (held_one a put.0 op kept put.1))
    (all_held put.0 b ops ks put.2)

-- `transaction` does nothing to what is there
pub put_begin : {S : Type 0} (g : Ghosts S) (old : Held S) (new : State) (ops : List Op) (kepts : List Kept)
    → HasPut (state g (record old { in_transaction = true })) new ops kepts → HasPut (state g old) new ops kepts
put_begin g old new ops kepts put = record { inside = put.inside; schema = put.schema; rows = put.rows }

pub other_begin : {S : Type 0} (g : Ghosts S) (old : Held S) (ops : List Op)
    → FindsOther (state g (record old { in_transaction = true })) ops → FindsOther (state g old) ops
other_begin g old ops it = record {
  before = it.before;
  op = it.op;
  behind = it.behind;
  group = it.group;
  kepts = it.kepts;
  held = it.held;
  put = it.put;
  other = it.other;
}

-- every crash leaves each of a group that is there
pub all_left : (s t : State) (ops : List Op) {V : Type 0} (r : Result V ShelfFault) (items : V → List Kept)
    → IfOk r (λ v. IsPutAll s t ops (items v)) → OnOk r ((trees : Trees) → t.may_leave trees → trees ≡ t.now.trees)
    → OnOk r ((trees : Trees) → t.may_leave trees → All (Holds (rows_left t trees)) ops)
all_left s t ops (Ok v) items put settled = λ trees may.
    subst (λ (x : Trees). All (Holds (rows_left t x)) ops) (sym (settled trees may))
    (all_held (entries (rows_of s)) (entries (rows_of t)) ops (items v) put.rows)
all_left s t ops (Err e) items put settled = tt

-- what was committed is ready, and so is what was rolled back
pub put_ready : (s t : State) (ops : List Op) (kepts : List Kept) → IsReady s → IsPutAll s t ops kepts → IsReady t
put_ready s t ops kepts ready put = record {
  shelf = subst IsShelf (sym put.schema) ready.shelf;
  alone = put.alone;
  settled = λ _. sym put.committed;
}

pub back_ready : (s m t : State) → IsReady s → KeepsCommit s m → IsRolledBack m t → IsTrue t.is_open → IsReady t
back_ready s m t ready keeps back up =
    let mid = back.was_open up in
    let first = keeps.was_open mid in
    let now = (back.undone up).0 ∙ keeps.committed mid ∙ sym (ready.settled first) in
    record {
      shelf = subst (λ (d : Database). IsShelf d.schema) (sym now) ready.shelf;
      alone = back.autocommit;
      settled = λ _. (back.undone up).0 ∙ sym (back.undone up).1;
    }
