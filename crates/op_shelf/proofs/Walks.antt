-- What a walk over the entries knows at each row, where the state at its start is `first`.
use Rattle.std.proofs.Common.{◌≡◌, ◌++◌, ◌∷◌, ◌≤◌, [], List, None, Ok, inl, inr, sym, ap, subst, ◌∙◌, IsPermutation}
use Rattle.std.proofs.Common.{Contains, Option, Some, Result, Err, IfErr, OnOk, OnErr, arith, refl}
use Rattle.std.proofs.lemmas.List.Elements.{Contains-push, Contains-append_left}
use Rattle.std.proofs.lemmas.List.Sorted.{IsPermutation-sym, Contains-permutation}
use Rattle.sqlite.specs.Order.{Row}
use Rattle.sqlite.specs.Clock.{timed}
use Rattle.sqlite.specs.Command.{Command}
use Rattle.sqlite.specs.declared.error.Error.{Error}
use Rattle.sqlite.specs.Effect.{Database, RefusesToRead}
use Rattle.sqlite.specs.Listing.{reads_listing, IsSourceOf, understood}
use Rattle.sqlite.specs.Given.{Advances, FailsToAdvance, HasBegun, HasGiven, IsRefused}
use Rattle.sqlite.specs.Held.{Held, state}
use Rattle.sqlite.specs.State.{State, HasCleanDisk, IsUnchanged, IsStatement, IsNotRun, FailsToQuery, FailsToShow, Shown}
use Rattle.sqlite.specs.State.{Begins, CommitsShowing, Survives}
use Rattle.sqlite.specs.Store.{Ghosts}
use Rattle.sqlite.proofs.Callers.{IsPlain, EndsIn, command_of, begins_shown, begun_plain, given_begin}
use Rattle.sqlite.proofs.Callers.{never_commits, unchanged_then}
use Rattle.sqlite.proofs.StateLemmas.{survives_weaker, unchanged}
use Rattle.sqlite.proofs.StreamLemmas.{fails_since}
use Rattle.op_shelf.specs.Entries.{IsEntry, HasBadRow, entries}
use Rattle.op_shelf.specs.declared.fault.ShelfFault.{ShelfFault}
use Rattle.op_shelf.specs.declared.fault.ShelfFault.TheVariants.{Store}
use Rattle.op_shelf.specs.declared.fault.StoreCause.TheVariants.{Other}
use Rattle.op_shelf.specs.Fault.{IsNoStore, fault_of}
use Rattle.op_shelf.specs.States.{IsReady, Spares, rows_of, tree_in}
use Rattle.op_shelf.specs.Table.{IsShelf}
use Rattle.op_shelf.specs.Texts.{all_text}
use Rattle.op_shelf.specs.Walking.{IsWalking, GivesRow, Looks, Walks}
use Rattle.op_shelf.proofs.Back.{query_spares}
use Rattle.op_shelf.proofs.Migrated.{crash_then}
use Rattle.op_shelf.proofs.Puts.{spares_keeps, survives_none}
use Rattle.op_shelf.proofs.Queries.{lists, plain_all}
use Rattle.op_shelf.proofs.Texts.{all_is}

on_ok : {A E : Type 0} (r : Result A E) (P Q : Type 0) → (P → Q) → OnOk r P → OnOk r Q
on_ok (Ok a) P Q f h = f h
on_ok (Err e) P Q f h = tt

on_err : {A E : Type 0} (r : Result A E) (P Q : Type 0) → (P → Q) → OnErr r P → OnErr r Q
on_err (Ok a) P Q f h = tt
on_err (Err e) P Q f h = f h

-- nothing was changed before
spares_then : (a b c : State) → IsUnchanged a b → Spares b c → Spares a c
spares_then a b c same (inl more) = inl (unchanged_then a b c same more)
spares_then a b c same (inr back) = inr (record {
  was_open = λ up. same.0.was_open;
  undone = λ up. let undone = back.undone up in (undone.0 ∙ same.0.committed_is, undone.1 ∙ same.0.committed_is);
  autocommit = back.autocommit;
  unmarked = back.unmarked;
  counts = record {
    changes = back.counts.changes ∙ same.1.changes;
    last_rowid = back.counts.last_rowid ∙ same.1.last_rowid;
  };
})

-- The text has no table that a recursion computes.
ends : (s : State) → IsShelf s.now.schema → (c : _) → understood s.now.schema all_text ≡ Ok c → (db : Database)
    (params : Row) → EndsIn c.command db params
ends s shelf c is db params =
    let known = sym (ap command_of is) ∙ ap (λ d. command_of (understood d all_text)) shelf.3
    ∙ (all_is shelf.0 shelf.2 shelf.1).is in
    subst (λ (k : Command). EndsIn k db params) (sym known) tt

module _ (first now : State) (shelf : IsShelf first.now.schema) (same : IsUnchanged first now) where
  still : IsShelf now.now.schema
  still = subst (λ (d : Database). IsShelf d.schema) (sym same.0.now_is) shelf

  -- The rows of the whole answer are those of the table at the start.
  pub walked : (new : State) (rows : List Row) → Shown all_text [] now new rows
      → IsPermutation (entries (rows_of first)) rows
  walked new rows h =
      subst (λ (d : Database). IsPermutation (entries (d.trees (tree_in d.schema))) rows)
      same.0.now_is (lists now new still rows h)

  -- A row that is none of an operation stands in the table, also where others are still to come.
  pub bad_stands : (given : List Row) (row : Row) → Begins all_text [] now (given ++ row ∷ []) → ¬ IsEntry row
      → HasBadRow (rows_of first)
  bad_stands given row begun bad =
      let more = begins_shown all_text [] now now (given ++ row ∷ []) begun (unchanged now same.0.is_open)
      (λ c db it source. ends now still c it.is db (timed [] c.formats it.now)) in
      let all = walked now ((given ++ row ∷ []) ++ more.0) more.1 in
      let found : Contains ((given ++ row ∷ []) ++ more.0) row = Contains-append_left (given ++ row ∷ []) more.0 row
      (Contains-push given row) in
      (row, Contains-permutation _ _ row (IsPermutation-sym _ _ all) found, bad)

  since : (c : _) → IsStatement now all_text [] c → IsStatement first all_text [] c
  since c h = record {
    is = subst (λ (d : Database). understood d.schema all_text ≡ Ok c) same.0.now_is h.is;
    whole = h.whole;
    given = h.given;
    now = h.now;
  }

  -- What is refused at some row is refused as the whole query.
  pub refused_since : first.faults ≤ now.faults → now.step_limit ≡ first.step_limit → (new : State) (e : Error)
      → FailsToQuery all_text [] now new e → FailsToQuery all_text [] first new e
  unfolding FailsToQuery IsNotRun since
  refused_since counts limit new e (inl (inl h)) = inl (inl (
    rw (← same.0.now_is) h.0,
    unchanged_then first now new same
        h.1,
  ))
  refused_since counts limit new e (inl (inr h)) = inl (inr (fails_since first now new same counts e h))
  refused_since counts limit new e (inr h) =
      let c = h.0 in
      let full = timed [] c.formats h.1.now in
      let none : c.returning ≡ None = (subst IsPlain (since c h.1).is (plain_all first.now.schema shelf)).0 in
      let it = subst (FailsToShow now new all_text c full e) none h.2 in
      let source = subst (λ (d : Database). IsSourceOf (reads_listing d.schema all_text) d it.0) same.0.now_is it.1 in
      let refuses = subst (λ l. RefusesToRead l c.command it.0 full e) limit it.2 in
      inr (
        c,
        since c h.1,
        subst (FailsToShow first new all_text c full e) (sym none)
            (it.0, source, refuses, unchanged_then first now new same it.3),
      )

module _ {S : Type 0} (g : Ghosts S) where
  -- a walk that began at `first` has given these entries, and changed nothing
  pub record HasWalked (first now : Held S) (given : List Row) : Type 0 where
    pub survives : Survives (state g first) (state g now) (λ _. ⊥)
    pub walking : HasCleanDisk (state g now) → IsWalking g now given
    pub same : HasCleanDisk (state g now) → IsUnchanged (state g first) (state g now)

  shelf_at : (first now : Held S) (given : List Row) → HasWalked first now given → HasCleanDisk (state g now)
      → IsShelf (state g first).now.schema
  shelf_at first now given was clean = subst (λ (d : Database). IsShelf d.schema) (was.same clean).0.now_is
      (was.walking clean).shelf

  -- nothing is given yet
  pub walks_on : (h : Held S) (given : List Row) → (HasCleanDisk (state g h) → IsWalking g h given)
      → HasWalked h h given
  walks_on h given is = record {
    survives = survives_none (state g h) (λ _. ⊥);
    walking = is;
    same = λ clean. unchanged (state g h) (is clean).is_open;
  }

  -- What is refused behind those so far is refused as the whole walk.
  pub walks_then : {A : Type 0} (first mid end : Held S) (given : List Row) (r : Result A ShelfFault)
      → HasWalked first mid given → Walks g mid end r → Walks g first end r
  walks_then {A} first mid end given r was step =
      let early : HasCleanDisk (state g end) → HasCleanDisk (state g mid) = λ late.
      omega (arith, step.crash.clean, late) in
      record {
        same = λ late. on_ok r _ _ (unchanged_then (state g first) (state g mid) (state g end) (was.same (early late)))
            (step.same late);
        refused = λ late. on_err r _ _ (spares_then (state g first) (state g mid) (state g end) (was.same (early late)))
            (step.refused late);
        store = λ late why bad.
            let told = step.store late why bad in
            let shelf = shelf_at first mid given was (early late) in (
              told.0,
              told.1,
              refused_since (state g first) (state g mid) shelf (was.same (early late))
                  was.survives.counts was.survives.limit (state g end) told.0 told.2,
            );
        crash = crash_then (state g first) (state g mid) (state g end) was.survives step.crash;
      }

  -- a refusal of a step is one of what does it
  pub walks_refused : {A B : Type 0} (old new : Held S) (e : ShelfFault) → Walks {A = A} g old new (Err e)
      → Walks {A = B} g old new (Err e)
  walks_refused old new e step = record {
    same = λ late. tt;
    refused = step.refused;
    store = λ late why bad. let is : e ≡ Store why = cc in step.store late why (ap Err is);
    crash = step.crash;
  }

  -- what is told of a walk that is over
  pub walks_told : {A B : Type 0} (old new : Held S) (a : A) (r : Result B ShelfFault) → Walks g old new (Ok a)
      → IfErr r IsNoStore → Walks g old new r
  walks_told old new a (Ok b) read none = record {
    same = read.same;
    refused = λ late. tt;
    store = λ late why bad. absurd cc;
    crash = read.crash;
  }
  walks_told old new a (Err e) read none = record {
    same = λ late. tt;
    refused = λ late. inl (read.same late);
    store = λ late why bad. let is : e ≡ Store why = cc in absurd (none why is);
    crash = read.crash;
  }

  -- a fault that is none of the database
  pub walks_no_store : {A : Type 0} (first end : Held S) (given : List Row) (e : ShelfFault) → HasWalked first end given
      → IsNoStore e → Walks {A = A} g first end (Err e)
  walks_no_store first end given e was none = record {
    same = λ late. tt;
    refused = λ late. inl (was.same late);
    store = λ late why bad. let is : e ≡ Store why = cc in absurd (none why is);
    crash = was.survives;
  }

  -- One entry more.
  pub walked_more : (first mid end : Held S) (given : List Row) (row : Row) → HasWalked first mid given
      → Survives (state g mid) (state g end) (λ _. ⊥)
      → (HasCleanDisk (state g end) → IsUnchanged (state g mid) (state g end))
      → (HasCleanDisk (state g end) → IsWalking g mid given → IsWalking g end (given ++ row ∷ []))
      → HasWalked first end (given ++ row ∷ [])
  walked_more first mid end given row was crash same more =
      let early : HasCleanDisk (state g end) → HasCleanDisk (state g mid) = λ late. omega (arith, crash.clean, late) in
      record {
        survives = crash_then (state g first) (state g mid) (state g end) was.survives crash;
        walking = λ late. more late (was.walking (early late));
        same = λ late. unchanged_then (state g first) (state g mid) (state g end) (was.same (early late)) (same late);
      }

  -- What holds of the table's rows held of those at the start.
  pub rows_then : (first mid : Held S) (given : List Row) → HasWalked first mid given → HasCleanDisk (state g mid)
      → (P : List Row → Type 0) → P (rows_of (state g mid)) → P (rows_of (state g first))
  rows_then first mid given was clean P h = subst (λ (d : Database). P (d.trees (tree_in d.schema)))
      (was.same clean).0.now_is h

  -- The last that was given is none of an operation.
  pub walked_bad : (first end : Held S) (given : List Row) (row : Row) → HasWalked first end (given ++ row ∷ [])
      → HasCleanDisk (state g end) → ¬ IsEntry row → HasBadRow (rows_of (state g first))
  walked_bad first end given row was clean bad = bad_stands (state g first) (state g end)
      (shelf_at first end (given ++ row ∷ []) was clean) (was.same clean) given row
      (given_begin g all_text [] end (given ++ row ∷ []) (was.walking clean).has) bad

  -- a step, by what `advance` says of itself
  pub stepped : (old new : Held S) (row : Option Row) → (HasCleanDisk (state g new) → Advances g old new row)
      → HasCleanDisk (state g new) → IsUnchanged (state g old) (state g new) → (given : List Row)
      → IsWalking g old given → GivesRow g old new given row
  stepped old new (Some row) on clean same given was = record {
    shelf = subst (λ (d : Database). IsShelf d.schema) (sym same.0.now_is) was.shelf;
    is_open = same.0.is_open;
    has = on clean all_text [] given was.has;
  }
  stepped old new None on clean same given was = lists (state g old) (state g new) was.shelf given
      (on clean all_text [] given was.has)

  -- A step that the database refuses.
  pub step_fails : {A : Type 0} (old new : Held S) (error : Error) (e : ShelfFault) → e ≡ fault_of error
      → (HasCleanDisk (state g old) → (given : List Row) × IsWalking g old given)
      → (HasCleanDisk (state g new) → FailsToAdvance g old new error) → Survives (state g old) (state g new) (λ _. ⊥)
      → Walks {A = A} g old new (Err e)
  step_fails old new error e is was fails crash =
      let at : HasCleanDisk (state g new) → (given : List Row) × IsWalking g old given = λ late.
      was (omega (arith, crash.clean, late)) in
      let told : HasCleanDisk (state g new) → FailsToQuery all_text [] (state g old) (state g new) error = λ late.
      fails late all_text [] (at late).0 (at late).1.has in
      record {
        same = λ late. tt;
        refused = λ late. query_spares all_text [] (state g old) (state g new) error
            (plain_all (state g old).now.schema (at late).1.shelf) (told late);
        store = λ late why bad. let told_as : e ≡ Store why = cc in (error, sym is ∙ told_as, told late);
        crash = crash;
      }

  -- A step that changed nothing.
  pub walks_ok : {A : Type 0} (old new : Held S) (a : A)
      → (HasCleanDisk (state g new) → IsUnchanged (state g old) (state g new))
      → Survives (state g old) (state g new) (λ _. ⊥) → Walks g old new (Ok a)
  walks_ok old new a same crash = record {
    same = same;
    refused = λ late. tt;
    store = λ late why bad. absurd cc;
    crash = crash;
  }

  -- A walk that does not begin.
  pub begin_fails : {A X : Type 0} (old new : Held S) (error : Error) (e : ShelfFault) → e ≡ fault_of error
      → IsShelf (state g old).now.schema → IsRefused g {X = X} all_text [] old (Err error) new
      → Walks {A = A} g old new (Err e)
  begin_fails old new error e is shelf refused = record {
    same = λ late. tt;
    refused = λ late. query_spares all_text [] (state g old) (state g new) error
        (plain_all (state g old).now.schema shelf) (refused.err late);
    store = λ late why bad. let told_as : e ≡ Store why = cc in (error, sym is ∙ told_as, refused.err late);
    crash = survives_weaker (state g old) (state g new) _ _
        (λ _ db. never_commits all_text [] (state g old) db (plain_all (state g old).now.schema shelf))
        refused.survives;
  }

  -- One that does.
  pub walk_begins : (old mid : Held S) → IsShelf (state g old).now.schema
      → (HasCleanDisk (state g mid) → HasBegun g all_text [] old mid)
      → Survives (state g old) (state g mid) (CommitsShowing all_text [] (state g old)) → HasWalked old mid []
  walk_begins old mid shelf begun crash =
      let plain = plain_all (state g old).now.schema shelf in
      let it : HasCleanDisk (state g mid) → HasGiven g all_text [] mid [] × IsUnchanged (state g old) (state g mid)
      = λ late.
      begun_plain g all_text [] old mid plain (begun late) in
      record {
        survives = survives_weaker (state g old) (state g mid) _ _
            (λ _ db. never_commits all_text [] (state g old) db plain) crash;
        walking = λ late. record {
          shelf = subst (λ (d : Database). IsShelf d.schema) (sym (it late).1.0.now_is) shelf;
          is_open = (it late).1.0.is_open;
          has = (it late).0;
        };
        same = λ late. (it late).1;
      }

  -- A look at a shelf that is ready is a walk.
  pub walk_looks : {A : Type 0} (old new : Held S) (r : Result A ShelfFault) → IsReady (state g old) → Walks g old new r
      → Looks g old new r
  walk_looks old new r ready walked = record {
    same = walked.same;
    refused = λ late. on_err r _ _ (spares_keeps (state g old) (state g new) ready) (walked.refused late);
    store = λ late why bad. inr (walked.store late why bad);
    crash = walked.crash;
  }

  -- At one that is not ready nobody looks.
  pub unready_looks : {A : Type 0} (h : Held S) → ¬ IsReady (state g h) → Looks {A = A} g h h (Err (Store Other))
  unready_looks h unready = record {
    same = λ late. tt;
    refused = λ late up. (up, refl);
    store = λ late why bad. inl (cc, unready);
    crash = survives_none (state g h) (λ _. ⊥);
  }
