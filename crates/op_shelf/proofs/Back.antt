-- What a refused call leaves, and what a call that shows rows leaves.
use Rattle.std.proofs.Common.{inl, inr, ℕ, List, Ok, Err, None, Result, IfOk, IfErr, OnOk, OnErr, false}
use Rattle.std.proofs.Common.{subst, Option, Some, IfSome}
use Rattle.std.proofs.lemmas.Bool.{cases_Bool}
use Rattle.sqlite.specs.Order.{Row}
use Rattle.sqlite.specs.declared.error.Error.{Error}
use Rattle.sqlite.specs.Clock.{timed}
use Rattle.sqlite.specs.Given.{IsPlain}
use Rattle.sqlite.specs.Listing.{understood}
use Rattle.sqlite.specs.State.{State, IsUnchanged, IsNotRun, FailsToQuery, FailsToShow, Shown, ShowsRows}
use Rattle.sqlite.specs.State.{Executes, ExecutesIn, shows_rows}
use Rattle.op_shelf.specs.States.{Spares}

pub shown_same : (sql : List ℕ) (params : Row) (old new : State) (rows : List Row)
    → IsPlain (understood old.now.schema sql) → Shown sql params old new rows → IsUnchanged old new
unfolding Shown
shown_same sql params old new rows plain h =
    let none = (subst IsPlain h.1.is plain).0 in
    (subst (ShowsRows old new sql h.0 (timed params h.0.formats h.1.now) rows) none h.2).3

not_run : (sql : List ℕ) (params : Row) (old new : State) (e : Error) → IsNotRun old new sql params e → Spares old new
unfolding IsNotRun
not_run sql params old new e (inl stops) = inl stops.1
not_run sql params old new e (inr fails) = inr fails.3

pub query_spares : (sql : List ℕ) (params : Row) (old new : State) (e : Error) → IsPlain (understood old.now.schema sql)
    → FailsToQuery sql params old new e → Spares old new
unfolding FailsToQuery
query_spares sql params old new e plain (inl stops) = not_run sql params old new e stops
query_spares sql params old new e plain (inr h) =
    let none = (subst IsPlain h.1.is plain).0 in
    inl (subst (FailsToShow old new sql h.0 (timed params h.0.formats h.1.now) e) none h.2).3

pub execute_spares : (sql : List ℕ) (params : Row) (old new : State) (e : Error) → Executes sql params old new (Err e)
    → Spares old new
unfolding ExecutesIn
execute_spares sql params old new e (inl stops) = not_run sql params old new e stops
execute_spares sql params old new e (inr h) = elim (cases_Bool (shows_rows false h.0)) [
  | inl shows ↦ inl (rw shows at h.2).1
  | inr runs ↦ elim (rw runs at h.2) [
    | inl refused ↦ inl refused.1
    | inr fails ↦ inr fails.3
  ]
]

pub ok_then : {A E : Type 0} (r : Result A E) (P : A → Type 0) (Q : Type 0) → ((a : A) → P a → Q) → IfOk r P → OnOk r Q
ok_then (Ok a) P Q f h = f a h
ok_then (Err e) P Q f h = tt

pub err_then : {A E : Type 0} (r : Result A E) (P : E → Type 0) (Q : Type 0) → ((e : E) → P e → Q) → IfErr r P
    → OnErr r Q
err_then (Ok a) P Q f h = tt
err_then (Err e) P Q f h = f e h

pub cause_of : (sql : List ℕ) (params : Row) (old new : State) (r : Result ℕ Error) → Executes sql params old new r
    → IfErr r (λ e. Executes sql params old new (Err e))
cause_of sql params old new (Ok count) h = tt
cause_of sql params old new (Err e) h = h

pub ok_both : {A E : Type 0} (r : Result A E) (P Q R : A → Type 0) → ((a : A) → P a → Q a → R a) → IfOk r P → IfOk r Q
    → IfOk r R
ok_both (Ok a) P Q R f p q = f a p q
ok_both (Err e) P Q R f p q = tt

-- from what one clause says of a refusal
pub err_one : {A E : Type 0} (r : Result A E) (P Q : E → Type 0) → ((e : E) → P e → Q e) → IfErr r P → IfErr r Q
err_one (Ok a) P Q f p = tt
err_one (Err e) P Q f p = f e p

-- from what is said of what is there
pub some_one : {A : Type 0} (o : Option A) (P Q : A → Type 0) → ((a : A) → P a → Q a) → IfSome o P → IfSome o Q
some_one None P Q f p = tt
some_one (Some a) P Q f p = f a p
