-- A site with whole operations, and the set of what stands for each of them.
use Rattle.std.specs.Prelude.{◌≡◌, ℕ, List, map}
use Rattle.std.specs.FinMap as finmap
use Rattle.operation.specs.declared.op.Op.{Op}
use Rattle.archive_model.specs.declared.query.Query.{Query}
use Rattle.archive_model.specs.declared.view.View.{View}
use Rattle.archive_model.specs.Contents.{flagged}
use Rattle.archive_model.specs.RecordLaws.{KeepTheSame}
use Rattle.archive_model.specs.Rows.{rows_of}
use Rattle.records.specs.StandIn.{op_in}
use Rattle.site_state.specs.Site.{Map, of_entries, ops_of, digests_of, counts_of, top_counter_of}

-- an entry with what stands for its operation
abbrev pub entry_in : List ℕ × Op → List ℕ × Op
entry_in e = (e.0, op_in e.1)

-- under each digest what stands for the operation that is held
unfoldable pub recorded : Map → Map
recorded m = of_entries (map entry_in (finmap.entries m))

-- ---- what is the same of operations and of what stands for them

-- under each digest stands the record of the operation
abbrev pub RecordsAreKept : Type 0
RecordsAreKept = (m : Map) → KeepTheSame (ops_of (recorded m)) (ops_of m)

-- the digests are the same
abbrev pub DigestsAreKept : Type 0
DigestsAreKept = (m : Map) → digests_of (recorded m) ≡ digests_of m

-- a query has the same rows
abbrev pub RowsAreKept : Type 0
RowsAreKept = (m : Map) (view : View) (called : List ℕ) (q : Query)
    → rows_of view called q (ops_of (recorded m)) ≡ rows_of view called q (ops_of m)

-- the same UIDs have two contents or more
abbrev pub FlaggedAreKept : Type 0
FlaggedAreKept = (m : Map) → flagged (ops_of (recorded m)) ≡ flagged (ops_of m)

-- there are as many contents and corrections
abbrev pub CountsAreKept : Type 0
CountsAreKept = (m : Map) → counts_of (ops_of (recorded m)) ≡ counts_of (ops_of m)

-- the greatest counter is the same
abbrev pub TopIsKept : Type 0
TopIsKept = (m : Map) → top_counter_of (ops_of (recorded m)) ≡ top_counter_of (ops_of m)
