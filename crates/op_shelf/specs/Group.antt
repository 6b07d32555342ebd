-- What a group of puts makes of the entries, all at once.
use Rattle.std.specs.Prelude.{◌≡◌, ◌⊎◌, ◌++◌, ◌∷◌, [], false, ℕ, ℤ, List, All, Contains, Err, IsTrue, filter}
use Rattle.std.specs.Ordering.{is_eq}
use Rattle.sqlite.specs.Order.{Row, column, value_cmp}
use Rattle.sqlite.specs.declared.types.Value.TheVariants.{Int, Text}
use Rattle.sqlite.specs.Store.{Ghosts}
use Rattle.sqlite.specs.Tree.{Trees}
use Rattle.sqlite.specs.Held.{Held, state}
use Rattle.sqlite.specs.State.{State, ExecutesInside}
use Rattle.sqlite.specs.Steps.{FailsToCommit}
use Rattle.sqlite.specs.declared.error.Error.{Error}
use Rattle.operation.specs.declared.op.Op.{Op}
use Rattle.op_shelf.specs.declared.kept.Kept.{Kept}
use Rattle.op_shelf.specs.declared.kept.Kept.TheVariants.{New, Known}
use Rattle.op_shelf.specs.declared.fault.ShelfFault.TheVariants.{Store}
use Rattle.op_shelf.specs.declared.fault.StoreCause.{StoreCause}
use Rattle.op_shelf.specs.Fault.{fault_of}
use Rattle.op_shelf.specs.Entries.{IsWhole, entries, entry_of, digest_text, Adds}
use Rattle.op_shelf.specs.States.{Mends, Replaces, IsTaken, among, apart, under, rows_of, rows_left, IsUnready}
use Rattle.op_shelf.specs.States.{IsNotShown}
use Rattle.op_shelf.specs.Table.{IsShelf}
use Rattle.op_shelf.specs.Texts.{delete_text, held_text, ids_text, insert_text, rowid_text}

-- A put makes one entry more, in the place of what under its digest has not its bytes; or it finds its own, alone there,
-- and changes nothing.
abbrev pub Puts : List Row → Op → Kept → List Row → Type 0
Puts old op New new = Mends (digest_text op) (entry_of op) old new
Puts old op Known new = Contains old (entry_of op) × All (λ e. e ≡ entry_of op) (among (digest_text op) old)
    × (new ≡ old)

-- one put after another
abbrev pub PutsAll : List Row → List Op → List Kept → List Row → Type 0
PutsAll old [] [] new = new ≡ old
PutsAll old [] (kept ∷ kepts) new = ⊥
PutsAll old (op ∷ ops) [] new = ⊥
PutsAll old (op ∷ ops) (kept ∷ kepts) new = (mid : List Row) × Puts old op kept mid × PutsAll mid ops kepts new

-- the group was put, and all of it is committed
pub record IsPutAll (s t : State) (ops : List Op) (kepts : List Kept) : Type 0 where
  pub was_open : IsTrue s.is_open
  pub is_open : IsTrue t.is_open
  pub schema : t.now.schema ≡ s.now.schema
  pub rows : PutsAll (entries (rows_of s)) ops kepts (entries (rows_of t))
  pub committed : t.committed ≡ t.now
  pub alone : t.in_transaction ≡ false

-- what a crash may find of it: all of the group
abbrev pub MayHaveAll : State → List Op → Trees → Type 0
MayHaveAll s ops trees = (kepts : List Kept) × PutsAll (entries (rows_of s)) ops kepts (entries (rows_left s trees))

-- within a transaction, over the table alone
pub record IsFilling (s : State) : Type 0 where
  pub inside : IsTrue s.in_transaction
  pub shelf : IsShelf s.now.schema

-- the rowid of a row, as a query shows it
abbrev pub shown_id : Row → Row
shown_id row = column row 0 ∷ []

-- the rows of the table under a digest
abbrev pub rows_under : List ℕ → List Row → List Row
rows_under digest rows = filter (λ row. is_eq (value_cmp (column row 1) (Text digest))) rows

-- and those of a rowid
abbrev pub rows_at : ℤ → List Row → List Row
rows_at id rows = filter (λ row. is_eq (value_cmp (column row 0) (Int id))) rows

-- one row is under the digest, and it alone has its rowid
pub record IsSole (digest : List ℕ) (id : ℤ) (rows : List Row) : Type 0 where
  pub row : Row
  pub under : rows_under digest rows ≡ row ∷ []
  pub rowid : column row 0 ≡ Int id
  pub alone : rows_at id rows ≡ row ∷ []

-- what is under a digest was taken out, and nothing is committed yet
pub record HasCleared (s t : State) (digest : List ℕ) : Type 0 where
  pub inside : IsTrue t.in_transaction
  pub schema : t.now.schema ≡ s.now.schema
  pub rows : entries (rows_of t) ≡ apart digest (entries (rows_of s))

-- an entry stands in the place of those under a digest, and nothing is committed yet
pub record HasReplaced (s t : State) (digest : List ℕ) (entry : Row) : Type 0 where
  pub inside : IsTrue t.in_transaction
  pub schema : t.now.schema ≡ s.now.schema
  pub rows : Replaces digest entry (entries (rows_of s)) (entries (rows_of t))

-- the same where those had not its bytes
pub record HasMended (s t : State) (digest : List ℕ) (entry : Row) : Type 0 where
  pub spoiled : All (λ e. ¬ IsWhole e) (under digest (rows_of s))
  pub added : HasReplaced s t digest entry

-- the entry was added, and nothing is committed yet
pub record HasAdded (s t : State) (entry : Row) : Type 0 where
  pub inside : IsTrue t.in_transaction
  pub schema : t.now.schema ≡ s.now.schema
  pub rows : Adds (rows_of s) (rows_of t) entry

-- what was put since, and nothing is committed yet
pub record HasPut (s t : State) (ops : List Op) (kepts : List Kept) : Type 0 where
  pub inside : IsTrue t.in_transaction
  pub schema : t.now.schema ≡ s.now.schema
  pub rows : PutsAll (entries (rows_of s)) ops kepts (entries (rows_of t))

-- One of a group finds another entry under its digest, in its turn.
pub record FindsOther (s : State) (ops : List Op) : Type 0 where
  pub before : List Op
  pub op : Op
  pub behind : List Op
  pub group : ops ≡ before ++ op ∷ behind
  pub kepts : List Kept
  pub held : List Row
  pub put : PutsAll (entries (rows_of s)) before kepts held
  pub other : IsTaken (digest_text op) (entry_of op) held

-- within a transaction the database refused to run a text, for this cause
abbrev pub IsNotDoneWithin : StoreCause → List ℕ → Row → State → State → Type 0
IsNotDoneWithin why text params s t = (e : Error) × (fault_of e ≡ Store why) × ExecutesInside 0 text params s t (Err e)

-- to show the rowids under a digest, or the rows of one, or to take these out
abbrev pub IsNotCleared : StoreCause → List ℕ → State → State → Type 0
IsNotCleared why digest s t = IsNotShown why ids_text (Text digest ∷ []) s t
    ⊎ (((id : ℤ) × IsNotShown why rowid_text (Int id ∷ []) s t)
    ⊎ IsNotDoneWithin why delete_text (Text digest ∷ []) s t)

-- within a transaction
abbrev pub IsNotClearedAt : {S : Type 0} → Ghosts S → StoreCause → Held S → List ℕ → Type 0
IsNotClearedAt {S} g why end digest = (mid : Held S) × IsFilling (state g mid)
    × IsNotCleared why digest (state g mid) (state g end)

-- Within a transaction the database refused to look for a digest, to take out what is there, or to insert its entry, for
-- this cause.
abbrev pub IsStuck : {S : Type 0} → Ghosts S → StoreCause → Held S → List ℕ → Row → Type 0
IsStuck {S} g why end digest entry = (mid : Held S) × IsFilling (state g mid)
    × (IsNotShown why held_text (Text digest ∷ []) (state g mid) (state g end)
    ⊎ (IsNotCleared why digest (state g mid) (state g end)
    ⊎ IsNotDoneWithin why insert_text entry (state g mid) (state g end)))

-- then to commit
abbrev pub IsNotCommitted : {S : Type 0} → Ghosts S → StoreCause → Held S → Type 0
IsNotCommitted {S} g why new = (mid : Held S) × (e : Error) × (fault_of e ≡ Store why)
    × FailsToCommit (state g mid) (state g new) e

-- it refused to put an entry in the place of those under a digest
abbrev pub IsNotReplaced : {S : Type 0} → Ghosts S → StoreCause → Held S → List ℕ → Row → Type 0
IsNotReplaced {S} g why new digest entry = ((end : Held S) × IsStuck g why end digest entry) ⊎ IsNotCommitted g why new

-- A put was refused: the table does not stand alone, or the database refused to look, or then to put the entry.
abbrev pub IsNotKept : {S : Type 0} → Ghosts S → StoreCause → Held S → Held S → List ℕ → Row → Type 0
IsNotKept {S} g why old new digest entry =
    IsUnready why (state g old) ⊎ (IsNotShown why held_text (Text digest ∷ []) (state g old) (state g new)
    ⊎ IsNotReplaced g why new digest entry)

-- A group was refused: the same of one of it.
abbrev pub IsNotPut : {S : Type 0} → Ghosts S → StoreCause → Held S → Held S → List Op → Type 0
IsNotPut {S} g why old new ops =
    IsUnready why (state g old) ⊎ (((op : Op) × Contains ops op × (end : Held S)
    × IsStuck g why end (digest_text op) (entry_of op)) ⊎ IsNotCommitted g why new)
