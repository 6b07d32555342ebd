-- The history of a hub: entries, each an operation that was taken for a pass.
use Rattle.std.specs.Prelude.{ℕ, ◌≡◌, List, [], ◌∷◌, ◌++◌, map, filter, ⊤}
use Rattle.operation.specs.declared.op.Op.{Op}
use Rattle.operation.specs.Spelling.{digest_of}
use Rattle.study_index.specs.Definition.{IsLawful, AreLawful}
use Rattle.site_state.specs.Site.{Map, IsSite, HasNoOther, ops_of, with_op, is_missing}
use Rattle.site_state.specs.Laws.{holding}
use Rattle.site_hub.specs.declared.entry.Entry.{Entry}
use Rattle.site_hub.specs.declared.entry.Logged.{Logged}

-- the operations of a history, in order
abbrev pub ops_in : List Entry → List Op
ops_in log = map (λ (e : Entry). e.op) log

-- what a site holds after a history: what it held at its opening, with the operations of each entry
abbrev pub set_of : Map → List Entry → Map
set_of opening log = holding opening (ops_in log)

-- no entry clashes with what is held before it
abbrev pub HasNoClash : Map → List Entry → Type 0
HasNoClash held [] = ⊤
HasNoClash held (e ∷ log) = HasNoOther held (digest_of e.op) e.op × HasNoClash (with_op held e.op) log

-- the operation of each entry keeps true what every operation of a site does
abbrev pub AreKept : List Entry → Type 0
AreKept [] = ⊤
AreKept (e ∷ log) = IsLawful e.op × AreKept log

-- what every history of a hub keeps: what is held lies under its own digest, nothing that is held is lost, and each
-- operation keeps true what every operation of a site does
pub record IsHistory (opening : Map) (log : List Entry) : Type 0 where
  pub opened : IsSite opening
  pub lawful : AreLawful (ops_of opening)
  pub clashless : HasNoClash opening log
  pub kept : AreKept log

-- the entry of an operation that is taken for a pass
abbrev pub entry_of : ℕ → Op → Entry
entry_of pass op = record { pass = pass; op = op }

-- a history by its digests
abbrev pub logged_of : List Entry → List Logged
logged_of log = map (λ (e : Entry). record { pass = e.pass; digest = digest_of e.op }) log

-- a history ends with an entry
abbrev pub EndsWith : List Entry → Entry → Type 0
EndsWith log e = (before : List Entry) × (log ≡ before ++ e ∷ [])

-- those of some digests that a site does not hold, in the order given
unfoldable pub missing_from : Map → List (List ℕ) → List (List ℕ)
missing_from m digests = filter (is_missing m) digests
