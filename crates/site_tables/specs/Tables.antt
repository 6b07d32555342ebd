-- The tables by name.
use Rattle.std.specs.Prelude.{◌≡◌, ℕ, List, [], ◌∷◌, codes, map}
use Rattle.operation.specs.declared.op.Op.{Op}
use Rattle.site_tables.specs.declared.table.Table.{Table}
use Rattle.site_tables.specs.declared.table.Table.TheVariants.{Conflicts, Rejected, Corrections, Studies}
use Rattle.site_tables.specs.declared.taken.TakenTable.{TakenTable}
use Rattle.site_tables.specs.Conflicts.{conflict_row, conflict_rows}
use Rattle.site_tables.specs.Rejected.{rows_named, rejected_rows}
use Rattle.site_tables.specs.Corrections.{correction_row, AreCorrectionRows}
use Rattle.site_tables.specs.Studies.{rows_taken, study_rows}

-- what stands above the columns of a table
abbrev pub heading_of : Table → List (List ℕ)
heading_of Conflicts = codes "INSTANCE" ∷ codes "DIGEST" ∷ codes "BYTES" ∷ codes "STUDY" ∷ codes "PICK" ∷ []
heading_of Rejected = codes "INSTANCE" ∷ codes "TITLES" ∷ codes "NOTES" ∷ []
heading_of Corrections =
    codes "TARGET" ∷ codes "KEY" ∷ codes "TAG" ∷ codes "VALUE" ∷ codes "COUNTER" ∷ codes "SITE" ∷ codes "COUNTS" ∷ []
heading_of Studies =
    codes "STUDY" ∷ codes "PATIENT" ∷ codes "NAME" ∷ codes "DATE" ∷ codes "SERIES" ∷ codes "INSTANCES"
    ∷ codes "REJECTED" ∷ []

-- these are the rows of a table over a set of operations
abbrev pub IsTable : Table → List Op → List (List (List ℕ)) → Type 0
IsTable Conflicts ops rows = rows ≡ conflict_rows ops
IsTable Rejected ops rows = rows ≡ rejected_rows ops
IsTable Corrections ops rows = AreCorrectionRows ops rows
IsTable Studies ops rows = rows ≡ study_rows ops

-- the rows of what was taken for a table
abbrev pub rows_of_taken : TakenTable → List (List (List ℕ))
rows_of_taken (TakenTable.Conflicts found) = map conflict_row found
rows_of_taken (TakenTable.Rejected notes) = rows_named notes
rows_of_taken (TakenTable.Corrections found) = map correction_row found
rows_of_taken (TakenTable.Studies found) = rows_taken found
