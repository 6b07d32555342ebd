-- The notes under each instance of a study tell of it what all notes do.
use Rattle.std.proofs.Common.{◌≡◌, ℕ, List, [], ◌∷◌, ◌++◌, ap, map}
use Rattle.std.specs.List.{flat_map}
use Rattle.operation.specs.Parts.{ContentParts}
use Rattle.archive_model.specs.Contents.{series_of}
use Rattle.site_tables.specs.declared.study.Instance.{Instance}
use Rattle.site_tables.specs.declared.under.Under.{Under}
use Rattle.site_tables.specs.Cells.{yes_no}
use Rattle.site_tables.specs.Rejected.{named_pairs}
use Rattle.site_tables.specs.Study.{instance_row, instance_row_by}
use Rattle.site_tables.specs.Under.{Holds}
use Rattle.site_tables.proofs.RejectedLaws.{row_at_is}
use Rattle.site_tables.proofs.UnderLaws.{map_each}

-- the rows by the notes that lie under each are those by all notes
pub instance_rows_are : (notes : List ContentParts) (entries : List (Under ContentParts)) (instances : List Instance)
    → Holds (flat_map named_pairs notes) entries
    → map (instance_row_by entries) instances ≡ map (instance_row notes) instances
instance_rows_are notes entries instances holds =
    map_each (instance_row_by entries) (instance_row notes) (λ i.
    ap (λ (cells : List (List ℕ)). series_of i.content ∷ (cells ++ yes_no i.shown ∷ []))
    (row_at_is notes entries holds i.content.instance)) instances
