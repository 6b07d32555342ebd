-- A study: what is told of it, its instances, what of it is rejected, and the corrections of its attributes.
use Rattle.std.specs.Prelude.{◌≡◌, ℕ, List, [], ◌∷◌, ◌++◌, Bool, map}
use Rattle.std.specs.List.{filter, list_any, join_with_byte}
use Rattle.std.specs.Option.{is_some}
use Rattle.octets.specs.Texts.{ascending}
use Rattle.operation.specs.declared.op.Op.{Op}
use Rattle.operation.specs.Parts.{ContentParts, CorrectionParts, own_value}
use Rattle.archive_model.specs.Attributes.{is_target_of}
use Rattle.archive_model.specs.Contents.{series_of}
use Rattle.archive_model.specs.Shown.{shown, shown_at}
use Rattle.archive_model.specs.declared.view.View.TheVariants.{Archive, Audit}
use Rattle.archive_model.specs.declared.key.Level.TheVariants.{Study}
use Rattle.archive_model.specs.declared.selection.Selection.{Selection}
use Rattle.archive_model.specs.Selection.{selected}
use Rattle.site_tables.specs.declared.corrections.Stamped.{Stamped}
use Rattle.site_tables.specs.declared.study.Instance.{Instance}
use Rattle.site_tables.specs.declared.study.TakenStudy.{TakenStudy}
use Rattle.site_tables.specs.declared.under.Under.{Under}
use Rattle.site_tables.specs.Cells.{yes_no}
use Rattle.site_tables.specs.Corrections.{correction_row, AreCorrections}
use Rattle.site_tables.specs.Rejected.{notes_of, rejected_row, row_by}
use Rattle.site_tables.specs.StudyFacts.{IsFound}

-- what a C-GET of a study selects (PS3.4, C.4.3.1.3)
abbrev pub selection_of : List ℕ → Selection
selection_of uid = record { level = Study; study = []; series = []; uids = uid ∷ [] }

-- the picks of a study, by ascending SOP Instance UID: what is selected of all that AUDIT shows, which hides nothing
abbrev pub picks_of : List ℕ → List Op → List ContentParts
picks_of uid ops = selected (selection_of uid) (shown Audit ops)

-- a pick, and whether ARCHIVE shows its SOP Instance UID
abbrev pub with_shown : List Op → ContentParts → Instance
with_shown ops c = record { content = c; shown = is_some (shown_at Archive ops c.instance) }

-- the instances of a study, by ascending SOP Instance UID
abbrev pub instances_of : List ℕ → List Op → List Instance
instances_of uid ops = map (with_shown ops) (picks_of uid ops)

-- what a look took of a study: what is told of it, its instances, all notes, and the corrections of a set
pub record IsTakenStudy (uid : List ℕ) (ops : List Op) (taken : TakenStudy) : Type 0 where
  pub found : IsFound uid ops taken.found
  pub instances : taken.instances ≡ instances_of uid ops
  pub notes : taken.notes ≡ notes_of ops
  pub corrections : AreCorrections ops taken.corrections

-- the series, what notes tell of the SOP Instance UID, and whether it is shown
abbrev pub instance_row : List ContentParts → Instance → List (List ℕ)
instance_row notes i =
    series_of i.content ∷ (rejected_row notes i.content.instance ++ yes_no i.shown ∷ [])

-- the same row, by the notes that lie under the UID
abbrev pub instance_row_by : List (Under ContentParts) → Instance → List (List ℕ)
instance_row_by entries i =
    series_of i.content ∷ (row_by entries i.content.instance ++ yes_no i.shown ∷ [])

-- the rows of the instances
abbrev pub instance_rows : TakenStudy → List (List (List ℕ))
instance_rows taken = map (instance_row taken.notes) taken.instances

-- whether a correction's target has an instance
abbrev pub is_of : CorrectionParts → Instance → Bool
is_of k i = is_target_of i.content k.target

-- whether a correction's target has one of some instances
abbrev pub concerns : List Instance → Stamped → Bool
concerns instances s = list_any (is_of s.correction) instances

abbrev pub stored_value : CorrectionParts → Instance → List ℕ
stored_value k i = own_value i.content k.tag

-- the values that the data sets have as they are stored of what a correction corrects, ascending, each once
abbrev pub stored_values : List Instance → CorrectionParts → List (List ℕ)
stored_values instances k = ascending (map (stored_value k) (filter (is_of k) instances))

-- the row of a correction, and behind it the stored values, parted by backslashes
abbrev pub change_row : List Instance → Stamped → List (List ℕ)
change_row instances s = correction_row s ++ join_with_byte 92 (stored_values instances s.correction) ∷ []

-- the rows of the corrections whose target has one of the instances
abbrev pub change_rows : TakenStudy → List (List (List ℕ))
change_rows taken = map (change_row taken.instances) (filter (concerns taken.instances) taken.corrections)
