-- What a view shows.
use Rattle.std.specs.Prelude.{ℕ, List, Option, Some, None, if◌then◌else◌}
use Rattle.std.specs.List.{filter_map}
use Rattle.operation.specs.declared.op.Op.{Op}
use Rattle.operation.specs.Parts.{ContentParts}
use Rattle.archive_model.specs.Contents.{pick, instances}
use Rattle.archive_model.specs.Covered.{is_covered, is_hiding}
use Rattle.archive_model.specs.declared.view.View.{View}

-- a content, unless it is a note whose title hides
abbrev pub unless_hiding : View → Option ContentParts → Option ContentParts
unless_hiding view None = None
unless_hiding view (Some c) = if is_hiding view c.note then None else Some c

-- what is shown of a SOP Instance UID: its pick, where the UID is not covered and the pick is no note that hides
abbrev pub shown_at : View → List Op → List ℕ → Option ContentParts
shown_at view ops uid = if is_covered view ops uid then None else unless_hiding view (pick uid ops)

-- what is shown, by ascending SOP Instance UID
abbrev pub shown : View → List Op → List ContentParts
shown view ops = filter_map (shown_at view ops) (instances ops)
