-- What a C-GET prepares over a set, which is the list of its operations ascending by digest (PS3.4, C.4.3).
use Rattle.std.specs.Prelude.{ℕ, List, Option, Some, None, if◌then◌else◌, map}
use Rattle.std.specs.List.{filter_map}
use Rattle.dictionary.specs.Roles.{corrected_tags}
use Rattle.operation.specs.declared.op.Op.{Op}
use Rattle.operation.specs.Parts.{ContentParts}
use Rattle.archive_model.specs.declared.view.View.{View}
use Rattle.archive_model.specs.Shown.{shown}
use Rattle.archive_model.specs.Attributes.{attribute}
use Rattle.archive_model.specs.Coercion.{is_changed}
use Rattle.archive_model.specs.declared.prepared.Prepared.{Prepared}
use Rattle.archive_model.specs.declared.selection.Selection.{Selection}
use Rattle.archive_model.specs.Change.{ChangeParts}
use Rattle.archive_model.specs.Selection.{selected}

-- the value that corrections give an attribute of a content, where it is another than the content's own
abbrev pub change_for : List Op → ContentParts → ℕ → Option ChangeParts
change_for ops c tag = if is_changed ops c tag then Some (tag, attribute ops c tag) else None

-- those of the attributes that may be corrected, by ascending tag
abbrev pub changes_for : List Op → ContentParts → List ChangeParts
changes_for ops c = filter_map (change_for ops c) corrected_tags

-- a content as it is stored, with what corrections change of it
abbrev pub prepared_for : List Op → ContentParts → Prepared
prepared_for ops c = record { content = c; changes = changes_for ops c }

-- what a C-GET prepares: each content that is shown and selected, by ascending SOP Instance UID
unfoldable pub prepared_of : View → Selection → List Op → List Prepared
prepared_of view selection ops = map (prepared_for ops) (selected selection (shown view ops))
