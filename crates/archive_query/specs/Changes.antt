-- The value that corrections give an attribute of a content, where it is another than the content's own.
use Rattle.std.specs.Prelude.{ℕ, List, Option, Some, None, if◌then◌else◌}
use Rattle.operation.specs.declared.op.Op.{Op}
use Rattle.operation.specs.Parts.{ContentParts}
use Rattle.archive_model.specs.Attributes.{attribute}
use Rattle.archive_model.specs.Coercion.{is_changed}

abbrev pub changed_value : List Op → ContentParts → ℕ → Option (List ℕ)
changed_value ops c tag = if is_changed ops c tag then Some (attribute ops c tag) else None
