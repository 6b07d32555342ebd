-- What notes cover (IHE RAD-66).
use Rattle.std.specs.Prelude.{ℕ, List, Option, Some, None, Bool, false, ◌&&◌}
use Rattle.std.specs.List.{list_any}
use Rattle.rejection_note.specs.declared.note.Note.{Note}
use Rattle.operation.specs.declared.op.Op.{Op}
use Rattle.octets.specs.Texts.{same}
use Rattle.archive_model.specs.View.{hides}
use Rattle.archive_model.specs.Contents.{contents}
use Rattle.archive_model.specs.declared.view.View.{View}

-- whether a UID is one of these
abbrev pub is_among : List (List ℕ) → List ℕ → Bool
is_among uids uid = list_any (λ u. same u uid) uids

-- whether what a content says as a note hides the instance of a UID, whatever study or series the note names
abbrev pub covers : View → List ℕ → Option Note → Bool
covers view uid None = false
covers view uid (Some note) = hides view note.title && is_among note.covers uid

-- whether a UID is covered: a content of the set, pick or not, is a note that names it and whose title hides
abbrev pub is_covered : View → List Op → List ℕ → Bool
is_covered view ops uid = list_any (λ c. covers view uid c.note) (contents ops)

-- whether a content is itself a note whose title hides
abbrev pub is_hiding : View → Option Note → Bool
is_hiding view None = false
is_hiding view (Some note) = hides view note.title
