-- What notes of one title hide, and of all of them.
use Rattle.std.specs.Prelude.{ℕ, List, Bool, ◌&&◌, ◌||◌, Option, Some, None}
use Rattle.rejection_note.specs.declared.title.NoteTitle.{NoteTitle}
use Rattle.rejection_note.specs.declared.title.NoteTitle.TheVariants.{Quality, Safety, Worklist, Expired}
use Rattle.operation.specs.declared.op.Op.{Op}
use Rattle.operation.specs.Parts.{ContentParts}
use Rattle.archive_model.specs.Contents.{content_in}
use Rattle.archive_model.specs.Index.{is_titled}
use Rattle.archive_model.specs.View.{hides}
use Rattle.archive_model.specs.declared.view.View.{View}

-- whether notes of a title name a UID and hide in a view
abbrev pub hides_under : View → List Op → List ℕ → NoteTitle → Bool
hides_under view ops uid title = hides view title && is_titled ops uid title

-- whether notes of one of the four titles do
abbrev pub is_hidden : View → List Op → List ℕ → Bool
is_hidden view ops uid = hides_under view ops uid Quality || hides_under view ops uid Safety || hides_under view ops uid
    Worklist || hides_under view ops uid Expired

-- the content in what is held under a digest
abbrev pub content_held : Option Op → Option ContentParts
content_held None = None
content_held (Some op) = content_in op
