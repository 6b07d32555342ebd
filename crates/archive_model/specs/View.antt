-- What each view hides (IHE RAD-66, Rejection Note Stored; titles: PS3.16, CID 7010).
use Rattle.std.specs.Prelude.{Bool, true, false}
use Rattle.rejection_note.specs.declared.title.NoteTitle.{NoteTitle}
use Rattle.rejection_note.specs.declared.title.NoteTitle.TheVariants.{Quality as for_quality, Safety, Worklist, Expired}
use Rattle.archive_model.specs.declared.view.View.{View}
use Rattle.archive_model.specs.declared.view.View.TheVariants.{Archive, Quality, Audit}

-- whether notes of a title hide in a view
abbrev pub hides : View → NoteTitle → Bool
hides Archive title = true
hides Quality for_quality = false
hides Quality Safety = true
hides Quality Worklist = true
hides Quality Expired = true
hides Audit title = false
