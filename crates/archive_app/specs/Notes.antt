-- What a command says beside its answer.
use Rattle.std.specs.Prelude.{ℕ, List, [], ◌∷◌, ◌++◌, length, take, codes, Bool, false, not, ◌&&◌, ◌||◌, ◌==◌}
use Rattle.std.specs.Prelude.{nat_eq, slice_get, Option, Some, None}
use Rattle.std.specs.Cmp.Lexicographic.{pointwise}
use Rattle.std.specs.List.{ends_with}
use Rattle.archive_app.specs.declared.output.notes.Note.{Note}
use Rattle.archive_app.specs.declared.output.notes.Note.TheVariants.{InLog, Made, WithoutLog, ShownWithout, NoDate, NoTime}
use Rattle.archive_app.specs.declared.output.notes.Note.TheVariants.{DamagedRecords, NoRecords, NoHeads, OtherRecords}
use Rattle.archive_app.specs.declared.output.notes.Note.TheVariants.{RenewedHeads, HiddenGroup, ShortBodies, DamagedHeld, NoHeld, LostFrames, RestOfLog}
use Rattle.archive_app.specs.declared.output.notes.Note.TheVariants.{UnknownStudy, UnknownPatient, UnknownSeries}

-- each note in words
abbrev pub words_of_note : Note → List ℕ
words_of_note InLog = codes "its operations stand in a log"
words_of_note Made = codes "it was not there, and is made"
words_of_note WithoutLog =
    codes "its -wal is not beside it: without it what came last is missing, unless sqlite3 closed it"
words_of_note DamagedRecords = codes "its file records is damaged, and begun anew: this start reads each image"
words_of_note NoRecords = codes "its file records is not used: this start reads each image"
words_of_note NoHeads = codes "its file heads is empty, and bodies is not: what was there is not read"
words_of_note RenewedHeads = codes "its file heads was of an older form, and is renewed"
words_of_note HiddenGroup = codes "its older heads have a group behind their end, which does not count: see heads.older"
words_of_note ShortBodies =
    codes "its file bodies ended too soon: what it lacks can't be read till it comes again"
words_of_note DamagedHeld = codes "its file held is damaged: whether operations are missing isn't known"
words_of_note NoHeld = codes "its file held can't be written: operations that go missing may not be told"
words_of_note OtherRecords =
    codes "its file records does not follow its log: remove it, and the next start makes it anew"
words_of_note ShownWithout =
    codes "warning: it is served without what can't be read: what a note hides may be shown"
words_of_note LostFrames = codes "its -wal is damaged: what stands behind the damage is not read"
words_of_note RestOfLog = codes "frames stand behind the end of its -wal: a crash left them, or a disk that changed"
words_of_note NoDate = codes "warning: VALUE is no date that a query matches, such as 20240229"
words_of_note NoTime = codes "warning: VALUE is no time that a query matches, such as 101530"
words_of_note UnknownStudy = codes "warning: it has nothing of this study, or not yet"
words_of_note UnknownPatient = codes "warning: it has nothing of this patient, or not yet"
words_of_note UnknownSeries = codes "warning: it has nothing of this series, or not yet"

-- what the file of a SQLite database begins with
abbrev pub magic : List ℕ
magic = codes "SQLite format 3" ++ 0 ∷ []

-- whether the first bytes of a file are those of a database
abbrev pub is_database : List ℕ → Bool
is_database head = pointwise nat_eq (take 16 head) magic

-- not empty, and no database
abbrev pub is_other : List ℕ → Bool
is_other head = not (length head == 0) && not (is_database head)

-- a byte that says that the database is written by way of a log
abbrev pub is_logged : Option ℕ → Bool
is_logged None = false
is_logged (Some version) = version == 2

-- no log is beside it, and it is empty or a database that is written by way of a log
abbrev pub lacks_log : List ℕ → Bool → Bool
lacks_log head has_log = not has_log && (length head == 0 || (is_database head && is_logged (slice_get head 18)))

-- whether the name of an archive is that of a folder
abbrev pub names_folder : List ℕ → Bool
names_folder name = ends_with nat_eq name (codes "/")
