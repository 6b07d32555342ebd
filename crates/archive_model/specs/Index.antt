-- The value of an index over a set of operations, written from the set alone: for each SOP Instance UID the digest of
-- its pick and the digests of its contents, for each UID the titles of the notes that name it, for each target and tag
-- the greatest correction.
use Rattle.std.specs.Prelude.{◌↔◌, ℕ, List, Option, Some, None, Bool, false, ◌&&◌, ◌==◌, IsTrue, map}
use Rattle.std.specs.List.{filter, list_any}
use Rattle.std.specs.Option.{option_map}
use Rattle.rejection_note.specs.declared.note.Note.{Note}
use Rattle.rejection_note.specs.declared.title.NoteTitle.{NoteTitle}
use Rattle.rejection_note.specs.declared.title.NoteTitle.TheVariants.{Quality, Safety, Worklist, Expired}
use Rattle.operation.specs.declared.op.Op.{Op}
use Rattle.operation.specs.declared.op.Op.TheVariants.{Content as a_content, Correction as a_correction}
use Rattle.operation.specs.declared.target.Target.{Target}
use Rattle.operation.specs.declared.target.Target.TheVariants.{Study, Patient, Series}
use Rattle.operation.specs.Parts.{CorrectionParts}
use Rattle.operation.specs.Spelling.{digest_of}
use Rattle.octets.specs.Texts.{same}
use Rattle.archive_model.specs.View.{hides}
use Rattle.archive_model.specs.Contents.{contents, pick}
use Rattle.archive_model.specs.Covered.{is_among, is_covered}
use Rattle.archive_model.specs.Attributes.{corrections, greatest}
use Rattle.archive_model.specs.declared.view.View.{View}

-- the digest of the pick of a UID
abbrev pub pick_digest : List ℕ → List Op → Option (List ℕ)
pick_digest uid ops = option_map (λ c. digest_of (a_content c)) (pick uid ops)

-- whether an operation is a content of a UID
abbrev pub is_content_of : List ℕ → Op → Bool
is_content_of uid (a_content c) = same c.instance uid
is_content_of uid (a_correction k) = false

-- the digests of the contents of a UID, ascending where the operations ascend
abbrev pub copies : List ℕ → List Op → List (List ℕ)
copies uid ops = map digest_of (filter (is_content_of uid) ops)

-- the code of a title (PS3.16, CID 7010)
abbrev pub code_of : NoteTitle → ℕ
code_of Quality = 113001
code_of Safety = 113037
code_of Worklist = 113038
code_of Expired = 113039

-- whether what a content says as a note names a UID under a title
abbrev pub names_under : NoteTitle → List ℕ → Option Note → Bool
names_under title uid None = false
names_under title uid (Some note) = code_of note.title == code_of title && is_among note.covers uid

-- the set of titles of the notes that name a UID, as a test
abbrev pub is_titled : List Op → List ℕ → NoteTitle → Bool
is_titled ops uid title = list_any (λ c. names_under title uid c.note) (contents ops)

-- whether both are one target
abbrev pub is_same_target : Target → Target → Bool
is_same_target (Study a) (Study b) = same a b
is_same_target (Patient a) (Patient b) = same a b
is_same_target (Series a) (Series b) = same a b
is_same_target _ _ = false

-- whether a correction is one of this target and tag
abbrev pub is_fix : Target → ℕ → CorrectionParts → Bool
is_fix target tag k = k.tag == tag && is_same_target k.target target

-- the greatest correction of a target and tag
abbrev pub fix : Target → ℕ → List Op → Option CorrectionParts
fix target tag ops = greatest (filter (is_fix target tag) (corrections ops))

-- a UID is covered in a view where it is named under a title that hides there
abbrev pub CoveredByTitles : Type 0
CoveredByTitles = (view : View) (ops : List Op) (uid : List ℕ) → IsTrue (is_covered view ops uid) ↔ ((title : NoteTitle)
    × IsTrue (is_titled ops uid title) × IsTrue (hides view title))
