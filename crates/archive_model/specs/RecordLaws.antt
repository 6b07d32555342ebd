-- What is shown of two sets of operations of which the same is kept. A set is the list of its operations, ascending by
-- digest, and so is what is kept of it.
use Rattle.std.specs.Prelude.{◌≡◌, ℕ, List, map}
use Rattle.std.specs.Option.{option_map}
use Rattle.rejection_note.specs.declared.title.NoteTitle.{NoteTitle}
use Rattle.operation.specs.declared.op.Op.{Op}
use Rattle.operation.specs.declared.target.Target.{Target}
use Rattle.operation.specs.Parts.{ContentParts}
use Rattle.operation.specs.Spelling.{digest_of}
use Rattle.operation.specs.RecordParts.{ContentRecordParts, content_record}
use Rattle.operation.specs.Records.{record_of}
use Rattle.archive_model.specs.declared.view.View.{View}
use Rattle.archive_model.specs.Attributes.{attribute}
use Rattle.archive_model.specs.Contents.{contents, flagged, pick}
use Rattle.archive_model.specs.Covered.{is_covered}
use Rattle.archive_model.specs.Groups.{studies, series_in, study_representative, series_representative}
use Rattle.archive_model.specs.Groups.{instances_of_study, series_of_study}
use Rattle.archive_model.specs.Index.{copies, fix, is_titled, pick_digest}
use Rattle.archive_model.specs.Shown.{shown}
use Rattle.archive_model.specs.declared.query.Query.{Query}
use Rattle.archive_model.specs.Rows.{rows_of}
use Rattle.archive_model.specs.declared.prepared.Prepared.{Prepared}
use Rattle.archive_model.specs.declared.selection.Selection.{Selection}
use Rattle.archive_model.specs.Change.{ChangeParts}
use Rattle.archive_model.specs.Preparing.{prepared_of}

-- of both sets the same is kept
abbrev pub KeepTheSame : List Op → List Op → Type 0
KeepTheSame ops others = map record_of ops ≡ map record_of others

-- their digests are the same
abbrev pub SameDigests : Type 0
SameDigests = (ops others : List Op) → KeepTheSame ops others → map digest_of ops ≡ map digest_of others

-- the same is kept of their contents
abbrev pub SameContents : Type 0
SameContents = (ops others : List Op) → KeepTheSame ops others
    → map content_record (contents ops) ≡ map content_record (contents others)

-- and of the pick of each UID
abbrev pub SamePicks : Type 0
SamePicks = (ops others : List Op) (uid : List ℕ) → KeepTheSame ops others
    → option_map content_record (pick uid ops) ≡ option_map content_record (pick uid others)

-- the same UIDs have two contents or more
abbrev pub SameFlagged : Type 0
SameFlagged = (ops others : List Op) → KeepTheSame ops others → flagged ops ≡ flagged others

-- the same UIDs are covered
abbrev pub SameCovered : Type 0
SameCovered = (ops others : List Op) (view : View) (uid : List ℕ) → KeepTheSame ops others
    → is_covered view ops uid ≡ is_covered view others uid

-- the same is kept of what is shown
abbrev pub SameShown : Type 0
SameShown = (ops others : List Op) (view : View) → KeepTheSame ops others
    → map content_record (shown view ops) ≡ map content_record (shown view others)

-- contents of which the same is kept have the same attributes
abbrev pub SameAttributes : Type 0
SameAttributes = (ops others : List Op) (c d : ContentParts) (tag : ℕ) → KeepTheSame ops others
    → content_record c ≡ content_record d → attribute ops c tag ≡ attribute others d tag

-- the same studies are shown
abbrev pub SameStudies : Type 0
SameStudies = (ops others : List Op) (view : View) → KeepTheSame ops others
    → studies (shown view ops) ≡ studies (shown view others)

-- and the same series of each
abbrev pub SameSeries : Type 0
SameSeries = (ops others : List Op) (view : View) (study : List ℕ) → KeepTheSame ops others
    → series_in study (shown view ops) ≡ series_in study (shown view others)

-- the same is kept of the representative of each study
abbrev pub SameStudyRepresentatives : Type 0
SameStudyRepresentatives = (ops others : List Op) (view : View) (study : List ℕ) → KeepTheSame ops others
    → option_map content_record (study_representative study (shown view ops))
    ≡ option_map content_record (study_representative study (shown view others))

-- and of that of each of its series
abbrev pub SameSeriesRepresentatives : Type 0
SameSeriesRepresentatives = (ops others : List Op) (view : View) (study series : List ℕ) → KeepTheSame ops others
    → option_map content_record (series_representative study series (shown view ops))
    ≡ option_map content_record (series_representative study series (shown view others))

-- each study has as many instances
abbrev pub SameStudyCounts : Type 0
SameStudyCounts = (ops others : List Op) (view : View) (study : List ℕ) → KeepTheSame ops others
    → instances_of_study study (shown view ops) ≡ instances_of_study study (shown view others)

-- and as many series
abbrev pub SameSeriesCounts : Type 0
SameSeriesCounts = (ops others : List Op) (view : View) (study : List ℕ) → KeepTheSame ops others
    → series_of_study study (shown view ops) ≡ series_of_study study (shown view others)

-- the picks have the same digests
abbrev pub SamePickDigests : Type 0
SamePickDigests = (ops others : List Op) (uid : List ℕ) → KeepTheSame ops others
    → pick_digest uid ops ≡ pick_digest uid others

-- and so have all contents of a UID
abbrev pub SameCopies : Type 0
SameCopies = (ops others : List Op) (uid : List ℕ) → KeepTheSame ops others → copies uid ops ≡ copies uid others

-- each UID is named under the same titles
abbrev pub SameTitles : Type 0
SameTitles = (ops others : List Op) (uid : List ℕ) (title : NoteTitle) → KeepTheSame ops others
    → is_titled ops uid title ≡ is_titled others uid title

-- each target and tag has the same greatest correction
abbrev pub SameFixes : Type 0
SameFixes = (ops others : List Op) (target : Target) (tag : ℕ) → KeepTheSame ops others
    → fix target tag ops ≡ fix target tag others

-- a query has the same rows
abbrev pub SameRows : Type 0
SameRows = (ops others : List Op) (view : View) (called : List ℕ) (q : Query) → KeepTheSame ops others
    → rows_of view called q ops ≡ rows_of view called q others

-- what is kept of an instance that is to be sent, with its changes
abbrev pub kept_prepared : Prepared → ContentRecordParts × List ChangeParts
kept_prepared p = (content_record p.content, p.changes)

-- the same is to be sent, with the same changes
abbrev pub SamePrepared : Type 0
SamePrepared = (ops others : List Op) (view : View) (selection : Selection) → KeepTheSame ops others
    → map kept_prepared (prepared_of view selection ops) ≡ map kept_prepared (prepared_of view selection others)
