-- What the definitions mean, member by member.
use Rattle.std.specs.Prelude.{◌≡◌, ◌↔◌, ◌<◌, ℕ, List, [], Some, None, IsTrue, false, map, length}
use Rattle.std.specs.Ordering.{is_le}
use Rattle.std.specs.List.Sorted.{IsStrictlySortedBy}
use Rattle.rejection_note.specs.declared.note.Note.{Note}
use Rattle.operation.specs.declared.op.Op.{Op}
use Rattle.operation.specs.declared.op.Op.TheVariants.{Content as a_content}
use Rattle.operation.specs.Parts.{ContentParts, CorrectionParts}
use Rattle.operation.specs.Spelling.{digest_of}
use Rattle.archive_model.specs.declared.view.View.{View}
use Rattle.archive_model.specs.declared.view.View.TheVariants.{Audit}
use Rattle.octets.specs.Texts.{text_cmp}
use Rattle.archive_model.specs.View.{hides}
use Rattle.archive_model.specs.Contents.{contents, contents_of, pick, flagged}
use Rattle.archive_model.specs.Covered.{is_covered, is_hiding}
use Rattle.archive_model.specs.Shown.{shown}
use Rattle.archive_model.specs.Groups.{in_study, in_series, study_representative, series_representative}
use Rattle.archive_model.specs.Attributes.{correction_cmp, greatest}
use Rattle.octets.specs.Members.{Has}

-- the operations ascend by digest
abbrev pub Ascend : List Op → Type 0
Ascend ops = IsStrictlySortedBy text_cmp (map digest_of ops)

-- no correction comes after another
abbrev pub IsNotAfter : CorrectionParts → CorrectionParts → Type 0
IsNotAfter other k = IsTrue (is_le (correction_cmp other k))

-- the greatest of some corrections is one of them that none comes after
abbrev pub GreatestIsLast : Type 0
GreatestIsLast = (ks : List CorrectionParts) (k : CorrectionParts) → greatest ks ≡ Some k → Has ks k
    × ((other : CorrectionParts) → Has ks other → IsNotAfter other k)

-- some corrections have a greatest
abbrev pub SomeHaveGreatest : Type 0
SomeHaveGreatest = (ks : List CorrectionParts) → greatest ks ≡ None → ks ≡ []

-- corrections of which neither comes after the other have one value
abbrev pub LastHaveOneValue : Type 0
LastHaveOneValue = (j k : CorrectionParts) → IsNotAfter j k → IsNotAfter k j → j.value ≡ k.value

-- the pick of a UID is one of its contents
abbrev pub PickIsContent : Type 0
PickIsContent = (uid : List ℕ) (ops : List Op) (c : ContentParts) → pick uid ops ≡ Some c → Has (contents ops) c
    × (c.instance ≡ uid)

-- and none of them has a lesser digest
abbrev pub PickIsLeast : Type 0
PickIsLeast = (uid : List ℕ) (ops : List Op) (c d : ContentParts) → Ascend ops → pick uid ops ≡ Some c
    → Has (contents ops) d → d.instance ≡ uid
    → IsTrue (is_le (text_cmp (digest_of (a_content c)) (digest_of (a_content d))))

-- a UID with no pick has no content
abbrev pub ContentsHavePick : Type 0
ContentsHavePick = (uid : List ℕ) (ops : List Op) (c : ContentParts) → pick uid ops ≡ None → Has (contents ops) c
    → c.instance ≡ uid → ⊥

-- a UID is covered where a content of the set is a note that names it and whose title hides
abbrev pub CoveredIsNamed : Type 0
CoveredIsNamed = (view : View) (ops : List Op) (uid : List ℕ) → IsTrue (is_covered view ops uid)
    ↔ ((c : ContentParts) × (note : Note) × Has (contents ops) c × (c.note ≡ Some note) × IsTrue (hides view note.title)
    × Has note.covers uid)

-- what is shown are the picks whose UID is not covered and which are no notes that hide
abbrev pub ShownArePicks : Type 0
ShownArePicks = (view : View) (ops : List Op) (c : ContentParts) → Has (shown view ops) c
    ↔ ((pick c.instance ops ≡ Some c) × (is_covered view ops c.instance ≡ false) × (is_hiding view c.note ≡ false))

-- in an audit no UID is covered
abbrev pub AuditCoversNothing : Type 0
AuditCoversNothing = (ops : List Op) (uid : List ℕ) → is_covered Audit ops uid ≡ false

-- and every pick is shown, a rejected image and a note as any other
abbrev pub AuditShowsPicks : Type 0
AuditShowsPicks = (ops : List Op) (c : ContentParts) → Has (shown Audit ops) c ↔ (pick c.instance ops ≡ Some c)

-- the flagged UIDs are those with two contents or more
abbrev pub FlaggedHaveTwo : Type 0
FlaggedHaveTwo = (ops : List Op) (uid : List ℕ) → Has (flagged ops) uid ↔ (1 < length (contents_of uid ops))

-- what is shown ascends by SOP Instance UID
abbrev pub ShownAscend : Type 0
ShownAscend = (view : View) (ops : List Op) → IsStrictlySortedBy text_cmp (map (λ c. c.instance) (shown view ops))

-- a content is one of these, and has the least SOP Instance UID of them
abbrev pub IsLeastOf : List ContentParts → ContentParts → Type 0
IsLeastOf cs c = Has cs c × ((d : ContentParts) → Has cs d → IsTrue (is_le (text_cmp c.instance d.instance)))

-- the representative of a study has the least UID of what is shown of the study
abbrev pub StudyRepresentativeIsLeast : Type 0
StudyRepresentativeIsLeast = (view : View) (ops : List Op) (study : List ℕ) (c : ContentParts) → study_representative
    study (shown view ops) ≡ Some c → IsLeastOf (in_study study (shown view ops)) c

-- that of a series of a study the least UID of what is shown of the series
abbrev pub SeriesRepresentativeIsLeast : Type 0
SeriesRepresentativeIsLeast = (view : View) (ops : List Op) (study series : List ℕ) (c : ContentParts)
    → series_representative study series (shown view ops) ≡ Some c
    → IsLeastOf (in_series study series (shown view ops)) c
