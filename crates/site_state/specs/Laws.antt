-- What sites are, whatever the order in which they took their operations.
use Rattle.std.specs.Prelude.{◌≡◌, ℕ, List, [], ◌∷◌, ◌++◌, Some, Ok, IsTrue}
use Rattle.std.specs.FinMap as finmap
use Rattle.std.specs.Ordering.{is_le}
use Rattle.rejection_note.specs.declared.note.Note.{Note}
use Rattle.operation.specs.declared.op.Op.{Op}
use Rattle.operation.specs.declared.op.Op.TheVariants.{Content as a_content}
use Rattle.operation.specs.Parts.{ContentParts}
use Rattle.operation.specs.Spelling.{digest_of}
use Rattle.archive_model.specs.Members.{Has, SameMembers}
use Rattle.archive_model.specs.Laws.{Ascend}
use Rattle.archive_model.specs.Texts.{text_cmp}
use Rattle.archive_model.specs.View.{hides}
use Rattle.archive_model.specs.Contents.{contents_of, pick, flagged}
use Rattle.archive_model.specs.Covered.{is_covered}
use Rattle.archive_model.specs.Shown.{shown}
use Rattle.archive_model.specs.Attributes.{attribute}
use Rattle.archive_model.specs.declared.view.View.{View}
use Rattle.operation.specs.declared.taken.Taken.{Taken}
use Rattle.site_state.specs.Site.{Map, IsSite, ops_of, with_op, Takes, top_counter_of, counts_of}
use Rattle.site_state.specs.Union.{union}

-- operations of one digest are one: unequal operations have unequal digests
abbrev pub Apart : List Op → Type 0
Apart ops = (o p : Op) → Has ops o → Has ops p → digest_of o ≡ digest_of p → o ≡ p

-- what a site holds once it took these operations, one after another
abbrev pub holding : Map → List Op → Map
holding m [] = m
holding m (o ∷ ops) = holding (with_op m o) ops

-- what a new site holds once it took these
abbrev pub after_taking : List Op → Map
after_taking ops = holding finmap.empty ops

-- an operation that is taken, new or known, is added to the site
abbrev pub TakingAdds : Type 0
TakingAdds = (old new : Map) (op : Op) (taken : Taken) → Takes old op (Ok taken) new → new ≡ with_op old op

-- ---- unions

abbrev pub IsCommutative : Type 0
IsCommutative = (m n : Map) → IsSite m → IsSite n → Apart (ops_of m ++ ops_of n) → union m n ≡ union n m

abbrev pub IsAssociative : Type 0
IsAssociative = (m n k : Map) → union (union m n) k ≡ union m (union n k)

abbrev pub IsIdempotent : Type 0
IsIdempotent = (m : Map) → union m m ≡ m

-- what two sites took is the union of what each took
abbrev pub UnionIsOfBoth : Type 0
UnionIsOfBoth = (xs ys : List Op) → Apart (xs ++ ys) → union (after_taking xs) (after_taking ys) ≡ after_taking
    (xs ++ ys)

-- ---- order and repeats are free

-- two sites took the same operations, in whatever order and with whatever repeats,
-- and unequal ones have unequal digests
abbrev pub TookTheSame : List Op → List Op → Type 0
TookTheSame xs ys = SameMembers xs ys × Apart xs

abbrev pub EqualMaps : Type 0
EqualMaps = (xs ys : List Op) → TookTheSame xs ys → after_taking xs ≡ after_taking ys

abbrev pub EqualContents : Type 0
EqualContents = (xs ys : List Op) (uid : List ℕ) → TookTheSame xs ys → contents_of uid (ops_of (after_taking xs))
    ≡ contents_of uid (ops_of (after_taking ys))

abbrev pub EqualPicks : Type 0
EqualPicks = (xs ys : List Op) (uid : List ℕ) → TookTheSame xs ys → pick uid (ops_of (after_taking xs)) ≡ pick
    uid (ops_of (after_taking ys))

abbrev pub EqualCovers : Type 0
EqualCovers = (xs ys : List Op) (view : View) (uid : List ℕ) → TookTheSame xs ys
    → is_covered view (ops_of (after_taking xs)) uid ≡ is_covered view (ops_of (after_taking ys)) uid

-- studies, series, representatives and counts are functions of what is shown
abbrev pub EqualShown : Type 0
EqualShown = (xs ys : List Op) (view : View) → TookTheSame xs ys → shown view (ops_of (after_taking xs)) ≡ shown
    view (ops_of (after_taking ys))

abbrev pub EqualFlagged : Type 0
EqualFlagged = (xs ys : List Op) → TookTheSame xs ys → flagged (ops_of (after_taking xs)) ≡ flagged
    (ops_of (after_taking ys))

abbrev pub EqualAttributes : Type 0
EqualAttributes = (xs ys : List Op) (c : ContentParts) (tag : ℕ) → TookTheSame xs ys
    → attribute (ops_of (after_taking xs)) c tag ≡ attribute (ops_of (after_taking ys)) c tag

abbrev pub EqualCounts : Type 0
EqualCounts = (xs ys : List Op) → TookTheSame xs ys → counts_of (ops_of (after_taking xs)) ≡ counts_of
    (ops_of (after_taking ys))

abbrev pub EqualTops : Type 0
EqualTops = (xs ys : List Op) → TookTheSame xs ys → top_counter_of (ops_of (after_taking xs)) ≡ top_counter_of
    (ops_of (after_taking ys))

-- ---- notes before images

-- a note that was taken before its images hides them as one that was taken after
abbrev pub NoteBeforeIsNoteAfter : Type 0
NoteBeforeIsNoteAfter = (view : View) (note : ContentParts) (images : List Op) → Apart (a_content note ∷ images)
    → shown view (ops_of (after_taking (a_content note ∷ images))) ≡ shown
    view (ops_of (after_taking (images ++ a_content note ∷ [])))

-- what a note names is not shown where its title hides, whenever the note was taken
abbrev pub NamedIsNotShown : Type 0
NamedIsNotShown = (view : View) (ops : List Op) (note : ContentParts) (says : Note) (image : ContentParts) → Apart ops
    → Has ops (a_content note) → note.note ≡ Some says → IsTrue (hides view says.title)
    → Has says.covers image.instance → Has (shown view (ops_of (after_taking ops))) image → ⊥

-- ---- the order of the operations

-- what a new site holds once it took some operations is a site
abbrev pub TakenIsSite : Type 0
TakenIsSite = (ops : List Op) → IsSite (after_taking ops)

-- the operations of a site ascend by digest
abbrev pub OperationsAscend : Type 0
OperationsAscend = (m : Map) → IsSite m → Ascend (ops_of m)

-- a content of a UID that a site holds, and none of the UID that it holds has a lesser digest
pub record HasLeastDigest (m : Map) (uid : List ℕ) (c : ContentParts) : Type 0 where
  pub held : Has (ops_of m) (a_content c)
  pub of_uid : c.instance ≡ uid
  pub least : (d : ContentParts) → Has (ops_of m) (a_content d) → d.instance ≡ uid
      → IsTrue (is_le (text_cmp (digest_of (a_content c)) (digest_of (a_content d))))

-- so the pick of a UID is the one of least digest
abbrev pub PickHasLeastDigest : Type 0
PickHasLeastDigest = (m : Map) (uid : List ℕ) (c : ContentParts) → IsSite m → pick uid (ops_of m) ≡ Some c
    → HasLeastDigest m uid c
