-- The contents of each flagged SOP Instance UID.
use Rattle.std.specs.Prelude.{ℕ, List, [], ◌∷◌, Option, Some, None, Bool, false, length, map, if◌then◌else◌}
use Rattle.std.specs.List.{flat_map}
use Rattle.std.specs.Fmt.{decimal}
use Rattle.hex.specs.Hex.{encode_lower}
use Rattle.octets.specs.Texts.{same}
use Rattle.operation.specs.declared.op.Op.{Op}
use Rattle.operation.specs.declared.op.Op.TheVariants.{Content as a_content, Correction as a_correction}
use Rattle.operation.specs.Parts.{ContentParts}
use Rattle.operation.specs.Spelling.{digest_of}
use Rattle.archive_model.specs.Contents.{contents_of, flagged, is_of_instance, pick, study_of}
use Rattle.site_tables.specs.declared.conflicts.Flagged.{Flagged}
use Rattle.site_tables.specs.Cells.{yes_no}
use Rattle.site_tables.specs.Under.{has_under}

-- the digest of a content, if there is one
abbrev pub digest_if : Option ContentParts → Option (List ℕ)
digest_if None = None
digest_if (Some c) = Some (digest_of (a_content c))

-- whether this is a digest, if there is one
abbrev pub is_this : Option (List ℕ) → List ℕ → Bool
is_this None digest = false
is_this (Some other) digest = same other digest

-- a content with the digest of the pick of its SOP Instance UID
abbrev pub with_pick : List Op → ContentParts → Flagged
with_pick ops c = record { content = c; pick = digest_if (pick c.instance ops) }

-- the UID, the digest, how many bytes the data set has, (0020,000D) Study Instance UID, and whether it is the pick:
-- the pick has its digest
abbrev pub conflict_row : Flagged → List (List ℕ)
conflict_row f =
    f.content.instance ∷ encode_lower (digest_of (a_content f.content)) ∷ decimal (length f.content.body)
    ∷ study_of f.content ∷ yes_no (is_this f.pick (digest_of (a_content f.content))) ∷ []

-- an operation that is a content of a SOP Instance UID
abbrev pub conflicts_in : List Op → List ℕ → Op → List Flagged
conflicts_in ops uid (a_content c) = if is_of_instance uid c then with_pick ops c ∷ [] else []
conflicts_in ops uid (a_correction k) = []

-- those of some operations
abbrev pub conflicts_among : List Op → List ℕ → List Op → List Flagged
conflicts_among ops uid some = flat_map (conflicts_in ops uid) some

-- the contents of a SOP Instance UID, ascending by digest where the operations are
abbrev pub conflicts_of : List Op → List ℕ → List Flagged
conflicts_of ops uid = map (with_pick ops) (contents_of uid ops)

-- an operation under its SOP Instance UID, where it is a content of one under which something lies
abbrev pub instance_pair : List (List ℕ × List ℕ) → Op → Option (List ℕ × Op)
instance_pair marks (a_content c) = if has_under c.instance marks then Some (c.instance, a_content c) else None
instance_pair marks (a_correction k) = None

-- the contents of each flagged SOP Instance UID, ascending
abbrev pub conflicts : List Op → List Flagged
conflicts ops = flat_map (conflicts_of ops) (flagged ops)

-- their rows
abbrev pub conflict_rows : List Op → List (List (List ℕ))
conflict_rows ops = map conflict_row (conflicts ops)
