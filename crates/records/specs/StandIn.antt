-- The operation that stands for all of one record.
use Rattle.std.specs.Prelude.{◌≡◌, ◌≤◌, ℕ, List, length, replicate, Bool, Option, Some, None}
use Rattle.std.specs.List.{find}
use Rattle.dictionary.specs.declared.elements.TheConstants.{SOP_INSTANCE_UID}
use Rattle.octets.specs.Bytes.{IsBytes}
use Rattle.octets.specs.Texts.{same}
use Rattle.operation.specs.declared.op.Op.{Op}
use Rattle.operation.specs.declared.op.Op.TheVariants.{Content as a_content, Correction as a_correction}
use Rattle.operation.specs.Contents.{IsContent, longest}
use Rattle.operation.specs.Corrections.{IsCorrection}
use Rattle.operation.specs.Drafts.{digest_of_draft}
use Rattle.operation.specs.Parts.{ContentParts, KeptParts, draft_with, with_digest, value_at, value_or_empty}
use Rattle.operation.specs.RecordParts.{ContentRecordParts, content_record}
use Rattle.operation.specs.Spelling.{digest_of}
use Rattle.records.specs.Strings.{strings}

-- what is kept of a content: all but its bytes, and how many there are
abbrev pub kept_of : ContentParts → KeptParts
kept_of c = record {
  class = c.class;
  instance = c.instance;
  syntax = c.syntax;
  size = length c.body;
  values = c.values;
  note = c.note;
}

-- whether these bytes, with what is kept, have a digest
abbrev pub has_digest : List ℕ → KeptParts → List ℕ → Bool
has_digest digest kept body = same (digest_of_draft (draft_with kept body)) digest

-- so many zeros
abbrev pub zeros : ℕ → List ℕ
zeros size = replicate size 0

-- what was found, or as many zeros
abbrev pub found_or_zeros : ℕ → Option (List ℕ) → List ℕ
found_or_zeros size None = zeros size
found_or_zeros size (Some body) = body

-- the first bytes, in their order, that have; zeros where none have
unfoldable pub body_under : List ℕ → KeptParts → List ℕ
body_under digest kept = found_or_zeros kept.size (find (has_digest digest kept) (strings kept.size))

-- the first content of a digest of which this is kept
abbrev pub content_under : List ℕ → KeptParts → ContentParts
content_under digest kept = with_digest digest kept (body_under digest kept)

-- the content that stands for all that have the digest of this one and of which the same is kept: the first of them.
-- Where no two contents have one digest it is this one.
abbrev pub stand_in : ContentParts → ContentParts
stand_in c = content_under (digest_of (a_content c)) (kept_of c)

-- the same of an operation; all of a correction is kept
abbrev pub op_in : Op → Op
op_in (a_content c) = a_content (stand_in c)
op_in (a_correction k) = a_correction k

-- ---- records

-- what a record keeps of its content
abbrev pub kept_in : ContentRecordParts → KeptParts
kept_in r = record {
  class = r.class;
  instance = r.instance;
  syntax = r.syntax;
  size = r.size;
  values = r.values;
  note = r.note;
}

-- the content that stands for a record
abbrev pub content_of : ContentRecordParts → ContentParts
content_of r = content_under r.digest (kept_in r)

-- a content of bytes
abbrev pub IsWhole : ContentParts → Type 0
IsWhole c = IsContent c × IsBytes c.body

-- what a digest is: 32 bytes
pub record IsDigest (digest : List ℕ) : Type 0 where
  pub long : length digest ≡ 32
  pub bytes : IsBytes digest

-- what the record of a content keeps true of its parts: its class and its instance have the length of UIDs, the
-- instance is its value of SOP Instance UID (0008,0018), and its data set is no longer than any
pub record IsRecord (r : ContentRecordParts) : Type 0 where
  pub digest : IsDigest r.digest
  pub class : length r.class ≤ 64
  pub instance : length r.instance ≤ 64
  pub named : value_or_empty (value_at SOP_INSTANCE_UID r.values) ≡ r.instance
  pub short : r.size ≤ longest

-- those of its facts that are numbers
pub record HasLengths (r : ContentRecordParts) : Type 0 where
  pub class : length r.class ≤ 64
  pub instance : length r.instance ≤ 64
  pub short : r.size ≤ longest

-- a content stands for those of a record: it is the first of its digest, and its record is lawful
pub record IsStandIn (c : ContentParts) : Type 0 where
  pub stands : stand_in c ≡ c
  pub lawful : IsRecord (content_record c)

-- This operation stands for those of a record.
abbrev pub IsOpIn : Op → Type 0
IsOpIn (a_content c) = IsStandIn c
IsOpIn (a_correction k) = IsCorrection k

-- an operation of bytes that keeps true what every operation does
abbrev pub IsWholeOp : Op → Type 0
IsWholeOp (a_content c) = IsWhole c
IsWholeOp (a_correction k) = IsCorrection k
