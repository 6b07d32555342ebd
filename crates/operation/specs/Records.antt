-- What is kept of an operation.
use Rattle.std.specs.Prelude.{ℕ, List}
use Rattle.operation.specs.declared.op.Op.{Op}
use Rattle.operation.specs.declared.op.Op.TheVariants.{Content as a_content, Correction as a_correction}
use Rattle.operation.specs.Spelling.{digest_of}
use Rattle.operation.specs.declared.record.Record.{Record}
use Rattle.operation.specs.declared.record.Record.TheVariants.{Content as kept_content, Correction as kept_correction}
use Rattle.operation.specs.RecordParts.{content_record}

-- of a content all but its bytes, with its digest; of a correction all
abbrev pub record_of : Op → Record
record_of (a_content c) = kept_content (content_record c)
record_of (a_correction k) = kept_correction k

-- the digest of the operation of a record
abbrev pub digest_in : Record → List ℕ
digest_in (kept_content r) = r.digest
digest_in (kept_correction k) = digest_of (a_correction k)
