-- What a record says of its operation.
use Rattle.std.specs.Prelude.{◌≡◌}
use Rattle.operation.specs.declared.op.Op.{Op}
use Rattle.operation.specs.Reading.{IsOp}
use Rattle.operation.specs.Spelling.{digest_of, hash_of}
use Rattle.operation.specs.Records.{record_of, digest_in}

-- two operations are no two of one digest
abbrev pub AreApart : Op → Op → Type 0
AreApart op other = digest_of op ≡ digest_of other → op ≡ other

-- the digest of what a site can take is the hash of its spelling
abbrev pub DigestsAreHashes : Type 0
DigestsAreHashes = (op : Op) → IsOp op → digest_of op ≡ hash_of op

-- a record has the digest of its operation
abbrev pub RecordsHaveDigests : Type 0
RecordsHaveDigests = (op : Op) → digest_in (record_of op) ≡ digest_of op

-- two operations of one record are one, unless they are two of one digest
abbrev pub OneRecordIsOfOne : Type 0
OneRecordIsOfOne = (op other : Op) → AreApart op other → record_of op ≡ record_of other → op ≡ other
