-- What an operation that stands for others has of them.
use Rattle.std.specs.Prelude.{◌≡◌}
use Rattle.operation.specs.declared.op.Op.{Op}
use Rattle.operation.specs.Records.{record_of}
use Rattle.operation.specs.Spelling.{hash_of}
use Rattle.records.specs.StandIn.{IsOpIn, IsWholeOp, op_in}

-- its digest and its record
abbrev pub StandInHasRecord : Type 0
StandInHasRecord = (op : Op) → record_of (op_in op) ≡ record_of op

-- and the hash of its spelling
abbrev pub StandInHasHash : Type 0
StandInHasHash = (op : Op) → IsWholeOp op → hash_of (op_in op) ≡ hash_of op

-- so it is this one, unless they are two of one hash
abbrev pub StandInIsOne : Type 0
StandInIsOne = (op : Op) → IsWholeOp op → (hash_of (op_in op) ≡ hash_of op → op_in op ≡ op) → op_in op ≡ op

-- operations of one record have one that stands for them, and only those have
abbrev pub StandInIsOfRecord : Type 0
StandInIsOfRecord = (op other : Op) → ((record_of op ≡ record_of other → op_in op ≡ op_in other)
    × (op_in op ≡ op_in other → record_of op ≡ record_of other))

-- what stands for others stands for itself
abbrev pub StandsForItself : Type 0
StandsForItself = (op : Op) → IsOpIn op → op_in op ≡ op
