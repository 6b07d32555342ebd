-- The header of a PDU (PS3.8, 9.3.1): its type, a reserved byte, and the length of its body.
use Rattle.std.specs.Prelude.{ℕ, ◌==◌, ◌||◌, nat_lt, Option, Some, None, Result, Ok, Err, if◌then◌else◌}
use Rattle.pdu.specs.declared.fault.PduFault.{PduFault}
use Rattle.pdu.specs.declared.fault.PduFault.TheVariants.{UnknownType, BadLength, TooLong}
use Rattle.pdu.specs.declared.header.TheConstants.{LONGEST_BODY, LONGEST_ACCEPT, OPENING_LENGTH, FIXED_LENGTH}
use Rattle.pdu.specs.declared.header.TheConstants.{ASSOCIATE_RQ, ASSOCIATE_AC, ASSOCIATE_RJ, P_DATA, RELEASE_RQ}
use Rattle.pdu.specs.declared.header.TheConstants.{RELEASE_RP, ABORT}

-- a length that is below the least, or above the greatest
abbrev pub range_fault : ℕ → ℕ → ℕ → Option PduFault
range_fault size least greatest =
    if nat_lt size least then Some BadLength else if nat_lt greatest size then Some TooLong else None

-- the fault that a type and a length have, where they have one
abbrev pub header_fault : ℕ → ℕ → Option PduFault
header_fault code size =
    if code == ASSOCIATE_RQ then range_fault size OPENING_LENGTH LONGEST_BODY
    else if code == ASSOCIATE_AC then range_fault size OPENING_LENGTH LONGEST_ACCEPT
    else if code == P_DATA then range_fault size 0 LONGEST_BODY
    else if code == ASSOCIATE_RJ || code == RELEASE_RQ || code == RELEASE_RP || code == ABORT
    then (if size == FIXED_LENGTH then None else Some BadLength)
    else Some UnknownType

-- a type, and the length of a body
pub record HeaderParts : Type 0 where
  pub code : ℕ
  pub length : ℕ

abbrev pub or_fault : Option PduFault → HeaderParts → Result HeaderParts PduFault
or_fault None header = Ok header
or_fault (Some fault) header = Err fault

-- a type and a length, or the fault that they have
abbrev pub header_at : ℕ → ℕ → Result HeaderParts PduFault
header_at code length = or_fault (header_fault code length) (record { code = code; length = length })
