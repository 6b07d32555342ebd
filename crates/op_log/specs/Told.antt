-- Contents that are told of a log's operations, so that these need not be read.
use Rattle.std.specs.Prelude.{◌≡◌, ℕ, List, map}
use Rattle.octets.specs.Members.{Has}
use Rattle.operation.specs.Parts.{ContentParts}
use Rattle.operation.specs.Reading.{IsOp}
use Rattle.operation.specs.declared.op.Op.{Op}
use Rattle.operation.specs.declared.op.Op.TheVariants.{Content as a_content}
use Rattle.operation.specs.Spelling.{digest_of, hash_of}
use Rattle.records.specs.StandIn.{op_in}
use Rattle.op_log.specs.Heads.{Head}
use Rattle.op_log.specs.Kept.{HaveOwnDigests}
use Rattle.op_log.specs.Loaded.{Lists}
use Rattle.op_log.specs.Recorded.{AreRecordedAs}

-- each told content stands for that of some operations that has its digest, where one of them does
abbrev pub TellTrue : List ContentParts → List Op → Type 0
TellTrue told ops =
    (c : ContentParts) → Has told c → (op : Op) → Has ops op → hash_of op ≡ digest_of (a_content c) → a_content c ≡ op_in op

-- each told content stands for one of some operations
abbrev pub AreToldOf : List Op → List ContentParts → Type 0
AreToldOf ops told = (c : ContentParts) → Has told c → (op : Op) × Has ops op × (a_content c ≡ op_in op)

-- no two operations, one of these and one of those, have one hash
abbrev pub AreApart : List Op → List Op → Type 0
AreApart these those =
    (op : Op) → Has these op → (other : Op) → Has those other → hash_of op ≡ hash_of other → op ≡ other

-- all of these are lawful
abbrev pub AreLawful : List Op → Type 0
AreLawful ops = (op : Op) → Has ops op → IsOp op

-- where what is told of the operations of the heads is true, the records are what stands for these
abbrev pub ToldStands : Type 0
ToldStands =
    (file : List ℕ) (told : List ContentParts) (heads : List Head) (recorded ops : List Op) → TellTrue told ops
    → Lists file heads ops → AreRecordedAs file told heads recorded → recorded ≡ map op_in ops

-- records of some operations are true of others, unless two of both have one hash
abbrev pub RecordsTellTrue : Type 0
RecordsTellTrue =
    (before ops : List Op) (told : List ContentParts) → AreLawful before → AreApart before ops → AreToldOf before told
    → TellTrue told ops

-- and those of the operations of the heads themselves are, since no two of these have one digest
abbrev pub OwnTellTrue : Type 0
OwnTellTrue =
    (file : List ℕ) (heads : List Head) (ops : List Op) (told : List ContentParts) → HaveOwnDigests heads
    → Lists file heads ops → AreToldOf ops told → TellTrue told ops
