-- The rows of the table, and the operations that they stand for.
use Rattle.std.specs.Prelude.{◌≡◌, pos, ℕ, List, [], ◌∷◌, map, Contains, IsPermutation}
use Rattle.hex.specs.Hex.{encode_lower}
use Rattle.sha2.specs.Sha256.{sha256}
use Rattle.sqlite.specs.declared.types.Value.TheVariants.{Int, Text, Blob}
use Rattle.sqlite.specs.Order.{Row, column}
use Rattle.operation.specs.declared.op.Op.{Op}
use Rattle.operation.specs.Spelling.{spelling, digest_of, hash_of}
use Rattle.operation.specs.Reading.{IsOp}

-- the kind of an operation is the first byte of its spelling
abbrev pub kind_in : List ℕ → ℕ
kind_in [] = 0
kind_in (kind ∷ rest) = kind

-- an entry: the text of a digest, the kind, and the bytes
abbrev pub entry_by : List ℕ → List ℕ → Row
entry_by digest body = Text digest ∷ Int (pos (kind_in body)) ∷ Blob body ∷ []

-- the digest as 64 lower-case hexadecimal digits
abbrev pub digest_text : Op → List ℕ
digest_text op = encode_lower (hash_of op)

-- the entry of an operation, with its spelling
abbrev pub entry_of : Op → Row
entry_of op = entry_by (digest_text op) (spelling op)

-- the entry of an operation that stands under some digest, whether that is its own or not
abbrev pub entry_under : List ℕ → Op → Row
entry_under digest op = entry_by (encode_lower digest) (spelling op)

-- and that of one that stands under its digest
abbrev pub own_entry : Op → Row
own_entry op = entry_under (digest_of op) op

-- an entry has the bytes of its digest
abbrev pub IsWhole : Row → Type 0
IsWhole entry = (body : List ℕ) × (entry ≡ entry_by (encode_lower (sha256 body)) body)

-- the entry that a row of the table has behind its rowid
abbrev pub entry_in : Row → Row
entry_in row = column row 1 ∷ column row 2 ∷ column row 3 ∷ []

abbrev pub entries : List Row → List Row
entries = map entry_in

-- the table has the operation
abbrev pub Holds : List Row → Op → Type 0
Holds rows op = Contains (entries rows) (entry_of op)

-- an entry is that of some operation
abbrev pub IsEntry : Row → Type 0
IsEntry entry = (op : Op) × IsOp op × (entry ≡ entry_of op)

-- the operations are those of the table, each as often as it is there
abbrev pub Lists : List Row → List Op → Type 0
Lists rows ops = IsPermutation (entries rows) (map entry_of ops)

-- some row stands for no operation
abbrev pub HasBadRow : List Row → Type 0
HasBadRow rows = (entry : Row) × Contains (entries rows) entry × (¬ IsEntry entry)

-- one entry more, and else the same
abbrev pub Adds : List Row → List Row → Row → Type 0
Adds old new entry = IsPermutation (entry ∷ entries old) (entries new)
