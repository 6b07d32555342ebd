-- What is told of operations that are not those of their digests.
use Rattle.std.specs.Prelude.{◌≡◌, ◌⊎◌, ◌&&◌, ◌||◌, ◌++◌, ℕ, zero, suc, List, [], ◌∷◌, length, take, drop, Bool}
use Rattle.std.specs.Prelude.{Option, Some}
use Rattle.std.specs.Prelude.{None, nat_lt, nat_le, if◌then◌else◌, IsPermutation}
use Rattle.std.specs.List.{list_all}
use Rattle.std.specs.Ordering.{nat_cmp, on}
use Rattle.std.specs.declared.cmp.Ordering.{Ordering}
use Rattle.std.specs.Cmp.Lexicographic.{slice_cmp}
use Rattle.sqlite.specs.declared.types.Value.{Value}
use Rattle.sqlite.specs.declared.types.Value.TheVariants.{Text, Blob}
use Rattle.sqlite.specs.Order.{Row, column}
use Rattle.octets.specs.Uid.{is_uid_text}
use Rattle.op_shelf.specs.declared.damaged.Damaged.{Damaged}
use Rattle.op_shelf.specs.Entries.{IsEntry, entries}

-- a hexadecimal digit, as digests are written
abbrev pub is_digit : ℕ → Bool
is_digit b = (nat_le 48 b && nat_le b 57) || (nat_le 97 b && nat_le b 102)

-- the text of a digest: none where something else stands there
abbrev pub digits_in : List ℕ → List ℕ
digits_in text = if list_all is_digit text then text else []

-- a byte of length, so many bytes, and what stands behind them
unfoldable pub short_in : List ℕ → Option (List ℕ × List ℕ)
short_in [] = None
short_in (n ∷ rest) = if nat_lt (length rest) n then None else Some (take n rest, drop n rest)

-- the same behind that
abbrev pub short_behind : Option (List ℕ × List ℕ) → Option (List ℕ × List ℕ)
short_behind None = None
short_behind (Some x) = short_in x.1

-- a UID, and nothing where it is none
abbrev pub uid_in : Option (List ℕ × List ℕ) → List ℕ
uid_in None = []
uid_in (Some x) = if is_uid_text x.0 then x.0 else []

-- the SOP Instance UID that the spelling of a content names behind its SOP class, and nothing of what spells none
abbrev pub instance_in : List ℕ → List ℕ
instance_in (suc zero ∷ rest) = uid_in (short_behind (short_in rest))
instance_in _ = []

-- what is told of bytes that are to have a digest with this text
abbrev pub damage_by : List ℕ → List ℕ → Damaged
damage_by digest text = record { digest = digits_in digest; instance = instance_in text }

-- the text in a column, and the bytes
abbrev pub text_in : Value → List ℕ
text_in (Text text) = text
text_in _ = []

abbrev pub bytes_in : Value → List ℕ
bytes_in (Blob bytes) = bytes
bytes_in _ = []

-- what is told of an entry
abbrev pub damage_of : Row → Damaged
damage_of entry = damage_by (text_in (column entry 0)) (bytes_in (column entry 2))

-- an entry is none of an operation, and is told before others
pub record IsToldFirst (entry : Row) (told : List Damaged) (rest : List Damaged → Type 0) : Type 0 where
  pub none : ¬ IsEntry entry
  pub more : List Damaged
  pub is : told ≡ damage_of entry ∷ more
  pub behind : rest more

-- of some entries just those are told that are none of an operation, in their order
abbrev pub AreTested : List Row → List Damaged → Type 0
AreTested [] told = told ≡ []
AreTested (entry ∷ rest) told = (IsEntry entry × AreTested rest told)
    ⊎ IsToldFirst entry told (λ more. AreTested rest more)

-- an entry was tested, and is told behind others where it is none of an operation
abbrev pub IsTested : Row → List Damaged → List Damaged → Type 0
IsTested entry old new = (IsEntry entry × (new ≡ old)) ⊎ ((¬ IsEntry entry) × (new ≡ old ++ damage_of entry ∷ []))

-- the order of the texts of the digests
abbrev pub damaged_cmp : Damaged → Damaged → Ordering
damaged_cmp = on (λ d. d.digest) (slice_cmp nat_cmp)

-- all rows were tested, so many, and just those are told that are none of an operation
pub record AreVerified (rows : List Row) (count : ℕ) (told : List Damaged) : Type 0 where
  pub order : List Row
  pub all : IsPermutation (entries rows) order
  pub counted : count ≡ length order
  pub found : List Damaged
  pub tested : AreTested order found
  pub same : IsPermutation found told
