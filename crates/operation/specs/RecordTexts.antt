-- The records of contents as bytes.
use Rattle.std.specs.Prelude.{◌≡◌, ◌<◌, ◌^◌, ℕ, List, [], ◌∷◌, ◌++◌, length}
use Rattle.std.specs.Int.{w32, w64, to_be_bytes}
use Rattle.dictionary.specs.declared.elements.TheConstants.{SOP_CLASS_UID, SOP_INSTANCE_UID}
use Rattle.octets.specs.Bytes.{IsBytes}
use Rattle.operation.specs.Drafts.{syntax_byte}
use Rattle.operation.specs.Parts.{value_at, value_or_empty}
use Rattle.operation.specs.RecordParts.{ContentRecordParts}

-- a tag and how long its value is, in four bytes each, and the value
abbrev pub value_text : ℕ → List ℕ → List ℕ
value_text tag value = to_be_bytes w32 tag ++ (to_be_bytes w32 (length value) ++ value)

-- values, one behind the other
unfoldable pub values_text : List (ℕ × List ℕ) → List ℕ
values_text [] = []
values_text (v ∷ values) = value_text v.0 v.1 ++ values_text values

-- a tag and the length of its value have four bytes
abbrev pub IsFit : ℕ × List ℕ → Type 0
IsFit v = (v.0 < 2 ^ 32) × (length v.1 < 2 ^ 32)

-- all tags and lengths do
abbrev pub AreFit : List (ℕ × List ℕ) → Type 0
AreFit [] = Unit {0}
AreFit (v ∷ values) = IsFit v × AreFit values

-- These are some of the values, in their order, and a text has the others.
pub record IsLeft (values got : List (ℕ × List ℕ)) (rest : List ℕ) : Type 0 where
  pub others : List (ℕ × List ℕ)
  pub are : values ≡ got ++ others
  pub text : rest ≡ values_text others
  pub fit : AreFit others

-- digest, transfer syntax, how many bytes the data set has, and the values; a note is left out
abbrev pub record_text : ContentRecordParts → List ℕ
record_text r = r.digest ++ (syntax_byte r.syntax ∷ (to_be_bytes w64 r.size ++ values_text r.values))

-- class and instance are the values of SOP Class UID (0008,0016) and SOP Instance UID (0008,0018), and the digest has
-- 32 bytes
pub record IsNamed (r : ContentRecordParts) : Type 0 where
  pub class : value_or_empty (value_at SOP_CLASS_UID r.values) ≡ r.class
  pub instance : value_or_empty (value_at SOP_INSTANCE_UID r.values) ≡ r.instance
  pub long : length r.digest ≡ 32
  pub bytes : IsBytes r.digest

-- a record is read again from its text: its numbers fit there, and its class and its instance are values of it
pub record FitsText (r : ContentRecordParts) : Type 0 where
  pub size : r.size < 2 ^ 64
  pub values : AreFit r.values
  pub named : IsNamed r
