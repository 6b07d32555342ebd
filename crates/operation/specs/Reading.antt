-- Reading the spelling of an operation from left to right.
use Rattle.std.specs.Prelude.{◌≡◌, ℕ, zero, suc, ◌-◌, List, [], ◌∷◌, length, take, drop, Bool, false, Option, Some}
use Rattle.std.specs.Prelude.{None, Result, Ok, Err, nat_lt, slice_get, ◌==◌, if◌then◌else◌}
use Rattle.std.specs.Int.{w16, w32, w64, from_be_bytes}
use Rattle.octets.specs.Gives.{◌>>=◌}
use Rattle.data_set.specs.declared.syntax.Syntax.{Syntax}
use Rattle.data_set.specs.declared.syntax.Syntax.TheVariants.{Implicit, Explicit}
use Rattle.octets.specs.Padding.{is_padding}
use Rattle.operation.specs.declared.draft.Draft.{Draft}
use Rattle.operation.specs.declared.fault.OpFault.{OpFault}
use Rattle.operation.specs.declared.fault.OpFault.TheVariants.{UnknownKind, Shape}
use Rattle.operation.specs.declared.op.Op.{Op}
use Rattle.operation.specs.declared.op.Op.TheVariants.{Content as a_content, Correction as a_correction}
use Rattle.operation.specs.declared.stamp.Stamp.{Stamp}
use Rattle.operation.specs.declared.target.Target.{Target}
use Rattle.operation.specs.declared.target.Target.TheVariants.{Study, Patient, Series}
use Rattle.operation.specs.Corrections.{IsCorrection, checked}
use Rattle.operation.specs.Contents.{IsContent, IsRefused, IsOutcome}
use Rattle.operation.specs.Parts.{ContentParts, CorrectionParts}

-- what is read, and what stands behind it
abbrev pub Read : Type 0 → Type 0
Read X = Result (X × List ℕ) OpFault

-- a byte of length, and that many bytes
unfoldable pub short_at : List ℕ → Read (List ℕ)
short_at [] = Err Shape
short_at (n ∷ rest) = if nat_lt (length rest) n then Err Shape else Ok (take n rest, drop n rest)

-- the last byte pads
abbrev pub is_pad : Option ℕ → Bool
is_pad None = false
is_pad (Some byte) = is_padding byte

abbrev pub is_padded : List ℕ → Bool
is_padded text = is_pad (slice_get text (length text - 1))

-- the same of a UID, which has no padding at its end
unfoldable pub uid_at : List ℕ → Read (List ℕ)
uid_at text = do
  uid ← short_at text
  if is_padded uid.0 then Err Shape else Ok uid

unfoldable pub syntax_at : List ℕ → Read Syntax
syntax_at (suc zero ∷ rest) = Ok (Implicit, rest)
syntax_at (suc (suc zero) ∷ rest) = Ok (Explicit, rest)
syntax_at _ = Err Shape

-- four bytes of length, and all that follows
unfoldable pub body_at : List ℕ → Result (List ℕ) OpFault
body_at (a ∷ b ∷ c ∷ d ∷ rest) = if length rest == from_be_bytes w32 (a ∷ b ∷ c ∷ d ∷ []) then Ok rest else Err Shape
body_at _ = Err Shape

-- a content behind its kind
unfoldable pub draft_at : List ℕ → Result Draft OpFault
draft_at text = do
  class ← uid_at text
  instance ← uid_at class.1
  syntax ← syntax_at instance.1
  body ← body_at syntax.1
  Ok (record { class = class.0; instance = instance.0; syntax = syntax.0; body = body })

-- a kind of correction, 02 of a study or a patient and 03 of a series, and the target
unfoldable pub target_at : List ℕ → Read Target
target_at (suc (suc zero) ∷ suc zero ∷ rest) = short_at rest >>= λ key. Ok (Study key.0, key.1)
target_at (suc (suc zero) ∷ suc (suc zero) ∷ rest) = short_at rest >>= λ key. Ok (Patient key.0, key.1)
target_at (suc (suc (suc zero)) ∷ rest) = short_at rest >>= λ key. Ok (Series key.0, key.1)
target_at _ = Err Shape

unfoldable pub tag_at : List ℕ → Read ℕ
tag_at (a ∷ b ∷ c ∷ d ∷ rest) = Ok (from_be_bytes w32 (a ∷ b ∷ c ∷ d ∷ []), rest)
tag_at _ = Err Shape

-- two bytes of length, and that many bytes
unfoldable pub value_text_at : List ℕ → Read (List ℕ)
value_text_at (a ∷ b ∷ rest) =
    let n = from_be_bytes w16 (a ∷ b ∷ []) in
    if nat_lt (length rest) n then Err Shape else Ok (take n rest, drop n rest)
value_text_at _ = Err Shape

-- counter and site, and nothing behind them
unfoldable pub stamp_at : List ℕ → Result Stamp OpFault
stamp_at (a ∷ b ∷ c ∷ d ∷ e ∷ f ∷ g ∷ h ∷ i ∷ j ∷ []) =
    Ok (record {
      counter = from_be_bytes w64 (a ∷ b ∷ c ∷ d ∷ e ∷ f ∷ g ∷ h ∷ []);
      site = from_be_bytes w16 (i ∷ j ∷ []);
    })
stamp_at _ = Err Shape

-- a correction with its kind, whether it is lawful or not
unfoldable pub parts_at : List ℕ → Result CorrectionParts OpFault
parts_at text = do
  target ← target_at text
  tag ← tag_at target.1
  value ← value_text_at tag.1
  stamp ← stamp_at value.1
  Ok (record { target = target.0; tag = tag.0; value = value.0; stamp = stamp })

-- and a lawful one
unfoldable pub correction_at : List ℕ → Result CorrectionParts OpFault
correction_at text = parts_at text >>= checked

-- ---- operations, and texts that spell none

-- what an operation keeps true of its parts
abbrev pub IsOp : Op → Type 0
IsOp (a_content c) = IsContent c
IsOp (a_correction k) = IsCorrection k

-- what is made of a draft that was read
abbrev pub IsMade : Result Draft OpFault → Result ContentParts OpFault → Type 0
IsMade (Err f) r = r ≡ Err f
IsMade (Ok draft) r = IsOutcome draft r

-- what a text comes to
abbrev pub IsReading : List ℕ → Result Op OpFault → Type 0
IsReading [] r = r ≡ Err Shape
IsReading (suc zero ∷ text) r = (s : Result ContentParts OpFault) × IsMade (draft_at text) s
    × (r ≡ (s >>= λ c. Ok (a_content c)))
IsReading (suc (suc zero) ∷ text) r = r ≡ (correction_at (2 ∷ text) >>= λ k. Ok (a_correction k))
IsReading (suc (suc (suc zero)) ∷ text) r = r ≡ (correction_at (3 ∷ text) >>= λ k. Ok (a_correction k))
IsReading (_ ∷ text) r = r ≡ Err UnknownKind

-- The draft that was read is no content, or there was none to read.
abbrev pub IsFaultOf : Result Draft OpFault → OpFault → Type 0
IsFaultOf (Err f) fault = f ≡ fault
IsFaultOf (Ok draft) fault = IsRefused draft fault

-- the fault of a text: no bytes at all are Shape, then the kind, the shape, and the operation are told
abbrev pub HasFault : List ℕ → OpFault → Type 0
HasFault [] fault = Shape ≡ fault
HasFault (suc zero ∷ text) fault = IsFaultOf (draft_at text) fault
HasFault (suc (suc zero) ∷ text) fault = correction_at (2 ∷ text) ≡ Err fault
HasFault (suc (suc (suc zero)) ∷ text) fault = correction_at (3 ∷ text) ≡ Err fault
HasFault (_ ∷ text) fault = UnknownKind ≡ fault
