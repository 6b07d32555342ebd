-- Why a put, or a load, over a line to the shelf's thread comes back refused.
use Rattle.std.specs.Prelude.{ℕ, ◌≡◌, ◌≢◌, ◌⊎◌, List, Option, Some, None}
use Rattle.devices.specs.Failures.{Rose}
use Rattle.operation.specs.declared.op.Op.{Op}
use Rattle.operation.specs.Spelling.{digest_of}
use Rattle.op_shelf.specs.declared.fault.ShelfFault.{ShelfFault}
use Rattle.op_shelf.specs.declared.fault.ShelfFault.TheVariants.{BadRow}
use Rattle.archive_server.specs.declared.line.Tried.{Tried}

-- one of these digests is not that of the operation
abbrev pub IsOfAnother : (List ℕ → Type 0) → Op → Type 0
IsOfAnother these op = (digest : List ℕ) × (these digest × (digest ≢ digest_of op))

-- The line failed, or the thread answered this refusal, or that it put another operation.
abbrev pub RefusesOver : {L : Type 0} → (L → ℕ) → (L → L → List ℕ → Type 0) → (L → L → ShelfFault → Type 0) → L → L
    → Op → ShelfFault → Type 0
RefusesOver failures put refused before after op fault =
    Rose (failures before) (failures after) ⊎ refused before after fault ⊎ IsOfAnother (put before after) op

-- one answer more came
abbrev pub WasAnswered : Tried → Tried → Type 0
WasAnswered before after = Rose before.answers after.answers

-- the same of a channel, of which no contract says what it brings
abbrev pub RefusesOverChannel : Tried → Tried → Op → ShelfFault → Type 0
RefusesOverChannel = RefusesOver (λ (tried : Tried). tried.failures) (λ before after _. WasAnswered before after)
    (λ before after _. WasAnswered before after)

-- This is an operation of another digest.
abbrev pub IsOfAnotherThan : List ℕ → Option Op → Type 0
IsOfAnotherThan digest None = ⊥
IsOfAnotherThan digest (Some op) = digest_of op ≢ digest

-- what was read is an operation of another digest, and that is told
abbrev pub IsUnlikeDigest : List ℕ → Option Op → ShelfFault → Type 0
IsUnlikeDigest digest read fault = (fault ≡ BadRow) × IsOfAnotherThan digest read

-- this is an operation of the digest
abbrev pub IsOfDigest : List ℕ → Option Op → Type 0
IsOfDigest digest None = ⊥
IsOfDigest digest (Some op) = digest_of op ≡ digest

-- one answer more came, or the operation of the digest was remembered once more
abbrev pub WasBrought : Tried → Tried → ℕ → ℕ → List ℕ → Option Op → Type 0
WasBrought before after remembered later digest found =
    WasAnswered before after ⊎ (Rose remembered later × IsOfDigest digest found)

-- The line failed, or the thread answered this refusal, or what it read is an operation of another digest.
abbrev pub RefusesLoadOver : {L : Type 0} → (L → ℕ) → (L → L → Option Op → Type 0) → (L → L → ShelfFault → Type 0) → L
    → L → List ℕ → ShelfFault → Type 0
RefusesLoadOver failures loaded refused before after digest fault =
    Rose (failures before) (failures after) ⊎ refused before after fault
    ⊎ ((read : Option Op) × (loaded before after read × IsUnlikeDigest digest read fault))

-- the same of a channel
abbrev pub RefusesLoadOverChannel : Tried → Tried → List ℕ → ShelfFault → Type 0
RefusesLoadOverChannel = RefusesLoadOver (λ (tried : Tried). tried.failures) (λ before after _. WasAnswered before after)
    (λ before after _. WasAnswered before after)
