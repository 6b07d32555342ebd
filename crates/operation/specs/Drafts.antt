-- The bytes of a draft, and their digest.
use Rattle.std.specs.Prelude.{ℕ, zero, suc, List, [], ◌∷◌, ◌++◌, ◌%◌, length}
use Rattle.std.specs.Int.{w32, to_be_bytes}
use Rattle.sha2.specs.Sha256.{sha256}
use Rattle.data_set.specs.declared.syntax.Syntax.{Syntax}
use Rattle.data_set.specs.declared.syntax.Syntax.TheVariants.{Implicit, Explicit}
use Rattle.operation.specs.declared.draft.Draft.{Draft}

-- a byte of length, and that many bytes
abbrev pub short_text : List ℕ → List ℕ
short_text bytes = length bytes ∷ bytes

abbrev pub syntax_byte : Syntax → ℕ
syntax_byte Implicit = 1
syntax_byte Explicit = 2

-- class, instance, transfer syntax, and the data set behind its length
abbrev pub draft_text : Draft → List ℕ
draft_text d = short_text d.class ++ (short_text d.instance
    ++ (syntax_byte d.syntax ∷ (to_be_bytes w32 (length d.body) ++ d.body)))

-- SHA-256 of the kind of a content and the draft (FIPS 180-4)
unfoldable pub digest_of_draft : Draft → List ℕ
digest_of_draft d = sha256 (1 ∷ draft_text d)

-- so many bytes of a list, and zeros where it has no more
abbrev pub bytes_of : ℕ → List ℕ → List ℕ
bytes_of zero numbers = []
bytes_of (suc n) [] = 0 ∷ bytes_of n []
bytes_of (suc n) (b ∷ numbers) = b % 256 ∷ bytes_of n numbers

-- a digest is 32 bytes
unfoldable pub as_digest : List ℕ → List ℕ
as_digest digest = bytes_of 32 digest
