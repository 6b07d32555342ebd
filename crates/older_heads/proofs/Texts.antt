-- The parts of a group's text.
use Rattle.std.proofs.Common.{◌≡◌, ◌+◌, ◌<◌, ◌^◌, ◌++◌, ℕ, List, length, sym, ◌∙◌}
use Rattle.std.proofs.Common.{arith, subst, ap}
use Rattle.std.specs.Int.{w64, to_le_bytes, from_le_bytes}
use Rattle.std.proofs.lemmas.List.{length-append}
use Rattle.std.proofs.lemmas.Nat.{from_le_bytes-to_le_bytes_8}
use Rattle.sha2.specs.Sha256.{sha256}
use Rattle.sha2.proofs.Facts256.{length-sha256}
use Rattle.sqlite_disk.specs.Disk.{Holds}
use Rattle.head_log.proofs.Texts.{behind, eight, front, joined, once}
use Rattle.older_heads.specs.Groups.{text_of}

-- how long a group's text is
pub long : (group : List ℕ) → length (text_of group) ≡ 40 + length group
unfolding text_of
long group =
    let whole = length-append (to_le_bytes w64 (length group)) (sha256 group ++ group) in
    let part = length-append (sha256 group) group in
    omega (arith, whole, part, eight (length group), length-sha256 group)

-- a group's text from its parts
pub made : (file : List ℕ) (at n : ℕ) (group : List ℕ) → length group ≡ n → Holds file (at + 1) (to_le_bytes w64 n)
    → Holds file (at + 9) (sha256 group ++ group) → Holds file (at + 1) (text_of group)
unfolding text_of
made file at n group many size rest =
    let first = subst (λ (m : ℕ). Holds file (at + 1) (to_le_bytes w64 m)) (sym many) size in
    let place : at + 9 ≡ at + 1 + length (to_le_bytes w64 (length group)) = omega (arith, eight (length group)) in
    joined file (at + 1) (to_le_bytes w64 (length group)) (sha256 group ++ group) first
    (subst (λ (m : ℕ). Holds file m (sha256 group ++ group)) place rest)

-- and its parts from the text
pub summed : (file : List ℕ) (at : ℕ) (group : List ℕ) → Holds file (at + 1) (text_of group)
    → Holds file (at + 9) (sha256 group ++ group)
unfolding text_of
summed file at group text =
    let place : at + 1 + length (to_le_bytes w64 (length group)) ≡ at + 9 = omega (arith, eight (length group)) in
    subst (λ (m : ℕ). Holds file m (sha256 group ++ group)) place
    (behind file (at + 1) (to_le_bytes w64 (length group)) (sha256 group ++ group) text)

pub sized : (file : List ℕ) (at : ℕ) (group : List ℕ) → Holds file (at + 1) (text_of group)
    → Holds file (at + 1) (to_le_bytes w64 (length group))
unfolding text_of
sized file at group text = front file (at + 1) (to_le_bytes w64 (length group)) (sha256 group ++ group) text

-- a group is as long as the file says
pub said : (file : List ℕ) (at n : ℕ) (group : List ℕ) → n < 2 ^ 64 → length group < 2 ^ 40
    → Holds file (at + 1) (text_of group) → Holds file (at + 1) (to_le_bytes w64 n) → length group ≡ n
said file at n group fits short text size =
    let same = once file (at + 1) (to_le_bytes w64 (length group)) (to_le_bytes w64 n)
    (eight (length group) ∙ sym (eight n)) (sized file at group text) size in
    sym (from_le_bytes-to_le_bytes_8 (length group) (omega (arith, short))) ∙ ap (from_le_bytes w64) same
    ∙ from_le_bytes-to_le_bytes_8 n fits

-- the bytes behind a sum are those of the group that stands there
pub same_group : (file : List ℕ) (at : ℕ) (sum bytes group : List ℕ) → length sum ≡ 32 → length group ≡ length bytes
    → Holds file at sum → Holds file (at + 32) bytes → Holds file at (sha256 group ++ group)
    → (sum ≡ sha256 group) × (bytes ≡ group)
same_group file at sum bytes group wide many h k there =
    let width = length-sha256 group in
    let place : at + length (sha256 group) ≡ at + 32 = omega (arith, width) in (
      once file at _ _ (wide ∙ sym width) h (front file at (sha256 group) group there),
      once file (at + 32) _ _ (sym many) k (subst (λ (m : ℕ). Holds file m group) place
          (behind file at (sha256 group) group there)),
    )

-- so their sum is the one that stands there
pub no_other : (file : List ℕ) (at : ℕ) (sum bytes group : List ℕ) → length sum ≡ 32 → length group ≡ length bytes
    → Holds file at sum → Holds file (at + 32) bytes → Holds file at (sha256 group ++ group) → sha256 bytes ≡ sum
no_other file at sum bytes group wide many h k there =
    let both = same_group file at sum bytes group wide many h k there in
    ap sha256 both.1 ∙ sym both.0

-- bytes behind their sum
pub tested : (file : List ℕ) (at : ℕ) (sum bytes : List ℕ) → sha256 bytes ≡ sum → Holds file at sum
    → Holds file (at + 32) bytes → Holds file at (sha256 bytes ++ bytes)
tested file at sum bytes is h k =
    let place : at + 32 ≡ at + length (sha256 bytes) = omega (arith, length-sha256 bytes) in
    joined file at (sha256 bytes) bytes (subst (λ (s : List ℕ). Holds file at s) (sym is) h)
    (subst (λ (m : ℕ). Holds file m bytes) place k)
