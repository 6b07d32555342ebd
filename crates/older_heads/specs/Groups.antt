-- What a file of groups stands for. Before each group stands its gate, a byte that is 1 where the group counts.
use Rattle.std.specs.Prelude.{◌≡◌, ◌≢◌, ◌⊎◌, ◌+◌, ◌<◌, ◌≤◌, ◌^◌, ℕ, Bool, ◌&&◌, not, List, [], ◌∷◌, ◌++◌, length}
use Rattle.std.specs.Prelude.{slice_index}
use Rattle.std.specs.Prelude.{nat_eq, nat_lt, ◌||◌}
use Rattle.std.specs.Int.{w64, to_le_bytes, from_le_bytes}
use Rattle.sha2.specs.Sha256.{sha256}
use Rattle.sqlite_disk.specs.Disk.{Holds}
use Rattle.head_log.specs.Groups.{bytes_at}

-- a group behind its length, low byte first, and its sum
unfoldable pub text_of : List ℕ → List ℕ
text_of group = to_le_bytes w64 (length group) ++ (sha256 group ++ group)

-- a group stands behind an open gate
pub record IsGroupAt (file : List ℕ) (at : ℕ) (group : List ℕ) : Type 0 where
  pub gate : slice_index file at ≡ 1
  pub text : Holds file (at + 1) (text_of group)
  pub some : 0 < length group
  pub short : length group < 2 ^ 40

-- a group stands behind a gate, whatever that is
pub record HidesGroup (file : List ℕ) (at : ℕ) : Type 0 where
  pub group : List ℕ
  pub text : Holds file (at + 1) (text_of group)
  pub some : 0 < length group
  pub short : length group < 2 ^ 40

-- these groups lie behind each other, from one offset to another
abbrev pub Laid : List ℕ → ℕ → List (List ℕ) → ℕ → Type 0
Laid file at [] end = at ≡ end
Laid file at (group ∷ groups) end = IsGroupAt file at group × Laid file (at + 41 + length group) groups end

-- they are all, up to this offset, where a gate stands that is not open
pub record Ready (file : List ℕ) (end : ℕ) (groups : List (List ℕ)) : Type 0 where
  pub laid : Laid file 0 groups end
  pub within : end < length file
  pub shut : slice_index file end ≢ 1

-- the file is these groups; one of a byte at most is none yet
abbrev pub StandsFor : List ℕ → List (List ℕ) → Type 0
StandsFor file groups = ((end : ℕ) × Ready file end groups) ⊎ ((length file ≤ 1) × (groups ≡ []))

-- The first eight bytes are of such a file: a gate, and the low bytes of a length, of which that of no group fills the
-- last two. An open gate is 1, another is 0; behind that the bytes are not all zeros.
abbrev pub begins_older : List ℕ → Bool
begins_older front =
    (nat_eq (slice_index front 6) 0 && nat_eq (slice_index front 7) 0)
    && (nat_eq (slice_index front 0) 1
    || (nat_eq (slice_index front 0) 0 && not (nat_eq (from_le_bytes w64 front) 0)))

-- a file is of this form, and no shorter than one that may have a group
unfoldable pub is_older : List ℕ → Bool
is_older file = nat_lt 8 (length file) && begins_older (bytes_at file 0)
