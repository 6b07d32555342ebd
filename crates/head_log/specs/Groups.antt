-- What a file of groups stands for. Before each group stands its gate, eight bytes, and the group counts where that is
-- not shut.
use Rattle.std.specs.Prelude.{◌≡◌, ◌⊎◌, ◌+◌, ◌<◌, ◌≤◌, ◌^◌, ℕ, Bool, true, false, List, [], ◌∷◌, ◌++◌, length}
use Rattle.std.specs.Prelude.{replicate}
use Rattle.std.specs.Prelude.{take, drop, nat_le, bit_xor, count_ones}
use Rattle.std.specs.Int.{w64, to_le_bytes, from_le_bytes}
use Rattle.std.specs.List.{flat_map}
use Rattle.sha2.specs.Sha256.{sha256}
use Rattle.sqlite_disk.specs.Disk.{Holds, Only}
use Rattle.sqlite_disk.specs.declared.Disk.{Ghosts}
use Rattle.head_log.specs.declared.gate.Gate.{Gate}
use Rattle.head_log.specs.declared.gate.TheConstants.{OPEN, SHUT}

-- the bytes of a gate that was opened, and of one that was not, low byte first
abbrev pub open_text : List ℕ
open_text = to_le_bytes w64 OPEN

abbrev pub shut_gate : List ℕ
shut_gate = to_le_bytes w64 SHUT

-- eight bytes are a shut gate: at most 16 of their bits are none of its
unfoldable pub is_shut : List ℕ → Bool
is_shut gate = nat_le (count_ones (bit_xor (from_le_bytes w64 gate) SHUT)) 16

-- the eight bytes of the gate at an offset
unfoldable pub bytes_at : List ℕ → ℕ → List ℕ
bytes_at file at = take 8 (drop at file)

-- whether that is shut
abbrev pub is_shut_at : List ℕ → ℕ → Bool
is_shut_at file at = is_shut (bytes_at file at)

-- the sum of a group, which takes in the sum of the group before it (FIPS 180-4)
unfoldable pub sum_of : List ℕ → List ℕ → List ℕ
sum_of prior group = sha256 (prior ++ group)

-- a group behind its length, low byte first, and a sum
unfoldable pub text_with : List ℕ → List ℕ → List ℕ
text_with sum group = to_le_bytes w64 (length group) ++ (sum ++ group)

-- the same, with the sum that it has behind another group
abbrev pub text_of : List ℕ → List ℕ → List ℕ
text_of prior group = text_with (sum_of prior group) group

-- the same, and the shut gate of the next group
abbrev pub shut_text : List ℕ → List ℕ → List ℕ
shut_text prior group = text_of prior group ++ shut_gate

-- the gate of the first group, before which none stands
abbrev pub first_gate : Gate
first_gate = record { at = 0; prior = replicate 32 0 }

-- the gate behind a group
abbrev pub gate_after : Gate → List ℕ → Gate
gate_after gate group = record { at = gate.at + 48 + length group; prior = sum_of gate.prior group }

-- what some groups have, in order
abbrev pub joined : {X : Type 0} → List (List X) → List X
joined groups = flat_map (λ group. group) groups

-- a group stands behind a gate that is not shut, with its sum
pub record IsGroupAt (file : List ℕ) (gate : Gate) (group : List ℕ) : Type 0 where
  pub not_shut : is_shut_at file gate.at ≡ false
  pub text : Holds file (gate.at + 8) (text_of gate.prior group)
  pub some : 0 < length group
  pub short : length group < 2 ^ 40

-- these groups lie behind each other, from one gate to another
abbrev pub Laid : List ℕ → Gate → List (List ℕ) → Gate → Type 0
Laid file gate [] end = gate ≡ end
Laid file gate (group ∷ groups) end = IsGroupAt file gate group × Laid file (gate_after gate group) groups end

-- they are all, up to this gate, which is shut
pub record Ready (file : List ℕ) (end : Gate) (groups : List (List ℕ)) : Type 0 where
  pub laid : Laid file first_gate groups end
  pub within : end.at + 8 ≤ length file
  pub shut : is_shut_at file end.at ≡ true

-- the file is these groups; one of eight bytes at most is none yet
abbrev pub StandsFor : List ℕ → List (List ℕ) → Type 0
StandsFor file groups = ((end : Gate) × Ready file end groups) ⊎ ((length file ≤ 8) × (groups ≡ []))

-- whatever a crash leaves is so
abbrev pub IsReady : {D : Type 0} → Ghosts D → D → Gate → List (List ℕ) → Type 0
IsReady g disk end groups = (c : List ℕ) → g.may_leave disk c → Ready c end groups

-- a shut gate stands at an offset of a file that a crash leaves as it is
pub record IsEnded {D : Type 0} (g : Ghosts D) (disk : D) (end : ℕ) : Type 0 where
  pub settled : Only (g.seen disk) (g.may_leave disk)
  pub within : end + 8 ≤ length (g.seen disk)
  pub shut : is_shut_at (g.seen disk) end ≡ true

-- a text stands behind the gate, and every crash leaves it so
pub record IsStaged {D : Type 0} (g : Ghosts D) (disk : D) (end : ℕ) (text : List ℕ) : Type 0 where
  pub there : Holds (g.seen disk) (end + 8) text
  pub settled : Only (g.seen disk) (g.may_leave disk)

-- a crash leaves these groups, or these and one more
abbrev pub LeavesEither : {D : Type 0} → Ghosts D → D → List (List ℕ) → List ℕ → Type 0
LeavesEither g disk groups group =
    (c : List ℕ) → g.may_leave disk c → StandsFor c groups ⊎ StandsFor c (groups ++ group ∷ [])

-- A file stands for what it stood for, and what a crash leaves of it for what some crash could leave before. Only one
-- of eight bytes at most was written.
pub record KeepsGroups {D : Type 0} (g : Ghosts D) (old new : D) : Type 0 where
  pub same : 8 < length (g.seen old) → g.seen new ≡ g.seen old
  pub stands : (groups : List (List ℕ)) → StandsFor (g.seen old) groups → StandsFor (g.seen new) groups
  pub left : (c : List ℕ) → g.may_leave new c → (d : List ℕ) × g.may_leave old d
      × ((groups : List (List ℕ)) → StandsFor d groups → StandsFor c groups)
