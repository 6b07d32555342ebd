-- Operations that were used last.
use Rattle.std.specs.Prelude.{◌≡◌, ◌≤◌, ◌-◌, ◌^◌, ℕ, Bool, List, [], ◌∷◌, map, sum_by, refl, nat_eq, nat_le, ◌&&◌}
use Rattle.std.specs.Prelude.{Option, Some, None, is_none, option_map, if◌then◌else◌}
use Rattle.std.specs.Option.{option_map_or}
use Rattle.std.specs.Map.{values_of}
use Rattle.std.specs.Coded.{Coded, code_by, coded×, coded_list, coded_ℕ}
use Rattle.std.specs.Cmp.Lexicographic.{pointwise}
use Rattle.operation.specs.declared.op.Op.{Op}
use Rattle.operation.specs.OpCode.{op_code}
use Rattle.operation.specs.Spelling.{digest_of}

-- an operation, and how many bytes of memory it is said to take
pub record Held : Type 0 where
  pub op : Op
  pub weight : ℕ

-- operations, the one used last first, and how many bytes they may take together
pub record RecentOps : Type 0 where
  pub held : List Held
  pub room : ℕ

abbrev pub held_code : Coded Held
held_code = code_by (Op × ℕ) (coded× op_code coded_ℕ) (λ h. (h.op, h.weight))
    (λ p. record { op = p.0; weight = p.1 }) (λ _. refl)

abbrev pub recent_code : Coded RecentOps
recent_code = code_by (List Held × ℕ) (coded× (coded_list held_code) coded_ℕ) (λ r. (r.held, r.room))
    (λ p. record { held = p.0; room = p.1 }) (λ _. refl)

-- how many bytes some operations take together
abbrev pub total_of : List Held → ℕ
total_of held = sum_by (λ h. h.weight) held

-- an operation under its digest
abbrev pub keyed : Held → List ℕ × Held
keyed h = (digest_of h.op, h)

-- what a table under digests has, and what is kept beside it
abbrev pub IsKept : List (List ℕ × Held) → ℕ → ℕ → ℕ → Type 0
IsKept entries cap bytes room = (entries ≡ map keyed (values_of entries)) × (cap ≡ 2 ^ 64 - 1)
    × (bytes ≡ total_of (values_of entries)) × (bytes ≤ room)

-- whether an operation is the one with a digest
abbrev pub is_under : List ℕ → Held → Bool
is_under digest h = pointwise nat_eq digest (digest_of h.op)

-- the first with a digest
abbrev pub held_under : List ℕ → List Held → Option Held
held_under digest [] = None
held_under digest (h ∷ held) = if is_under digest h then Some h else held_under digest held

-- the operation with a digest, where one is held
abbrev pub op_under : List ℕ → List Held → Option Op
op_under digest held = option_map (λ h. h.op) (held_under digest held)

-- the others, in their order
abbrev pub without : List ℕ → List Held → List Held
without digest [] = []
without digest (h ∷ held) = if is_under digest h then held else h ∷ without digest held

-- the same operations, where the one with a digest is the one used last
abbrev pub used_last : List ℕ → RecentOps → RecentOps
used_last digest recent = record {
  held = option_map_or (λ h. h ∷ without digest recent.held) (held_under digest recent.held) recent.held;
  room = recent.room;
}

-- the longest beginning that takes at most so many bytes
abbrev pub fitting : ℕ → List Held → List Held
fitting most [] = []
fitting most (h ∷ held) = if nat_le h.weight most then h ∷ fitting (most - h.weight) held else []

-- what stays where room is made for so many bytes
abbrev pub shrunk : ℕ → RecentOps → RecentOps
shrunk weight recent = record { held = fitting (recent.room - weight) recent.held; room = recent.room }

-- whether an operation is taken in: it is not held, and it is not too heavy
abbrev pub is_new : Op → ℕ → RecentOps → Bool
is_new op weight recent = is_none (held_under (digest_of op) recent.held) && nat_le weight recent.room

-- the same, and an operation before all others
abbrev pub first : Op → ℕ → RecentOps → RecentOps
first op weight recent = record { held = record { op = op; weight = weight } ∷ recent.held; room = recent.room }

-- what is held then: it is the one used last
abbrev pub with_held : Op → ℕ → RecentOps → RecentOps
with_held op weight recent =
    if is_new op weight recent then first op weight (shrunk weight recent) else recent
