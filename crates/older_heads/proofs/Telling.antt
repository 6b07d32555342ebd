-- Files of the two forms are told apart.
use Rattle.std.proofs.Common.{◌≡◌, ◌≤◌, ◌<◌, ◌^◌, ◌&&◌, ◌||◌, Bool, true, false, not, ◌∷◌, inl, inr, ℕ, List, length}
use Rattle.std.proofs.Common.{slice_index}
use Rattle.std.proofs.Common.{nat_eq, nat_lt, ap, sym, ◌∙◌, arith}
use Rattle.std.proofs.lemmas.Bool.{cases_Bool, le-ltb, lt-ltb}
use Rattle.sqlite_disk.specs.Disk.{Holds}
use Rattle.head_log.specs.Groups.{bytes_at}
use Rattle.std.specs.Int.{w64, from_le_bytes, to_le_bytes}
use Rattle.head_log.proofs.Shutting.{gate_is, held, whole}
use Rattle.older_heads.specs.Groups.{StandsFor, begins_older, is_older}
use Rattle.older_heads.proofs.Texts.{long, sized}

-- what begins with other bytes is none
pub not_older : (file front : List ℕ) → length front ≡ 8 → Holds file 0 front → begins_older front ≡ false
    → is_older file ≡ false
unfolding is_older
not_older file front wide h other =
    let same = ap begins_older (gate_is file 0 front wide h) ∙ other in
    elim (cases_Bool (nat_lt 8 (length file))) [
      | inl longer ↦ ap (λ (b : Bool). b && begins_older (bytes_at file 0)) longer ∙ same
      | inr short ↦ ap (λ (b : Bool). b && begins_older (bytes_at file 0)) short
    ]

-- what the gate says of it
abbrev pub gate_says : List ℕ → Bool
gate_says front =
    nat_eq (slice_index front 0) 1 || (nat_eq (slice_index front 0) 0 && not (nat_eq (from_le_bytes w64 front) 0))

-- the length of a group fills five bytes
pub high_five : (n : ℕ) → n < 2 ^ 40 → slice_index (to_le_bytes w64 n) 5 ≡ 0
high_five n low = omega (arith, low)

pub high_six : (n : ℕ) → n < 2 ^ 40 → slice_index (to_le_bytes w64 n) 6 ≡ 0
high_six n low = omega (arith, low)

-- a file that has a group is one
pub older_with : (file : List ℕ) (group : List ℕ) (groups : List (List ℕ)) → StandsFor file (group ∷ groups)
    → is_older file ≡ true
unfolding is_older
older_with file group groups (inr none) = absurd cc
older_with file group groups (inl ready) =
    let first = ready.1.laid.0 in
    let many : 8 < length file = omega (arith, first.text.within, long group) in
    let here = held file 0 (omega (arith, many)) in
    let all = whole file 0 (omega (arith, many)) in
    let gate : slice_index (bytes_at file 0) 0 ≡ 1 = sym (here.each 0 (omega (arith, all))) ∙ first.gate in
    let size = sized file 0 group first.text in
    let six : slice_index (bytes_at file 0) 6 ≡ 0 =
    sym (here.each 6 (omega (arith, all))) ∙ size.each 5 (omega arith) ∙ high_five (length group) first.short in
    let seven : slice_index (bytes_at file 0) 7 ≡ 0 =
    sym (here.each 7 (omega (arith, all))) ∙ size.each 6 (omega arith) ∙ high_six (length group) first.short in
    let begins : begins_older (bytes_at file 0) ≡ true =
    ap (λ (n : ℕ). (nat_eq n 0 && nat_eq (slice_index (bytes_at file 0) 7) 0) && gate_says (bytes_at file 0)) six
    ∙ ap (λ (n : ℕ). nat_eq n 0 && gate_says (bytes_at file 0)) seven
    ∙ ap (λ (n : ℕ). nat_eq n 1 || (nat_eq n 0 && not (nat_eq (from_le_bytes w64 (bytes_at file 0)) 0))) gate in
    ap (λ (b : Bool). b && begins_older (bytes_at file 0)) (lt-ltb 8 (length file) many) ∙ begins

-- a file that is too short is none
pub none_if_short : (file : List ℕ) → length file ≤ 8 → is_older file ≡ false
unfolding is_older
none_if_short file short =
    ap (λ (b : Bool). b && begins_older (bytes_at file 0)) (le-ltb 8 (length file) short)

-- and a longer one is told by its first eight bytes
pub begins_so : (file front : List ℕ) → 8 < length file → length front ≡ 8 → Holds file 0 front
    → is_older file ≡ begins_older front
unfolding is_older
begins_so file front many wide h =
    ap (λ (b : Bool). b && begins_older (bytes_at file 0)) (lt-ltb 8 (length file) many)
    ∙ ap begins_older (gate_is file 0 front wide h)
