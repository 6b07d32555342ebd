-- The eight bytes of a gate, and which are shut.
use Rattle.std.proofs.Common.{◌≡◌, ◌+◌, ◌-◌, ◌≤◌, ◌^◌, ◌/◌, ℕ, zero, suc, true, false, List, [], ◌∷◌, length, take}
use Rattle.std.proofs.Common.{drop}
use Rattle.std.proofs.Common.{count_ones, bit_xor, nat_le, sym, ap, ◌∙◌, arith}
use Rattle.std.specs.Int.{w64, from_le_bytes}
use Rattle.std.specs.Int.Count.{ones_in, ones_step, ones-ones}
use Rattle.std.proofs.lemmas.Bool.{le-leb, lt-leb}
use Rattle.std.proofs.lemmas.List.{ext_get_or, get_or-drop, get_or-take, length-drop, length-take-le}
use Rattle.std.proofs.lemmas.Nat.{from_le_bytes-to_le_bytes_8}
use Rattle.sqlite_disk.specs.Disk.{Holds, Torn}
use Rattle.body_log.proofs.Holding.{past}
use Rattle.head_log.specs.Groups.{bytes_at, is_shut, is_shut_at, open_text, shut_gate}
use Rattle.head_log.specs.declared.gate.TheConstants.{OPEN, SHUT}
use Rattle.head_log.proofs.Texts.{eight}

-- ---- the bytes of a gate

-- a file that reaches so far has its bytes
pub whole : (file : List ℕ) (at : ℕ) → at + 8 ≤ length file → length (bytes_at file at) ≡ 8
unfolding bytes_at
whole file at within =
    length-take-le 8 (drop at file) (omega (arith, within, length-drop at file))

pub held : (file : List ℕ) (at : ℕ) → at + 8 ≤ length file → Holds file at (bytes_at file at)
unfolding bytes_at
held file at within =
    let many : length (take 8 (drop at file)) ≡ 8 = length-take-le 8 (drop at file)
    (omega (arith, within, length-drop at file)) in
    record {
      within = omega (arith, within, many);
      each = λ i low. sym (get_or-take 8 (drop at file) i 0 (omega (arith, low, many)) ∙ get_or-drop at file i 0);
    }

-- and they are those that it holds there
pub gate_is : (file : List ℕ) (at : ℕ) (gate : List ℕ) → length gate ≡ 8 → Holds file at gate → bytes_at file at ≡ gate
gate_is file at gate long h =
    let within : at + 8 ≤ length file = omega (arith, h.within, long) in
    let own = held file at within in
    let many = whole file at within in
    ext_get_or 0 _ _ (many ∙ sym long) λ i low. sym (own.each i low) ∙ h.each i (omega (arith, low, many, long))

-- a write past them leaves them
pub gate_past : (old new : List ℕ) (at end n : ℕ) → at + 8 ≤ length old → at + 8 ≤ end → Torn end n old new
    → is_shut_at new at ≡ is_shut_at old at
gate_past old new at end n within low torn =
    let many = whole old at within in
    let there = past old new end n at (bytes_at old at) (omega (arith, low, many)) torn (held old at within) in
    ap is_shut (gate_is new at (bytes_at old at) many there)

-- ---- which are shut

-- the lowest digits have no more ones than the number
at_least : (k n : ℕ) → ones_in k n ≤ count_ones n
unfolding ones_in
at_least zero n = omega arith
at_least (suc k) n =
    let more = at_least k (n / 2) in
    let step = ones_step n in
    omega (arith, more, step)

pub shut_is : is_shut shut_gate ≡ true
unfolding is_shut
shut_is =
    let n : from_le_bytes w64 shut_gate ≡ SHUT = from_le_bytes-to_le_bytes_8 SHUT (omega arith) in
    ap (λ (m : ℕ). nat_le (count_ones (bit_xor m SHUT)) 16) n ∙ le-leb (count_ones 0) 16 (omega (arith, ones-ones 0))

pub open_is : is_shut open_text ≡ false
unfolding is_shut
open_is =
    let n : from_le_bytes w64 open_text ≡ OPEN = from_le_bytes-to_le_bytes_8 OPEN (omega arith) in
    ap (λ (m : ℕ). nat_le (count_ones (bit_xor m SHUT)) 16) n
    ∙ lt-leb (count_ones (2 ^ 64 - 1)) 16 (omega (arith, ones-ones 64))

pub zeros_are : is_shut (0 ∷ 0 ∷ 0 ∷ 0 ∷ 0 ∷ 0 ∷ 0 ∷ 0 ∷ []) ≡ false
unfolding is_shut ones_in
zeros_are = lt-leb (count_ones SHUT) 16 (omega (arith, at_least 64 SHUT))

-- a gate that was written so is shut
pub shut_at : (file : List ℕ) (at : ℕ) → Holds file at shut_gate → is_shut_at file at ≡ true
shut_at file at h = ap is_shut (gate_is file at shut_gate (eight SHUT) h) ∙ shut_is

-- and one that was opened is not
pub open_at : (file : List ℕ) (at : ℕ) → Holds file at open_text → is_shut_at file at ≡ false
open_at file at h = ap is_shut (gate_is file at open_text (eight OPEN) h) ∙ open_is
