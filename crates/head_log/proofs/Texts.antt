-- Bytes that lie one behind the other, and the parts of a group's text.
use Rattle.std.proofs.Common.{◌≡◌, ◌+◌, ◌-◌, ◌<◌, ◌^◌, ◌++◌, inl, inr, ℕ, List, length, slice_index, refl, sym, ◌∙◌}
use Rattle.std.proofs.Common.{arith, subst, ap}
use Rattle.std.specs.Int.{w64, to_le_bytes, from_le_bytes}
use Rattle.std.proofs.lemmas.Bool.{cases_lt}
use Rattle.std.proofs.lemmas.List.{ext_get_or, get_or_append_left, get_or-append-add, length-append}
use Rattle.std.proofs.Math.Seq.{get_or-append_right}
use Rattle.std.proofs.lemmas.Nat.{from_le_bytes-to_le_bytes_8}
use Rattle.sha2.proofs.Facts256.{length-sha256}
use Rattle.sqlite_disk.specs.Disk.{Holds}
use Rattle.head_log.specs.Groups.{sum_of, text_of, text_with}

-- the front of what is held is held
pub front : (file : List ℕ) (at : ℕ) (xs ys : List ℕ) → Holds file at (xs ++ ys) → Holds file at xs
front file at xs ys h =
    let long : length (xs ++ ys) ≡ length xs + length ys = length-append xs ys in
    record {
      within = omega (arith, h.within, long);
      each = λ i few. h.each i (omega (arith, long)) ∙ get_or_append_left xs ys 0 i few;
    }

-- and what stands behind it
pub behind : (file : List ℕ) (at : ℕ) (xs ys : List ℕ) → Holds file at (xs ++ ys) → Holds file (at + length xs) ys
behind file at xs ys h =
    let long : length (xs ++ ys) ≡ length xs + length ys = length-append xs ys in
    record {
      within = omega (arith, h.within, long);
      each = λ i few.
          let place : at + length xs + i ≡ at + (length xs + i) = omega arith in
          ap (slice_index file) place ∙ h.each (length xs + i) (omega (arith, long)) ∙ get_or-append-add xs ys i 0;
    }

-- the other way round
pub joined : (file : List ℕ) (at : ℕ) (xs ys : List ℕ) → Holds file at xs → Holds file (at + length xs) ys
    → Holds file at (xs ++ ys)
joined file at xs ys h k =
    let long : length (xs ++ ys) ≡ length xs + length ys = length-append xs ys in
    record {
      within = omega (arith, k.within, long);
      each = λ i few. elim (cases_lt i (length xs)) [
        | inl low ↦ h.each i low ∙ sym (get_or_append_left xs ys 0 i low)
        | inr high ↦
            let place : at + i ≡ at + length xs + (i - length xs) = omega (arith, high) in
            ap (slice_index file) place ∙ k.each (i - length xs) (omega (arith, few, high, long))
            ∙ sym (get_or-append_right xs ys i 0 high)
      ];
    }

-- what is held at a place, as long as it is, is one
pub once : (file : List ℕ) (at : ℕ) (xs ys : List ℕ) → length xs ≡ length ys → Holds file at xs → Holds file at ys
    → xs ≡ ys
once file at xs ys same h k =
    ext_get_or 0 _ _ same λ i low. sym (h.each i low) ∙ k.each i (omega (arith, same))

-- eight bytes of a number
pub eight : (n : ℕ) → length (to_le_bytes w64 n) ≡ 8
eight n = refl

-- and of a sum
pub wide : (prior group : List ℕ) → length (sum_of prior group) ≡ 32
unfolding sum_of
wide prior group = length-sha256 (prior ++ group)

-- how long a group's text is
pub long : (prior group : List ℕ) → length (text_of prior group) ≡ 40 + length group
unfolding text_with
long prior group =
    let sum = sum_of prior group in
    let whole = length-append (to_le_bytes w64 (length group)) (sum ++ group) in
    let part = length-append sum group in
    omega (arith, whole, part, eight (length group), wide prior group)

-- a group's text from its parts
pub made : (file : List ℕ) (at n : ℕ) (prior group : List ℕ) → length group ≡ n
    → Holds file (at + 8) (to_le_bytes w64 n) → Holds file (at + 16) (sum_of prior group ++ group)
    → Holds file (at + 8) (text_of prior group)
unfolding text_with
made file at n prior group many size rest =
    let sum = sum_of prior group in
    let first = subst (λ (m : ℕ). Holds file (at + 8) (to_le_bytes w64 m)) (sym many) size in
    let place : at + 16 ≡ at + 8 + length (to_le_bytes w64 (length group)) = omega (arith, eight (length group)) in
    joined file (at + 8) (to_le_bytes w64 (length group)) (sum ++ group) first
    (subst (λ (m : ℕ). Holds file m (sum ++ group)) place rest)

-- and its parts from the text
pub summed : (file : List ℕ) (at : ℕ) (prior group : List ℕ) → Holds file (at + 8) (text_of prior group)
    → Holds file (at + 16) (sum_of prior group ++ group)
unfolding text_with
summed file at prior group text =
    let sum = sum_of prior group in
    let place : at + 8 + length (to_le_bytes w64 (length group)) ≡ at + 16 = omega (arith, eight (length group)) in
    subst (λ (m : ℕ). Holds file m (sum ++ group)) place
    (behind file (at + 8) (to_le_bytes w64 (length group)) (sum ++ group) text)

pub sized : (file : List ℕ) (at : ℕ) (prior group : List ℕ) → Holds file (at + 8) (text_of prior group)
    → Holds file (at + 8) (to_le_bytes w64 (length group))
unfolding text_with
sized file at prior group text = front file (at + 8) (to_le_bytes w64 (length group)) (sum_of prior group ++ group) text

-- a group is as long as the file says
pub said : (file : List ℕ) (at n : ℕ) (prior group : List ℕ) → n < 2 ^ 64 → length group < 2 ^ 40
    → Holds file (at + 8) (text_of prior group) → Holds file (at + 8) (to_le_bytes w64 n) → length group ≡ n
said file at n prior group fits short text size =
    let there = sized file at prior group text in
    let same = once file (at + 8) (to_le_bytes w64 (length group)) (to_le_bytes w64 n)
    (eight (length group) ∙ sym (eight n)) there size in
    sym (from_le_bytes-to_le_bytes_8 (length group) (omega (arith, short))) ∙ ap (from_le_bytes w64) same
    ∙ from_le_bytes-to_le_bytes_8 n fits

-- the bytes behind a sum are those of the group that stands there
pub same_group : (file : List ℕ) (at : ℕ) (sum bytes prior group : List ℕ) → length sum ≡ 32
    → length group ≡ length bytes → Holds file at sum → Holds file (at + 32) bytes
    → Holds file at (sum_of prior group ++ group) → (sum ≡ sum_of prior group) × (bytes ≡ group)
same_group file at sum bytes prior group wide_sum many h k there =
    let own = sum_of prior group in
    let width = wide prior group in
    let place : at + length own ≡ at + 32 = omega (arith, width) in (
      once file at sum own (wide_sum ∙ sym width) h (front file at own group there),
      once file (at + 32) bytes group (sym many) k
          (subst (λ (m : ℕ). Holds file m group) place (behind file at own group there)),
    )

-- so their sum is the one that stands there
pub no_other : (file : List ℕ) (at : ℕ) (sum bytes prior group : List ℕ) → length sum ≡ 32
    → length group ≡ length bytes → Holds file at sum → Holds file (at + 32) bytes
    → Holds file at (sum_of prior group ++ group) → sum_of prior bytes ≡ sum
no_other file at sum bytes prior group wide_sum many h k there =
    let both = same_group file at sum bytes prior group wide_sum many h k there in
    ap (sum_of prior) both.1 ∙ sym both.0

-- bytes behind their sum
pub tested : (file : List ℕ) (at : ℕ) (sum prior bytes : List ℕ) → sum_of prior bytes ≡ sum → Holds file at sum
    → Holds file (at + 32) bytes → Holds file at (sum_of prior bytes ++ bytes)
tested file at sum prior bytes is h k =
    let place : at + 32 ≡ at + length (sum_of prior bytes) = omega (arith, wide prior bytes) in
    joined file at (sum_of prior bytes) bytes (subst (λ (s : List ℕ). Holds file at s) (sym is) h)
    (subst (λ (m : ℕ). Holds file m bytes) place k)
