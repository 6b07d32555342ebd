-- Texts without their padding.
use Rattle.std.proofs.Common.{◌≡◌, ℕ, zero, suc, ◌+◌, ◌-◌, ◌<◌, ◌≤◌, false, List, length, take, reverse, get_or, refl}
use Rattle.std.proofs.Common.{sym, ap, ◌∙◌, take_all, arith}
use Rattle.std.specs.List.{suffix_len}
use Rattle.std.proofs.lemmas.List.{length-reverse, length-take, get_or-reverse}
use Rattle.std.proofs.lemmas.List.Sums.{suffix_len-le-length, suffix_len-take_no, prefix_len_stops}
use Rattle.octets.specs.Padding.{is_padding, without_padding}

bare_at : (v : List ℕ) (k n : ℕ) → suffix_len is_padding v ≡ k → length v ≡ n + k → suffix_len is_padding (take n v) ≡ 0
bare_at v k zero is len = refl
bare_at v k (suc n) is len =
    let lt : suffix_len is_padding v < length (reverse v) = omega (arith, length-reverse v) in
    let stops : is_padding (get_or (reverse v) (suffix_len is_padding v) 0) ≡ false = prefix_len_stops is_padding
    (reverse v) 0 lt in
    let place : length v - 1 - suffix_len is_padding v ≡ suc n - 1 = omega arith in
    let at : get_or (reverse v) (suffix_len is_padding v) 0 ≡ get_or v (suc n - 1) 0 = get_or-reverse
    v (suffix_len is_padding v) 0 (omega arith) ∙ ap (λ (i : ℕ). get_or v i 0) place in
    suffix_len-take_no is_padding v (suc n) 0 (omega arith) (omega arith) (ap is_padding (sym at) ∙ stops)

-- no padding is left at its end
pub bare : (v : List ℕ) → suffix_len is_padding (without_padding v) ≡ 0
bare v = bare_at v (suffix_len is_padding v) (length v - suffix_len is_padding v)
    refl (omega (arith, suffix_len-le-length is_padding v))

-- a text without padding at its end stays as it is
pub bare_stays : (v : List ℕ) → suffix_len is_padding v ≡ 0 → without_padding v ≡ v
bare_stays v none = rw none (take_all (length v - 0) v (omega arith))

pub bare_again : (v : List ℕ) → without_padding (without_padding v) ≡ without_padding v
bare_again v = bare_stays (without_padding v) (bare v)

pub bare_is_no_longer : (v : List ℕ) → length (without_padding v) ≤ length v
bare_is_no_longer v = omega (arith, length-take (length v - suffix_len is_padding v) v)
