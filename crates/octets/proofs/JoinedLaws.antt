-- Texts joined one after the other.
use Rattle.std.proofs.Common.{◌≡◌, ◌<◌, ◌+◌, ℕ, zero, suc, List, [], ◌∷◌, ◌++◌, length, take, slice_index_or}
use Rattle.std.proofs.Common.{false, cond, ◌==◌, refl, sym, ap, ◌∙◌, arith}
use Rattle.std.specs.List.{join_with_byte}
use Rattle.std.proofs.lemmas.List.{take_more, append_assoc}

join_snoc : (c : ℕ) (y : List ℕ) (zs : List (List ℕ)) (x : List ℕ)
    → join_with_byte c ((y ∷ zs) ++ x ∷ []) ≡ join_with_byte c (y ∷ zs) ++ (c ∷ x)
join_snoc c y [] x = refl
join_snoc c y (z ∷ zs) x = ap (λ t. y ++ (c ∷ t)) (join_snoc c z zs x)
    ∙ sym (append_assoc y (c ∷ join_with_byte c (z ∷ zs)) (c ∷ x))

suc_is_not_zero : (j : ℕ) → (suc j == 0) ≡ false
suc_is_not_zero j = grind arith

pub join_more : (c : ℕ) (xs : List (List ℕ)) (i : ℕ) (x : List ℕ) → i < length xs → x ≡ slice_index_or xs i x
    → join_with_byte c (take (i + 1) xs) ≡ join_with_byte c (take i xs) ++ cond (i == 0) x (c ∷ x)
join_more c [] i x h is = absurd (omega arith)
join_more c (y ∷ ys) zero x h is = sym is
join_more c (y ∷ ys) (suc j) x h is =
    ap (join_with_byte c) (take_more (y ∷ ys) (suc j) x h ∙ ap (λ z. take (suc j) (y ∷ ys) ++ z ∷ []) (sym is))
    ∙ join_snoc c y (take j ys) x
    ∙ ap (λ b. join_with_byte c (take (suc j) (y ∷ ys)) ++ cond b x (c ∷ x)) (sym (suc_is_not_zero j))
