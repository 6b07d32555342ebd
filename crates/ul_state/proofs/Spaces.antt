-- A title without the spaces at its end.
use Rattle.std.proofs.Common.{◌≡◌, ℕ, suc, ◌-◌, ◌≤◌, ◌<◌, true, false, List, [], ◌∷◌, ◌++◌, length, get_or, take, drop}
use Rattle.std.proofs.Common.{drop-cons, length-drop, refl, sym, ap, ◌∙◌, arith}
use Rattle.std.proofs.lemmas.List.{take-append-drop, nil_from_length}
use Rattle.ul_state.specs.Titles.{is_space, before, without_end}

before_alone : (b : ℕ) → is_space b ≡ true → before b [] ≡ []
before_alone b e = rw e refl

before_kept : (b : ℕ) → is_space b ≡ false → before b [] ≡ b ∷ []
before_kept b e = rw e refl

before_more : (b c : ℕ) (cs : List ℕ) → before b (cs ++ c ∷ []) ≡ b ∷ (cs ++ c ∷ [])
before_more b c [] = refl
before_more b c (d ∷ ds) = refl

-- a space at the end is dropped
pub without_end-pad : (text : List ℕ) (b : ℕ) → is_space b ≡ true → without_end (text ++ b ∷ []) ≡ without_end text
unfolding without_end
without_end-pad [] b e = before_alone b e
without_end-pad (c ∷ cs) b e = ap (before c) (without_end-pad cs b e)

-- any other byte at the end keeps the text
pub without_end-kept : (text : List ℕ) (b : ℕ) → is_space b ≡ false → without_end (text ++ b ∷ []) ≡ text ++ b ∷ []
unfolding without_end
without_end-kept [] b e = before_kept b e
without_end-kept (c ∷ cs) b e = ap (before c) (without_end-kept cs b e) ∙ before_more c b cs

pub without_end-none : without_end [] ≡ []
unfolding without_end
without_end-none = refl

-- a text is what stands before its last byte, and that byte
last_is : (text : List ℕ) → 1 ≤ length text → take (length text - 1) text ++ get_or text (length text - 1) 0 ∷ [] ≡ text
last_is text some =
    let n = length text - 1 in
    let one : drop n text ≡ get_or text n 0 ∷ drop (suc n) text = drop-cons text n 0 (omega (arith, some)) in
    let none : drop (suc n) text ≡ [] = nil_from_length (drop (suc n) text)
    (omega (arith, length-drop (suc n) text, some)) in
    ap (λ (t : List ℕ). take n text ++ get_or text n 0 ∷ t) (sym none) ∙ ap (λ (t : List ℕ). take n text ++ t) (sym one)
    ∙ take-append-drop n text

pub without_end-last_pad : (text : List ℕ) → 1 ≤ length text → is_space (get_or text (length text - 1) 0) ≡ true
    → without_end (take (length text - 1) text) ≡ without_end text
without_end-last_pad text some pad =
    sym (without_end-pad (take (length text - 1) text) (get_or text (length text - 1) 0) pad)
    ∙ ap without_end (last_is text some)

pub without_end-last_kept : (text : List ℕ) → 1 ≤ length text → is_space (get_or text (length text - 1) 0) ≡ false
    → without_end text ≡ text
without_end-last_kept text some kept =
    ap without_end (sym (last_is text some)) ∙ without_end-kept (take (length text - 1) text)
    (get_or text (length text - 1) 0) kept ∙ last_is text some

pub without_end-empty : (text : List ℕ) → length text < 1 → text ≡ without_end text
without_end-empty text none =
    let e : text ≡ [] = nil_from_length text (omega (arith, none)) in
    e ∙ sym without_end-none ∙ ap without_end (sym e)
