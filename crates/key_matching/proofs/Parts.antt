-- The members of a list that backslashes part, one after the other.
use Rattle.std.proofs.Common.{◌≡◌, ◌<◌, ◌≤◌, ◌+◌, ℕ, List, [], ◌∷◌, length, take, drop, Bool, true, false, cond}
use Rattle.std.proofs.Common.{nat_lt, Some, None, ◌||◌, ◌&&◌, refl, sym, ap, ◌∙◌, arith}
use Rattle.std.specs.List.{position, position_or_len, onto_first, list_any, list_all}
use Rattle.std.proofs.lemmas.Bool.{ltb-true, ltb-false, or_left as or_yes, and_left as and_no}
use Rattle.std.proofs.lemmas.List.Splits.{slice_split_first}
use mathlib.Core.Bool.{or-false as or_none, and-true as and_none}
use Rattle.key_matching.specs.Matches.{is_backslash, parts}

one_part_by : (x : ℕ) (xs : List ℕ) (b : Bool) → is_backslash x ≡ b → (length xs ≤ position_or_len is_backslash xs
    → parts xs ≡ xs ∷ []) → length (x ∷ xs) ≤ position_or_len is_backslash (x ∷ xs) → parts (x ∷ xs) ≡ (x ∷ xs) ∷ []
one_part_by x xs true e rest h = let h2 = rw e at h in absurd (omega (arith, h2))
one_part_by x xs false e rest h = let h2 = rw e at h in rw e (ap (onto_first x) (rest (omega (arith, h2))))

one_part : (xs : List ℕ) → length xs ≤ position_or_len is_backslash xs → parts xs ≡ xs ∷ []
one_part [] h = refl
one_part (x ∷ xs) h = one_part_by x xs (is_backslash x) refl (one_part xs) h

is_none : (b : Bool) (v : ℕ) → cond b (Some v) None ≡ None → b ≡ false
is_none true v h = cc
is_none false v h = refl

is_some_true : (b : Bool) (v w : ℕ) → cond b (Some v) None ≡ Some w → b ≡ true
is_some_true true v w h = refl
is_some_true false v w h = cc

is_some_value : (b : Bool) (v w : ℕ) → cond b (Some v) None ≡ Some w → v ≡ w
is_some_value true v w h = cc
is_some_value false v w h = cc

pub parts_none : (key : List ℕ) → position is_backslash key ≡ None → parts key ≡ key ∷ []
parts_none key h =
    let past : length key ≤ position_or_len is_backslash key = ltb-false (position_or_len is_backslash key) (length key)
    (is_none (nat_lt (position_or_len is_backslash key) (length key)) (position_or_len is_backslash key) h) in
    one_part key past

pub parts_some : (key : List ℕ) (at : ℕ) → position is_backslash key ≡ Some at → parts key ≡ take at key
    ∷ parts (drop (at + 1) key)
parts_some key at h =
    let within : position_or_len is_backslash key < length key = ltb-true (position_or_len is_backslash key)
    (length key) (is_some_true (nat_lt (position_or_len is_backslash key) (length key))
    (position_or_len is_backslash key) at h) in
    let same : position_or_len is_backslash key ≡ at = is_some_value (nat_lt (position_or_len is_backslash key)
    (length key)) (position_or_len is_backslash key) at h in
    slice_split_first is_backslash key 0 within ∙ ap (λ n. take n key ∷ parts (drop (n + 1) key)) same

-- ---- tests of one member, or of each

or_no : (a b : Bool) → a ≡ false → (a || b) ≡ b
or_no true b h = cc
or_no false b h = refl

and_yes : (a b : Bool) → a ≡ true → (a && b) ≡ b
and_yes true b h = refl
and_yes false b h = cc

pub any_here : (p : List ℕ → Bool) (key : List ℕ) (at : ℕ) → Some at ≡ position is_backslash key
    → p (take at key) ≡ true → list_any p (parts key) ≡ true
any_here p key at h e = ap (list_any p) (parts_some key at (sym h)) ∙ or_yes (p (take at key))
    (list_any p (parts (drop (at + 1) key))) e

pub any_later : (p : List ℕ → Bool) (key : List ℕ) (at : ℕ) → Some at ≡ position is_backslash key
    → p (take at key) ≡ false → list_any p (parts key) ≡ list_any p (parts (drop (at + 1) key))
any_later p key at h e = ap (list_any p) (parts_some key at (sym h)) ∙ or_no (p (take at key))
    (list_any p (parts (drop (at + 1) key))) e

pub any_last : (p : List ℕ → Bool) (key : List ℕ) → None ≡ position is_backslash key → list_any p (parts key) ≡ p key
any_last p key h = ap (list_any p) (parts_none key (sym h)) ∙ or_none (p key)

pub all_not_here : (p : List ℕ → Bool) (key : List ℕ) (at : ℕ) → Some at ≡ position is_backslash key
    → p (take at key) ≡ false → list_all p (parts key) ≡ false
all_not_here p key at h e = ap (list_all p) (parts_some key at (sym h)) ∙ and_no (p (take at key))
    (list_all p (parts (drop (at + 1) key))) e

pub all_later : (p : List ℕ → Bool) (key : List ℕ) (at : ℕ) → Some at ≡ position is_backslash key
    → p (take at key) ≡ true → list_all p (parts key) ≡ list_all p (parts (drop (at + 1) key))
all_later p key at h e = ap (list_all p) (parts_some key at (sym h)) ∙ and_yes (p (take at key))
    (list_all p (parts (drop (at + 1) key))) e

pub all_last : (p : List ℕ → Bool) (key : List ℕ) → None ≡ position is_backslash key → list_all p (parts key) ≡ p key
all_last p key h = ap (list_all p) (parts_none key (sym h)) ∙ and_none (p key)
