-- What is taken of lists.
use Rattle.std.proofs.Common.{inl, inr, ◌≡◌, ℕ, zero, suc, ◌+◌, ◌<◌, ◌≤◌, List, [], ◌∷◌, ◌++◌, ltb}
use Rattle.std.proofs.Common.{length, take, drop, get_or, refl, sym, ap, ◌∙◌, arith, append_assoc}
use Rattle.std.proofs.lemmas.Bool.{lt-ltb}
use Rattle.std.proofs.lemmas.List.{map-append, take-append-drop}
use Rattle.std.proofs.lemmas.Grind.{flat_map-append}
use Rattle.std.specs.Prelude.{map}
use Rattle.std.specs.List.{flat_map, range_with_len}
use Rattle.octets.specs.Members.{Has}

-- ---- fronts

-- what is behind a front that is filled is left out
pub front_filled : {X : Type 0} (n : ℕ) (xs ys : List X) → length xs ≤ n → n ≤ length xs → take n (xs ++ ys) ≡ xs
front_filled zero [] ys few many = refl
front_filled zero (x ∷ xs) ys few many = absurd (omega (arith, few))
front_filled (suc n) [] ys few many = absurd (omega (arith, many))
front_filled (suc n) (x ∷ xs) ys few many =
    ap (λ zs. x ∷ zs) (front_filled n xs ys (omega (arith, few)) (omega (arith, many)))

-- nothing behind a front that fits
pub front_alone : {X : Type 0} (n : ℕ) (xs : List X) → length xs ≤ n → take n (xs ++ []) ≡ xs
front_alone zero [] few = refl
front_alone zero (x ∷ xs) few = absurd (omega (arith, few))
front_alone (suc n) [] few = refl
front_alone (suc n) (x ∷ xs) few = ap (λ zs. x ∷ zs) (front_alone n xs (omega (arith, few)))

-- a front of what stands behind a front
pub front_again : {X : Type 0} (n : ℕ) (xs ys : List X) → take n (take n xs ++ ys) ≡ take n (xs ++ ys)
front_again zero xs ys = refl
front_again (suc n) [] ys = refl
front_again (suc n) (x ∷ xs) ys = ap (λ zs. x ∷ zs) (front_again n xs ys)

-- a front of a longer front
pub front_less : {X : Type 0} (m n : ℕ) (xs : List X) → m ≤ n → take m (take n xs) ≡ take m xs
front_less zero n xs le = refl
front_less (suc m) zero xs le = absurd (omega (arith, le))
front_less (suc m) (suc n) [] le = refl
front_less (suc m) (suc n) (x ∷ xs) le = ap (λ zs. x ∷ zs) (front_less m n xs (omega (arith, le)))

shift : (m n : ℕ) → ltb (suc m) (suc n) ≡ ltb m n
shift m n = grind arith

-- more than so many are seen in a front of one more
pub front_longer : {X : Type 0} (m : ℕ) (xs : List X) → ltb m (length (take (suc m) xs)) ≡ ltb m (length xs)
front_longer m [] = refl
front_longer zero (x ∷ xs) = sym (lt-ltb 0 (suc (length xs)) (omega arith))
front_longer (suc m) (x ∷ xs) =
    shift m (length (take (suc m) xs)) ∙ front_longer m xs ∙ sym (shift m (length xs))

pub front_short : {X : Type 0} (n : ℕ) (xs : List X) → length (take n xs) ≤ n
front_short zero xs = omega arith
front_short (suc n) [] = omega arith
front_short (suc n) (x ∷ xs) = omega (arith, front_short n xs)

-- what is behind a front that is filled is left out of it
pub front_of_more : {X : Type 0} (n : ℕ) (xs ys : List X) → n ≤ length (take n xs) → take n xs ≡ take n (xs ++ ys)
front_of_more zero xs ys many = refl
front_of_more (suc n) [] ys many = absurd (omega (arith, many))
front_of_more (suc n) (x ∷ xs) ys many = ap (λ zs. x ∷ zs) (front_of_more n xs ys (omega (arith, many)))

pub front_fits : {X : Type 0} (n : ℕ) (xs : List X) → length xs ≤ n → take n xs ≡ xs
front_fits zero [] few = refl
front_fits zero (x ∷ xs) few = absurd (omega (arith, few))
front_fits (suc n) [] few = refl
front_fits (suc n) (x ∷ xs) few = ap (λ zs. x ∷ zs) (front_fits n xs (omega (arith, few)))

pub take_next : {X : Type 0} (j : ℕ) (xs : List X) (d : X) → j < length xs
    → take (j + 1) xs ≡ take j xs ++ get_or xs j d ∷ []
take_next j [] d lt = absurd (omega (arith, lt))
take_next zero (x ∷ xs) d lt = refl
take_next (suc j) (x ∷ xs) d lt =
    let next : suc j + 1 ≡ suc (j + 1) = omega arith in
    ap (λ n. take n (x ∷ xs)) next ∙ ap (λ zs. x ∷ zs) (take_next j xs d (omega (arith, lt)))

-- ---- what is put behind others, up to so many

-- one more
pub put_more : {X Y : Type 0} (n : ℕ) (f : Y → X) (before now after : List X) (ys : List Y) (j : ℕ) (d : Y) (v : X)
    → j < length ys → now ≡ take n (before ++ map f (take j ys)) → length now < n → v ≡ f (get_or ys j d)
    → after ≡ now ++ v ∷ [] → after ≡ take n (before ++ map f (take (j + 1) ys))
put_more {X = X} n f before now after ys j d v lt was room is put =
    put ∙ sym (front_fits n (now ++ v ∷ []) (omega (arith, room, long now)))
    ∙ ap (λ xs. take n (xs ++ v ∷ [])) was ∙ front_again n (before ++ map f (take j ys)) (v ∷ [])
    ∙ ap (λ x. take n ((before ++ map f (take j ys)) ++ x ∷ [])) is
    ∙ ap (take n) (append_assoc before (map f (take j ys)) (f (get_or ys j d) ∷ [])
    ∙ ap (λ xs. before ++ xs) (sym (map-append f (take j ys) (get_or ys j d ∷ []))
    ∙ ap (map f) (sym (take_next j ys d lt))))
  where
    long : (xs : List X) → length (xs ++ v ∷ []) ≤ suc (length xs)
    long [] = omega arith
    long (x ∷ xs) = omega (arith, long xs)

-- no room for more
pub put_full : {X Y : Type 0} (n : ℕ) (f : Y → X) (before now : List X) (ys : List Y) (j : ℕ)
    → now ≡ take n (before ++ map f (take j ys)) → n ≤ length now → now ≡ take n (before ++ map f ys)
put_full n f before now ys j was many =
    let full : n ≤ length (take n (before ++ map f (take j ys))) = omega (arith, many, ap length was) in
    was ∙ front_of_more n (before ++ map f (take j ys)) (map f (drop j ys)) full
    ∙ ap (take n) (append_assoc before (map f (take j ys)) (map f (drop j ys))
    ∙ ap (λ xs. before ++ xs) (sym (map-append f (take j ys) (drop j ys)) ∙ ap (map f) (take-append-drop j ys)))

-- all were put
pub put_all : {X Y : Type 0} (n : ℕ) (f : Y → X) (before now : List X) (ys : List Y) (j : ℕ)
    → now ≡ take n (before ++ map f (take j ys)) → length ys ≤ j → now ≡ take n (before ++ map f ys)
put_all n f before now ys j was end = was ∙ ap (λ xs. take n (before ++ map f xs)) (front_fits j ys end)

-- a list more
pub joined_more : {X Y : Type 0} (n : ℕ) (f : Y → List X) (now after : List X) (ys : List Y) (j : ℕ) (d : Y)
    → j < length ys → now ≡ take n (flat_map f (take j ys)) → after ≡ take n (now ++ f (get_or ys j d))
    → after ≡ take n (flat_map f (take (j + 1) ys))
joined_more {X = X} {Y = Y} n f now after ys j d lt was put =
    put ∙ ap (λ xs. take n (xs ++ f (get_or ys j d))) was ∙ front_again n (flat_map f (take j ys)) (f (get_or ys j d))
    ∙ ap (take n) (sym (ap (flat_map f) (take_next j ys d lt) ∙ flat_map-append f (take j ys) (get_or ys j d ∷ [])
    ∙ ap (λ xs. flat_map f (take j ys) ++ xs) (one (get_or ys j d))))
  where
    ending : (xs : List X) → xs ++ [] ≡ xs
    ending [] = refl
    ending (x ∷ xs) = ap (λ zs. x ∷ zs) (ending xs)

    one : (y : Y) → flat_map f (y ∷ []) ≡ f y
    one y = ending (f y)

pub joined_full : {X Y : Type 0} (n : ℕ) (f : Y → List X) (now : List X) (ys : List Y) (j : ℕ)
    → now ≡ take n (flat_map f (take j ys)) → n ≤ length now → now ≡ take n (flat_map f ys)
joined_full n f now ys j was many =
    let full : n ≤ length (take n (flat_map f (take j ys))) = omega (arith, many, ap length was) in
    was ∙ front_of_more n (flat_map f (take j ys)) (flat_map f (drop j ys)) full
    ∙ ap (take n) (sym (flat_map-append f (take j ys) (drop j ys)) ∙ ap (flat_map f) (take-append-drop j ys))

-- ---- members

pub has_at : {X : Type 0} (xs : List X) (j : ℕ) (d : X) → j < length xs → Has xs (get_or xs j d)
has_at [] j d lt = absurd (omega (arith, lt))
has_at (x ∷ xs) zero d lt = inl refl
has_at (x ∷ xs) (suc j) d lt = inr (has_at xs j d (omega (arith, lt)))

pub range_below : (n a x : ℕ) → Has (range_with_len a n) x → x < a + n
range_below zero a x h = absurd h
range_below (suc n) a x (inl at) = omega (arith, at)
range_below (suc n) a x (inr h) = omega (arith, range_below n (a + 1) x h)
