-- Which strings there are of a length, and the first of them that passes a test.
use Rattle.std.proofs.Common.{◌≡◌, ◌<◌, ℕ, zero, suc, List, [], ◌∷◌, ◌++◌, Bool, true, false, cond, Some}
use Rattle.std.proofs.Common.{None, refl, sym, ap, subst, ◌∙◌, inl, inr, ◌⊎◌, length, arith}
use Rattle.std.specs.List.{find, flat_map}
use Rattle.std.proofs.lemmas.Option.{same_Some}
use Rattle.octets.specs.Bytes.{IsBytes}
use Rattle.octets.specs.Members.{Has}
use Rattle.octets.proofs.ByteLaws.{IsBytes-tail}
use Rattle.records.specs.Strings.{numbers_below, strings, strings_behind}

-- ---- members of lists

module _ {X : Type 0} where
  in_front : (xs ys : List X) (x : X) → Has xs x → Has (xs ++ ys) x
  in_front [] ys x has = absurd has
  in_front (z ∷ xs) ys x (inl e) = inl e
  in_front (z ∷ xs) ys x (inr later) = inr (in_front xs ys x later)

  behind : (xs ys : List X) (x : X) → Has ys x → Has (xs ++ ys) x
  behind [] ys x has = has
  behind (z ∷ xs) ys x has = inr (behind xs ys x has)

  later_of : (z x : X) (xs ys : List X) → Has xs x ⊎ Has ys x → Has (z ∷ xs) x ⊎ Has ys x
  later_of z x xs ys (inl has) = inl (inr has)
  later_of z x xs ys (inr has) = inr has

  parted : (xs ys : List X) (x : X) → Has (xs ++ ys) x → Has xs x ⊎ Has ys x
  parted [] ys x has = inr has
  parted (z ∷ xs) ys x (inl e) = inl (inl e)
  parted (z ∷ xs) ys x (inr later) = later_of z x xs ys (parted xs ys x later)

  found_first : (p : X → Bool) (y x : X) (ys : List X) (b : Bool) → p y ≡ b
      → (find p ys ≡ Some x → Has ys x × (p x ≡ true)) → cond b (Some y) (find p ys) ≡ Some x → Has (y ∷ ys) x
      × (p x ≡ true)
  found_first p y x ys true is later e = (inl (sym (same_Some y x e)), ap p (sym (same_Some y x e)) ∙ is)
  found_first p y x ys false is later e = (inr (later e).0, (later e).1)

  -- what is found is there and passes
  pub found_has : (p : X → Bool) (xs : List X) (x : X) → find p xs ≡ Some x → Has xs x × (p x ≡ true)
  found_has p [] x e = absurd cc
  found_has p (y ∷ ys) x e = found_first p y x ys (p y) refl (found_has p ys x) e

  none_first : (p : X → Bool) (y x : X) (ys : List X) (b : Bool) → p y ≡ b → (find p ys ≡ None → Has ys x → p x ≡ false)
      → cond b (Some y) (find p ys) ≡ None → Has (y ∷ ys) x → p x ≡ false
  none_first p y x ys true is later e has = absurd cc
  none_first p y x ys false is later e (inl s) = ap p s ∙ is
  none_first p y x ys false is later e (inr h) = later e h

  -- where nothing is found nothing passes
  pub none_has : (p : X → Bool) (xs : List X) (x : X) → find p xs ≡ None → Has xs x → p x ≡ false
  none_has p [] x e has = absurd has
  none_has p (y ∷ ys) x e has = none_first p y x ys (p y) refl (none_has p ys x) e has

module _ {X Y : Type 0} (f : X → List Y) where
  made_has : (xs : List X) (x : X) (y : Y) → Has xs x → Has (f x) y → Has (flat_map f xs) y
  made_has [] x y has there = absurd has
  made_has (z ∷ xs) x y (inl e) there = in_front (f z) (flat_map f xs) y (subst (λ (q : X). Has (f q) y) e there)
  made_has (z ∷ xs) x y (inr later) there = behind (f z) (flat_map f xs) y (made_has xs x y later there)

  Made : List X → Y → Type 0
  Made xs y = (x : X) × Has (f x) y

  made_later : (z : X) (xs : List X) (y : Y) → (Has (flat_map f xs) y → (x : X) × Has (f x) y)
      → Has (f z) y ⊎ Has (flat_map f xs) y → (x : X) × Has (f x) y
  made_later z xs y more (inl has) = (z, has)
  made_later z xs y more (inr has) = more has

  has_made : (xs : List X) (y : Y) → Has (flat_map f xs) y → (x : X) × Has (f x) y
  has_made [] y has = absurd has
  has_made (z ∷ xs) y has = made_later z xs y (has_made xs y) (parted (f z) (flat_map f xs) y has)

mapped_has : (byte : ℕ) (texts : List (List ℕ)) (text : List ℕ) → Has texts text
    → Has (strings_behind texts byte) (byte ∷ text)
mapped_has byte [] text has = absurd has
mapped_has byte (t ∷ texts) text (inl e) = inl (ap (λ (q : List ℕ). byte ∷ q) e)
mapped_has byte (t ∷ texts) text (inr later) = inr (mapped_has byte texts text later)

has_mapped : (byte : ℕ) (texts : List (List ℕ)) (text : List ℕ) → Has (strings_behind texts byte) text
    → (t : List ℕ) × Has texts t × (text ≡ byte ∷ t)
has_mapped byte [] text has = absurd has
has_mapped byte (t ∷ texts) text (inl e) = (t, inl refl, e)
has_mapped byte (t ∷ texts) text (inr later) =
    let more = has_mapped byte texts text later in (more.0, inr more.1, more.2)

-- ---- numbers and strings

one_more : (m n : ℕ) → (m ≡ n) ⊎ (m < n) → (suc m ≡ suc n) ⊎ (suc m < suc n)
one_more m n (inl e) = inl (ap suc e)
one_more m n (inr less) = inr (omega (arith, less))

last_or_before : (m n : ℕ) → m < suc n → (m ≡ n) ⊎ (m < n)
last_or_before zero zero less = inl refl
last_or_before zero (suc n) less = inr (omega arith)
last_or_before (suc m) zero less = absurd (omega (arith, less))
last_or_before (suc m) (suc n) less = one_more m n (last_or_before m n (omega (arith, less)))

below_one : (n m : ℕ) → (m < n → Has (numbers_below n) m) → (m ≡ n) ⊎ (m < n) → Has (numbers_below n ++ n ∷ []) m
below_one n m more (inl e) = behind (numbers_below n) (n ∷ []) m (inl e)
below_one n m more (inr less) = in_front (numbers_below n) (n ∷ []) m (more less)

below_has : (n m : ℕ) → m < n → Has (numbers_below n) m
unfolding numbers_below
below_has zero m less = absurd (omega (arith, less))
below_has (suc n) m less = below_one n m (below_has n m) (last_or_before m n less)

-- every string of bytes is one of its length
pub strings_have : (text : List ℕ) → IsBytes text → Has (strings (length text)) text
unfolding strings
strings_have [] fits = inl refl
strings_have (b ∷ text) fits =
    made_has (strings_behind (strings (length text))) (numbers_below 256) b (b ∷ text) (below_has 256 b (fits 0))
    (mapped_has b (strings (length text)) text (strings_have text (IsBytes-tail b text fits)))

-- and has this length
pub strings_long : (n : ℕ) (text : List ℕ) → Has (strings n) text → length text ≡ n
unfolding strings
strings_long zero text (inl e) = ap (λ (q : List ℕ). length q) e
strings_long zero text (inr none) = absurd none
strings_long (suc n) text has =
    let made = has_made (strings_behind (strings n)) (numbers_below 256) text has in
    let one = has_mapped made.0 (strings n) text made.1 in
    ap (λ (q : List ℕ). length q) one.2 ∙ ap suc (strings_long n one.0 one.1)
