-- Facts of each element, and texts one after the other.
use Rattle.std.proofs.Common.{◌≡◌, ℕ, zero, suc, ◌+◌, ◌<◌, ◌≤◌, List, [], ◌∷◌, ◌++◌, length, take, get_or, append_assoc}
use Rattle.std.proofs.Common.{sym, ap, subst, ◌∙◌, arith, map}
use Rattle.std.specs.List.{flat_map, AllByRecursion}
use Rattle.std.proofs.lemmas.List.Folds.{length-flat_map-take, flat_map-map}
use Rattle.std.proofs.lemmas.List.{append-nil}

pub all_at : {A : Type 0} (P : A → Type 0) (xs : List A) (i : ℕ) (x : A) → AllByRecursion P xs → i < length xs
    → x ≡ get_or xs i x → P x
all_at P [] i x all lt is = absurd (omega (arith, lt))
all_at P (y ∷ ys) zero x all lt is = subst P (sym is) all.0
all_at P (y ∷ ys) (suc i) x all lt is = all_at P ys i x all.1 (omega (arith, lt)) is

pub all_map_at : {A B : Type 0} (P : B → Type 0) (f : A → B) (xs : List A) (i : ℕ) (x : A) → AllByRecursion P (map f xs)
    → i < length xs → x ≡ get_or xs i x → P (f x)
all_map_at P f [] i x all lt is = absurd (omega (arith, lt))
all_map_at P f (y ∷ ys) zero x all lt is = subst (λ z. P (f z)) (sym is) all.0
all_map_at P f (y ∷ ys) (suc i) x all lt is = all_map_at P f ys i x all.1 (omega (arith, lt)) is

-- the texts before an element and its own are no longer than all
pub text_at : {A : Type 0} (f : A → List ℕ) (xs : List A) (i : ℕ) (x : A) → i < length xs → x ≡ get_or xs i x
    → length (flat_map f (take i xs)) + length (f x) ≤ length (flat_map f xs)
text_at f xs i x lt is = subst (λ y. length (flat_map f (take i xs)) + length (f y) ≤ length (flat_map f xs)) (sym is)
    (length-flat_map-take f xs i x lt)

texts_more : {A : Type 0} (f : A → List ℕ) (xs : List A) (i : ℕ) (x : A) → i < length xs → x ≡ get_or xs i x
    → flat_map f (take i xs) ++ f x ≡ flat_map f (take (suc i) xs)
texts_more f [] i x lt is = absurd (omega (arith, lt))
texts_more f (y ∷ ys) zero x lt is = ap f is ∙ sym (append-nil (f y))
texts_more f (y ∷ ys) (suc i) x lt is = append_assoc (f y) (flat_map f (take i ys)) (f x)
    ∙ ap (λ (t : List ℕ). f y ++ t) (texts_more f ys i x (omega (arith, lt)) is)

-- one item more was put
pub item_put : {A B : Type 0} (text : B → List ℕ) (g : A → B) (base : List ℕ) (xs : List A) (i : ℕ) (x : A)
    → i < length xs → x ≡ get_or xs i x → (base ++ flat_map text (map g (take i xs))) ++ text (g x) ≡ base ++ flat_map
    text (map g (take (i + 1) xs))
item_put {A} text g base xs i x lt is =
    let next : suc i ≡ i + 1 = omega arith in
    append_assoc base (flat_map text (map g (take i xs))) (text (g x))
    ∙ ap (λ (t : List ℕ). base ++ (t ++ text (g x))) (flat_map-map text g (take i xs))
    ∙ ap (λ (t : List ℕ). base ++ t) (texts_more (λ y. text (g y)) xs i x lt is)
    ∙ ap (λ (n : ℕ). base ++ flat_map (λ y. text (g y)) (take n xs)) next
    ∙ ap (λ (t : List ℕ). base ++ t) (sym (flat_map-map text g (take (i + 1) xs)))
