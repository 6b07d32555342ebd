-- What is in lists that are made of others.
use Rattle.std.proofs.Common.{inl, inr, ◌≡◌, ◌⊎◌, ℕ, zero, suc, List, [], ◌∷◌, ◌++◌, Bool, true, false, take, refl, sym, ap}
use Rattle.std.proofs.Common.{◌∙◌, subst}
use Rattle.std.proofs.lemmas.List.Concat.{flat_map-cons}
use Rattle.std.specs.Prelude.{◌||◌, map}
use Rattle.std.specs.List.{flat_map, AllByRecursion, list_any}
use Rattle.octets.specs.Members.{Has}

-- what holds of each holds of one
pub of_each : {X : Type 0} (P : X → Type 0) (xs : List X) (x : X) → AllByRecursion P xs → Has xs x → P x
of_each P [] x all h = absurd h
of_each P (y ∷ ys) x all (inl at) = subst P (sym at) all.0
of_each P (y ∷ ys) x all (inr h) = of_each P ys x all.1 h

-- a list in which is nothing
pub none_in : {X : Type 0} (xs : List X) → ((x : X) → Has xs x → ⊥) → xs ≡ []
none_in [] none = refl
none_in (x ∷ xs) none = absurd (none x (inl refl))

-- what is in a front
pub take_has : {X : Type 0} (n : ℕ) (xs : List X) (x : X) → Has (take n xs) x → Has xs x
take_has zero xs x h = absurd h
take_has (suc n) [] x h = absurd h
take_has (suc n) (y ∷ ys) x (inl at) = inl at
take_has (suc n) (y ∷ ys) x (inr h) = inr (take_has n ys x h)

-- what is in one list behind another
pub parts_have : {X : Type 0} (xs ys : List X) (x : X) → Has (xs ++ ys) x → Has xs x ⊎ Has ys x
parts_have [] ys x h = inr h
parts_have (y ∷ xs) ys x (inl at) = inl (inl at)
parts_have {X = X} (y ∷ xs) ys x (inr h) = later (parts_have xs ys x h)
  where
    later : Has xs x ⊎ Has ys x → Has (y ∷ xs) x ⊎ Has ys x
    later (inl g) = inl (inr g)
    later (inr g) = inr g

pub in_front : {X : Type 0} (xs ys : List X) (x : X) → Has xs x → Has (xs ++ ys) x
in_front [] ys x h = absurd h
in_front (y ∷ xs) ys x (inl at) = inl at
in_front (y ∷ xs) ys x (inr h) = inr (in_front xs ys x h)

pub behind : {X : Type 0} (xs ys : List X) (x : X) → Has ys x → Has (xs ++ ys) x
behind [] ys x h = h
behind (y ∷ xs) ys x h = inr (behind xs ys x h)

-- what is in what a list becomes
pub map_has : {X Y : Type 0} (f : Y → X) (ys : List Y) (x : X) → Has (map f ys) x → (y : Y) × Has ys y × (x ≡ f y)
map_has f [] x h = absurd h
map_has f (y ∷ ys) x (inl at) = (y, inl refl, at)
map_has f (y ∷ ys) x (inr h) =
    let more = map_has f ys x h in
    (more.0, inr more.1, more.2)

pub has_map : {X Y : Type 0} (f : Y → X) (ys : List Y) (y : Y) → Has ys y → Has (map f ys) (f y)
has_map f [] y h = absurd h
has_map f (z ∷ ys) y (inl at) = inl (ap f at)
has_map f (z ∷ ys) y (inr h) = inr (has_map f ys y h)

-- what is in the lists that members become
pub flat_has : {X Y : Type 0} (f : Y → List X) (ys : List Y) (x : X) → Has (flat_map f ys) x
    → (y : Y) × Has ys y × Has (f y) x
flat_has f [] x h = absurd h
flat_has {X = X} {Y = Y} f (y ∷ ys) x h =
    by (parts_have (f y) (flat_map f ys) x (subst (λ xs. Has xs x) (flat_map-cons f y ys) h)) (flat_has f ys x)
  where
    by : Has (f y) x ⊎ Has (flat_map f ys) x → (Has (flat_map f ys) x → (z : Y) × Has ys z × Has (f z) x)
        → (z : Y) × Has (y ∷ ys) z × Has (f z) x
    by (inl g) rest = (y, inl refl, g)
    by (inr g) rest =
        let more = rest g in
        (more.0, inr more.1, more.2)

pub has_flat : {X Y : Type 0} (f : Y → List X) (ys : List Y) (y : Y) (x : X) → Has ys y → Has (f y) x
    → Has (flat_map f ys) x
has_flat f [] y x h g = absurd h
has_flat f (z ∷ ys) y x (inl at) g =
    subst (λ xs. Has xs x) (sym (flat_map-cons f z ys))
    (in_front (f z) (flat_map f ys) x (subst (λ w. Has (f w) x) at g))
has_flat f (z ∷ ys) y x (inr h) g =
    subst (λ xs. Has xs x) (sym (flat_map-cons f z ys)) (behind (f z) (flat_map f ys) x (has_flat f ys y x h g))

-- one of them passes a test
pub some_passes : {X : Type 0} (p : X → Bool) (xs : List X) → list_any p xs ≡ true
    → (x : X) × Has xs x × (p x ≡ true)
some_passes p [] e = absurd cc
some_passes {X = X} p (x ∷ xs) e = by (p x) refl (some_passes p xs)
  where
    by : (b : Bool) → p x ≡ b → (list_any p xs ≡ true → (y : X) × Has xs y × (p y ≡ true))
        → (y : X) × Has (x ∷ xs) y × (p y ≡ true)
    by true is rest = (x, inl refl, is)
    by false is rest =
        let more = rest (rw is at e) in
        (more.0, inr more.1, more.2)

first_passes : (a b : Bool) → a ≡ true → (a || b) ≡ true
first_passes true b e = refl
first_passes false b e = absurd cc

other_passes : (a b : Bool) → b ≡ true → (a || b) ≡ true
other_passes true b e = refl
other_passes false b e = e

-- and if one does, some do
pub has_passes : {X : Type 0} (p : X → Bool) (xs : List X) (x : X) → Has xs x → p x ≡ true → list_any p xs ≡ true
has_passes p [] x h e = absurd h
has_passes p (y ∷ ys) x (inl at) e = first_passes (p y) (list_any p ys) (ap p (sym at) ∙ e)
has_passes p (y ∷ ys) x (inr h) e = other_passes (p y) (list_any p ys) (has_passes p ys x h e)
