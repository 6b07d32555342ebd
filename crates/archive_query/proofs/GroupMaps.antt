-- Groups and what is given of them, through a map.
use Rattle.std.proofs.Common.{◌≡◌, Bool, true, false, cond, List, [], ◌∷◌, map, Option, refl, sym, ap, ◌∙◌}
use Rattle.std.specs.List.{filter_map, cons_option}
use Rattle.archive_model.specs.Texts.{same, ascending}
use Rattle.archive_query.specs.Grouping.{under, groups_by}
use Rattle.archive_query.proofs.AscendingLaws.{Text}

under-map : {X Y : Type 0} (key : Y → Text) (f : X → Y) (k : Text) (xs : List X)
    → map f (under (λ x. key (f x)) k xs) ≡ under key k (map f xs)
under-map key f k [] = refl
under-map {X} {Y} key f k (x ∷ xs) =
    by_test (same (key (f x)) k) ∙ ap (λ (ys : List Y). cond (same (key (f x)) k) (f x ∷ ys) ys) (under-map key f k xs)
  where
    by_test : (b : Bool) → map f (cond b (x ∷ under (λ x. key (f x)) k xs) (under (λ x. key (f x)) k xs)) ≡ cond
        b (f x ∷ map f (under (λ x. key (f x)) k xs)) (map f (under (λ x. key (f x)) k xs))
    by_test true = refl
    by_test false = refl

pub map-map : {A B C : Type 0} (f : A → B) (g : B → C) (xs : List A) → map g (map f xs) ≡ map (λ x. g (f x)) xs
map-map f g [] = refl
map-map {C = C} f g (x ∷ xs) = ap (λ (ys : List C). g (f x) ∷ ys) (map-map f g xs)

map_each : {A B : Type 0} (f g : A → B) → ((x : A) → f x ≡ g x) → (xs : List A) → map f xs ≡ map g xs
map_each f g e [] = refl
map_each {B = B} f g e (x ∷ xs) = ap (λ (y : B). y ∷ map f xs) (e x) ∙ ap (λ (ys : List B). g x ∷ ys)
    (map_each f g e xs)

pub groups-map : {X Y : Type 0} (key : Y → Text) (f : X → Y) (xs : List X) → map (map f) (groups_by (λ x. key (f x)) xs)
    ≡ groups_by key (map f xs)
groups-map {X} {Y} key f xs =
    map-map (λ k. under (λ x. key (f x)) k xs) (map f) (ascending (map (λ x. key (f x)) xs))
    ∙ map_each (λ k. map f (under (λ x. key (f x)) k xs)) (λ k. under key k (map f xs)) (λ k. under-map key f k xs)
    (ascending (map (λ x. key (f x)) xs))
    ∙ ap (λ (ks : List Text). map (λ k. under key k (map f xs)) (ascending ks)) (sym (map-map f key xs))

pub filter_map-map : {A B C : Type 0} (f : A → B) (g : B → Option C) (h : A → Option C) → ((x : A) → g (f x) ≡ h x)
    → (xs : List A) → filter_map g (map f xs) ≡ filter_map h xs
filter_map-map f g h e [] = refl
filter_map-map {C = C} f g h e (x ∷ xs) =
    ap (λ (o : Option C). cons_option o (filter_map g (map f xs))) (e x) ∙ ap (cons_option (h x))
    (filter_map-map f g h e xs)
