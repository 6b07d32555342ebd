-- Members of lists that are made of lists.
use Rattle.std.proofs.Common.{◌≡◌, List, [], ◌∷◌, Bool, true, false, cond, Option, Some, None, refl, sym, ap, ◌∙◌}
use Rattle.std.proofs.Common.{inl, inr, ◌⊎◌, map}
use Rattle.std.specs.Prelude.{◌||◌}
use Rattle.std.proofs.lemmas.Bool.{false≢true}
use Rattle.std.specs.List.{filter, filter_map, cons_option, find, list_any, list_all}
use Rattle.std.specs.Cmp.{first_so as and_first, second_so as and_second}
use Rattle.std.proofs.lemmas.Option.{same_Some}
use mathlib.Core.Bool.{or-true as or_second}
use Rattle.octets.specs.Members.{Has}

given : {Y : Type 0} (r : Option Y) (y : Y) (ys : List Y) → r ≡ Some y → Has (cons_option r ys) y
given None y ys e = absurd cc
given (Some z) y ys e = inl (let s : z ≡ y = cc in sym s)

behind : {Y : Type 0} (r : Option Y) (y : Y) (ys : List Y) → Has ys y → Has (cons_option r ys) y
behind None y ys has = has
behind (Some z) y ys has = inr has

module _ {X : Type 0} where
  pub has_all : (p : X → Bool) (xs : List X) (x : X) → list_all p xs ≡ true → Has xs x → p x ≡ true
  has_all p [] x all has = absurd has
  has_all p (y ∷ ys) x all (inl e) = ap p e ∙ and_first (p y) (list_all p ys) all
  has_all p (y ∷ ys) x all (inr later) = has_all p ys x (and_second (p y) (list_all p ys) all) later

  found_first : (p : X → Bool) (y x : X) (ys : List X) (b : Bool) → p y ≡ b
      → (find p ys ≡ Some x → Has ys x × (p x ≡ true)) → cond b (Some y) (find p ys) ≡ Some x → Has (y ∷ ys) x
      × (p x ≡ true)
  found_first p y x ys true is later e = (inl (sym (same_Some y x e)), ap p (sym (same_Some y x e)) ∙ is)
  found_first p y x ys false is later e = (inr (later e).0, (later e).1)

  pub found_has : (p : X → Bool) (xs : List X) (x : X) → find p xs ≡ Some x → Has xs x × (p x ≡ true)
  found_has p [] x e = absurd cc
  found_has p (y ∷ ys) x e = found_first p y x ys (p y) refl (found_has p ys x) e

  none_first : (p : X → Bool) (y x : X) (ys : List X) (b : Bool) → p y ≡ b → (find p ys ≡ None → Has ys x → p x ≡ false)
      → cond b (Some y) (find p ys) ≡ None → Has (y ∷ ys) x → p x ≡ false
  none_first p y x ys true is later e has = absurd cc
  none_first p y x ys false is later e (inl s) = ap p s ∙ is
  none_first p y x ys false is later e (inr h) = later e h

  pub none_has : (p : X → Bool) (xs : List X) (x : X) → find p xs ≡ None → Has xs x → p x ≡ false
  none_has p [] x e has = absurd has
  none_has p (y ∷ ys) x e has = none_first p y x ys (p y) refl (none_has p ys x) e has

  any_first : (p : X → Bool) (y : X) (ys : List X) (b : Bool) → p y ≡ b → (list_any p ys ≡ true → (x : X) × Has ys x
      × (p x ≡ true)) → (b || list_any p ys) ≡ true → (x : X) × Has (y ∷ ys) x × (p x ≡ true)
  any_first p y ys true is more e = (y, inl refl, is)
  any_first p y ys false is more e = let later = more e in (later.0, inr later.1, later.2)

  pub any_has : (p : X → Bool) (xs : List X) → list_any p xs ≡ true → (x : X) × Has xs x × (p x ≡ true)
  any_has p [] e = absurd (false≢true e)
  any_has p (y ∷ ys) e = any_first p y ys (p y) refl (any_has p ys) e

  pub has_any : (p : X → Bool) (xs : List X) (x : X) → Has xs x → p x ≡ true → list_any p xs ≡ true
  has_any p [] x has e = absurd has
  has_any p (y ∷ ys) x (inl s) e = ap (λ b. b || list_any p ys) (ap p (sym s) ∙ e)
  has_any p (y ∷ ys) x (inr later) e = ap (λ b. p y || b) (has_any p ys x later e) ∙ or_second (p y)

  kept : (b : Bool) (y x : X) (ys : List X) → b ≡ true → (x ≡ y) ⊎ Has ys x → Has (cond b (y ∷ ys) ys) x
  kept true y x ys e has = has
  kept false y x ys e has = absurd (false≢true e)

  passed : (b : Bool) (y x : X) (ys : List X) → Has ys x → Has (cond b (y ∷ ys) ys) x
  passed true y x ys has = inr has
  passed false y x ys has = has

  pub has_filter : (p : X → Bool) (xs : List X) (x : X) → Has xs x → p x ≡ true → Has (filter p xs) x
  has_filter p [] x has e = absurd has
  has_filter p (y ∷ ys) x (inl s) e = kept (p y) y x (filter p ys) (ap p (sym s) ∙ e) (inl s)
  has_filter p (y ∷ ys) x (inr later) e = passed (p y) y x (filter p ys) (has_filter p ys x later e)

  filtered_first : (p : X → Bool) (y x : X) (ys : List X) (b : Bool) → p y ≡ b
      → (Has (filter p ys) x → Has ys x × (p x ≡ true)) → Has (cond b (y ∷ filter p ys) (filter p ys)) x
      → Has (y ∷ ys) x × (p x ≡ true)
  filtered_first p y x ys true is more (inl s) = (inl s, ap p s ∙ is)
  filtered_first p y x ys true is more (inr h) = (inr (more h).0, (more h).1)
  filtered_first p y x ys false is more h = (inr (more h).0, (more h).1)

  pub filter_has : (p : X → Bool) (xs : List X) (x : X) → Has (filter p xs) x → Has xs x × (p x ≡ true)
  filter_has p [] x has = absurd has
  filter_has p (y ∷ ys) x has = filtered_first p y x ys (p y) refl (filter_has p ys x) has

module _ {X Y : Type 0} where
  pub has_map : (f : X → Y) (xs : List X) (x : X) → Has xs x → Has (map f xs) (f x)
  has_map f [] x has = absurd has
  has_map f (y ∷ ys) x (inl s) = inl (ap f s)
  has_map f (y ∷ ys) x (inr later) = inr (has_map f ys x later)

  pub map_has : (f : X → Y) (xs : List X) (y : Y) → Has (map f xs) y → (x : X) × Has xs x × (y ≡ f x)
  map_has f [] y has = absurd has
  map_has f (x ∷ xs) y (inl s) = (x, inl refl, s)
  map_has f (x ∷ xs) y (inr h) = let later = map_has f xs y h in (later.0, inr later.1, later.2)

  pub has_filter_map : (f : X → Option Y) (xs : List X) (x : X) (y : Y) → Has xs x → f x ≡ Some y
      → Has (filter_map f xs) y
  has_filter_map f [] x y has e = absurd has
  has_filter_map f (z ∷ zs) x y (inl s) e = given (f z) y (filter_map f zs) (ap f (sym s) ∙ e)
  has_filter_map f (z ∷ zs) x y (inr later) e = behind (f z) y (filter_map f zs) (has_filter_map f zs x y later e)

  mapped_first : (f : X → Option Y) (x : X) (y : Y) (xs : List X) (r : Option Y) → f x ≡ r
      → (Has (filter_map f xs) y → (z : X) × Has xs z × (f z ≡ Some y)) → Has (cons_option r (filter_map f xs)) y
      → (z : X) × Has (x ∷ xs) z × (f z ≡ Some y)
  mapped_first f x y xs None is more h = ((more h).0, inr (more h).1, (more h).2)
  mapped_first f x y xs (Some w) is more (inl s) = (x, inl refl, is ∙ ap Some (sym s))
  mapped_first f x y xs (Some w) is more (inr h) = ((more h).0, inr (more h).1, (more h).2)

  pub filter_map_has : (f : X → Option Y) (xs : List X) (y : Y) → Has (filter_map f xs) y → (x : X) × Has xs x
      × (f x ≡ Some y)
  filter_map_has f [] y has = absurd has
  filter_map_has f (x ∷ xs) y has = mapped_first f x y xs (f x) refl (filter_map_has f xs y) has
