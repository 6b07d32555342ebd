-- What is made of the elements of a list, and what is made of what is kept of them.
use Rattle.std.proofs.Common.{◌≡◌, Bool, true, false, cond, List, [], ◌∷◌, Option, Some, None, refl, sym, ap, ◌∙◌, map}
use Rattle.std.specs.Prelude.{◌||◌, if◌then◌else◌}
use Rattle.std.specs.List.{cons_option, filter, filter_map, find, list_any}
use Rattle.std.specs.Option.{option_map}

module _ {X Y : Type 0} (f : X → Y) where
  push : (b : Bool) (x : X) (xs : List X) → map f (cond b (x ∷ xs) xs) ≡ cond b (f x ∷ map f xs) (map f xs)
  push true x xs = refl
  push false x xs = refl

  -- what is kept of those that pass a test that sees no more than is kept
  pub filter_kept : (p : X → Bool) (q : Y → Bool) → ((x : X) → q (f x) ≡ p x) → (xs : List X)
      → map f (filter p xs) ≡ filter q (map f xs)
  filter_kept p q sees [] = refl
  filter_kept p q sees (x ∷ xs) =
      push (p x) x (filter p xs) ∙ ap (λ (b : Bool). cond b (f x ∷ map f (filter p xs)) (map f (filter p xs)))
      (sym (sees x)) ∙ ap (λ (ys : List Y). cond (q (f x)) (f x ∷ ys) ys) (filter_kept p q sees xs)

  push_found : (b : Bool) (x : X) (r : Option X) → option_map f (cond b (Some x) r)
      ≡ cond b (Some (f x)) (option_map f r)
  push_found true x r = refl
  push_found false x r = refl

  -- and of the first of them
  pub find_kept : (p : X → Bool) (q : Y → Bool) → ((x : X) → q (f x) ≡ p x) → (xs : List X)
      → option_map f (find p xs) ≡ find q (map f xs)
  find_kept p q sees [] = refl
  find_kept p q sees (x ∷ xs) =
      push_found (p x) x (find p xs) ∙ ap (λ (b : Bool). cond b (Some (f x)) (option_map f (find p xs)))
      (sym (sees x)) ∙ ap (λ (r : Option Y). cond (q (f x)) (Some (f x)) r) (find_kept p q sees xs)

  -- whether there is one
  pub any_kept : (p : X → Bool) (q : Y → Bool) → ((x : X) → q (f x) ≡ p x) → (xs : List X)
      → list_any p xs ≡ list_any q (map f xs)
  any_kept p q sees [] = refl
  any_kept p q sees (x ∷ xs) =
      ap (λ (b : Bool). b || list_any p xs) (sym (sees x))
      ∙ ap (λ (b : Bool). q (f x) || b) (any_kept p q sees xs)

  -- what is made of each, where that sees no more
  pub map_kept : {Z : Type 0} (g : X → Z) (k : Y → Z) → ((x : X) → k (f x) ≡ g x) → (xs : List X)
      → map g xs ≡ map k (map f xs)
  map_kept g k sees [] = refl
  map_kept {Z} g k sees (x ∷ xs) =
      ap (λ (z : Z). z ∷ map g xs) (sym (sees x)) ∙ ap (λ (zs : List Z). k (f x) ∷ zs) (map_kept g k sees xs)

  -- the same where not of each something is made
  pub filter_map_kept : {Z : Type 0} (g : X → Option Z) (k : Y → Option Z) → ((x : X) → k (f x) ≡ g x)
      → (xs : List X) → filter_map g xs ≡ filter_map k (map f xs)
  filter_map_kept g k sees [] = refl
  filter_map_kept {Z} g k sees (x ∷ xs) =
      ap (λ (r : Option Z). cons_option r (filter_map g xs)) (sym (sees x))
      ∙ ap (λ (zs : List Z). cons_option (k (f x)) zs) (filter_map_kept g k sees xs)

  push_given : (r : Option X) (xs : List X) → map f (cons_option r xs) ≡ cons_option (option_map f r) (map f xs)
  push_given None xs = refl
  push_given (Some x) xs = refl

  -- what is kept of what is made
  pub kept_of_made : {Z : Type 0} (g : Z → Option X) (zs : List Z)
      → map f (filter_map g zs) ≡ filter_map (λ z. option_map f (g z)) zs
  kept_of_made g [] = refl
  kept_of_made g (z ∷ zs) =
      push_given (g z) (filter_map g zs)
      ∙ ap (λ (ys : List Y). cons_option (option_map f (g z)) ys) (kept_of_made g zs)

  -- what is kept of something, unless there is nothing
  pub push_none : (b : Bool) (r : Option X) → option_map f (if b then None else r)
      ≡ (if b then None else option_map f r)
  push_none true r = refl
  push_none false r = refl

  pub map_found : {Z : Type 0} (g : X → Z) (k : Y → Z) → ((x : X) → k (f x) ≡ g x) → (r : Option X)
      → option_map g r ≡ option_map k (option_map f r)
  map_found g k sees None = refl
  map_found g k sees (Some x) = ap Some (sym (sees x))
