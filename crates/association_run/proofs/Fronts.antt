-- Fronts of lists, and bytes that are written or read one after another.
use Rattle.std.proofs.Common.{◌≡◌, ◌⊎◌, ℕ, List, [], ◌∷◌, ◌++◌, take, drop, inl, inr, Option, Some, None, refl, sym, ap}
use Rattle.std.proofs.Common.{◌∙◌, append_assoc, append-nil}
use Rattle.std.specs.Io.KnownBytes.{Appends, Consumes, Keeps}
use Rattle.std.proofs.lemmas.List.{take-append-drop}
use Rattle.association_session.specs.Projections.{IsFront}
use Rattle.association_run.specs.Parts.{Passed}
use Rattle.association_session.specs.declared.deed.Moment.{Moment}

pub further : (a b c : Option (List ℕ)) (x y : List ℕ) → Appends a b x → Appends b c y → Appends a c (x ++ y)
further None b c x y p q = tt
further (Some xs) None c x y p q = absurd p
further (Some xs) (Some ys) None x y p q = absurd q
further (Some xs) (Some ys) (Some zs) x y p q = q ∙ ap (λ (t : List ℕ). t ++ y) p ∙ append_assoc xs x y

pub nothing_written : (a : Option (List ℕ)) → Appends a a []
nothing_written None = tt
nothing_written (Some xs) = sym (append-nil xs)

pub read_further : (a b c : Option (List ℕ)) (x y : List ℕ) → Consumes a b x → Consumes b c y → Consumes a c (x ++ y)
read_further None b c x y p q = tt
read_further (Some xs) None c x y p q = absurd p
read_further (Some xs) (Some ys) None x y p q = absurd q
read_further (Some xs) (Some ys) (Some zs) x y p q = p ∙ ap (λ (t : List ℕ). x ++ t) q ∙ sym (append_assoc x y zs)

pub nothing_read : (a : Option (List ℕ)) → Consumes a a []
nothing_read None = tt
nothing_read (Some xs) = refl

pub kept_read : (a b : Option (List ℕ)) → Keeps a b → Consumes a b []
kept_read None b p = tt
kept_read (Some xs) None p = absurd p
kept_read (Some xs) (Some ys) p = sym p

pub all_front : {A : Type 0} (xs : List A) → IsFront xs xs
all_front xs = ([], sym (append-nil xs))

pub no_front : {A : Type 0} (xs : List A) → IsFront [] xs
no_front xs = (xs, refl)

pub take_front : (n : ℕ) (xs : List ℕ) → IsFront (take n xs) xs
take_front n xs = (drop n xs, sym (take-append-drop n xs))

pub front_behind : {A : Type 0} (xs made all : List A) → IsFront made all → IsFront (xs ++ made) (xs ++ all)
front_behind xs made all f = (f.0, ap (λ (t : List _). xs ++ t) f.1 ∙ sym (append_assoc xs made f.0))

pub front_more : {A : Type 0} (made all more : List A) → IsFront made all → IsFront made (all ++ more)
front_more made all more f = (f.0 ++ more, ap (λ (t : List _). t ++ more) f.1 ∙ append_assoc made f.0 more)

pub front_of_front : {A : Type 0} (xs ys zs : List A) → IsFront xs ys → IsFront ys zs → IsFront xs zs
front_of_front xs ys zs f g = (f.0 ++ g.0, g.1 ∙ ap (λ (t : List _). t ++ g.0) f.1 ∙ append_assoc xs f.0 g.0)

-- A front of two lists is a front of the first, or the first and a front of the second.
pub front_split : (xs ys zs : List ℕ) → IsFront xs (ys ++ zs) → IsFront xs ys ⊎ ((more : List ℕ) × (xs ≡ ys ++ more)
    × IsFront more zs)
front_split xs [] zs f = inr (xs, refl, f)
front_split [] (y ∷ ys) zs f = inl (y ∷ ys, refl)
front_split (x ∷ xs) (y ∷ ys) zs f =
    let same : x ≡ y = let e = f.1 in cc in
    let rest : ys ++ zs ≡ xs ++ f.0 = let e = f.1 in cc in
    elim (front_split xs ys zs (f.0, rest)) as (λ _. IsFront (x ∷ xs) (y ∷ ys)
    ⊎ ((more : List ℕ) × (x ∷ xs ≡ (y ∷ ys) ++ more) × IsFront more zs)) [
      | inl g ↦ inl (g.0, ap (λ (t : List ℕ). y ∷ t) g.1 ∙ ap (λ (k : ℕ). k ∷ (xs ++ g.0)) (sym same))
      | inr g ↦ inr (g.0, ap (λ (t : List ℕ). x ∷ t) g.1 ∙ ap (λ (k : ℕ). k ∷ (ys ++ g.0)) same, g.2)
    ]

pub passed_none : (a : Option (List Moment)) → Passed a a []
passed_none None = tt
passed_none (Some xs) = sym (append-nil xs)

pub passed_on : (a b c : Option (List Moment)) (x y : List Moment) → Passed a b x → Passed b c y → Passed a c (x ++ y)
passed_on None None None x y p q = tt
passed_on None None (Some zs) x y p q = absurd q
passed_on None (Some ys) c x y p q = absurd p
passed_on (Some xs) None None x y p q = tt
passed_on (Some xs) None (Some zs) x y p q = absurd q
passed_on (Some xs) (Some ys) None x y p q = tt
passed_on (Some xs) (Some ys) (Some zs) x y p q = q ∙ ap (λ (t : List Moment). t ++ y) p ∙ append_assoc xs x y
