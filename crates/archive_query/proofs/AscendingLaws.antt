-- Texts that ascend, each once: whatever order they came in, they are the same.
use Rattle.std.proofs.Common.{inl, inr, ◌≡◌, ℕ, true, List, [], ◌∷◌, refl, sym, ap, subst, ◌∙◌}
use Rattle.std.proofs.Common.{Less, Equal, Greater}
use Rattle.std.specs.Prelude.{◌⊎◌}
use Rattle.std.specs.Ordering.{match_ordering, ordering_reverse, is_eq}
use Rattle.std.specs.declared.cmp.Ordering.{Ordering}
use Rattle.std.specs.Cmp.Lexicographic.{nat_list_cmp_total, texts_ties, same_text}
use Rattle.std.proofs.lemmas.Cmp.{tied_itself}
use Rattle.archive_model.specs.Texts.{same, text_cmp, put, ascending}

abbrev pub Text : Type 0
Text = List ℕ

-- a text is one of these
abbrev pub Has : List Text → Text → Type 0
Has [] t = ⊥
Has (u ∷ us) t = (t ≡ u) ⊎ Has us t

-- a text is below each of these
abbrev pub Below : Text → List Text → Type 0
Below t [] = Unit {0}
Below t (u ∷ us) = (text_cmp t u ≡ Less) × Below t us

-- they ascend, each once
abbrev pub Rises : List Text → Type 0
Rises [] = Unit {0}
Rises (u ∷ us) = Below u us × Rises us

pub equal_is : (t u : Text) → text_cmp t u ≡ Equal → t ≡ u
equal_is t u e = same_text t u (sym (texts_ties t u ∙ ap is_eq e))

pub itself : (t : Text) → text_cmp t t ≡ Equal
itself t = tied_itself nat_list_cmp_total t

pub same_itself : (t : Text) → same t t ≡ true
same_itself t = texts_ties t t ∙ ap is_eq (itself t)

pub less_after : (t u v : Text) → text_cmp t u ≡ Less → text_cmp u v ≡ Less → text_cmp t v ≡ Less
less_after = nat_list_cmp_total.trans

less_or_equal : (t : Text) → text_cmp t t ≡ Less → ⊥
less_or_equal t e = let f = itself t in cc

pub turned : (t u : Text) → text_cmp t u ≡ Greater → text_cmp u t ≡ Less
turned t u e = nat_list_cmp_total.antisymm u t ∙ ap ordering_reverse e

below_less : (t u : Text) (us : List Text) → text_cmp t u ≡ Less → Below u us → Below t us
below_less t u [] less below = tt
below_less t u (v ∷ us) less below = (less_after t u v less below.0, below_less t u us less below.1)

pub below_has : (t u : Text) (us : List Text) → Below t us → Has us u → text_cmp t u ≡ Less
below_has t u [] below has = absurd has
below_has t u (v ∷ us) below (inl e) = rw e below.0
below_has t u (v ∷ us) below (inr has) = below_has t u us below.1 has

-- ---- put

abbrev Put : Ordering → Text → Text → List Text → List Text
Put o t u us = match_ordering o (t ∷ u ∷ us) (u ∷ us) (u ∷ put t us)

put_has_by : (o : Ordering) (t u : Text) (us : List Text) (x : Text) → text_cmp t u ≡ o
    → (Has (put t us) x → (x ≡ t) ⊎ Has us x) → Has (Put o t u us) x → (x ≡ t) ⊎ Has (u ∷ us) x
put_has_by Less t u us x e more has = has
put_has_by Equal t u us x e more has = inr has
put_has_by Greater t u us x e more (inl is) = inr (inl is)
put_has_by Greater t u us x e more (inr has) = elim (more has) [ inl is ↦ inl is | inr there ↦ inr (inr there) ]

pub put_has : (t : Text) (us : List Text) (x : Text) → Has (put t us) x → (x ≡ t) ⊎ Has us x
put_has t [] x has = has
put_has t (u ∷ us) x has = put_has_by (text_cmp t u) t u us x refl (put_has t us x) has

has_put_by : (o : Ordering) (t u : Text) (us : List Text) (x : Text) → text_cmp t u ≡ o
    → ((x ≡ t) ⊎ Has us x → Has (put t us) x) → (x ≡ t) ⊎ Has (u ∷ us) x → Has (Put o t u us) x
has_put_by Less t u us x e more has = has
has_put_by Equal t u us x e more (inl is) = inl (is ∙ equal_is t u e)
has_put_by Equal t u us x e more (inr has) = has
has_put_by Greater t u us x e more (inl is) = inr (more (inl is))
has_put_by Greater t u us x e more (inr (inl is)) = inl is
has_put_by Greater t u us x e more (inr (inr has)) = inr (more (inr has))

pub has_put : (t : Text) (us : List Text) (x : Text) → (x ≡ t) ⊎ Has us x → Has (put t us) x
has_put t [] x has = has
has_put t (u ∷ us) x has = has_put_by (text_cmp t u) t u us x refl (has_put t us x) has

below_put_by : (o : Ordering) (s t u : Text) (us : List Text) → text_cmp s t ≡ Less → Below s (u ∷ us)
    → Below s (put t us) → Below s (Put o t u us)
below_put_by Less s t u us less below more = (less, below)
below_put_by Equal s t u us less below more = below
below_put_by Greater s t u us less below more = (below.0, more)

below_put : (s t : Text) (us : List Text) → text_cmp s t ≡ Less → Below s us → Below s (put t us)
below_put s t [] less below = (less, tt)
below_put s t (u ∷ us) less below = below_put_by (text_cmp t u) s t u us less below (below_put s t us less below.1)

put_rises_by : (o : Ordering) (t u : Text) (us : List Text) → text_cmp t u ≡ o → Rises (u ∷ us) → Rises (put t us)
    → Rises (Put o t u us)
put_rises_by Less t u us e rises more = ((e, below_less t u us e rises.0), rises)
put_rises_by Equal t u us e rises more = rises
put_rises_by Greater t u us e rises more = (below_put u t us (turned t u e) rises.0, more)

pub put_rises : (t : Text) (us : List Text) → Rises us → Rises (put t us)
put_rises t [] rises = (tt, tt)
put_rises t (u ∷ us) rises = put_rises_by (text_cmp t u) t u us refl rises (put_rises t us rises.1)

-- ---- ascending

pub ascending_rises : (ts : List Text) → Rises (ascending ts)
ascending_rises [] = tt
ascending_rises (t ∷ ts) = put_rises t (ascending ts) (ascending_rises ts)

pub ascending_has : (ts : List Text) (x : Text) → Has (ascending ts) x → Has ts x
ascending_has [] x has = has
ascending_has (t ∷ ts) x has = elim (put_has t (ascending ts) x has)
    [ inl is ↦ inl is | inr there ↦ inr (ascending_has ts x there) ]

pub has_ascending : (ts : List Text) (x : Text) → Has ts x → Has (ascending ts) x
has_ascending [] x has = has
has_ascending (t ∷ ts) x (inl is) = has_put t (ascending ts) x (inl is)
has_ascending (t ∷ ts) x (inr has) = has_put t (ascending ts) x (inr (has_ascending ts x has))

-- lists that ascend and have the same members are one

abbrev pub Within : List Text → List Text → Type 0
Within us vs = (x : Text) → Has us x → Has vs x

first_by : (u v : Text) (us vs : List Text) → Rises (u ∷ us) → Rises (v ∷ vs) → Has (v ∷ vs) u → Has (u ∷ us) v → u ≡ v
first_by u v us vs a b (inl e) q = e
first_by u v us vs a b (inr p) (inl e) = sym e
first_by u v us vs a b (inr p) (inr q) =
    absurd (less_or_equal u (less_after u v u (below_has u v us a.0 q) (below_has v u vs b.0 p)))

rest_within : (u : Text) (us vs : List Text) → Below u us → Within (u ∷ us) (u ∷ vs) → Within us vs
rest_within u us vs below within x has =
    elim (within x (inr has)) [
      | inl is ↦ absurd (less_or_equal u (subst (λ (y : Text). text_cmp u y ≡ Less) is (below_has u x us below has)))
      | inr there ↦ there
    ]

pub one_rising : (us vs : List Text) → Rises us → Rises vs → Within us vs → Within vs us → us ≡ vs
one_rising [] [] a b p q = refl
one_rising [] (v ∷ vs) a b p q = absurd (q v (inl refl))
one_rising (u ∷ us) [] a b p q = absurd (p u (inl refl))
one_rising (u ∷ us) (v ∷ vs) a b p q =
    let e : u ≡ v = first_by u v us vs a b (p u (inl refl)) (q v (inl refl)) in
    let p' : Within (u ∷ us) (u ∷ vs) = subst (λ (w : Text). Within (u ∷ us) (w ∷ vs)) (sym e) p in
    let q' : Within (u ∷ vs) (u ∷ us) = subst (λ (w : Text). Within (w ∷ vs) (u ∷ us)) (sym e) q in
    let b' : Rises (u ∷ vs) = subst (λ (w : Text). Rises (w ∷ vs)) (sym e) b in
    let rest : us ≡ vs = one_rising us vs a.1 b.1 (rest_within u us vs a.0 p') (rest_within u vs us b'.0 q') in
    ap (λ (ws : List Text). u ∷ ws) rest ∙ ap (λ (w : Text). w ∷ vs) e

-- texts with the same members ascend alike
pub ascending_same : (ss ts : List Text) → Within ss ts → Within ts ss → ascending ss ≡ ascending ts
ascending_same ss ts p q =
    one_rising (ascending ss) (ascending ts) (ascending_rises ss) (ascending_rises ts)
    (λ x has. has_ascending ts x (p x (ascending_has ss x has)))
    (λ x has. has_ascending ss x (q x (ascending_has ts x has)))
