-- What lies under the marked UIDs among some operations are the contents of these UIDs.
use Rattle.std.proofs.Common.{◌≡◌, ℕ, suc, Bool, true, false, cond, not, List, [], ◌∷◌, ◌++◌, map, length}
use Rattle.std.proofs.Common.{arith, Some, None, refl, sym, ap, inl, inr, ◌∙◌}
use Rattle.std.specs.Prelude.{◌==◌}
use Rattle.std.specs.List.{filter, filter_map, cons_option}
use Rattle.std.proofs.lemmas.Bool.{eqb-true, false≢true}
use Rattle.octets.specs.Members.{Has}
use Rattle.octets.proofs.TextLemmas.{tied_texts}
use Rattle.operation.specs.declared.op.Op.{Op}
use Rattle.operation.specs.declared.op.Op.TheVariants.{Content as a_content, Correction as a_correction}
use Rattle.archive_model.specs.Contents.{contents_of, is_of_instance}
use Rattle.archive_model.proofs.ModelLaws.{same_itself}
use Rattle.site_tables.specs.declared.conflicts.Flagged.{Flagged}
use Rattle.site_tables.specs.Conflicts.{with_pick, conflicts_in, conflicts_among, instance_pair}
use Rattle.site_tables.specs.Under.{is_at, held_under, has_under, own_pair}

pub among_are : (ops : List Op) (uid : List ℕ) (some : List Op)
    → conflicts_among ops uid some ≡ map (with_pick ops) (contents_of uid some)
among_are ops uid [] = refl
among_are ops uid (a_correction k ∷ some) = among_are ops uid some
among_are ops uid (a_content c ∷ some) = by (is_of_instance uid c) (among_are ops uid some)
  where
    by : (b : Bool) → conflicts_among ops uid some ≡ map (with_pick ops) (contents_of uid some)
        → cond b (with_pick ops c ∷ []) [] ++ conflicts_among ops uid some
        ≡ map (with_pick ops) (cond b (c ∷ contents_of uid some) (contents_of uid some))
    by true rest = ap (λ rs. with_pick ops c ∷ rs) rest
    by false rest = rest

-- what lies under a marked UID among some operations are those of all of them
pub under_are : (ops : List Op) (uid : List ℕ) (marks : List (List ℕ × List ℕ)) → has_under uid marks ≡ true
    → (some : List Op)
    → conflicts_among ops uid (held_under uid (filter_map (instance_pair marks) some)) ≡ conflicts_among ops uid some
under_are ops uid marks marked [] = refl
under_are ops uid marks marked (a_correction k ∷ some) = under_are ops uid marks marked some
under_are ops uid marks marked (a_content c ∷ some) =
    by (has_under c.instance marks) refl (under_are ops uid marks marked some)
  where
    kept : List (List ℕ × Op)
    kept = filter_map (instance_pair marks) some

    fore : List (List ℕ × Op)
    fore = filter (is_at uid) kept

    other : is_of_instance uid c ≡ false
        → conflicts_among ops uid (map (λ p. p.1) fore) ≡ conflicts_among ops uid some
        → conflicts_among ops uid (map (λ p. p.1) fore) ≡ conflicts_among ops uid (a_content c ∷ some)
    other e rest =
        rest ∙ sym (ap (λ (b : Bool). cond b (with_pick ops c ∷ []) [] ++ conflicts_among ops uid some) e)

    own : (b : Bool) → is_of_instance uid c ≡ b
        → conflicts_among ops uid (map (λ p. p.1) fore) ≡ conflicts_among ops uid some
        → conflicts_among ops uid (map (λ p. p.1) (cond b ((c.instance, a_content c) ∷ fore) fore))
        ≡ conflicts_among ops uid (a_content c ∷ some)
    own true e rest = ap (λ (rs : List Flagged). conflicts_in ops uid (a_content c) ++ rs) rest
    own false e rest = other e rest

    apart : (b : Bool) → is_of_instance uid c ≡ b → has_under c.instance marks ≡ false
        → conflicts_among ops uid (map (λ p. p.1) fore) ≡ conflicts_among ops uid some
        → conflicts_among ops uid (map (λ p. p.1) fore) ≡ conflicts_among ops uid (a_content c ∷ some)
    apart true e none rest =
        absurd (false≢true (sym none ∙ ap (λ (u : List ℕ). has_under u marks) (tied_texts c.instance uid e) ∙ marked))
    apart false e none rest = other e rest

    by : (b : Bool) → has_under c.instance marks ≡ b
        → conflicts_among ops uid (map (λ p. p.1) fore) ≡ conflicts_among ops uid some
        → conflicts_among ops uid
        (map (λ p. p.1) (filter (is_at uid) (cons_option (cond b (Some (c.instance, a_content c)) None) kept)))
        ≡ conflicts_among ops uid (a_content c ∷ some)
    by true e rest = own (is_of_instance uid c) refl rest
    by false e rest = apart (is_of_instance uid c) refl e rest

not_none : (n : ℕ) → not (suc n == 0) ≡ true
not_none n = ap not (by (suc n == 0) refl)
  where
    by : (b : Bool) → (suc n == 0) ≡ b → (suc n == 0) ≡ false
    by true e = let zero_is : suc n ≡ 0 = eqb-true (suc n) 0 e in absurd (omega (arith, zero_is))
    by false e = e

-- each of some UIDs is marked, where each lies under itself
pub marked_of : (uids : List (List ℕ)) (uid : List ℕ) → Has uids uid → has_under uid (map own_pair uids) ≡ true
marked_of [] uid has = absurd has
marked_of (u ∷ us) uid (inl is) =
    ap (λ (b : Bool). not (length (map (λ p. p.1) (cond b (own_pair u ∷ filter (is_at uid) (map own_pair us))
    (filter (is_at uid) (map own_pair us)))) == 0)) (same_itself u uid (sym is))
    ∙ not_none (length (map (λ p. p.1) (filter (is_at uid) (map own_pair us))))
marked_of (u ∷ us) uid (inr has) = by (is_at uid (own_pair u)) (marked_of us uid has)
  where
    behind : List (List ℕ × List ℕ)
    behind = filter (is_at uid) (map own_pair us)

    by : (b : Bool) → not (length (map (λ p. p.1) behind) == 0) ≡ true
        → not (length (map (λ p. p.1) (cond b (own_pair u ∷ behind) behind)) == 0) ≡ true
    by true rest = not_none (length (map (λ p. p.1) behind))
    by false rest = rest
