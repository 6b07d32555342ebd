-- What a HAVE tells whole.
use Rattle.std.proofs.Common.{inl, inr, ◌≡◌, ◌≤◌, ◌<◌, ℕ, zero, suc, List, [], ◌∷◌, Bool, true, false, cond, length}
use Rattle.std.proofs.Common.{take}
use Rattle.std.proofs.Common.{get_or, eqb, arith, refl, ap}
use Rattle.std.proofs.lemmas.Bool.{eqb-true}
use Rattle.std.specs.Prelude.{◌==◌, not, nat_lt}
use Rattle.std.specs.List.Sorted.{IsStrictlySortedBy}
use Rattle.std.specs.declared.cmp.Ordering.TheVariants.{Less}
use Rattle.octets.specs.Members.{Has}
use Rattle.archive_model.proofs.MemberLaws.{has_filter}
use Rattle.site_state.specs.Site.{digest_cmp}
use Rattle.exchange.specs.Held.{place_of}
use Rattle.exchange.specs.Parts.{fitting, place_behind, whole_places, IsWhole}
use Rattle.exchange.proofs.Places.{first_le}
use Rattle.exchange.proofs.Said.{of_all}

-- those of a place before that of a digest stand before it
taken_has : (n : ℕ) (ds : List (List ℕ)) (d : List ℕ) → IsStrictlySortedBy digest_cmp ds → Has ds d
    → place_of d < place_of (get_or ds n []) → Has (take n ds) d
unfolding IsStrictlySortedBy
taken_has n [] d sorted h before = absurd h
taken_has zero (x ∷ ds) d sorted (inl e) before = absurd (omega (arith, before, ap place_of e))
taken_has zero (x ∷ ds) d sorted (inr h) before =
    absurd (omega (arith, before, first_le x d (of_all (λ y. digest_cmp x y ≡ Less) ds sorted.0 d h)))
taken_has (suc n) (x ∷ ds) d sorted (inl e) before = inl e
taken_has (suc n) (x ∷ ds) d sorted (inr h) before = inr (taken_has n ds d sorted.1 h before)

has_none : (ds : List (List ℕ)) (d : List ℕ) → eqb (length ds) 0 ≡ true → Has ds d → ⊥
has_none [] d e h = h
has_none (x ∷ ds) d e h = omega (arith, eqb-true (length (x ∷ ds)) 0 e)

other_place : (a b : ℕ) → a < b → not (eqb a b) ≡ true
other_place a b lt = grind arith

is_more : (a b : ℕ) → nat_lt a b ≡ true → b ≤ a → ⊥
is_more a b e le = grind arith

-- The digests of a place that is told whole are told.
pub fitting_has : (most : ℕ) (digests : List (List ℕ)) (d : List ℕ) → IsStrictlySortedBy digest_cmp digests
    → Has digests d → IsWhole most digests (place_of d) → Has (fitting most digests) d
unfolding fitting
fitting_has most digests d sorted h whole = by (nat_lt most (length digests)) refl whole
  where
    inner : (b : Bool) → (length (whole_places most digests) == 0) ≡ b → Has (whole_places most digests) d
        → Has (cond b (take most digests) (whole_places most digests)) d
    inner true e there = absurd (has_none (whole_places most digests) d e there)
    inner false e there = there

    by : (a : Bool) → nat_lt most (length digests) ≡ a → IsWhole most digests (place_of d)
        → Has (cond a (cond (length (whole_places most digests) == 0) (take most digests) (whole_places most digests))
        digests) d
    by false e w = h
    by true e (inl few) = absurd (is_more most (length digests) e few)
    by true e (inr before) = inner (length (whole_places most digests) == 0) refl
        (has_filter (λ x. not (place_of x == place_behind most digests)) (take most digests) d
        (taken_has most digests d sorted h before) (other_place (place_of d) (place_behind most digests) before))
