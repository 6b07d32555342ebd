-- A code tells its values apart.
use Rattle.std.proofs.Common.{◌≡◌, ◌≢◌, ℕ, Bool, true, false, ◌==◌, refl, sym, ap, subst, ◌∙◌}
use Rattle.std.specs.Prelude.{IsTrue}
use Rattle.std.proofs.lemmas.Bool.{eqb-true, eq-eqb, and_parts as both}
use base.Stored.{Gv, gnil, gnum, gcons}
use Rattle.operation.specs.declared.op.Op.{Op}
use Rattle.operation.specs.OpCode.{op_code}
use Rattle.site_state.specs.Site.{Map}
use Rattle.site_world.specs.Laws.{SameOpIsEquality, SameSiteIsEquality}
use Rattle.site_world.specs.Same.{same_code, same_op, same_site, map_code}

one_number : (n : ℕ) → (n == n) ≡ true
one_number n = eq-eqb n n refl

pub one_code : (x : Gv) → same_code x x ≡ true
one_code gnil = refl
one_code (gnum n) = one_number n
one_code (gcons a b) = rw (one_code a) (one_code b)

pub code_is : (x y : Gv) → same_code x y ≡ true → x ≡ y
code_is gnil gnil e = refl
code_is gnil (gnum n) e = absurd cc
code_is gnil (gcons c d) e = absurd cc
code_is (gnum m) gnil e = absurd cc
code_is (gnum m) (gnum n) e = ap gnum (eqb-true m n e)
code_is (gnum m) (gcons c d) e = absurd cc
code_is (gcons a b) gnil e = absurd cc
code_is (gcons a b) (gnum n) e = absurd cc
code_is (gcons a b) (gcons c d) e =
    let parts = both (same_code a c) (same_code b d) e in
    ap (λ x. gcons x b) (code_is a c parts.0) ∙ ap (λ y. gcons c y) (code_is b d parts.1)

pub same_op-itself : (o : Op) → same_op o o ≡ true
unfolding same_op
same_op-itself o = one_code (op_code.code o)

pub same_op-is : (o p : Op) → same_op o p ≡ true → o ≡ p
unfolding same_op
same_op-is o p e = op_code.inj o p (code_is (op_code.code o) (op_code.code p) e)

by_same : (o p : Op) (b : Bool) → same_op o p ≡ b → o ≢ p → b ≡ false
by_same o p true e other = absurd (other (same_op-is o p e))
by_same o p false e other = refl

pub same_op-other : (o p : Op) → o ≢ p → same_op o p ≡ false
same_op-other o p other = by_same o p (same_op o p) refl other

-- a test that decides whether two sites are one is this one
pub same_site-is : (m n : Map) (b : Bool) → (IsTrue b → m ≡ n) × (m ≡ n → IsTrue b) → b ≡ same_site m n
unfolding same_site
same_site-is m n true test = sym (subst (λ (k : Map). same_code (map_code.code m) (map_code.code k)
    ≡ true) (test.0 refl) (one_code (map_code.code m)))
same_site-is m n false test = sym (other (same_code (map_code.code m) (map_code.code n)) refl)
  where
    other : (c : Bool) → same_code (map_code.code m) (map_code.code n) ≡ c →
        same_code (map_code.code m) (map_code.code n) ≡ false
    other true e = absurd cc (test.1 (map_code.inj m n (code_is (map_code.code m) (map_code.code n) e)))
    other false e = e

pub same_op-equal : SameOpIsEquality
same_op-equal o p = (λ e. same_op-is o p e, λ e. subst (λ x. same_op o x ≡ true) e (same_op-itself o))

pub same_site-equal : SameSiteIsEquality
unfolding same_site
same_site-equal m n = (
  λ e. map_code.inj m n (code_is (map_code.code m) (map_code.code n) e),
  λ e. subst (λ (k : Map). same_code (map_code.code m) (map_code.code k) ≡ true) e (one_code (map_code.code m)),
)
