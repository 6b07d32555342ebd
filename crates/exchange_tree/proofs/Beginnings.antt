-- What lies beneath nodes and their children.
use Rattle.std.proofs.Common.{◌≡◌, ℕ, zero, suc, ◌*◌, ◌<◌, List, [], ◌∷◌, ◌++◌, Bool, true, false, eqb, length}
use Rattle.std.proofs.Common.{get_or, refl, sym, ◌∙◌, arith}
use Rattle.std.proofs.lemmas.Bool.{false≢true, eqb-true}
use Rattle.std.specs.Prelude.{◌&&◌}
use Rattle.octets.specs.Bytes.{IsBytes}
use Rattle.exchange_tree.specs.Nodes.{digits_of, begins, child, ChildrenHaveAll}

-- ---- digits

pub digits_long : (bytes : List ℕ) → length (digits_of bytes) ≡ 2 * length bytes
digits_long [] = refl
digits_long (b ∷ bs) = let rest = digits_long bs in omega (arith, rest)

-- each digit of bytes is below 16
pub digits_small : (bytes : List ℕ) → IsBytes bytes → (i : ℕ) → get_or (digits_of bytes) i 0 < 16
digits_small [] are i = omega arith
digits_small (b ∷ bs) are zero = let small : b < 256 = are 0 in omega (arith, small)
digits_small (b ∷ bs) are (suc zero) = omega arith
digits_small (b ∷ bs) are (suc (suc i)) = digits_small bs (λ k. are (suc k)) i

-- ---- beginnings

pub both_true : (a b : Bool) → (a && b) ≡ true → (a ≡ true) × (b ≡ true)
both_true true b e = (refl, e)
both_true false b e = absurd (false≢true e)

pub and_true : (a b : Bool) → a ≡ true → b ≡ true → (a && b) ≡ true
and_true true b e f = f
and_true false b e f = e

eqb_itself : (n : ℕ) → eqb n n ≡ true
eqb_itself n = grind arith

-- digits that begin with a node begin with a child of it, that of the digit behind
begins_more : (node digits : List ℕ) → length node < length digits → begins node digits ≡ true
    → begins (child node (get_or digits (length node) 0)) digits ≡ true
begins_more [] [] lt e = absurd (omega (arith, lt))
begins_more [] (d ∷ ds) lt e = and_true (eqb d d) true (eqb_itself d) refl
begins_more (n ∷ ns) [] lt e = absurd (false≢true e)
begins_more (n ∷ ns) (d ∷ ds) lt e =
    let both = both_true (eqb d n) (begins ns ds) e in
    and_true (eqb d n) _ both.0 (begins_more ns ds (omega (arith, lt)) both.1)

-- two children of a node with which the same digits begin are one
begins_one : (node digits : List ℕ) (a b : ℕ) → begins (child node a) digits ≡ true
    → begins (child node b) digits ≡ true → a ≡ b
begins_one [] [] a b e f = absurd (false≢true e)
begins_one [] (d ∷ ds) a b e f =
    sym (eqb-true d a (both_true (eqb d a) true e).0) ∙ eqb-true d b (both_true (eqb d b) true f).0
begins_one (n ∷ ns) [] a b e f = absurd (false≢true e)
begins_one (n ∷ ns) (d ∷ ds) a b e f =
    begins_one ns ds a b (both_true (eqb d n) (begins (child ns a) ds) e).1
    (both_true (eqb d n) (begins (child ns b) ds) f).1

-- what begins with more begins with less
pub begins_less : (node more digits : List ℕ) → begins (node ++ more) digits ≡ true → begins node digits ≡ true
begins_less [] more digits e = refl
begins_less (n ∷ ns) more [] e = e
begins_less (n ∷ ns) more (d ∷ ds) e =
    let both = both_true (eqb d n) (begins (ns ++ more) ds) e in
    and_true (eqb d n) (begins ns ds) both.0 (begins_less ns more ds both.1)

pub children_have_all : ChildrenHaveAll
children_have_all = record {
  some = λ node digest is lt e.
      let long : length node < length (digits_of digest) = omega (arith, lt, digits_long digest, is.long) in (
        get_or (digits_of digest) (length node) 0,
        digits_small digest is.bytes (length node),
        begins_more node (digits_of digest) long e,
      );
  one = λ node digest a b e f. begins_one node (digits_of digest) a b e f;
  only = λ node digest digit e. begins_less node (digit ∷ []) (digits_of digest) e;
}
