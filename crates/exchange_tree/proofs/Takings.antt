-- In which place a digest is taken.
use Rattle.std.proofs.Common.{◌≡◌, ℕ, ◌+◌, ◌*◌, ◌<◌, List, [], ◌∷◌, Bool, true, false, cond, eqb, refl, sym, ap}
use Rattle.std.proofs.Common.{arith}
use Rattle.std.proofs.lemmas.Bool.{eqb-true}
use Rattle.std.specs.Prelude.{◌&&◌, ◌/◌, ◌%◌, filter}
use Rattle.std.specs.Ordering.{match_ordering}
use Rattle.std.specs.declared.cmp.Ordering.{Ordering}
use Rattle.std.specs.declared.cmp.Ordering.TheVariants.{Less, Equal, Greater}
use Rattle.octets.specs.Texts.{text_cmp, put}
use Rattle.exchange_tree.specs.declared.nodes.TheConstants.{PLACE_COUNT}
use Rattle.exchange_tree.specs.Nodes.{is_beneath, IsDigest}
use Rattle.exchange_tree.specs.Sums.{node_of}
use Rattle.exchange_tree.specs.Taking.{place_of, TakenInPlace}
use Rattle.exchange_tree.proofs.Beginnings.{both_true, and_true}
use Rattle.exchange_tree.proofs.Places.{eqb_from, not_so}

bound_is : (digest : List ℕ) → IsDigest digest → place_of digest < PLACE_COUNT
bound_is [] is = absurd (let long = is.long in omega (arith, long))
bound_is (a ∷ []) is = absurd (let long = is.long in omega (arith, long))
bound_is (a ∷ b ∷ ds) is = let high : a < 256 = is.bytes 0 in let low : b < 256 = is.bytes 1 in omega (arith, high, low)

own_is : (digest : List ℕ) → IsDigest digest → is_beneath (node_of (place_of digest)) digest ≡ true
own_is [] is = absurd (let long = is.long in omega (arith, long))
own_is (a ∷ []) is = absurd (let long = is.long in omega (arith, long))
own_is (a ∷ b ∷ ds) is =
    let low : b < 256 = is.bytes 1 in
    let p = a * 256 + b in
    and_true (eqb (a / 16) (p / 256 / 16)) _ (eqb_from _ _ (omega (arith, low)))
    (and_true (eqb (a % 16) (p / 256 % 16)) _ (eqb_from _ _ (omega (arith, low)))
    (and_true (eqb (b / 16) (p % 256 / 16)) _ (eqb_from _ _ (omega (arith, low)))
    (and_true (eqb (b % 16) (p % 256 % 16)) true (eqb_from _ _ (omega (arith, low))) refl)))

-- what is beneath the node of a place has this place
pub place_is_one : (digest : List ℕ) (p : ℕ) → IsDigest digest → p < 65536 → is_beneath (node_of p) digest ≡ true
    → p ≡ place_of digest
place_is_one [] p is lt e = absurd (let long = is.long in omega (arith, long))
place_is_one (a ∷ []) p is lt e = absurd (let long = is.long in omega (arith, long))
place_is_one (a ∷ b ∷ ds) p is lt e =
    let low : b < 256 = is.bytes 1 in
    let tail_c = eqb (b % 16) (p % 256 % 16) && true in
    let tail_b = eqb (b / 16) (p % 256 / 16) && tail_c in
    let first = both_true (eqb (a / 16) (p / 256 / 16)) (eqb (a % 16) (p / 256 % 16) && tail_b) e in
    let second = both_true (eqb (a % 16) (p / 256 % 16)) tail_b first.1 in
    let third = both_true (eqb (b / 16) (p % 256 / 16)) tail_c second.1 in
    let at_a = eqb-true _ _ first.0 in
    let at_b = eqb-true _ _ second.0 in
    let at_c = eqb-true _ _ third.0 in
    let at_d = eqb-true _ _ (both_true (eqb (b % 16) (p % 256 % 16)) true third.1).0 in
    omega (arith, at_a, at_b, at_c, at_d)

-- what does not pass changes nothing that is kept
not_kept : (p : List ℕ → Bool) (d : List ℕ) (ds : List (List ℕ)) → p d ≡ false → filter p ds ≡ filter p (put d ds)
not_kept p d [] fails = sym (ap (λ b. cond b (d ∷ []) []) fails)
not_kept p d (t ∷ ts) fails = by (text_cmp d t) (not_kept p d ts fails)
  where
    by : (o : Ordering) → filter p ts ≡ filter p (put d ts)
        → filter p (t ∷ ts) ≡ filter p (match_ordering o (d ∷ t ∷ ts) (t ∷ ts) (t ∷ put d ts))
    by Less rest = sym (ap (λ b. cond b (d ∷ filter p (t ∷ ts)) (filter p (t ∷ ts))) fails)
    by Equal rest = refl
    by Greater rest = ap (λ ks. cond (p t) (t ∷ ks) ks) rest

pub taken_in_place : TakenInPlace
taken_in_place = record {
  bound = bound_is;
  own = own_is;
  others = λ digest digests is other lt apart. not_kept (is_beneath (node_of other)) digest digests
      (not_so (is_beneath (node_of other) digest) (λ e. apart (place_is_one digest other is lt e)));
}
