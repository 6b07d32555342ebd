-- Operations that were read, and not hashed yet.
use Rattle.std.proofs.Common.{◌≡◌, ◌+◌, ◌<◌, ℕ, zero, suc, List, [], ◌∷◌, ◌++◌, length, drop, slice_get, slice_index_or, Some, refl, sym, ◌∙◌, ap, subst, arith}
use Rattle.std.proofs.lemmas.List.{ext_get_or}
use Rattle.operation.specs.declared.op.Op.{Op}
use Rattle.operation.specs.Reading.{IsOp}
use Rattle.operation.specs.Spelling.{hash_of}
use Rattle.op_log.specs.declared.place.Place.{Place}
use Rattle.op_log.specs.Fetched.{AreRead, IsReadAt}
use Rattle.op_log.specs.Heads.{Head, head_of}
use Rattle.op_log.specs.Kept.{HasBody}
use Rattle.op_log.specs.Loaded.{IsOf}
use Rattle.op_log.specs.Places.{head_by}

-- what lies at a place, under its own digest, was read where the head of the place says
pub is_read : (file : List ℕ) (place : Place) (digest : List ℕ) (op : Op) → IsOf file (head_by (hash_of op) place) op
    → ((other : Op) → IsOp other → head_by (hash_of other) place ≡ head_of (other, place.at) → HasBody file (other, place.at) → op ≡ other)
    → IsReadAt file (head_by digest place) op
is_read file place digest op own exact = record {
  own = own;
  only = λ other it.
      exact other it.lawful (ap (λ (d : List ℕ). head_by d place) (sym (ap (λ (h : Head). h.digest) it.head)) ∙ it.head) it.held;
}

-- what stands behind the first ones
pub drop_get : {X : Type 0} (xs : List X) (n i : ℕ) → slice_get (drop n xs) i ≡ slice_get xs (n + i)
drop_get xs zero i = let same : i ≡ 0 + i = omega arith in ap (slice_get xs) same
drop_get [] (suc n) i = refl
drop_get (x ∷ xs) (suc n) i = let next : suc (n + i) ≡ suc n + i = omega arith in drop_get xs n i ∙ ap (slice_get (x ∷ xs)) next

-- one thing stands at an index
pub same_at : {X : Type 0} (xs : List X) (i : ℕ) (x y : X) → slice_get xs i ≡ Some x → slice_get xs i ≡ Some y → x ≡ y
same_at xs i x y one other = let both : Some x ≡ Some y = sym one ∙ other in cc

-- lists of one length that have the same everywhere are one
pub same_each : {X : Type 0} (xs ys : List X) → length ys ≡ length xs
    → ((i : ℕ) (d : X) → i < length xs → slice_index_or ys i d ≡ slice_index_or xs i d) → ys ≡ xs
same_each [] [] long each = refl
same_each [] (y ∷ ys) long each = absurd (omega (arith, long))
same_each (x ∷ xs) ys long each = ext_get_or x ys (x ∷ xs) long (λ i low. each i x (omega (arith, low, long)))

-- one more was read
pub read_more : (file : List ℕ) (ops : List Op) (heads : List Head) (h : Head) (op : Op) → AreRead file ops heads
    → slice_get heads (length ops) ≡ Some h → IsReadAt file h op → AreRead file (ops ++ op ∷ []) heads
read_more file [] [] h op are at it = absurd cc
read_more file [] (k ∷ heads) h op are at it =
    let same : k ≡ h = cc in
    (subst (λ (y : Head). IsReadAt file y op) (sym same) it, tt)
read_more file (x ∷ ops) [] h op are at it = absurd are
read_more file (x ∷ ops) (k ∷ heads) h op (first, rest) at it = (first, read_more file ops heads h op rest at it)

-- the first of those that were read, and the others
pub record First (file : List ℕ) (heads : List Head) (n : ℕ) (op : Op) (rest : List Op) : Type 0 where
  pub head : Head
  pub at : slice_get heads n ≡ Some head
  pub it : IsReadAt file head op
  pub others : AreRead file rest (drop (n + 1) heads)

pub first_read : (file : List ℕ) (heads : List Head) (n : ℕ) (op : Op) (rest : List Op) → AreRead file (op ∷ rest) (drop n heads)
    → First file heads n op rest
first_read file [] zero op rest are = absurd are
first_read file [] (suc n) op rest are = absurd are
first_read file (h ∷ heads) zero op rest (it, more) = record { head = h; at = refl; it = it; others = more }
first_read file (h ∷ heads) (suc n) op rest are =
    let later = first_read file heads n op rest are in
    let next : suc (n + 1) ≡ suc n + 1 = omega arith in
    record {
      head = later.head;
      at = later.at;
      it = later.it;
      others = subst (λ (k : ℕ). AreRead file rest (drop k (h ∷ heads))) next later.others;
    }
