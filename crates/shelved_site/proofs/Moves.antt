-- What groups of puts come to.
use Rattle.std.proofs.Common.{◌≡◌, ◌⊎◌, ◌↔◌, ◌+◌, ◌≤◌, inl, inr, ◌<◌, ℕ, zero, suc, take, slice_index_or, List, []}
use Rattle.std.proofs.Common.{◌∷◌, ◌++◌, length, refl, sym, ap, ◌∙◌, arith}
use Rattle.operation.specs.declared.op.Op.{Op}
use Rattle.operation.specs.Spelling.{spelling}
use Rattle.op_shelf.specs.declared.kept.Kept.{Kept}
use Rattle.op_shelf.specs.declared.kept.Kept.TheVariants.{New, Known}
use Rattle.op_shelf.specs.Keep.{AreSame, GainsAll, with_one}
use Rattle.shelved_site.specs.Moving.{ArePut, IsAmong, JoinsSome, count_new}

-- operations that are spelled alike are one
abbrev pub IsAlike : (Op → Type 0) → Type 0
IsAlike held = (a b : Op) → spelling a ≡ spelling b → held a → held b

with_same : (a b : Op → Type 0) (op : Op) → AreSame a b → AreSame (with_one a op) (with_one b op)
with_same a b op same other = (
  elim [ inl was ↦ inl ((same other).0 was) | inr alike ↦ inr alike ],
  elim [ inl was ↦ inl ((same other).1 was) | inr alike ↦ inr alike ],
)

-- puts begin with what was the same
begun_same : (a b c : Op → Type 0) (ops : List Op) (kepts : List Kept) → AreSame a b → GainsAll b c ops kepts
    → GainsAll a c ops kepts
begun_same a b c [] [] same gains = λ other. (
  λ held. (gains other).0 ((same other).0 held),
  λ held. (same other).1 ((gains other).1 held),
)
begun_same a b c [] (k ∷ ks) same gains = absurd gains
begun_same a b c (op ∷ ops) [] same gains = absurd gains
begun_same a b c (op ∷ ops) (New ∷ ks) same (absent, gains) =
    (λ held. absent ((same op).0 held), begun_same (with_one a op) (with_one b op) c ops ks (with_same a b op same) gains)
begun_same a b c (op ∷ ops) (Known ∷ ks) same (there, gains) = ((same op).1 there, begun_same a b c ops ks same gains)

-- a group behind a group
gains_on : (a b c : Op → Type 0) (xs ys : List Op) (ks ls : List Kept) → GainsAll a b xs ks → GainsAll b c ys ls
    → GainsAll a c (xs ++ ys) (ks ++ ls)
gains_on a b c [] ys [] ls first next = begun_same a b c ys ls first next
gains_on a b c [] ys (k ∷ ks) ls first next = absurd first
gains_on a b c (x ∷ xs) ys [] ls first next = absurd first
gains_on a b c (x ∷ xs) ys (New ∷ ks) ls (absent, first) next = (absent, gains_on (with_one a x) b c xs ys ks ls first next)
gains_on a b c (x ∷ xs) ys (Known ∷ ks) ls (there, first) next = (there, gains_on a b c xs ys ks ls first next)

new_on : (ks ls : List Kept) → count_new (ks ++ ls) ≡ count_new ks + count_new ls
new_on [] ls = omega arith
new_on (New ∷ ks) ls = omega (arith, new_on ks ls)
new_on (Known ∷ ks) ls = new_on ks ls

-- no more are new than there are
pub few_new : (ks : List Kept) → count_new ks ≤ length ks
few_new [] = omega arith
few_new (New ∷ ks) = omega (arith, few_new ks)
few_new (Known ∷ ks) = omega (arith, few_new ks)

as_many : (a b : Op → Type 0) (ops : List Op) (kepts : List Kept) → GainsAll a b ops kepts → length kepts ≡ length ops
as_many a b [] [] gains = refl
as_many a b [] (k ∷ ks) gains = absurd gains
as_many a b (op ∷ ops) [] gains = absurd gains
as_many a b (op ∷ ops) (New ∷ ks) (absent, gains) = ap suc (as_many (with_one a op) b ops ks gains)
as_many a b (op ∷ ops) (Known ∷ ks) (there, gains) = ap suc (as_many a b ops ks gains)

-- one put more came
pub count_step : (ks : List Kept) (i : ℕ) (d : Kept) (n one : ℕ) → i < length ks → n ≡ count_new (take i ks)
    → one ≡ count_new (slice_index_or ks i d ∷ []) → n + one ≡ count_new (take (i + 1) ks)
count_step ks i d n one low is more =
    let next : i + 1 ≡ suc i = omega arith in
    omega (arith, is, more, taken ks i low, ap (λ (k : ℕ). count_new (take k ks)) next)
  where
    taken : (ks : List Kept) (i : ℕ) → i < length ks
        → count_new (take (suc i) ks) ≡ count_new (take i ks) + count_new (slice_index_or ks i d ∷ [])
    taken [] i low = absurd (omega (arith, low))
    taken (New ∷ ks) zero low = refl
    taken (Known ∷ ks) zero low = refl
    taken (New ∷ ks) (suc i) low = omega (arith, taken ks i (omega (arith, low)))
    taken (Known ∷ ks) (suc i) low = taken ks i (omega (arith, low))

-- a put is one at most
pub one_few : (k : Kept) (one : ℕ) → one ≡ count_new (k ∷ []) → one ≤ 1
one_few k one is = omega (arith, is, few_new (k ∷ []))

-- none was put
pub none_put : (a : Op → Type 0) → ArePut a a [] 0
none_put a = record { kepts = []; gained = λ other. (λ held. held, λ held. held); counted = refl }

-- one group more was put
pub put_more : (a b c : Op → Type 0) (done group : List Op) (n more : ℕ) → ArePut a b done n → ArePut b c group more
    → ArePut a c (done ++ group) (n + more)
put_more a b c done group n more first next = record {
  kepts = first.kepts ++ next.kepts;
  gained = gains_on a b c done group first.kepts next.kepts first.gained next.gained;
  counted = omega (arith, first.counted, next.counted, new_on first.kepts next.kepts);
}

-- no more were new than were put
pub few_put : (a b : Op → Type 0) (ops : List Op) (n : ℕ) → ArePut a b ops n → n ≤ length ops
few_put a b ops n put = omega (arith, put.counted, few_new put.kepts, as_many a b ops put.kepts put.gained)

-- what was put joins what was there
joins : (a b : Op → Type 0) (ops : List Op) (kepts : List Kept) → IsAlike a → GainsAll a b ops kepts → (op : Op)
    → b op ↔ (a op ⊎ IsAmong ops op)
joins a b [] [] alike gains op = (
  λ held. inl ((gains op).1 held),
  elim [ inl was ↦ (gains op).0 was | inr none ↦ absurd none ],
)
joins a b [] (k ∷ ks) alike gains op = absurd gains
joins a b (x ∷ ops) [] alike gains op = absurd gains
joins a b (x ∷ ops) (New ∷ ks) alike (absent, gains) op =
    let more = joins (with_one a x) b ops ks
    (λ p q same. elim [ inl was ↦ inl (alike p q same was) | inr is ↦ inr (sym same ∙ is) ]) gains op in (
      λ held. elim (more.0 held) as (λ _. a op ⊎ ((spelling op ≡ spelling x) ⊎ IsAmong ops op)) [
        | inl (inl was) ↦ inl was
        | inl (inr is) ↦ inr (inl is)
        | inr among ↦ inr (inr among)
      ],
      elim [
        | inl was ↦ more.1 (inl (inl was))
        | inr (inl is) ↦ more.1 (inl (inr is))
        | inr (inr among) ↦ more.1 (inr among)
      ],
    )
joins a b (x ∷ ops) (Known ∷ ks) alike (there, gains) op =
    let more = joins a b ops ks alike gains op in (
      λ held. elim (more.0 held) as (λ _. a op ⊎ ((spelling op ≡ spelling x) ⊎ IsAmong ops op)) [
        | inl was ↦ inl was
        | inr among ↦ inr (inr among)
      ],
      elim [
        | inl was ↦ more.1 (inl was)
        | inr (inl is) ↦ more.1 (inl (alike x op (sym is) there))
        | inr (inr among) ↦ more.1 (inr among)
      ],
    )

pub put_joins : (a b : Op → Type 0) (ops : List Op) (n : ℕ) → IsAlike a → ArePut a b ops n → (op : Op)
    → b op ↔ (a op ⊎ IsAmong ops op)
put_joins a b ops n alike put = joins a b ops put.kepts alike put.gained

-- where a group is refused, those before it were put
pub joins_some : (a b c : Op → Type 0) (ops : List Op) (n : ℕ) → IsAlike a → ArePut a b ops n → AreSame b c
    → JoinsSome a c ops
joins_some a b c ops n alike put same =
    let joined = put_joins a b ops n alike put in
    record {
      kept = λ op was. (same op).0 ((joined op).1 (inl was));
      only = λ op held. (joined op).0 ((same op).1 held);
    }
