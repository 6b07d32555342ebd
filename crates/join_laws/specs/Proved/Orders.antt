-- The lesser of two and the greater of two are joins, by an exact order.
use Rattle.std.specs.Prelude.{◌≡◌, Bool, true, false, cond, Option, None, Some}
use Rattle.std.proofs.Common.{refl, sym, ap, ◌∙◌}
use mathlib.Core.Bool.{true≢false}
use Rattle.std.specs.Cmp.{IsTotalOrder}
use Rattle.std.specs.Ordering.{ordering_reverse, is_lt, is_gt}
use Rattle.std.specs.declared.cmp.Ordering.{Ordering}
use Rattle.std.specs.declared.cmp.Ordering.TheVariants.{Less, Equal, Greater}
use Rattle.std.proofs.lemmas.Cmp.{upto}
use Rattle.join_laws.specs.Laws.{IsExact, JoinLaws, SummaryLaws}
use Rattle.join_laws.specs.Least.{least_of}
use Rattle.join_laws.specs.Greatest.{greatest_of}
use Rattle.join_laws.specs.Proved.Options.{any_option_laws}

-- a test that tells of any two values which goes before the other
record IsBefore {T : Type 0} (before : T → T → Bool) : Type 0 where
  one_way : (x y : T) → before x y ≡ true → before y x ≡ true → ⊥
  chain : (x y z : T) → before x y ≡ true → before y z ≡ true → before x z ≡ true
  chain_not : (x y z : T) → before x y ≡ false → before y z ≡ false → before x z ≡ false
  exact : (x y : T) → before x y ≡ false → before y x ≡ false → x ≡ y

-- the one that goes before
abbrev pick : {T : Type 0} → (T → T → Bool) → T → T → T
pick before x y = cond (before y x) y x

pick_yes : {T : Type 0} (before : T → T → Bool) (x y : T) → before y x ≡ true → pick before x y ≡ y
pick_yes before x y h = ap (λ b. cond b y x) h

pick_no : {T : Type 0} (before : T → T → Bool) (x y : T) → before y x ≡ false → pick before x y ≡ x
pick_no before x y h = ap (λ b. cond b y x) h

module _ {T : Type 0} (before : T → T → Bool) (order : IsBefore before) where
  pick_commutative : (x y : T) → pick before x y ≡ pick before y x
  pick_commutative x y = by (before y x) (before x y) refl refl
    where
      by : (a b : Bool) → before y x ≡ a → before x y ≡ b → pick before x y ≡ pick before y x
      by true true h k = absurd (order.one_way y x h k)
      by true false h k = pick_yes before x y h ∙ sym (pick_no before y x k)
      by false true h k = pick_no before x y h ∙ sym (pick_yes before y x k)
      by false false h k = pick_no before x y h ∙ order.exact x y k h ∙ sym (pick_no before y x k)

  pick_associative : (x y z : T) → pick before (pick before x y) z ≡ pick before x (pick before y z)
  pick_associative x y z = by (before y x) (before z y) refl refl
    where
      by : (a b : Bool) → before y x ≡ a → before z y ≡ b → pick before (pick before x y) z ≡ pick before
          x (pick before y z)
      by true true h k = ap (λ v. pick before v z) (pick_yes before x y h) ∙ pick_yes before y z k
          ∙ sym (ap (pick before x) (pick_yes before y z k) ∙ pick_yes before x z (order.chain z y x k h))
      by true false h k = ap (λ v. pick before v z) (pick_yes before x y h) ∙ pick_no before y z k
          ∙ sym (ap (pick before x) (pick_no before y z k) ∙ pick_yes before x y h)
      by false true h k = ap (λ v. pick before v z) (pick_no before x y h)
          ∙ sym (ap (pick before x) (pick_yes before y z k))
      by false false h k = ap (λ v. pick before v z) (pick_no before x y h)
          ∙ pick_no before x z (order.chain_not z y x k h) ∙ sym (ap (pick before x) (pick_no before y z k)
          ∙ pick_no before x y h)

  pick_idempotent : (x : T) → pick before x x ≡ x
  pick_idempotent x = by (before x x) refl
    where
      by : (a : Bool) → before x x ≡ a → pick before x x ≡ x
      by true h = pick_yes before x x h
      by false h = pick_no before x x h

  pick_laws : JoinLaws (λ _. Unit {0}) (pick before)
  pick_laws = record {
    held = λ x y g h. tt;
    commutative = λ x y g h. pick_commutative x y;
    associative = λ x y z f g h. pick_associative x y z;
    idempotent = λ x h. pick_idempotent x;
  }

  -- the same, with the two in the other order
  pick_back_laws : JoinLaws (λ _. Unit {0}) (λ x y. pick before y x)
  pick_back_laws = record {
    held = λ x y g h. tt;
    commutative = λ x y g h. pick_commutative y x;
    associative = λ x y z f g h. sym (pick_associative z y x);
    idempotent = λ x h. pick_idempotent x;
  }

is_lt-reverse : (o : Ordering) → is_lt (ordering_reverse o) ≡ is_gt o
is_lt-reverse Less = refl
is_lt-reverse Equal = refl
is_lt-reverse Greater = refl

less_from_is_lt : (o : Ordering) → is_lt o ≡ true → o ≡ Less
less_from_is_lt Less h = refl
less_from_is_lt Equal h = absurd (true≢false (sym h))
less_from_is_lt Greater h = absurd (true≢false (sym h))

equal_from_neither : (o : Ordering) → is_lt o ≡ false → is_gt o ≡ false → o ≡ Equal
equal_from_neither Less h k = absurd (true≢false h)
equal_from_neither Equal h k = refl
equal_from_neither Greater h k = absurd (true≢false k)

not_both : (o : Ordering) → is_lt o ≡ true → is_gt o ≡ true → ⊥
not_both Less h k = true≢false (sym k)
not_both Equal h k = true≢false (sym k)
not_both Greater h k = true≢false (sym h)

module _ {T : Type 0} (cmp : T → T → Ordering) (total : IsTotalOrder cmp) (exact : IsExact cmp) where
  flipped : (x y : T) → is_lt (cmp y x) ≡ is_gt (cmp x y)
  flipped x y = ap is_lt (total.antisymm y x) ∙ is_lt-reverse (cmp x y)

  lesser : IsBefore (λ x y. is_lt (cmp x y))
  lesser = record {
    one_way = λ x y h k. not_both (cmp x y) h (sym (flipped x y) ∙ k);
    chain = λ x y z h k. ap is_lt (total.trans x y z (less_from_is_lt _ h) (less_from_is_lt _ k));
    chain_not = λ x y z h k. flipped z x ∙ upto total z y x (sym (flipped z y) ∙ k) (sym (flipped y x) ∙ h);
    exact = λ x y h k. exact x y (equal_from_neither _ h (sym (flipped x y) ∙ k));
  }

  greater : IsBefore (λ x y. is_lt (cmp y x))
  greater = record {
    one_way = λ x y h k. lesser.one_way x y k h;
    chain = λ x y z h k. lesser.chain z y x k h;
    chain_not = λ x y z h k. lesser.chain_not z y x k h;
    exact = λ x y h k. lesser.exact x y k h;
  }

  pub least_laws : JoinLaws (λ (a : Option T). Unit {0}) (least_of cmp)
  least_laws = any_option_laws (pick_laws (λ x y. is_lt (cmp x y)) lesser)

  pub greatest_laws : JoinLaws (λ (a : Option T). Unit {0}) (greatest_of cmp)
  greatest_laws = any_option_laws (pick_back_laws (λ x y. is_lt (cmp y x)) greater)

  pub least_summary_laws : SummaryLaws (λ (a : Option T). Unit {0}) (least_of cmp) None Some
  least_summary_laws = record { nothing_held = tt; one_held = λ op. tt; neutral = λ a h. refl }

  pub greatest_summary_laws : SummaryLaws (λ (a : Option T). Unit {0}) (greatest_of cmp) None Some
  greatest_summary_laws = record { nothing_held = tt; one_held = λ op. tt; neutral = λ a h. refl }
