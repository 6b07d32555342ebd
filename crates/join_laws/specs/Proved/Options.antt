-- A join of values that may be absent keeps the laws.
use Rattle.std.specs.Prelude.{◌≡◌, Option, None, Some, IfSome}
use Rattle.std.proofs.Common.{refl, ap}
use Rattle.join_laws.specs.Laws.{JoinLaws, joined_options}

module _ {V : Type 0} {IsHeld : V → Type 0} {joined : V → V → V} (laws : JoinLaws IsHeld joined) where
  IsHeldOption : Option V → Type 0
  IsHeldOption o = IfSome o IsHeld

  option_held : (a b : Option V) → IfSome a IsHeld → IfSome b IsHeld → IfSome (joined_options joined a b) IsHeld
  option_held None b g h = h
  option_held (Some x) None g h = g
  option_held (Some x) (Some y) g h = laws.held x y g h

  option_commutative : (a b : Option V) → IfSome a IsHeld → IfSome b IsHeld → joined_options joined a b ≡ joined_options
      joined b a
  option_commutative None None g h = refl
  option_commutative None (Some y) g h = refl
  option_commutative (Some x) None g h = refl
  option_commutative (Some x) (Some y) g h = ap Some (laws.commutative x y g h)

  option_associative : (a b c : Option V) → IfSome a IsHeld → IfSome b IsHeld → IfSome c IsHeld
      → joined_options joined (joined_options joined a b) c ≡ joined_options joined a (joined_options joined b c)
  option_associative None b c f g h = refl
  option_associative (Some x) None c f g h = refl
  option_associative (Some x) (Some y) None f g h = refl
  option_associative (Some x) (Some y) (Some z) f g h = ap Some (laws.associative x y z f g h)

  option_idempotent : (a : Option V) → IfSome a IsHeld → joined_options joined a a ≡ a
  option_idempotent None h = refl
  option_idempotent (Some x) h = ap Some (laws.idempotent x h)

  pub option_laws : JoinLaws (λ o. IfSome o IsHeld) (joined_options joined)
  option_laws = record {
    held = option_held;
    commutative = option_commutative;
    associative = option_associative;
    idempotent = option_idempotent;
  }

-- where every value is held
any_option : {V : Type 0} (o : Option V) → IfSome o (λ _. Unit {0})
any_option None = tt
any_option (Some x) = tt

pub any_option_laws : {V : Type 0} {joined : V → V → V} → JoinLaws (λ _. Unit {0}) joined → JoinLaws (λ _. Unit {0})
    (joined_options joined)
any_option_laws {V} {joined} laws =
    let all = option_laws laws in
    record {
      held = λ a b g h. tt;
      commutative = λ a b g h. all.commutative a b (any_option a) (any_option b);
      associative = λ a b c f g h. all.associative a b c (any_option a) (any_option b) (any_option c);
      idempotent = λ a h. all.idempotent a (any_option a);
    }
