-- Part by part is a join where each part's is one.
use Rattle.join_laws.specs.Laws.{JoinLaws, SummaryLaws}
use Rattle.join_laws.specs.PairOf.{pair_joined, both}

module _ {A B : Type 0} {P : A → Type 0} {Q : B → Type 0} {f : A → A → A} {g : B → B → B} where
  pub pair_laws : JoinLaws P f → JoinLaws Q g → JoinLaws (λ (a : A × B). P a.0 × Q a.1) (pair_joined f g)
  pair_laws l m = record {
    held = λ a b h k. (l.held a.0 b.0 h.0 k.0, m.held a.1 b.1 h.1 k.1);
    commutative = λ a b h k i. (l.commutative a.0 b.0 h.0 k.0 i, m.commutative a.1 b.1 h.1 k.1 i);
    associative = λ a b c h k j i. (l.associative a.0 b.0 c.0 h.0 k.0 j.0 i, m.associative a.1 b.1 c.1 h.1 k.1 j.1 i);
    idempotent = λ a h i. (l.idempotent a.0 h.0 i, m.idempotent a.1 h.1 i);
  }

  pub pair_summary_laws : {O : Type 0} {x : A} {y : B} {u : O → A} {v : O → B} → SummaryLaws P f x u → SummaryLaws Q g y
      v → SummaryLaws (λ (a : A × B). P a.0 × Q a.1) (pair_joined f g) (x, y) (both u v)
  pair_summary_laws l m = record {
    nothing_held = (l.nothing_held, m.nothing_held);
    one_held = λ op. (l.one_held op, m.one_held op);
    neutral = λ a h i. (l.neutral a.0 h.0 i, m.neutral a.1 h.1 i);
  }
