-- Taking the heads of a group.
use Rattle.std.specs.Prelude.{◌≡◌, ℕ, List, [], ◌∷◌, ◌++◌, Some}
use Rattle.op_log.specs.Heads.{Head, head_text, group_text, IsSpelled}
use Rattle.op_log.specs.Kept.{IsBelow, first_under, with_head, with_heads}

-- the first of some heads that has the digest of another, if there is one, has its front
abbrev pub IsAlike : List Head → Head → Type 0
IsAlike heads h = (k : Head) → first_under h.digest heads ≡ Some k → k.front ≡ h.front

-- a head can be taken behind others: its data set lies below an offset, and what has its digest has its front
pub record IsFit (end : ℕ) (heads : List Head) (h : Head) : Type 0 where
  pub spelled : IsSpelled h
  pub below : IsBelow end h
  pub alike : IsAlike heads h

-- each of some heads can, behind the others
abbrev pub AreFit : ℕ → List Head → List Head → Type 0
AreFit end old [] = Unit {0}
AreFit end old (h ∷ heads) = IsFit end old h × AreFit end (with_head old h) heads

-- the head at the front of a text was taken
pub record IsTaken (end : ℕ) (old new : List Head) (text rest : List ℕ) : Type 0 where
  pub head : Head
  pub text_is : text ≡ head_text head ++ rest
  pub new_is : new ≡ with_head old head
  pub fit : IsFit end old head

-- those of a text were
pub record AreTaken (end : ℕ) (old new : List Head) (text rest : List ℕ) : Type 0 where
  pub heads : List Head
  pub text_is : text ≡ group_text heads ++ rest
  pub new_is : new ≡ with_heads old heads
  pub fit : AreFit end old heads
