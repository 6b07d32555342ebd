-- What the answers of a taking mean, each by itself.
use Rattle.std.proofs.Common.{◌≡◌, Option, Some, None, Ok, Err, Result, refl, sym, subst, ◌∙◌}
use Rattle.std.specs.Prelude.{◌↔◌, OnErr, IsErrAnd}
use Rattle.operation.specs.declared.op.Op.{Op}
use Rattle.operation.specs.Spelling.{digest_of}
use Rattle.site_state.specs.Site.{Map, held_at, with_op, IsClash, Takes}
use Rattle.operation.specs.declared.taken.Taken.{Taken}
use Rattle.operation.specs.declared.taken.Taken.TheVariants.{New, Known}
use Rattle.site_state.specs.declared.fault.SiteFault.{SiteFault}
use Rattle.site_state.specs.declared.fault.SiteFault.TheVariants.{Collision, Memory}

none_is_some : (r : Option Op) (o : Op) {P : Type 0} → r ≡ None → r ≡ Some o → P
none_is_some r o none some = absurd (let e = sym none ∙ some in cc)

pub if_new : (m n : Map) (o : Op) (r : Result Taken SiteFault) → Takes m o r n → r ≡ Ok New
    → held_at m (digest_of o) ≡ None
if_new m n o (Ok New) takes e = takes.0
if_new m n o (Ok Known) takes e = absurd cc
if_new m n o (Err Collision) takes e = absurd cc
if_new m n o (Err Memory) takes e = absurd cc

pub if_added : (m n : Map) (o : Op) (r : Result Taken SiteFault) → Takes m o r n → r ≡ Ok New → n ≡ with_op m o
if_added m n o (Ok New) takes e = takes.1
if_added m n o (Ok Known) takes e = absurd cc
if_added m n o (Err Collision) takes e = absurd cc
if_added m n o (Err Memory) takes e = absurd cc

pub if_same : (m n : Map) (o : Op) (r : Result Taken SiteFault) → Takes m o r n → r ≡ Ok Known → n ≡ m
if_same m n o (Ok New) takes e = absurd cc
if_same m n o (Ok Known) takes e = takes.1
if_same m n o (Err Collision) takes e = absurd cc
if_same m n o (Err Memory) takes e = absurd cc

pub if_memory : (m n : Map) (o : Op) (r : Result Taken SiteFault) → Takes m o r n → r ≡ Err Memory
    → held_at m (digest_of o) ≡ None
if_memory m n o (Ok New) takes e = absurd cc
if_memory m n o (Ok Known) takes e = absurd cc
if_memory m n o (Err Collision) takes e = absurd cc
if_memory m n o (Err Memory) takes e = takes.0

pub if_refused : (m n : Map) (o : Op) (r : Result Taken SiteFault) → Takes m o r n → OnErr r (n ≡ m)
if_refused m n o (Ok New) takes = tt
if_refused m n o (Ok Known) takes = tt
if_refused m n o (Err Collision) takes = takes.1
if_refused m n o (Err Memory) takes = takes.1

some_is : (r : Option Op) (o p : Op) → r ≡ Some o → r ≡ Some p → o ≡ p
some_is r o p e f = let both = sym e ∙ f in cc

pub iff_known : (m n : Map) (o : Op) (r : Result Taken SiteFault) → Takes m o r n
    → (r ≡ Ok Known) ↔ (held_at m (digest_of o) ≡ Some o)
iff_known m n o (Ok New) takes = (λ e. absurd cc, λ h. none_is_some (held_at m (digest_of o)) o takes.0 h)
iff_known m n o (Ok Known) takes = (λ e. takes.0, λ h. refl)
iff_known m n o (Err Collision) takes = (
  λ e. absurd cc,
  λ h. absurd
      (takes.0.2 (some_is (held_at m (digest_of o)) takes.0.0 o takes.0.1 h)),
)
iff_known m n o (Err Memory) takes = (λ e. absurd cc, λ h. none_is_some (held_at m (digest_of o)) o takes.0 h)

pub iff_clash : (m n : Map) (o : Op) (r : Result Taken SiteFault) → Takes m o r n → (r ≡ Err Collision) ↔ IsClash m o
iff_clash m n o (Ok New) takes = (λ e. absurd cc, λ h. none_is_some (held_at m (digest_of o)) h.0 takes.0 h.1)
iff_clash m n o (Ok Known) takes = (
  λ e. absurd cc,
  λ h. absurd
      (h.2 (some_is (held_at m (digest_of o)) h.0 o h.1 takes.0)),
)
iff_clash m n o (Err Collision) takes = (λ e. takes.0, λ h. refl)
iff_clash m n o (Err Memory) takes = (λ e. absurd cc, λ h. none_is_some (held_at m (digest_of o)) h.0 takes.0 h.1)

-- room was refused for what is not held
pub no_room : (m n : Map) (o : Op) (r : Result Taken SiteFault) → IsErrAnd r (λ e. e ≡ Memory)
    → held_at m (digest_of o) ≡ None → n ≡ m → Takes m o r n
no_room m n o (Ok t) refused none same = absurd refused
no_room m n o (Err e) refused none same = subst (λ f. Takes m o (Err f) n) (sym refused) (none, same)
