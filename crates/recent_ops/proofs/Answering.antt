-- What is answered of an operation that was found.
use Rattle.std.proofs.Common.{◌≡◌, Option, Result, Ok, Err, IfOk, IfSome, sym, ◌∙◌, subst}
use Rattle.std.specs.declared.alloc.AllocError.{AllocError}
use Rattle.operation.specs.declared.op.Op.{Op}

-- what is answered is another name of it
pub the_same : (r : Result (Option Op) AllocError) (one other : Option Op) → one ≡ other → IfOk r (λ found. found ≡ one) → IfOk r (λ found. found ≡ other)
the_same (Ok o) one other same is = is ∙ same
the_same (Err e) one other same is = tt

-- what holds of it holds of what is answered
pub holds_of : (P : Op → Type 0) (r : Result (Option Op) AllocError) (o : Option Op) → IfSome o P → IfOk r (λ found. found ≡ o)
    → IfOk r (λ found. IfSome found P)
holds_of P (Ok x) o so is = subst (λ (y : Option Op). IfSome y P) (sym is) so
holds_of P (Err e) o so is = tt
