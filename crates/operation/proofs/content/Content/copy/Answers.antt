use Rattle.std.proofs.Common.{◌≡◌, ℕ, List, length, subst, sym}
use Rattle.operation.specs.Contents.{IsContent}
use Rattle.operation.specs.Parts.{KeptParts, with_body}
use Rattle.operation.proofs.content.Content.copy.Goals as goal

-- A copy shares the parts, which are those of a content.
pub invariant_of-result : goal.invariant_of-result
invariant_of-result c =
    subst (λ (p : KeptParts × List ℕ). IsContent (with_body p.0 p.1) × (p.0.size ≡ length p.1))
    (λ i. (sym c.in_ok-try_clone.ensures i, sym c.in_ok-clone.ensures.cases i)) c.self.invariant
