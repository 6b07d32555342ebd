use Rattle.std.proofs.Common.{subst, sym, ◌∙◌}
use Rattle.operation.specs.Contents.{IsContent}
use Rattle.operation.specs.Parts.{KeptParts, with_body}
use Rattle.operation.proofs.Bounds.{class_short}
use Rattle.operation.proofs.content.Content.class.Goals as goal

-- The class of a content is a UID, and no UID is longer.
pub returns-clause-short : goal.returns-clause-short
returns-clause-short c = rw c.value_or_empty.ensures (class_short _
    (subst (λ (kept : KeptParts). IsContent (with_body kept c.self.inside.body))
    (sym (c.behind-self.view_is ∙ c.deref.ensures)) c.self.invariant.0))
