use Rattle.std.proofs.Common.{◌≡◌, Ok, length, sym, subst}
use Rattle.operation.specs.Contents.{IsContent, IsOutcome}
use Rattle.operation.specs.Parts.{KeptParts, with_body}
use Rattle.operation.proofs.contents.content_from.Goals as goal

-- The parts are those of the draft with what is kept of it, which are a content's.
pub invariant_of-result : goal.invariant_of-result
invariant_of-result c =
    subst (λ (k : KeptParts). IsContent (with_body k c.args.draft.body) × (k.size ≡ length c.args.draft.body))
    (sym c.in_ok-new.ensures.ok) (c.in_ok-values.ensures.1, c.len.ensures.value)

-- So the outcome is this content.
pub returns : goal.returns
returns c =
    subst (λ (k : KeptParts). IsOutcome c.args.draft (Ok (with_body k c.args.draft.body)))
    (sym c.in_ok-new.ensures.ok) c.in_ok-values.ensures
