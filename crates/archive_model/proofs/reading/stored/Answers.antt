use Rattle.std.proofs.Common.{List, ℕ, subst, ◌∙◌}
use Rattle.octets.specs.Gives.{Told}
use Rattle.data_set.specs.declared.syntax.Syntax.{Syntax}
use Rattle.data_set.specs.Fault.{is_memory}
use Rattle.data_set.specs.Texts.{HasFault}
use Rattle.archive_model.proofs.CoercionLaws.{content_has_no_fault}
use Rattle.archive_model.proofs.reading.stored.Goals as goal

-- A content's data set has no fault, so what is told is want of memory.
pub unreachable-requires : goal.unreachable-requires
unreachable-requires c =
    let content = c.args.content.now in
    let f = c.in-Err.fault in
    let of_syntax = subst (λ (s : Syntax). Told is_memory f (HasFault s c.as_slice.result.now)) c.syntax.ensures
    c.in-Err.ensures.fault in
    let of_body = subst (λ (text : List ℕ). Told is_memory f (HasFault content.syntax text)) (c.as_slice.ensures
    ∙ c.body.ensures.value) of_syntax in
    content_has_no_fault content f c.body.ensures.content c.in_default.not-Memory of_body
