use Rattle.std.proofs.Common.{ap, sym, ◌∙◌}
use Rattle.operation.specs.Parts.{own_value}
use Rattle.octets.specs.Texts.{same}
use Rattle.archive_model.specs.Attributes.{correction_for}
use Rattle.archive_model.proofs.ModelLaws.{same_is}
use Rattle.study_index.specs.Index.{Fix}
use Rattle.study_index.proofs.Corrected.{latest_is}
use Rattle.site_state.specs.Site.{ops_of}
use Rattle.site_state.proofs.Lookups.{value_is, own_is}
use Rattle.archive_query.proofs.ChangeLaws.{unchanged, changed}
use Rattle.archive_query.proofs.changes.changed_value.Goals as goal

-- Where no correction is found, the attribute has the content's own value.
pub returns-in-None-clause-value : goal.returns-in-None-clause-value
returns-in-None-clause-value c =
    let ops = ops_of c.args.site.now in
    let content = c.args.content.now in
    unchanged ops content c.args.tag (sym (own_is (own_value content c.args.tag) (correction_for ops content c.args.tag)
    (c.in-None.ensures ∙ latest_is ops c.index.result.now c.index.ensures.says c.see_lawful.ensures.lawful content
    c.args.tag)))

-- The correction that is found gives the content's own value.
pub returns-then-eq-clause-value : goal.returns-then-eq-clause-value
returns-then-eq-clause-value c =
    let ops = ops_of c.args.site.now in
    let content = c.args.content.now in
    let value =
    c.as_slice-value.ensures.value
    ∙ ap (λ (f : Fix). f.value) c.fix.view_is
    ∙ value_is (own_value content c.args.tag) (correction_for ops content c.args.tag) c.in-Some.fix.now
    (c.in-Some.ensures ∙ latest_is ops c.index.result.now c.index.ensures.says c.see_lawful.ensures.lawful content
    c.args.tag)
    in
    unchanged ops content c.args.tag (sym value ∙ same_is c.as_slice-value.result.now c.own_value.result.now
    (sym c.eq.ensures ∙ c.if-eq.true) ∙ c.own_value.ensures)

-- Or it gives another.
pub returns-else-eq-clause-value : goal.returns-else-eq-clause-value
returns-else-eq-clause-value c =
    let ops = ops_of c.args.site.now in
    let content = c.args.content.now in
    let value =
    c.as_slice-value.ensures.value
    ∙ ap (λ (f : Fix). f.value) c.fix.view_is
    ∙ value_is (own_value content c.args.tag) (correction_for ops content c.args.tag) c.in-Some.fix.now
    (c.in-Some.ensures ∙ latest_is ops c.index.result.now c.index.ensures.says c.see_lawful.ensures.lawful content
    c.args.tag)
    in
    changed ops content c.args.tag c.as_slice-value.result.now value
    (ap (same c.as_slice-value.result.now) (sym c.own_value.ensures) ∙ sym c.eq.ensures ∙ c.if-eq.false)
