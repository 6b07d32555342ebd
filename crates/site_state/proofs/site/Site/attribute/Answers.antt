use Rattle.std.proofs.Common.{◌∙◌, ap}
use Rattle.operation.specs.Parts.{own_value}
use Rattle.archive_model.specs.Attributes.{correction_for}
use Rattle.study_index.specs.Index.{Fix}
use Rattle.study_index.proofs.Corrected.{latest_is}
use Rattle.site_state.specs.Site.{ops_of}
use Rattle.site_state.proofs.Lookups.{value_is, own_is}
use Rattle.site_state.proofs.site.Site.attribute.Goals as goal

-- What is looked up is the correction that counts.
pub returns-in-Some : goal.returns-in-Some
returns-in-Some c =
    let ops = ops_of c.args.self.now in
    let content = c.args.content.now in
    c.as_slice.ensures.value
    ∙ ap (λ (f : Fix). f.value) c.fix.view_is
    ∙ value_is (own_value content c.args.tag) (correction_for ops content c.args.tag) c.in-Some.fix.now
    (c.in-Some.ensures ∙ latest_is ops c.index.result.now c.index.ensures.says c.see_lawful.ensures.lawful content
    c.args.tag)

-- Where none is found, none counts.
pub returns-in-None : goal.returns-in-None
returns-in-None c =
    let ops = ops_of c.args.self.now in
    let content = c.args.content.now in
    c.own_value.ensures
    ∙ own_is (own_value content c.args.tag) (correction_for ops content c.args.tag) (c.in-None.ensures
    ∙ latest_is ops c.index.result.now c.index.ensures.says c.see_lawful.ensures.lawful content c.args.tag)
