use Rattle.std.proofs.Common.{◌≤◌, ◌∙◌, sym, ap, subst, length}
use Rattle.std.specs.Prelude.{◌&&◌}
use Rattle.archive_model.specs.Index.{is_titled}
use Rattle.study_index.proofs.Corrected.{le_test}
use Rattle.site_state.specs.Site.{ops_of}
use Rattle.site_state.proofs.site.Site.is_hidden_by.Goals as goal

-- The index has the titles under which a UID of at most 64 bytes is named.
pub returns : goal.returns
returns c =
    let short : length c.args.uid.now ≤ 64 = subst (λ t. length t ≤ 64) c.as_slice.ensures.value
    c.as_slice.ensures.short in
    c.covered_by.ensures ∙ c.index.ensures.says.titles c.args.uid.now c.args.title (le_test (length c.args.uid.now) 64 short)
    ∙ sym (ap (λ b. b && is_titled (ops_of c.args.self.now) c.args.uid.now c.args.title) (sym c.hides.ensures
    ∙ c.if-not-hides.false))
