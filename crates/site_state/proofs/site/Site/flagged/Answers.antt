use Rattle.std.proofs.Common.{ap, ◌∙◌}
use Rattle.std.specs.Prelude.{◌||◌}
use Rattle.octets.specs.Texts.{text_cmp}
use Rattle.study_index.specs.Keys.{has}
use Rattle.study_index.specs.Copies.{is_doubled}
use Rattle.study_index.proofs.Flagged.{flagged_are}
use Rattle.site_state.specs.Site.{ops_of}
use Rattle.site_state.proofs.Indexed.{ops_ascend}
use Rattle.site_state.proofs.site.Site.flagged.Goals as goal

-- The UIDs of two copies, ascending, are the flagged ones.
pub returns : goal.returns
returns c =
    let site = c.args.self.now in
    let index = c.index-index.result.now in
    c.in_ok-texts.ensures.all
    ∙ flagged_are (ops_of site) (ops_ascend site c.see_lawful.ensures.own) index c.index-index.ensures.says
    c.held.ensures.copies
    c.put_flagged.new.uids.keys c.in_ok-texts.ensures.ordered (λ uid.
    c.in_ok-put_flagged.ensures uid ∙ ap
    (λ ks. has text_cmp ks uid || is_doubled index.copies uid) c.new-uids.ensures.empty)
