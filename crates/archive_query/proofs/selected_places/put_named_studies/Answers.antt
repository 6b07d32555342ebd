use Rattle.std.proofs.Common.{◌∙◌, ap, List, take}
use Rattle.std.specs.Prelude.{◌||◌}
use Rattle.octets.specs.Texts.{text_cmp}
use Rattle.study_index.specs.Keys.{has}
use Rattle.study_index.specs.Live.{Text, pick_at, is_of_study}
use Rattle.archive_query.specs.Candidates.{is_of_some}
use Rattle.archive_query.proofs.DistinctLaws.{any_ascending}
use Rattle.archive_query.proofs.selected_places.put_named_studies.Goals as goal

-- In their order, each once, the same are named.
pub returns : goal.returns
returns c = λ uid.
    let old = c.args.uids.now.keys in
    let pick = pick_at uid c.args.index.now.picks in
    c.in_ok-put_studies.ensures uid
    ∙ ap (λ (ts : List Text). has text_cmp old uid || is_of_some ts pick) (c.deref.ensures.value ∙ c.in_ok-each.ensures)
    ∙ ap (λ b. has text_cmp old uid || b) (any_ascending (λ study. is_of_study (take 64 study) pick) c.args.named.now)
