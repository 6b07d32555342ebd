use Rattle.std.proofs.Common.{◌∙◌, ap, []}
use Rattle.std.specs.Prelude.{◌||◌}
use mathlib.Core.Bool.{or_assoc}
use Rattle.octets.specs.Texts.{text_cmp}
use Rattle.study_index.specs.Keys.{has}
use Rattle.study_index.specs.Live.{Text, pick_at, is_of_series}
use Rattle.archive_query.specs.Candidates.{is_of_some_series}
use Rattle.archive_query.proofs.candidates.put_listed_series.Goals as goal

-- First what is of the series without a name, then what is of those listed.
pub returns : goal.returns
returns c = λ uid.
    let study = c.args.study.now in
    let series = c.args.series.now in
    let old = c.args.uids.now.keys in
    let pick = pick_at uid c.args.index.now.picks in
    c.in_ok-put_some_series.ensures uid
    ∙ ap (λ b. b || is_of_some_series study series pick) (c.in_ok-put_series.ensures uid)
    ∙ ap (λ (t : Text). (has text_cmp old uid || is_of_series study t pick) || is_of_some_series study series pick)
    c.empty.ensures
    ∙ or_assoc (has text_cmp old uid) (is_of_series study [] pick) (is_of_some_series study series pick)
