use Rattle.std.proofs.Common.{◌∙◌, ap, sym, arith, take}
use Rattle.std.specs.Prelude.{◌||◌}
use Rattle.std.specs.List.{list_any}
use Rattle.std.proofs.lemmas.List.Folds.{list_any_more}
use mathlib.Core.Bool.{or_assoc}
use Rattle.octets.specs.Texts.{text_cmp}
use Rattle.study_index.specs.Keys.{has}
use Rattle.study_index.specs.Live.{Text, pick_at, is_of_series}
use Rattle.archive_query.proofs.candidates.put_some_series.Goals as goal

-- What is of one series more is in.
pub loop-one-preserved : goal.loop-one-preserved
loop-one-preserved c =
    let study = c.args.study.now in
    let series = c.args.series.now in
    let i = c.loop-one.one-index in
    let old = c.args.uids.now.keys in
    let mid = c.loop-one.uids.keys in
    let x = c.one-item.result in
    let picks = c.args.index.now.picks in (
      omega arith,
      λ uid. c.in_ok-put_series.ensures uid
          ∙ ap (λ (t : Text). has text_cmp mid uid || is_of_series study t (pick_at uid picks))
          (c.cut.ensures ∙ ap (take 64) c.as_slice.ensures)
          ∙ ap (λ b. b || is_of_series study (take 64 x) (pick_at uid picks)) (c.loop-one.invariant.1 uid)
          ∙ or_assoc (has text_cmp old uid) (list_any (λ one. is_of_series study (take 64 one) (pick_at uid picks))
          (take i series)) (is_of_series study (take 64 x) (pick_at uid picks))
          ∙ ap (λ b. has text_cmp old uid || b) (sym
          (list_any_more (λ one. is_of_series study (take 64 one) (pick_at uid picks)) series i x c.loop-one-test.true
          ∙ ap (λ (t : Text). list_any (λ one. is_of_series study (take 64 one) (pick_at uid picks)) (take i series) ||
          is_of_series study (take 64 t) (pick_at uid picks)) (sym c.one-item.is))),
    )
