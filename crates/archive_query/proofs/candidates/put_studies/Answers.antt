use Rattle.std.proofs.Common.{◌∙◌, ap, sym, arith, take}
use Rattle.std.specs.Prelude.{◌||◌}
use Rattle.std.specs.List.{list_any}
use Rattle.std.proofs.lemmas.List.Folds.{list_any_more}
use mathlib.Core.Bool.{or_assoc}
use Rattle.octets.specs.Texts.{text_cmp}
use Rattle.study_index.specs.Keys.{has}
use Rattle.study_index.specs.Live.{Text, pick_at, is_of_study}
use Rattle.archive_query.proofs.candidates.put_studies.Goals as goal

-- What is of one study more is in.
pub loop-study-preserved : goal.loop-study-preserved
loop-study-preserved c =
    let studies = c.args.studies.now in
    let i = c.loop-study.study-index in
    let old = c.args.uids.now.keys in
    let mid = c.loop-study.uids.keys in
    let x = c.study-item.result in
    let picks = c.args.index.now.picks in (
      omega arith,
      λ uid. c.in_ok-put_study.ensures uid
          ∙ ap (λ (t : Text). has text_cmp mid uid || is_of_study t (pick_at uid picks))
          (c.cut.ensures ∙ ap (take 64) c.as_slice.ensures)
          ∙ ap (λ b. b || is_of_study (take 64 x) (pick_at uid picks)) (c.loop-study.invariant.1 uid)
          ∙ or_assoc (has text_cmp old uid) (list_any (λ study. is_of_study (take 64 study) (pick_at uid picks))
          (take i studies)) (is_of_study (take 64 x) (pick_at uid picks))
          ∙ ap (λ b. has text_cmp old uid || b) (sym
          (list_any_more (λ study. is_of_study (take 64 study) (pick_at uid picks)) studies i x c.loop-study-test.true
          ∙ ap (λ (t : Text). list_any (λ study. is_of_study (take 64 study) (pick_at uid picks)) (take i studies) ||
          is_of_study (take 64 t) (pick_at uid picks)) (sym c.study-item.is))),
    )
