use Rattle.std.proofs.Common.{◌∙◌, ap, Some}
use Rattle.std.specs.BTreeSet.{insert_key}
use Rattle.octets.specs.Texts.{text_cmp}
use Rattle.join_laws.specs.Least.{least_of}
use Rattle.join_laws.specs.MapOf.{put_joined}
use Rattle.study_index.specs.Live.{pick_cmp}
use Rattle.study_index.specs.Index.{copy_cmp}
use Rattle.study_index.proofs.adding.add_content.Goals as goal

-- The copy was taken in last, and is taken back.
pub returns-in-Err-clause-copies_kept : goal.returns-in-Err-clause-copies_kept
returns-in-Err-clause-copies_kept c = c.undo.ensures c.args.copies.now c.held.ensures c.in_ok-undo.ensures.undo
    c.in_ok-undo.ensures.ok

-- The copy is that of the content.
pub returns-clause-copies : goal.returns-clause-copies
returns-clause-copies c =
    c.in_ok-undo.ensures.ok ∙ ap (insert_key copy_cmp c.args.copies.now) c.in_ok-copy.ensures

-- The pick is that of the content, under its instance.
pub returns-clause-picks : goal.returns-clause-picks
returns-clause-picks c =
    c.in_default.ensures.ok
    ∙ ap (λ i. put_joined text_cmp (least_of pick_cmp) c.args.live.now i (Some c.in_ok-pick.pick))
    (c.whole.ensures ∙ c.instance.ensures.value)
    ∙ ap (λ p. put_joined text_cmp (least_of pick_cmp) c.args.live.now c.args.content.now.instance (Some p))
    c.in_ok-pick.ensures
