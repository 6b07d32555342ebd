use Rattle.std.proofs.Common.{◌∙◌, ap, sym, List}
use Rattle.std.specs.Prelude.{◌&&◌, ◌||◌}
use Rattle.std.specs.BTreeMap.{is_at}
use Rattle.octets.specs.Texts.{text_cmp}
use Rattle.study_index.specs.Keys.{has}
use Rattle.study_index.specs.Live.{Text, pick_at, is_of_series}
use Rattle.archive_query.proofs.PutIn.{one_more, no_more}
use Rattle.archive_query.proofs.candidates.put_instances.Goals as goal

-- One instance more is in.
pub loop-one-preserved : goal.loop-one-preserved
loop-one-preserved c = λ uid.
    let p = is_of_series c.args.study.now c.args.series.now (pick_at uid c.args.index.now.picks) in
    let old = has text_cmp c.loop-one.uids.keys uid in
    ap (λ b. b || (p && has text_cmp c.next.new.self uid)) (c.in_ok-put_instance.ensures uid)
    ∙ one_more old p (is_at (text_cmp uid) c.in-Some.one.now) (has text_cmp c.next.new.self uid)
    ∙ ap (λ (xs : List Text). old || (p && has text_cmp xs uid)) (sym c.in-Some.ensures.steps)
    ∙ c.loop-one.invariant uid

-- None is left.
pub returns : goal.returns
returns c = λ uid.
    let p = is_of_series c.args.study.now c.args.series.now (pick_at uid c.args.index.now.picks) in
    no_more (has text_cmp c.loop-one.uids.keys uid) p
    ∙ ap (λ (xs : List Text). has text_cmp c.loop-one.uids.keys uid || (p && has text_cmp xs uid))
    (sym c.in-None.ensures.steps.0)
    ∙ c.loop-one.invariant uid
    ∙ ap (λ (xs : List Text). has text_cmp c.args.uids.now.keys uid || (p && has text_cmp xs uid))
    (c.into_iter-one-iterator.ensures.into_iter_gives ∙ c.iter-one-items.ensures.rest)
