use Rattle.std.proofs.Common.{◌∙◌, ap, sym, List, Bool}
use Rattle.std.specs.Prelude.{◌||◌}
use Rattle.std.specs.List.{list_any}
use mathlib.Core.Bool.{or-false as or_none, or_assoc}
use Rattle.octets.specs.Texts.{text_cmp}
use Rattle.study_index.specs.Keys.{has}
use Rattle.study_index.specs.Live.{Text, pick_at, is_of_study}
use Rattle.archive_query.proofs.candidates.put_each.Goals as goal

-- What is of one study more is in.
pub loop-study-preserved : goal.loop-study-preserved
loop-study-preserved c = λ uid.
    let p : Text → Bool = λ study. is_of_study study (pick_at uid c.args.index.now.picks) in
    let old = has text_cmp c.loop-study.uids.keys uid in
    ap (λ b. b || list_any p c.next.new.self) (c.in_ok-put_study.ensures uid)
    ∙ or_assoc old (p c.in-Some.study.now) (list_any p c.next.new.self)
    ∙ ap (λ (xs : List Text). old || list_any p xs) (sym c.in-Some.ensures.steps)
    ∙ c.loop-study.invariant uid

-- No study is left.
pub returns : goal.returns
returns c = λ uid.
    let p : Text → Bool = λ study. is_of_study study (pick_at uid c.args.index.now.picks) in
    sym (or_none (has text_cmp c.loop-study.uids.keys uid))
    ∙ ap (λ (xs : List Text). has text_cmp c.loop-study.uids.keys uid || list_any p xs) (sym c.in-None.ensures.steps.0)
    ∙ c.loop-study.invariant uid
    ∙ ap (λ (xs : List Text). has text_cmp c.args.uids.now.keys uid || list_any p xs)
    (c.into_iter-study-iterator.ensures.into_iter_gives ∙ c.iter-study-items.ensures.rest)
