use Rattle.std.proofs.Common.{sym, ap, ◌∙◌, None}
use Rattle.std.specs.Prelude.{◌||◌}
use Rattle.std.specs.Option.{option_copied}
use Rattle.octets.specs.Texts.{text_cmp}
use Rattle.study_index.specs.Keys.{has}
use Rattle.study_index.proofs.Doubles.{repeats, seen, all_counted, or_none}
use Rattle.study_index.proofs.copies.put_doubled.Goals as goal

-- One copy more was looked at.
pub loop-copy-preserved : goal.loop-copy-preserved
loop-copy-preserved c = λ uid.
    let before = option_copied c.loop-copy.before in
    let old = c.loop-copy.uids.keys in
    seen before c.in-Some.copy.now c.next.new.self old c.put_next.new.uids.keys uid (c.in_ok-put_next.ensures uid)
    ∙ ap (λ cs. has text_cmp old uid || repeats before cs uid) (sym c.in-Some.ensures.steps)
    ∙ c.loop-copy.invariant uid

-- All copies were looked at, and they stand side by side.
pub returns : goal.returns
returns c = λ uid.
    let before = option_copied c.loop-copy.before in
    let keys = c.args.copies.now.keys in
    or_none (has text_cmp c.loop-copy.uids.keys uid)
    ∙ ap (λ cs. has text_cmp c.loop-copy.uids.keys uid || repeats before cs uid) (sym c.in-None.ensures.steps.0)
    ∙ c.loop-copy.invariant uid
    ∙ ap (λ cs. has text_cmp c.args.uids.now.keys uid || repeats None cs uid)
    (c.into_iter-copy-iterator.ensures.into_iter_gives ∙ c.iter-copy-items.ensures.rest)
    ∙ ap (λ b. has text_cmp c.args.uids.now.keys uid || b) (all_counted keys uid c.iter-copy-items.ensures.ordered)
