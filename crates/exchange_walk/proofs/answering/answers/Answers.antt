use Rattle.std.proofs.Common.{◌++◌, take, ap, ◌∙◌, arith}
use Rattle.std.specs.List.{flat_map}
use Rattle.exchange_walk.specs.Answers.{answers_to, all_answers}
use Rattle.exchange_walk.proofs.Lists.{joined_more, joined_full, front_fits}
use Rattle.exchange_walk.proofs.answering.answers.Goals as goal

-- There is no room for more.
pub returns-then-len-gt-MOST_ENTRIES : goal.returns-then-len-gt-MOST_ENTRIES
unfolding all_answers
returns-then-len-gt-MOST_ENTRIES c = joined_full 4097 (answers_to c.args.site.now) c.loop-entry.entries.items
    c.args.heard.now c.loop-entry.entry-index c.loop-entry.invariant
    (omega (arith, c.if-len-gt-MOST_ENTRIES.true, c.len.ensures))

-- One entry more is answered.
pub loop-entry-preserved : goal.loop-entry-preserved
loop-entry-preserved c = joined_more 4097 (answers_to c.args.site.now) c.loop-entry.entries.items
    c.put_answers.new.entries.items c.args.heard.now c.loop-entry.entry-index c.entry-item.result
    (omega (arith, c.loop-entry-test.true, c.loop-entry.auto.entry-index-end)) c.loop-entry.invariant
    (c.in_ok-put_answers.ensures ∙ ap (λ e. take 4097 (c.loop-entry.entries.items ++ answers_to c.args.site.now e)) c.entry-item.is)

-- All are answered.
pub returns : goal.returns
unfolding all_answers
returns c = c.loop-entry.invariant ∙ ap (λ es. take 4097 (flat_map (answers_to c.args.site.now) es))
    (front_fits c.loop-entry.entry-index c.args.heard.now
    (omega (arith, c.loop-entry-test.false, c.loop-entry.auto.entry-index-end)))
