use Rattle.std.proofs.Common.{ap, ◌++◌, ◌∙◌}
use Rattle.pdu.specs.Spelling.{item_text, HasLength, FitsAnswer, answer_item}
use Rattle.pdu.proofs.Lists.{all_at, all_map_at, item_put}
use Rattle.pdu.proofs.writer.put_answers.Goals as goal

-- Each context fits, as all do.
pub put_answer-requires-clause-parts : goal.put_answer-requires-clause-parts
put_answer-requires-clause-parts c = (all_at FitsAnswer c.args.contexts.now c.loop-context.context-index
    c.context-item.result c.requires.parts c.loop-context-test.true c.context-item.is).lengths

-- Its item has a length of two bytes, as each has.
pub put_answer-requires-clause-whole : goal.put_answer-requires-clause-whole
put_answer-requires-clause-whole c = all_map_at HasLength answer_item c.args.contexts.now c.loop-context.context-index
    c.context-item.result c.requires.whole c.loop-context-test.true c.context-item.is

-- The item goes behind those that are written.
pub loop-context-preserved : goal.loop-context-preserved
loop-context-preserved c =
    c.in_ok-put_answer.ensures ∙ ap (λ t. t ++ item_text (answer_item c.context-item.result)) c.loop-context.invariant
    ∙ item_put item_text answer_item c.args.out.now.items c.args.contexts.now c.loop-context.context-index
    c.context-item.result c.loop-context-test.true c.context-item.is
