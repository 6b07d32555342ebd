use Rattle.archive_query.proofs.TextLeads.{whole_walk, front_of_key}
use Rattle.archive_query.proofs.walks.text_walk.Goals as goal

-- No wild card stands in the key.
pub returns-then-plain-key : goal.returns-then-plain-key
returns-then-plain-key c = whole_walk c.args.tag c.plain_length-plain.result c.args.key.now c.in_ok-walk.walk
    c.if-plain-key.true c.plain_length-plain.ensures.plain c.in_ok-walk.ensures

-- What stands before the first one is walked.
pub returns : goal.returns
returns c = front_of_key c.args.tag c.plain_length-plain.result c.args.key.now c.needle_of-needle.result
    c.in_ok-walk-2.walk c.plain_length-plain.ensures.plain c.needle_of-needle.ensures c.in_ok-walk-2.ensures
