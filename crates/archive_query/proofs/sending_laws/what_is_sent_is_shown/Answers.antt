use Rattle.archive_query.proofs.RetrieveLaws.{nothing_hidden, all_shown, sent_ascend}
use Rattle.archive_query.proofs.sending_laws.what_is_sent_is_shown.Goals as goal

-- What is sent is sent of a content that is shown.
pub returns-clause-hidden : goal.returns-clause-hidden
returns-clause-hidden c = nothing_hidden

-- Of each that is shown something is sent.
pub returns-clause-shown : goal.returns-clause-shown
returns-clause-shown c = all_shown

-- What is sent has the UIDs of what is shown and selected, which ascend.
pub returns-clause-ascends : goal.returns-clause-ascends
returns-clause-ascends c = sent_ascend
