use Rattle.archive_query.proofs.RetrieveLaws.{sent_has_attributes, sent_keeps_others}
use Rattle.archive_query.proofs.sending_laws.what_is_sent_reads_again_corrected.Goals as goal

-- A text has one reading, and it is that of the coerced elements.
pub returns-clause-attributes : goal.returns-clause-attributes
returns-clause-attributes c = sent_has_attributes

-- Nothing is put in for any other tag.
pub returns-clause-others : goal.returns-clause-others
returns-clause-others c = sent_keeps_others
