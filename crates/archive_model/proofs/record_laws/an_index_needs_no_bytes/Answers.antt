use Rattle.archive_model.proofs.Alike.{same_pick_digests, same_copies, same_titles, same_fixes}
use Rattle.archive_model.proofs.record_laws.an_index_needs_no_bytes.Goals as goal

-- The digest of a pick is kept.
pub returns-clause-picks : goal.returns-clause-picks
returns-clause-picks c = same_pick_digests

-- So are those of all contents of a UID.
pub returns-clause-copies : goal.returns-clause-copies
returns-clause-copies c = same_copies

-- The note is kept.
pub returns-clause-titles : goal.returns-clause-titles
returns-clause-titles c = same_titles

-- Corrections are kept whole.
pub returns-clause-fixes : goal.returns-clause-fixes
returns-clause-fixes c = same_fixes
