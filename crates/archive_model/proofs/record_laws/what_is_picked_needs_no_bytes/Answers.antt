use Rattle.archive_model.proofs.Alike.{same_digests, same_contents, same_picks, same_flagged}
use Rattle.archive_model.proofs.record_laws.what_is_picked_needs_no_bytes.Goals as goal

-- A record has the digest.
pub returns-clause-digests : goal.returns-clause-digests
returns-clause-digests c = same_digests

-- Each record has what is kept of its content.
pub returns-clause-contents : goal.returns-clause-contents
returns-clause-contents c = same_contents

-- The pick is the first content of its UID, and the UID is kept.
pub returns-clause-picks : goal.returns-clause-picks
returns-clause-picks c = same_picks

-- As many contents are kept of each UID.
pub returns-clause-flagged : goal.returns-clause-flagged
returns-clause-flagged c = same_flagged
