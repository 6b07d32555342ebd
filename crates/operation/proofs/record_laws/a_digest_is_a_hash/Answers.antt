use Rattle.operation.proofs.DigestLaws.{own_digest}
use Rattle.operation.proofs.record_laws.a_digest_is_a_hash.Goals as goal

-- A content keeps it true of its parts.
pub returns : goal.returns
returns c = own_digest
