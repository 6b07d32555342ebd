use Rattle.std.proofs.Common.{length, ap, ◌∙◌}
use Rattle.sha2.proofs.Facts256.{length-sha256}
use Rattle.operation.specs.Spelling.{hash_of, spelling}
use Rattle.op_log.proofs.staging.stage_one.Goals as goal

-- A digest has 32 bytes.
pub stage_parts-requires-clause-digest : goal.stage_parts-requires-clause-digest
unfolding hash_of
stage_parts-requires-clause-digest g c = ap length c.digest.ensures.hash ∙ length-sha256 (spelling c.args.op.now)
