use Rattle.archive_server.proofs.OnwardLaws.{all_self}
use Rattle.archive_server.proofs.serve.serve_on.Goals as goal

-- With no memory for the jobs the passes come back as they came.
pub returns-in_default-clause-back : goal.returns-in_default-clause-back
returns-in_default-clause-back g c = rw c.refused.ensures.passes (all_self _ _)

-- With none for what is remembered they do likewise.
pub returns-in_default-new-clause-back : goal.returns-in_default-new-clause-back
returns-in_default-new-clause-back g c = rw c.refused-in_default-new.ensures.passes (all_self _ _)

-- And with none for those who hash.
pub returns-in_default-new-2-clause-back : goal.returns-in_default-new-2-clause-back
returns-in_default-new-2-clause-back g c = rw c.refused-in_default-new-2.ensures.passes (all_self _ _)
