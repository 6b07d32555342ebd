use Rattle.std.proofs.Common.{subst}
use Rattle.operation.specs.Contents.{IsContent}
use Rattle.operation.proofs.Bounds.{body_short}
use Rattle.operation.proofs.content.Content.body.Goals as goal

-- A content keeps it true of its parts that its data set is short.
pub returns-clause-short : goal.returns-clause-short
returns-clause-short c = body_short _ c.self.invariant.0

-- The parts behind the model are those that the type keeps a content.
pub returns-clause-content : goal.returns-clause-content
returns-clause-content c = subst IsContent c.self.view_is c.self.invariant.0
