use Rattle.std.proofs.Common.{rules}
use Rattle.study_index.proofs.LeadLaws.{put_in}
use Rattle.study_index.proofs.walk.put.Goals as goal

-- The study was put in.
pub returns : goal.returns
returns c = λ s. search (rules, put_in)
