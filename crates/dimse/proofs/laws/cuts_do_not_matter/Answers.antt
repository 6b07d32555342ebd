use Rattle.dimse.proofs.CutLaws.{same_however_cut}
use Rattle.dimse.proofs.laws.cuts_do_not_matter.Goals as goal

-- Each run answers as the run over its texts does, and those are the same.
pub returns : goal.returns
returns c = λ contexts pdvs others end other_end answers other_answers same run memory other_run other_memory.
    same_however_cut contexts pdvs others end other_end answers other_answers same run memory other_run other_memory
