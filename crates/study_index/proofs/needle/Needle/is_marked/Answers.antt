use Rattle.std.proofs.Common.{sym, ap, ◌∙◌}
use Rattle.study_index.specs.Leads.{may_have}
use Rattle.study_index.proofs.MarkLaws.{lacking}
use Rattle.study_index.proofs.needle.Needle.is_marked.Goals as goal

-- A run stands in no value that lacks one of its marks.
pub returns : goal.returns
returns c = record {
  lacking = λ value of e. ap (λ run. may_have run value) (sym c.self.view_is) ∙ lacking c.self.inside.run value c.self.inside.marks c.args.marks c.self.invariant of e;
}
