use Rattle.std.proofs.Common.{subst}
use Rattle.std.specs.List.{AllByRecursion}
use Rattle.dimse.specs.Cut.{IsData}
use Rattle.dimse.proofs.FragmentsLaws.{all_data}
use Rattle.dimse.proofs.fragments.Fragments.see_data.Goals as goal

-- So is each that a text is cut into.
pub returns : goal.returns
returns c = subst (λ pdus. AllByRecursion IsData pdus) c.self.view_is
    (all_data c.self.inside.size c.self.inside.context c.self.inside.command c.self.inside.body)
