use Rattle.std.proofs.Common.{subst}
use Rattle.std.specs.Arc.{arc_value}
use Rattle.records.specs.StandIn.{IsStandIn}
use Rattle.records.proofs.StandInLaws.{record_stands}
use Rattle.records.proofs.recorded_content.RecordedContent.see_recorded.Goals as goal

-- A record keeps it true that it is one of a content.
pub returns : goal.returns
returns c = subst IsStandIn c.self.view_is (record_stands (arc_value c.self.inside.record) c.self.invariant)
