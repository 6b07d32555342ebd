use Rattle.operation.proofs.TagLaws.{described_series}
use Rattle.operation.proofs.laws.a_series_is_corrected_by_its_description_alone.Goals as goal

-- A study and a patient do not take the tag, and a series takes no other.
pub returns : goal.returns
returns c = described_series
