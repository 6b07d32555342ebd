use Rattle.site_state.proofs.Maps.{none_is_site}
use Rattle.site_state.proofs.Wholes.{recorded_none}
use Rattle.site_state.proofs.whole_site.WholeSite.new.Goals as goal

-- No operation lies under a wrong digest, and no record stands for any.
pub invariant_of-result : goal.invariant_of-result
invariant_of-result c = (
  none_is_site c.new.result.entries c.new.ensures.empty,
  recorded_none c.new.result.entries c.new.ensures.empty c.new-2.result c.new-2.ensures,
)
