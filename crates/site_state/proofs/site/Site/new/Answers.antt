use Rattle.site_state.proofs.Maps.{none_is_site}
use Rattle.site_state.proofs.Tops.{top_none}
use Rattle.site_state.proofs.Indexed.{index_none}
use Rattle.site_state.proofs.Lawful.{none_lawful}
use Rattle.site_state.proofs.site.Site.new.Goals as goal

-- A site that holds nothing has no operation under a wrong digest, the top 0 and an empty index.
pub invariant_of-result : goal.invariant_of-result
invariant_of-result c = (
  none_is_site c.new.result.entries c.new.ensures.empty,
  top_none c.new.result.entries
      c.new.ensures.empty,
  index_none c.new.result.entries _ c.new.ensures.empty c.new-2.ensures,
  none_lawful
      c.new.result.entries c.new.ensures.empty,
)
