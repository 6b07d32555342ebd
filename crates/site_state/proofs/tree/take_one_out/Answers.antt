use Rattle.site_state.proofs.Journals.{removed}
use Rattle.site_state.proofs.tree.take_one_out.Goals as goal

-- What the tree has no more, the map has no more.
pub returns : goal.returns
returns c = removed c.args.tree.now.entries c.remove.new.self.entries c.args.digest.now c.remove.ensures.updates.0
