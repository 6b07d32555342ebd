use Rattle.site_state.proofs.Indexed.{taken_out}
use Rattle.site_state.proofs.whole_site.put_in.Goals as goal

-- The operation was put in last, and is taken out again.
pub returns-in-Err-clause-kept : goal.returns-in-Err-clause-kept
returns-in-Err-clause-kept c =
    taken_out c.args.tree.now.entries c.insert.new.self.entries c.remove.new.self.entries c.args.digest c.args.op
    c.in_ok-insert.ensures.updates.0 c.remove.ensures.updates.0 c.requires.absent
