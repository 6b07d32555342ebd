use Rattle.std.proofs.Common.{ap, ◌∙◌}
use Rattle.site_state.specs.Site.{index_with}
use Rattle.site_state.proofs.Indexed.{put_there, taken_out}
use Rattle.site_state.proofs.tree.take_in.Goals as goal

-- The operation was taken into the index.
pub returns-clause-indexed : goal.returns-clause-indexed
returns-clause-indexed c =
    c.in_default.ensures.ok ∙ ap (index_with c.args.index.now)
    (put_there c.args.tree.now.entries c.insert.new.self.entries c.args.digest c.args.op
    c.in_ok-insert.ensures.updates.0)

-- The operation was put in last, and is taken out again.
pub returns-in-Err-clause-kept : goal.returns-in-Err-clause-kept
returns-in-Err-clause-kept c =
    taken_out c.args.tree.now.entries c.insert.new.self.entries c.remove.new.self.entries c.args.digest c.args.op
    c.in_ok-insert.ensures.updates.0 c.remove.ensures.updates.0 c.requires.absent
