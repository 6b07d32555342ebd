use Rattle.std.proofs.Common.{◌∙◌}
use Rattle.site_state.specs.Site.{of_entries}
use Rattle.site_state.proofs.Unions.{last_added, all_added}
use Rattle.site_state.proofs.tree.add_copies.Goals as goal

-- The last entry that was left was added, and the others are left.
pub loop-digest-preserved : goal.loop-digest-preserved
loop-digest-preserved c =
    let added = last_added (of_entries c.loop-digest.tree.entries) (of_entries c.add_copy.new.tree.entries)
    c.in-Some.digest.now c.in-Some.op.now c.loop-digest.rest c.next_back.new.self c.in_default-add_copy.ensures.ok
    c.loop-digest.invariant.ascend c.in-Some.ensures.steps in
    record {
      joined = added.0 ∙ c.loop-digest.invariant.joined;
      ascend = added.1;
      back = c.add_copy.ensures.noted ∙ c.loop-digest.invariant.back;
    }

-- All are added.
pub returns-clause-ok : goal.returns-clause-ok
returns-clause-ok c =
    all_added (of_entries c.loop-digest.tree.entries) c.loop-digest.rest c.in_default.ensures.steps.0
    ∙ c.loop-digest.invariant.joined
