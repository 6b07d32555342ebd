use Rattle.std.proofs.Common.{◌≡◌, vec_len}
use Rattle.site_state.specs.Site.{of_entries}
use Rattle.site_state.specs.Journal.{without}
use Rattle.site_state.proofs.tree.take_out.Given as goal

-- what is left to take out leads to where all of it leads
abbrev pub invariant-loop-digest : goal.invariant-loop-digest
invariant-loop-digest l = without l.left.items (of_entries l.tree.entries) ≡ without l.initial.left.items
    (of_entries l.initial.tree.entries)

-- With each turn one digest fewer is left to take out.
abbrev pub decreases-loop-digest : goal.decreases-loop-digest
decreases-loop-digest l = vec_len l.left
