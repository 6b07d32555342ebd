use Rattle.std.proofs.Common.{◌≡◌, length}
use Rattle.std.specs.List.Sorted.{IsStrictlySortedBy}
use Rattle.std.specs.Map.{keys_of}
use Rattle.site_state.specs.Site.{digest_cmp, of_entries}
use Rattle.site_state.specs.Union.{union}
use Rattle.site_state.specs.Journal.{without}
use Rattle.site_state.proofs.tree.add_copies.Given as goal

-- with what is left all is added, and the notes lead back
abbrev pub invariant-loop-digest : goal.invariant-loop-digest
invariant-loop-digest l = record {
  joined : union (of_entries l.tree.entries) (of_entries l.rest) ≡ union (of_entries l.fn.tree.entries)
      (of_entries l.source.entries);
  ascend : IsStrictlySortedBy digest_cmp (keys_of l.rest);
  back : without l.added.items (of_entries l.tree.entries) ≡ of_entries l.fn.tree.entries;
}

abbrev pub decreases-loop-digest : goal.decreases-loop-digest
decreases-loop-digest l = length l.rest
