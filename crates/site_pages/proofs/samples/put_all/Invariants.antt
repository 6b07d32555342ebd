use Rattle.std.proofs.Common.{◌≡◌, ◌++◌}
use Rattle.site_pages.proofs.samples.put_all.Given as goal

-- The samples so far, with those that are left, are all.
abbrev pub invariant-loop-sample : goal.invariant-loop-sample
invariant-loop-sample l = l.out.items ++ l.sample-iterator.rest.items ≡ l.fn.out.items ++ l.fn.more.items
