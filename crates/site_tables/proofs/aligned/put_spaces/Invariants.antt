use Rattle.std.proofs.Common.{◌≡◌, ◌++◌, replicate}
use Rattle.site_tables.proofs.aligned.put_spaces.Given as goal

-- So many spaces stand behind what was there.
abbrev pub invariant-loop : goal.invariant-loop
invariant-loop l = l.out.items ≡ l.fn.out.items ++ replicate l.counter 32
