use Rattle.std.proofs.Common.{◌≡◌, map, take}
use Rattle.site_tables.proofs.under.held_by.Given as goal

-- What was found is held by the entries so far.
abbrev pub invariant-loop-entry : goal.invariant-loop-entry
invariant-loop-entry g l = map (λ t. t.now) l.found.items ≡ map (λ e. e.held.now) (take l.entry-index l.run)
