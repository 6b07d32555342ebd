use Rattle.std.proofs.Common.{◌≡◌, map, take}
use Rattle.site_tables.proofs.separated.heading_of.Given as goal

-- The cells so far.
abbrev pub invariant-loop-cell : goal.invariant-loop-cell
invariant-loop-cell l = map (λ cell. cell.now) l.cells.items ≡ map (λ cell. cell.now) (take l.cell-index l.heading)
