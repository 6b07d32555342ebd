-- What was put into a site, taken out again.
use Rattle.std.specs.Prelude.{ℕ, List, [], ◌∷◌}
use Rattle.std.specs.FinMap as finmap
use Rattle.std.specs.Borrow.{Bor}
use Rattle.site_state.specs.Site.{Map}

-- a site without the operations of some digests
abbrev pub without : List (Bor (List ℕ)) → Map → Map
without [] m = m
without (d ∷ added) m = finmap.remove (without added m) d.now
