use Rattle.std.proofs.Common.{◌≡◌, map, drop}
use Rattle.json.specs.Value.{value_view}
use Rattle.site_desk.specs.Tabled.{place_from}
use Rattle.site_desk.proofs.tabled.place_of.Given as goal

-- No column so far has the name: the first is among those that are left.
abbrev pub invariant-loop-column : goal.invariant-loop-column
invariant-loop-column l = (l.place ≡ l.column-index)
    × (place_from l.name l.place (map value_view (drop l.column-index l.columns))
    ≡ place_from l.name 0 (map value_view l.columns))
