use Rattle.std.proofs.Common.{◌≡◌, [], map, drop}
use Rattle.json.specs.Value.{value_view}
use Rattle.site_desk.specs.Tabled.{gathered, place_from}
use Rattle.site_desk.proofs.tabled.places_of.Given as goal

-- The places so far, and those of the names that are left, are those of the heading.
abbrev pub invariant-loop-name : goal.invariant-loop-name
invariant-loop-name l =
    gathered l.places.items
    (map (λ name. place_from name.now 0 (map value_view l.columns)) (drop l.name-index l.heading))
    ≡ gathered [] (map (λ name. place_from name.now 0 (map value_view l.columns)) l.heading)
