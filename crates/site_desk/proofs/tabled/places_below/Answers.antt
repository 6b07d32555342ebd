use Rattle.std.proofs.Common.{◌≡◌, ℕ, List, Option, IfOk, map, option_map, subst}
use Rattle.json.specs.Value.{value_view}
use Rattle.site_desk.proofs.TabledLaws.{places_again}
use Rattle.site_desk.proofs.tabled.places_below.Goals as goal

-- The places found are those of the names among the columns of the value.
pub returns : goal.returns
returns c =
    subst (λ (places : Option (List ℕ)). IfOk c.places_of.result (λ found. option_map (λ at. at.items) found ≡ places))
    (places_again (λ name. name.now) c.args.heading.now (map value_view c.in-Some.columns.now)
    (value_view c.args.value.now) c.in-Some.ensures)
    c.places_of.ensures
