use Rattle.std.proofs.Common.{◌≡◌, ℕ, List, Option, IfOk, option_map, subst}
use Rattle.json.specs.Value.{value_view}
use Rattle.site_desk.proofs.TabledLaws.{rows_again}
use Rattle.site_desk.proofs.tabled.rows_at.Goals as goal

-- The rows found are those of the list of the value.
pub returns : goal.returns
returns c =
    subst (λ (rows : Option (List (List (List ℕ)))).
    IfOk c.rows_in.result (λ found. option_map (λ all. all.items) found ≡ rows))
    (rows_again value_view c.args.places.now c.in-Some.list.now (value_view c.args.value.now) c.in-Some.ensures)
    c.rows_in.ensures
