use Rattle.std.proofs.Common.{map, ap, sym, ◌∙◌, List, ℕ}
use Rattle.site_tables.specs.Under.{pair_of}
use Rattle.site_tables.proofs.UnderLaws.{map_of_map, if_ok}
use Rattle.site_tables.proofs.under.those_under.Goals as goal

-- What the entries of the UID hold lies under it.
pub returns : goal.returns
returns g c =
    if_ok c.held_by.result (λ found e. e ∙ sym (map_of_map (λ p. p.1) pair_of c.run_under.result.now)
    ∙ ap (λ (ps : List (List ℕ × g.row.T.Denot)). map (λ p. p.1) ps) c.run_under.ensures) c.held_by.ensures
