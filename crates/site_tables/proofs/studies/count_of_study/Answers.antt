use Rattle.std.proofs.Common.{List, ℕ, length, ap, sym, ◌∙◌}
use Rattle.std.specs.List.{filter}
use Rattle.std.specs.Fmt.{decimal}
use Rattle.std.proofs.lemmas.List.{length-map}
use Rattle.operation.specs.Parts.{ContentParts}
use Rattle.site_tables.specs.Under.{pair_of, pairs, is_at}
use Rattle.site_tables.proofs.UnderLaws.{if_ok}
use Rattle.site_tables.proofs.studies.count_of_study.Goals as goal

-- As many entries lie there as contents.
pub returns : goal.returns
returns c =
    let here = filter (is_at c.args.uid.now) (pairs c.args.entries.now) in
    let count = sym (length-map c.run_under.result.now pair_of)
    ∙ ap (λ (ps : List (List ℕ × ContentParts)). length ps) c.run_under.ensures
    ∙ sym (length-map here (λ p. p.1))
    in
    if_ok c.digits.result (λ text e. e ∙ ap decimal count) c.digits.ensures
