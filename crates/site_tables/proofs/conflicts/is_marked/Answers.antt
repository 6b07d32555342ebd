use Rattle.std.proofs.Common.{List, ℕ, length, not, ap, sym, ◌∙◌}
use Rattle.std.specs.Prelude.{◌==◌}
use Rattle.std.specs.List.{filter}
use Rattle.std.proofs.lemmas.List.{length-map}
use Rattle.site_tables.specs.Under.{pair_of, pairs, is_at}
use Rattle.site_tables.proofs.conflicts.is_marked.Goals as goal

-- As many entries lie there as texts.
pub returns : goal.returns
returns c =
    let here = filter (is_at c.args.uid.now) (pairs c.args.marks.now) in
    let count = sym (length-map c.run_under.result.now pair_of)
    ∙ ap (λ (ps : List (List ℕ × List ℕ)). length ps) c.run_under.ensures
    ∙ sym (length-map here (λ p. p.1))
    in
    ap not c.is_empty.ensures ∙ ap (λ (n : ℕ). not (n == 0)) count
