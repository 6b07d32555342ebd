use Rattle.std.proofs.Common.{map, ap, sym, subst, ◌∙◌, ◌≤◌, List, ℕ, length, drop}
use Rattle.std.proofs.lemmas.List.{length-take-le}
use Rattle.site_tables.specs.declared.under.Under.{Under}
use Rattle.site_tables.specs.Under.{is_at, pair_of}
use Rattle.site_tables.proofs.UnderLaws.{points_rise, run_is, filter_of_map}
use Rattle.site_tables.proofs.under.run_under.Goals as goal

-- It begins before it ends.
pub split_at-requires-2 : goal.split_at-requires-2
split_at-requires-2 g c =
    let text = λ (e : Under g.row.T.Denot). e.uid.now in
    let rises = points_rise text c.args.entries.now c.args.uid.now c.start_of-start.result c.end_of.result
    c.start_of-start.ensures.bound c.start_of-start.ensures.start c.end_of.ensures.end
    in
    subst (λ (n : ℕ). c.start_of-start.result ≤ n)
    (sym (ap (λ (es : List (Under g.row.T.Denot)). length es) c.split_at.ensures.front
    ∙ length-take-le c.end_of.result c.args.entries.now c.end_of.ensures.bound)) rises

-- What stands between both places lies under the UID.
pub returns : goal.returns
returns g c =
    let entries = c.args.entries.now in
    let text = λ (e : Under g.row.T.Denot). e.uid.now in
    let rises = points_rise text entries c.args.uid.now c.start_of-start.result c.end_of.result
    c.start_of-start.ensures.bound c.start_of-start.ensures.start c.end_of.ensures.end
    in
    ap (λ (es : List (Under g.row.T.Denot)). map pair_of es)
    (c.split_at-2.ensures.back ∙ ap (λ (es : List (Under g.row.T.Denot)). drop c.start_of-start.result es)
    c.split_at.ensures.front
    ∙ run_is text entries c.args.uid.now c.start_of-start.result c.end_of.result rises c.end_of.ensures.bound
    c.start_of-start.ensures.start c.end_of.ensures.end)
    ∙ sym (filter_of_map pair_of (is_at c.args.uid.now) entries)
