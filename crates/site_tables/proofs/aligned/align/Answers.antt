use Rattle.std.proofs.Common.{◌≡◌, ◌∙◌, ◌++◌, ◌∷◌, [], sym, ap, subst, map, length, arith}
use Rattle.std.proofs.lemmas.List.{take_all, length-map}
use Rattle.std.proofs.lemmas.Simd.{map-map}
use Rattle.std.specs.List.{flat_map}
use Rattle.std.specs.String.{string_bytes}
use Rattle.site_tables.specs.Aligned.{shown_text, widths, cells_from}
use Rattle.site_tables.specs.Shown.{AreLines}
use Rattle.site_tables.proofs.ShownLaws.{lines_shown}
use Rattle.site_tables.proofs.aligned.align.Goals as goal

-- The heading and all rows were put, in columns as wide as their widest cells.
pub returns-clause-text : goal.returns-clause-text
returns-clause-text c =
    let texts = c.args.heading.now in let heading = map (λ cell. cell.now) texts in
    let rows = c.args.rows.now in let table = map (map shown_text) (heading ∷ rows) in
    let found = c.as_slice-table.result.now in
    let all : map (λ row. map string_bytes row.items) found ≡ table =
    ap (map (λ row. map string_bytes row.items)) c.as_slice-table.ensures.value ∙ c.loop-row.invariant
    ∙ ap (λ rows. map (λ cell. shown_text cell.now) texts ∷ map (map shown_text) rows)
    (take_all c.loop-row.row-index rows c.loop-row-test.false)
    ∙ ap (λ cells. cells ∷ map (map shown_text) rows) (sym (map-map shown_text (λ cell. cell.now) texts)) in
    let count : c.loop-column.column ≡ length heading =
    omega (arith, length-map texts (λ cell. cell.now), c.loop-column-test.false, c.loop-column.auto.column-end) in
    let sizes : c.loop-column.widths.items ≡ widths (length heading) table =
    c.loop-column.invariant ∙ ap (λ t. widths c.loop-column.column t) all ∙ ap (λ n. widths n table) count in
    c.loop-line.invariant
    ∙ ap (λ rows. flat_map (λ row. cells_from c.loop-column.widths.items 0 row ++ 10 ∷ []) rows)
    (ap (map (λ row. map string_bytes row.items)) (take_all c.loop-line.line-index found c.loop-line-test.false) ∙ all)
    ∙ ap (λ ws. flat_map (λ row. cells_from ws 0 row ++ 10 ∷ []) table) sizes

-- That is a line each, of what a terminal shows.
pub returns-clause-lines : goal.returns-clause-lines
returns-clause-lines c = subst (AreLines _) (sym (returns-clause-text c))
    (lines_shown (map (λ cell. cell.now) c.args.heading.now) c.args.rows.now)
