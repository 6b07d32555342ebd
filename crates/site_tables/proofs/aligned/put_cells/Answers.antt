use Rattle.std.proofs.Common.{◌≡◌, ◌∙◌, ◌++◌, ◌∷◌, [], ◌+◌, ◌==◌, if◌then◌else◌, sym, ap}
use Rattle.std.proofs.Common.{map, drop, get_or, length, arith}
use Rattle.std.proofs.lemmas.List.{drop_more, length-map, length-drop}
use Rattle.std.specs.String.{string_bytes}
use Rattle.site_tables.specs.Aligned.{cells_from, gap}
use Rattle.site_tables.proofs.AlignedLaws.{cells_more}
use Rattle.site_tables.proofs.aligned.put_cells.Goals as goal

-- One cell more was put, and what parts it from the next where it is not the last.
pub loop-column-preserved : goal.loop-column-preserved
loop-column-preserved c =
    let column = c.loop-column.column in let cell = c.index-row-column.result in
    let sizes = c.args.widths.now in let row = c.args.row.now in
    let old = c.loop-column.out.items in let others = drop (column + 1) row in let rest = map string_bytes others in
    let count : length rest + (column + 1) ≡ length row =
    omega (arith, length-map others string_bytes, length-drop (column + 1) row, c.loop-column-test.true) in
    let left : map string_bytes (drop column row) ≡ string_bytes cell ∷ rest =
    ap (map string_bytes) (drop_more row column cell c.loop-column-test.true)
    ∙ ap (λ x. string_bytes x ∷ rest) (sym c.index-row-column.is) in
    let put : c.put_cell.new.out.items ≡ old ++ string_bytes cell
    ++ (if column + 1 == length row then [] else gap (get_or sizes column 0) (string_bytes cell)) =
    rw (sym c.width_at.ensures, sym c.as_str.ensures.value) c.in_ok-put_cell.ensures in
    ap (λ t. t ++ cells_from sizes (column + 1) rest) put
    ∙ sym (cells_more sizes column (length row) old (string_bytes cell) rest count)
    ∙ ap (λ cells. old ++ cells_from sizes column cells) (sym left) ∙ c.loop-column.invariant
