use Rattle.std.proofs.Common.{◌∙◌, ◌++◌, [], sym, ap, subst, append-nil, map, take, get_or}
use Rattle.std.specs.List.{flat_map}
use Rattle.std.proofs.lemmas.List.{flat_map_more, take_more}
use Rattle.csv.specs.Writing.{row_text}
use Rattle.site_tables.specs.Separated.{tabbed, IsWritten}
use Rattle.site_tables.proofs.separated.separate.Goals as goal

-- The heading is the first record.
pub loop-row-init : goal.loop-row-init
loop-row-init c =
    let same = ap (map (λ cell. cell.now)) c.as_slice.ensures.value ∙ c.in_ok-cells.ensures in
    subst (IsWritten c.put_record.new.writer) (ap (row_text tabbed) same ∙ sym (append-nil _))
    (c.in_ok-put_record.ensures [] c.writer_of-writer.ensures)

-- A record more behind those so far.
pub loop-row-preserved : goal.loop-row-preserved
loop-row-preserved c =
    let rows = c.args.rows.now in let at = c.loop-row.row-index in
    let heading = row_text tabbed (map (λ cell. cell.now) c.args.heading.now) in
    let same = ap (map (λ cell. cell.now)) c.as_slice-in-loop-row.ensures.value ∙ c.in_ok-cells-2.ensures in
    subst (IsWritten c.put_record-in-loop-row.new.writer)
    (ap (λ cells. (heading ++ flat_map (row_text tabbed) (take at rows)) ++ row_text tabbed cells)
    (same ∙ c.row-item.is) ∙ flat_map_more (row_text tabbed) heading (take at rows) (get_or rows at _)
    ∙ ap (λ xs. heading ++ flat_map (row_text tabbed) xs) (sym (take_more rows at _ c.loop-row-test.true)))
    (c.in_ok-put_record-2.ensures _ c.loop-row.invariant)
