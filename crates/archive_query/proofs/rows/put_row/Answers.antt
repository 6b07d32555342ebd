use Rattle.std.proofs.Common.{map, sym, subst}
use Rattle.data_set.specs.Written.{IsSet}
use Rattle.data_set.specs.declared.syntax.Syntax.TheVariants.{Explicit}
use Rattle.archive_model.specs.Rows.{value_in_row}
use Rattle.archive_query.proofs.RowSets.{row_is_set}
use Rattle.archive_query.specs.Found.{value_by}
use Rattle.archive_query.proofs.rows.put_row.Goals as goal

-- The elements of a row ascend by tag and fit Explicit VR Little Endian, so they are a data set.
pub of-set-requires : goal.of-set-requires
of-set-requires c =
    subst (IsSet Explicit) (sym c.in_ok-cells.ensures)
    (row_is_set (λ tag. value_in_row (value_by c.args.fixes.now) c.args.called.now c.args.query.now
    (map (λ x. x.now) c.args.contents.now) c.args.first.now tag) c.args.query.now.level)
