use Rattle.std.proofs.Common.{◌≡◌, ◌∷◌, [], length, sym, ◌∙◌, arith, rules}
use Rattle.op_shelf.proofs.Schemas.{single}
use Rattle.op_shelf.proofs.Olders.{older_of, parts_of_older}
use Rattle.op_shelf.proofs.schema.is_older.Goals as goal

-- With one table and one index, its parts are those of the older schema.
pub returns-in-len1-len1 : goal.returns-in-len1-len1
returns-in-len1-len1 c =
    let s = c.args.schema.now in
    let one : length c.as_slice.result.now ≡ 1 = search (arith, rules) in
    let other : length c.as_slice-2.result.now ≡ 1 = search (arith, rules) in
    let tables : s.tables ≡ c.table-item.result ∷ [] = sym c.as_slice.ensures ∙ single c.as_slice.result.now
    c.table-item.result one c.table-item.is in
    let indexes : s.indexes ≡ c.index-item.result ∷ [] = sym c.as_slice-2.ensures ∙ single c.as_slice-2.result.now
    c.index-item.result other c.index-item.is in (
      λ told. older_of s c.table-item.result c.index-item.result tables indexes (c.are_older_parts.ensures.0 told),
      λ older. c.are_older_parts.ensures.1 (parts_of_older s c.table-item.result c.index-item.result tables indexes
          older),
    )
