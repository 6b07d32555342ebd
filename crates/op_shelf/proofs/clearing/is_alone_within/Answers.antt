use Rattle.std.proofs.Common.{◌≡◌, ◌∙◌, length, map, sym, arith, rules}
use Rattle.std.proofs.lemmas.List.{length-map}
use Rattle.std.proofs.lemmas.List.Sorted.{length_permutation}
use Rattle.sqlite.specs.Held.{state}
use Rattle.op_shelf.specs.Group.{rows_at, shown_id}
use Rattle.op_shelf.specs.States.{rows_of}
use Rattle.op_shelf.proofs.clearing.is_alone_within.Goals as goal

-- As many rows are shown as have the rowid.
pub returns-clause-alone : goal.returns-clause-alone
returns-clause-alone g c clean alone n is =
    let all = rows_at n (rows_of (state g.S.Store c.args.part.now.conn.now)) in
    let rows = c.in_ok-rows.rows.items in
    let one : length rows ≡ 1 = search (alone, arith, rules) in
    sym (length-map all shown_id)
    ∙ (sym (length_permutation (map shown_id all) rows (c.in_ok-rows.ensures.rows clean n is)) ∙ one)
