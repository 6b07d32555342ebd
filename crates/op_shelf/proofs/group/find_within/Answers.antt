use Rattle.std.proofs.Common.{◌≡◌, ◌≢◌, ◌<◌, All, Any, length, subst}
use Rattle.std.proofs.lemmas.List.Sorted.{All-permutation, IsPermutation-sym}
use Rattle.sqlite.specs.Held.{state}
use Rattle.op_shelf.specs.Entries.{IsWhole, entry_by}
use Rattle.op_shelf.specs.States.{rows_of, under}
use Rattle.op_shelf.proofs.Ops.{any_in}
use Rattle.op_shelf.proofs.Puts.{known_from}
use Rattle.op_shelf.proofs.group.find_within.Goals as goal

-- What is shown is what is there.
pub returns-clause-spoiled : goal.returns-clause-spoiled
returns-clause-spoiled g c clean none =
    let all = under c.args.digest.now (rows_of (state g.S.Store c.args.part.now.conn.now)) in
    let rows = c.in_ok-held.held.items in
    All-permutation (λ e. ¬ IsWhole e) rows all (IsPermutation-sym all rows (c.in_ok-held.ensures.rows clean))
    (subst (All (λ e. ¬ IsWhole e)) c.deref.ensures.value (c.find_in.ensures.spoiled none))

-- All rows that are shown are the entry.
pub returns-clause-known : goal.returns-clause-known
returns-clause-known g c clean there =
    let some : 0 < length c.in_ok-held.held.items = subst (λ r. 0 < length r) c.deref.ensures.value
    (c.find_in.ensures.found there) in
    let all : All (λ e. e ≡ entry_by c.args.digest.now c.args.body.now) c.in_ok-held.held.items =
    subst (λ r. All (λ e. e ≡ entry_by c.args.digest.now c.args.body.now) r) c.deref.ensures.value
    (c.find_in.ensures.alone there) in
    known_from (state g.S.Store c.args.part.now.conn.now) (state g.S.Store c.held_within.new.part.conn.now)
    c.args.digest.now
    (entry_by c.args.digest.now c.args.body.now)
    c.in_ok-held.held.items (c.in_ok-held.ensures.rows clean) some all (c.in_ok-held.ensures.same clean)

-- Another row that is shown is in the table, and so is one that has its bytes.
pub returns-clause-bad_row : goal.returns-clause-bad_row
returns-clause-bad_row g c clean bad =
    let entry = entry_by c.args.digest.now c.args.body.now in
    let all = under c.args.digest.now (rows_of (state g.S.Store c.args.part.now.conn.now)) in
    let found = c.find_in.ensures.other bad in (
      any_in (λ e. e ≢ entry) all c.in_ok-held.held.items (c.in_ok-held.ensures.rows clean)
          (subst (Any (λ e. e ≢ entry)) c.deref.ensures.value found.0),
      any_in IsWhole all c.in_ok-held.held.items (c.in_ok-held.ensures.rows clean)
          (subst (Any IsWhole) c.deref.ensures.value found.1),
    )
