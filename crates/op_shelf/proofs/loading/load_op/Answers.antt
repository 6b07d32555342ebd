use Rattle.std.proofs.Common.{◌≡◌, List, [], IfOk, IfSome, IsPermutation, subst, ◌∷◌, rules}
use Rattle.hex.specs.Hex.{encode_lower}
use Rattle.sqlite.specs.Held.{state}
use Rattle.sqlite.specs.Order.{Row}
use Rattle.op_shelf.specs.Entries.{entry_of}
use Rattle.op_shelf.specs.Loading.{AreAmiss, at_digest}
use Rattle.op_shelf.specs.States.{rows_of, under}
use Rattle.op_shelf.proofs.Loads.{found_in, amiss_in}
use Rattle.op_shelf.proofs.Ops.{none_in}
use Rattle.op_shelf.proofs.loading.load_op.Goals as goal

-- The one entry that is shown stands alone.
pub returns-clause-found : goal.returns-clause-found
returns-clause-found g c clean =
    let rows = rows_of (state g.S.Store c.args.database.now) in
    let name : c.as_str.result.now ≡ encode_lower c.args.digest.now = search rules in
    let same = subst (λ d. IsPermutation (under d rows) c.in_ok-held.held.items) name (c.in_ok-held.ensures.rows clean) in
    found_in entry_of (at_digest c.args.digest.now rows) c.in_ok-held.held.items c.op_in.result same
    (subst (λ (shown : List Row). IfOk c.op_in.result (λ found. IfSome found (λ op. shown ≡ entry_of op ∷ [])))
    c.deref.ensures.value c.op_in.ensures.found)

-- No entry is shown where none is there.
pub returns-clause-none : goal.returns-clause-none
returns-clause-none g c clean none =
    let rows = rows_of (state g.S.Store c.args.database.now) in
    let name : c.as_str.result.now ≡ encode_lower c.args.digest.now = search rules in
    let same = subst (λ d. IsPermutation (under d rows) c.in_ok-held.held.items) name (c.in_ok-held.ensures.rows clean) in
    none_in (at_digest c.args.digest.now rows) c.in_ok-held.held.items same
    (subst (λ (shown : List Row). shown ≡ []) c.deref.ensures.value (c.op_in.ensures.none none))

-- What is shown amiss is so in the table.
pub returns-clause-bad_row : goal.returns-clause-bad_row
returns-clause-bad_row g c clean bad =
    let rows = rows_of (state g.S.Store c.args.database.now) in
    let name : c.as_str.result.now ≡ encode_lower c.args.digest.now = search rules in
    let same = subst (λ d. IsPermutation (under d rows) c.in_ok-held.held.items) name (c.in_ok-held.ensures.rows clean) in
    amiss_in c.args.digest.now (at_digest c.args.digest.now rows) c.in_ok-held.held.items same
    (subst (AreAmiss c.args.digest.now) c.deref.ensures.value (c.op_in.ensures.bad bad))
