use Rattle.std.proofs.Common.{◌≡◌, ℕ, List, [], IfOk, IfSome, IsPermutation, subst, sym, ◌∷◌, rules}
use Rattle.hex.specs.Hex.{encode_lower}
use Rattle.sqlite.specs.Held.{state}
use Rattle.sqlite.specs.Order.{Row}
use Rattle.operation.specs.Spelling.{spelling}
use Rattle.op_shelf.specs.Entries.{entry_by, entry_under}
use Rattle.op_shelf.specs.Loading.{AreAmiss, at_digest}
use Rattle.op_shelf.specs.States.{rows_of, under}
use Rattle.op_shelf.proofs.Loads.{found_in, amiss_in}
use Rattle.op_shelf.proofs.Ops.{none_in}
use Rattle.op_shelf.proofs.loading.read_op.Goals as goal

-- The one entry that is shown stands alone, and under the text of the digest.
pub returns-clause-found : goal.returns-clause-found
returns-clause-found g c clean =
    let digest = c.args.digest.now in
    let rows = rows_of (state g.S.Store c.args.database.now) in
    let name : c.as_str.result.now ≡ encode_lower digest = search rules in
    let bytes : c.as_bytes.result.now ≡ encode_lower digest = search rules in
    let same = subst (λ d. IsPermutation (under d rows) c.in_ok-held.held.items) name (c.in_ok-held.ensures.rows clean) in
    let found = subst (λ (text : List ℕ). IfOk c.read_in.result
    (λ found. IfSome found (λ op. c.deref.result.now ≡ entry_by text (spelling op) ∷ []))) bytes c.read_in.ensures.found in
    found_in (entry_under digest) (at_digest digest rows) c.in_ok-held.held.items c.read_in.result same
    (subst (λ (shown : List Row). IfOk c.read_in.result (λ found. IfSome found (λ op. shown ≡ entry_under digest op ∷ [])))
    c.deref.ensures.value found)

-- No entry is shown where none is there.
pub returns-clause-none : goal.returns-clause-none
returns-clause-none g c clean none =
    let rows = rows_of (state g.S.Store c.args.database.now) in
    let name : c.as_str.result.now ≡ encode_lower c.args.digest.now = search rules in
    let same = subst (λ d. IsPermutation (under d rows) c.in_ok-held.held.items) name (c.in_ok-held.ensures.rows clean) in
    none_in (at_digest c.args.digest.now rows) c.in_ok-held.held.items same
    (subst (λ (shown : List Row). shown ≡ []) c.deref.ensures.value (c.read_in.ensures.none none))

-- What is shown amiss is so in the table.
pub returns-clause-bad_row : goal.returns-clause-bad_row
returns-clause-bad_row g c clean bad =
    let rows = rows_of (state g.S.Store c.args.database.now) in
    let bytes : c.as_bytes.result.now ≡ encode_lower c.args.digest.now = search rules in
    let name : c.as_str.result.now ≡ encode_lower c.args.digest.now = search rules in
    let same = subst (λ d. IsPermutation (under d rows) c.in_ok-held.held.items) name (c.in_ok-held.ensures.rows clean) in
    amiss_in c.args.digest.now (at_digest c.args.digest.now rows) c.in_ok-held.held.items same
    (subst (AreAmiss c.args.digest.now) c.deref.ensures.value (c.read_in.ensures.bad bad c.args.digest.now (sym bytes)))
