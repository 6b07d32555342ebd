use Rattle.std.proofs.Common.{◌≡◌, arith, subst₂, rules}
use Rattle.sqlite.specs.Held.{state}
use Rattle.sqlite.specs.State.{HasCleanDisk}
use Rattle.operation.specs.Spelling.{spelling}
use Rattle.op_shelf.specs.Entries.{entry_by, digest_text}
use Rattle.op_shelf.specs.Group.{HasMended, IsStuck}
use Rattle.op_shelf.specs.States.{IsKnown}
use Rattle.op_shelf.proofs.Groups.{put_one}
use Rattle.op_shelf.proofs.group.put_within.Goals as goal

-- The entry is that of the operation.
pub returns-clause-store : goal.returns-clause-store
returns-clause-store g c clean why bad =
    let name : c.as_bytes.result.now ≡ digest_text c.args.op.now = search rules in
    let body : c.deref.result.now ≡ spelling c.args.op.now = search rules in
    subst₂ (λ d b. IsStuck g.S.Store why c.put_entry_within.new.part.conn.now d (entry_by d b)) name body
    (c.put_entry_within.ensures.store clean why bad)

-- One put is told as that of a group of one.
pub returns-clause-put : goal.returns-clause-put
returns-clause-put g c clean =
    let old = state g.S.Store c.args.part.now.conn.now in
    let new = state g.S.Store c.put_entry_within.new.part.conn.now in
    let early : HasCleanDisk old = omega (arith, c.put_entry_within.ensures.crash.clean, clean) in
    let name : c.as_bytes.result.now ≡ digest_text c.args.op.now = search rules in
    let body : c.deref.result.now ≡ spelling c.args.op.now = search rules in
    put_one old new c.args.op.now c.put_entry_within.result (c.requires.filling early).inside
    (λ is. subst₂ (λ d b. HasMended old new d (entry_by d b)) name body (c.put_entry_within.ensures.new clean is))
    (λ is. subst₂ (λ d b. IsKnown old new d (entry_by d b)) name body (c.put_entry_within.ensures.known clean is))
