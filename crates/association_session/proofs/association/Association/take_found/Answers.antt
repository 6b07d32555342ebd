use Rattle.std.proofs.Common.{refl}
use Rattle.association_session.specs.declared.pending_response.PendingResponse.TheVariants as pendings
use Rattle.association_session.specs.inner.Association.{owing}
use Rattle.association_session.proofs.HearLaws.{found_rows, at_awaited, at_place, at_sub, at_stage, at_queue}
use Rattle.association_session.proofs.association.Association.take_found.Goals as goal

-- The rows of the reply are left to be told.
pub returns-clause-turned : goal.returns-clause-turned
returns-clause-turned c = λ titles.
    found_rows titles (owing c.args.self.now (pendings.Find c.args.awaited c.args.kind)) _ c.args.awaited c.args.kind _
    c.args.reply c.new.result refl (at_place _ _ c.owe.ensures) (at_sub _ _ c.owe.ensures)
    (at_stage _ _ c.owe.ensures) (at_awaited _ _ c.owe.ensures) (at_queue _ _ c.owe.ensures)
    (cc (c.found-rows.ensures.rows, c.found-rows.ensures.status)) c.see_room.ensures c.new.ensures
