use Rattle.std.proofs.Common.{refl}
use Rattle.association_session.specs.declared.pending_response.PendingResponse.TheVariants as pendings
use Rattle.association_session.specs.inner.Association.{owing}
use Rattle.association_session.proofs.HearLaws.{ok_map, resumed}
use Rattle.association_session.proofs.association.Association.take_stored.Goals as goal

-- The response is told, and the values stay.
pub returns-clause-turned : goal.returns-clause-turned
returns-clause-turned c = λ titles.
    ok_map c.respond.result _ _
    (λ deeds told. resumed titles (owing c.args.self.now (pendings.Store c.args.awaited.now)) c.args.self.now
    c.args.awaited.now _ c.args.reply c.status_for.result deeds refl refl refl refl c.requires refl refl
    c.status_for.ensures told)
    c.respond.ensures.told
