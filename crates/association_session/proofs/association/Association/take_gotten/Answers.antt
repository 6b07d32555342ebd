use Rattle.std.proofs.Common.{refl, ◌∙◌, sym}
use Rattle.association_session.specs.declared.pending_response.PendingResponse.TheVariants as pendings
use Rattle.association_session.specs.inner.Association.{owing}
use Rattle.association_session.proofs.HearLaws.{ok_map, gotten_none, gotten_left, at_awaited, at_place, at_sub}
use Rattle.association_session.proofs.HearLaws.{at_stage, at_queue}
use Rattle.association_session.proofs.association.Association.take_gotten.Goals as goal

-- The reply is a fault, or more than can be counted.
pub returns-in_default-clause-turned : goal.returns-in_default-clause-turned
returns-in_default-clause-turned c = λ titles.
    ok_map c.respond.result _ _
    (λ deeds told. gotten_none titles (owing c.args.self.now (pendings.Get c.args.awaited c.args.syntax)) _
    c.args.awaited _ c.args.syntax c.args.reply deeds refl refl refl refl c.requires refl refl
    (sym c.few.ensures.few ∙ c.in_default.is) told)
    c.respond.ensures.told

-- What is to be sent is left to be begun.
pub returns-clause-turned : goal.returns-clause-turned
returns-clause-turned c = λ titles.
    gotten_left titles (owing c.args.self.now (pendings.Get c.args.awaited c.args.syntax)) _ c.args.awaited
    c.args.syntax c.args.reply c.in-Some.listed c.of-retrieval.result c.new.result refl (at_place _ _ c.owe.ensures)
    (at_sub _ _ c.owe.ensures) (at_stage _ _ c.owe.ensures) (at_awaited _ _ c.owe.ensures) (at_queue _ _ c.owe.ensures)
    (sym c.few.ensures.few ∙ c.in-Some.is) c.of-retrieval.ensures c.see_room.ensures c.new.ensures
