use Rattle.std.proofs.Common.{Bool, refl, subst}
use Rattle.std.proofs.lemmas.List.{nil_from_length as empty_of}
use Rattle.association_session.specs.declared.pending_response.PendingResponse.TheVariants as pendings
use Rattle.association_session.specs.inner.Telling.{TellsTurn}
use Rattle.association_session.specs.inner.Association.{owing}
use Rattle.association_session.proofs.HearLaws.{at_awaited, at_place, at_sub, at_stage, at_queue}
use Rattle.association_session.proofs.TellLaws.{told_some, told_all}
use Rattle.association_session.proofs.association.Association.tell_rows.Goals as goal

-- The last rows are told, and their end.
pub returns-then-ended-clause-turned : goal.returns-then-ended-clause-turned
returns-then-ended-clause-turned c = λ titles.
    let t = c.args.telling in
    let all = subst (λ (b : Bool). TellsTurn t.awaited t.kind t.status t.rows c.tell.new.rows b c.in_ok-deeds.deeds)
    c.if-ended.true c.in_ok-deeds.ensures.told in
    told_all titles (owing c.args.self.now (pendings.Rows t)) _ t.awaited t.kind t.rows c.tell.new.rows t.status all.0
    c.in_ok-deeds.deeds refl refl refl refl c.requires refl all.1 (empty_of c.tell.new.rows all.3) all.2

-- Some rows are told, and the others are left.
pub returns-clause-turned : goal.returns-clause-turned
returns-clause-turned c = λ titles.
    let t = c.args.telling in
    told_some titles (owing c.args.self.now (pendings.Rows t)) _ t.awaited t.kind t.rows c.tell.new.rows t.status
    c.in_ok-deeds.deeds refl (at_place _ _ c.owe.ensures) (at_sub _ _ c.owe.ensures) (at_stage _ _ c.owe.ensures)
    (at_awaited _ _ c.owe.ensures) (at_queue _ _ c.owe.ensures) c.see_room.ensures
    (subst (λ (b : Bool). TellsTurn t.awaited t.kind t.status t.rows c.tell.new.rows b c.in_ok-deeds.deeds)
    c.if-ended.false c.in_ok-deeds.ensures.told)
