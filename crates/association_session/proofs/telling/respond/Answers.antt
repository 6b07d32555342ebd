use Rattle.association_session.proofs.HearLaws.{ok_map, all_is}
use Rattle.association_session.proofs.telling.respond.Goals as goal

-- Each PDU of a response can be written, and so can the deed that sends it.
pub returns-clause-writable : goal.returns-clause-writable
returns-clause-writable c = ok_map c.sends.result _ _ (λ deeds is. all_is deeds c.in_ok-respond.field-0 is
    c.in_ok-respond.ensures.lawful) c.sends.ensures
