use Rattle.association_session.proofs.TellLaws.{all_ended}
use Rattle.association_session.proofs.telling.put_end.Goals as goal

-- Each PDU of the response can be written.
pub returns-clause-writable : goal.returns-clause-writable
returns-clause-writable c = λ before. all_ended _ _ _ _ before c.in_ok-respond.ensures.lawful
    c.in_ok-put_sends.ensures c.in_ok-push.ensures.pushed
