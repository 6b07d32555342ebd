use Rattle.association_session.proofs.TellLaws.{all_put}
use Rattle.association_session.proofs.telling.put_row.Goals as goal

-- Each PDU of the response can be written.
pub returns-clause-writable : goal.returns-clause-writable
returns-clause-writable c = λ before. all_put _ _ c.in_ok-pdus.pdus before c.in_ok-pdus.ensures.lawful
    c.in_ok-put_sends.ensures
