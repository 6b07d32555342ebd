use Rattle.std.proofs.lemmas.Result.{IfErr-weaker}
use Rattle.exchange.proofs.Readings.{body_unheard, lawful_header}
use Rattle.exchange.proofs.hearing.hear.Goals as goal

-- The header was read, and no body of a frame behind it.
pub returns-clause-err : goal.returns-clause-err
returns-clause-err g c = IfErr-weaker c.hear_body.result _ _ (λ e u. body_unheard _ _ _ _ c.in_ok-header.header _ _ e
    c.in_ok-fill.ensures.ok c.in_ok-header.ensures.spelled (lawful_header c.fill.new.buffer c.in_ok-header.header
    c.in_ok-header.ensures.exact) c.in_ok-fill.ensures.many u) c.hear_body.ensures.err
