use Rattle.std.proofs.Common.{◌∙◌}
use Rattle.std.proofs.lemmas.Result.{err_from_is_err_and}
use Rattle.exchange.proofs.Readings.{body_stopped, body_faulty}
use Rattle.exchange.proofs.hearing.hear_body.Goals as goal

-- Its bytes did not all come.
pub returns-in_err-body-clause-err : goal.returns-in_err-body-clause-err
returns-in_err-body-clause-err g c =
    let e = err_from_is_err_and c.from_residual.result c.from_residual.ensures.1 in
    rw (e.1, e.2) (body_stopped _ _ c.args.header.now _ _ _ c.body_length.ensures.value c.in_err-body.ensures.err)

-- They are no frame.
pub returns-in_err-read_frame_body-clause-err : goal.returns-in_err-read_frame_body-clause-err
returns-in_err-read_frame_body-clause-err g c =
    let e = err_from_is_err_and c.from_residual-in_err-read_frame_body.result
    c.from_residual-in_err-read_frame_body.ensures.1 in
    let long = c.in_ok-body.ensures.long ∙ c.body_length.ensures.value in
    rw (e.1, e.2) (body_faulty _ _ c.args.header.now _ _ _ c.in_ok-body.ensures.ok long
    c.in_err-read_frame_body.ensures.fault)
