use Rattle.std.proofs.Common.{sym, ◌∙◌}
use Rattle.std.proofs.lemmas.Fmt.{parse-decimal}
use Rattle.archive_app.proofs.output.held.number_of.Goals as goal

-- It is the number that they were written from,
pub returns-in-Ok : goal.returns-in-Ok
returns-in-Ok c = λ n l e.
    let told = sym c.in-Ok.is ∙ parse-decimal 64 n c.args.digits.now c.parse.result l l e c.parse.ensures.value.0 in
    cc

-- and there is one.
pub returns-in-Err : goal.returns-in-Err
returns-in-Err c = λ n l e.
    let told = sym c.in-Err.is ∙ parse-decimal 64 n c.args.digits.now c.parse.result l l e c.parse.ensures.value.0 in
    cc
