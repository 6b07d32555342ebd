use Rattle.dimse.specs.Response.{response_of}
use Rattle.dimse.specs.Status.{status_code}
use Rattle.dimse.proofs.SoundLaws.{answers_it, answer_lawful}
use Rattle.dimse.proofs.command.Command.response.Goals as goal

-- The response has the UIDs of its request.
pub returns-clause-lawful : goal.returns-clause-lawful
unfolding response_of
returns-clause-lawful c = λ asked is. rw (
  c.in_ok-copied.ensures,
  c.response_field.ensures,
  c.in_ok-instance_told.ensures,
  c.code.ensures,
) (answer_lawful c.args.self.now (status_code c.args.status) asked is)

-- Its field is that of a response, and its ID that of the request.
pub returns-clause-answers : goal.returns-clause-answers
unfolding response_of
returns-clause-answers c = λ asked. rw (
  c.in_ok-copied.ensures,
  c.response_field.ensures,
  c.in_ok-instance_told.ensures,
  c.code.ensures,
) (answers_it c.args.self.now (status_code c.args.status) asked)
