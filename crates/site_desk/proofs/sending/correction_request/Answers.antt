use Rattle.std.proofs.Common.{rules}
use Rattle.site_desk.specs.Sending.{said}
use Rattle.site_desk.proofs.SendingLaws.{is_body}
use Rattle.site_desk.proofs.sending.correction_request.Goals as goal

-- The body that was written is the one of which the desk reads the words.
pub returns : goal.returns
returns c = (
  c.in_ok-body.body.items,
  is_body (said c.args.four) c.in_ok-body.body.items c.in_ok-body.ensures.utf8 c.in_ok-body.ensures.object,
  search rules,
)
