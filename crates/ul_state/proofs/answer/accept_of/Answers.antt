use Rattle.std.proofs.Common.{subst}
use Rattle.std.specs.List.{AllByRecursion}
use Rattle.ul_state.specs.Answer.{HasByteId, accept_for}
use Rattle.ul_state.proofs.Lawful.{accept_fits}
use Rattle.ul_state.proofs.answer.accept_of.Goals as goal

-- Each part of the answer fits its length where the request did.
pub returns-clause-lawful : goal.returns-clause-lawful
unfolding accept_for
returns-clause-lawful c = λ fits.
    let octets : AllByRecursion HasByteId c.args.request.now.contexts =
    subst (λ contexts. AllByRecursion HasByteId contexts) c.as_slice.ensures c.in_ok-contexts.ensures.octets in
    rw (
      c.open_back.ensures,
      c.in_ok-application_context.ensures,
      c.in_ok-contexts.ensures.exact,
      c.as_slice.ensures,
      c.in_ok-class.ensures,
      c.as_slice-2.ensures,
      c.in_ok-roles.ensures,
      c.as_slice-roles.ensures,
    )
    (accept_fits c.args.request.now octets fits)
