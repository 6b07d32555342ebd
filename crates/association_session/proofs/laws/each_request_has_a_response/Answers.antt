use Rattle.association_services.proofs.ResponseLaws.{each_has_a_response}
use Rattle.association_session.proofs.laws.each_request_has_a_response.Goals as goal

-- Each request has one final response, unless the association ends before it.
pub returns : goal.returns
returns c = each_has_a_response
