use Rattle.association_services.proofs.WayLaws.{form_is_accepted, way_is_on, carried_is_sent}
use Rattle.association_services.proofs.laws.a_content_goes_out_as_its_contexts_accept.Goals as goal

-- Contexts of a class accept what one of them takes.
pub returns-clause-form : goal.returns-clause-form
returns-clause-form c = form_is_accepted

-- The least ID is that of a context which takes the class.
pub returns-clause-context : goal.returns-clause-context
returns-clause-context c = way_is_on

-- What is sent is made of what is prepared.
pub returns-clause-carried : goal.returns-clause-carried
returns-clause-carried c = carried_is_sent
