use Rattle.archive_model.proofs.AuditLaws.{audit_covers_nothing, audit_shows_picks}
use Rattle.archive_model.proofs.laws.an_audit_shows_every_pick.Goals as goal

-- No title hides in an audit, so no note covers.
pub returns-clause-covered : goal.returns-clause-covered
returns-clause-covered c = audit_covers_nothing

-- What is shown are the picks that are neither covered nor hiding, and here none is either.
pub returns-clause-shown : goal.returns-clause-shown
returns-clause-shown c = audit_shows_picks
