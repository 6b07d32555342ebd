use Rattle.archive_model.proofs.CoercionLaws.{coerced_has_attributes, coerced_keeps_others, own_is_not_coerced}
use Rattle.archive_model.proofs.laws.coercion_puts_in_what_differs.Goals as goal

-- Each attribute that differs was put in, and what is put in later has another tag.
pub returns-clause-attributes : goal.returns-clause-attributes
returns-clause-attributes c = coerced_has_attributes

-- A value that is put in leaves all others as they were.
pub returns-clause-others : goal.returns-clause-others
returns-clause-others c = coerced_keeps_others

-- Where nothing differs nothing is put in.
pub returns-clause-own : goal.returns-clause-own
returns-clause-own c = own_is_not_coerced
