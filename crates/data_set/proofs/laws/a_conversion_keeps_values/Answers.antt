use Rattle.data_set.proofs.ValueLaws.{converted_value, converted_items}
use Rattle.data_set.proofs.laws.a_conversion_keeps_values.Goals as goal

-- Each element that is no group length keeps its tag and its value.
pub returns-clause-value : goal.returns-clause-value
returns-clause-value c = converted_value

-- Its items are the same items, each of them converted.
pub returns-clause-items : goal.returns-clause-items
returns-clause-items c = converted_items
