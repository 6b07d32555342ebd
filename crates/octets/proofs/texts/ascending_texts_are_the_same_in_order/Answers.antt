use Rattle.octets.proofs.TextLemmas.{ascending_sorted, ascending_holds, in_ascending}
use Rattle.octets.proofs.texts.ascending_texts_are_the_same_in_order.Goals as goal

-- Putting a text in its place keeps the order, by induction.
pub returns-clause-sorted : goal.returns-clause-sorted
returns-clause-sorted c = ascending_sorted

-- What is put is held, and nothing else is.
pub returns-clause-all : goal.returns-clause-all
returns-clause-all c = λ texts text. (ascending_holds text texts, in_ascending text texts)
