use Rattle.std.proofs.Common.{refl, ◌∷◌, []}
use Rattle.head_log.specs.Groups.{open_text, shut_gate}
use Rattle.older_heads.proofs.Telling.{not_older, older_with}
use Rattle.older_heads.proofs.laws.the_two_forms_are_told_apart.Goals as goal

-- Its first gate is open.
pub returns-clause-older : goal.returns-clause-older
returns-clause-older c file group groups stands = older_with file group groups stands

-- The first byte is neither 0 nor 1.
pub returns-clause-shut : goal.returns-clause-shut
returns-clause-shut c file h = not_older file shut_gate refl h refl

pub returns-clause-opened : goal.returns-clause-opened
returns-clause-opened c file h = not_older file open_text refl h refl

-- No length is behind the gate.
pub returns-clause-zeros : goal.returns-clause-zeros
returns-clause-zeros c file h = not_older file (0 ∷ 0 ∷ 0 ∷ 0 ∷ 0 ∷ 0 ∷ 0 ∷ 0 ∷ []) refl h refl
