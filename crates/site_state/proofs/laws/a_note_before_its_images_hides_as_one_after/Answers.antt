use Rattle.site_state.proofs.Same.{note_before_is_note_after, named_is_not_shown}
use Rattle.site_state.proofs.laws.a_note_before_its_images_hides_as_one_after.Goals as goal

-- A view shows the same whether the note came before its images or after, where digests tell operations apart.
pub returns-clause-alike : goal.returns-clause-alike
returns-clause-alike c = note_before_is_note_after

-- An image that a note names is not shown where the note's title hides, whenever the note came.
pub returns-clause-hidden : goal.returns-clause-hidden
returns-clause-hidden c = named_is_not_shown
