use Rattle.site_script.proofs.Worded.{joined_read, words_read, words_text}
use Rattle.site_script.proofs.laws.words_are_parted_by_spaces.Goals as goal

-- A word ends where a space stands.
pub returns-clause-joined : goal.returns-clause-joined
returns-clause-joined c = joined_read

-- No space is put into a word, and no empty one is kept.
pub returns-clause-words : goal.returns-clause-words
returns-clause-words c = words_read

-- Each other byte is put into a word.
pub returns-clause-text : goal.returns-clause-text
returns-clause-text c = words_text
