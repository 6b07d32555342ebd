use Rattle.std.proofs.Common.{◌≡◌, drop}
use Rattle.site_script.specs.Keys.{keys_from, keys_in}
use Rattle.site_script.proofs.key.keys_in.Given as goal

-- With the keys of the words left put in, the keys so far are those of the level and of all words.
abbrev pub invariant-loop-word : goal.invariant-loop-word
invariant-loop-word l = keys_from l.keys.items (drop l.word-index l.words) ≡ keys_in l.level l.words
