use Rattle.std.proofs.Common.{◌≡◌, ◌++◌, drop, map}
use Rattle.site_script.specs.Words.{uid_in}
use Rattle.site_script.proofs.word.uids_in.Given as goal

-- The UIDs so far, with those of the words left, are the UIDs of all words.
abbrev pub invariant-loop-word : goal.invariant-loop-word
invariant-loop-word l = l.uids.items ++ map uid_in (drop l.word-index l.words) ≡ map uid_in l.words
