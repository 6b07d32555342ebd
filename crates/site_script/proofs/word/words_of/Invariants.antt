use Rattle.std.proofs.Common.{◌≡◌, ◌++◌, drop}
use Rattle.site_script.specs.Words.{words_from, words_of}
use Rattle.site_script.proofs.word.words_of.Given as goal

-- The words so far, with those that the word begun and the bytes left make, are the words of the line.
abbrev pub invariant-loop-byte : goal.invariant-loop-byte
invariant-loop-byte l = l.words.items ++ words_from l.front.items (drop l.byte-index l.line) ≡ words_of l.line
