use Rattle.std.proofs.Common.{◌≡◌, Some, drop}
use Rattle.site_script.specs.Numbers.{number_from}
use Rattle.site_script.proofs.number.number_in.Given as goal

-- The digits so far spell this number, and with those left it goes on to the number of the word.
abbrev pub invariant-loop-digit : goal.invariant-loop-digit
invariant-loop-digit l = number_from (Some l.number) (drop l.digit-index l.word) ≡ number_from (Some 0) l.word
