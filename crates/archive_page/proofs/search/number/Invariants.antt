use Rattle.std.proofs.Common.{◌≡◌, drop}
use Rattle.archive_page.specs.Searches.{number_in}
use Rattle.archive_page.proofs.search.number.Given as goal

-- The digits that are left, behind the number so far, write the number.
abbrev pub invariant-loop-byte : goal.invariant-loop-byte
invariant-loop-byte l = number_in l.number (drop l.byte-index l.text) ≡ number_in 0 l.text
