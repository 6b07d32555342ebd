use Rattle.std.proofs.Common.{◌≡◌, ℕ, List, ◌<◌, false, get_or}
use Rattle.std.specs.BTreeMap.{is_at}
use Rattle.octets.specs.Texts.{text_cmp}
use Rattle.exchange.proofs.asked.first_place.Given as goal

-- None of those so far is the digest.
abbrev pub invariant-loop-at : goal.invariant-loop-at
invariant-loop-at l = (k : ℕ) (d : List ℕ) → k < l.at → is_at (text_cmp (get_or l.arrays k d)) l.digest ≡ false
