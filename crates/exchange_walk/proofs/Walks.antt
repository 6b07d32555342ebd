-- Which entries are walks.
use Rattle.std.proofs.Common.{◌≡◌, ℕ, ◌≤◌, List, Ok, true, length, take, refl, ap, ◌∙◌, arith}
use Rattle.std.proofs.lemmas.Bool.{le-ltb}
use Rattle.walk_frames.specs.Entries.{EntryParts, sums_of}
use Rattle.walk_frames.specs.Walks.{stand_apart, walk_of}
use Rattle.exchange_tree.specs.Sums.{child_sums}
use Rattle.exchange_walk.specs.Answers.{all_answers, answer_of}
use Rattle.exchange_walk.proofs.Lists.{front_less}

-- Entries that are a walk's are taken as one.
pub walk_again : (entries : List EntryParts) → length entries ≤ 4096 → stand_apart entries ≡ true
    → walk_of entries ≡ Ok entries
unfolding walk_of
walk_again entries short apart = rw (le-ltb 4096 (length entries) short, apart) refl

-- What is left of one entry more than an answer has is the answer.
pub cut : (digests : List (List ℕ)) (heard entries : List EntryParts) → entries ≡ take 4097 (all_answers digests heard)
    → take 4096 entries ≡ answer_of digests heard
unfolding answer_of
cut digests heard entries are =
    ap (take 4096) are ∙ front_less 4096 4097 (all_answers digests heard) (omega arith)

-- The sums of a node's children are sums.
pub sums_again : (digests : List (List ℕ)) (node : List ℕ) → sums_of (child_sums digests node) ≡ Ok (child_sums digests node)
unfolding child_sums
sums_again digests node = refl
