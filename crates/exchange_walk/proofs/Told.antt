-- What answers one entry that was heard.
use Rattle.std.proofs.Common.{◌≡◌, ℕ, ◌<◌, ◌≤◌, List, [], Option, Some, None, get_or, length, refl, sym, ap, subst, ◌∙◌}
use Rattle.std.proofs.Common.{arith}
use Rattle.std.proofs.lemmas.Bool.{lt-leb, le-leb}
use Rattle.std.specs.Prelude.{map}
use Rattle.std.specs.List.{range_with_len}
use Rattle.octets.specs.Members.{Has}
use Rattle.walk_frames.specs.Entries.{EntryParts}
use Rattle.exchange_tree.specs.declared.nodes.TheConstants.{CHILD_COUNT}
use Rattle.exchange_tree.specs.Nodes.{child}
use Rattle.exchange_tree.specs.Sums.{child_sums}
use Rattle.exchange_tree.specs.Steps.{differing_at, is_unequal}
use Rattle.exchange_tree.proofs.Lists.{kept_has}
use Rattle.exchange_walk.specs.Answers.{answers_at, answers_to, entry_of, entries_beneath}
use Rattle.exchange_walk.proofs.Lists.{has_at, range_below}

-- a place has no answer
pub none_to_place : (digests : List (List ℕ)) (heard : EntryParts) → heard.sums ≡ None → answers_to digests heard ≡ []
none_to_place digests heard e = ap (answers_at digests heard.node) e

-- nor have sums of children that no entry has
pub none_to_deepest : (digests : List (List ℕ)) (heard : EntryParts) → 63 ≤ length heard.node
    → answers_to digests heard ≡ []
none_to_deepest digests heard deep = by heard.sums
  where
    by : (sums : Option (List (List ℕ))) → answers_at digests heard.node sums ≡ []
    by None = refl
    by (Some theirs) = rw (le-leb 63 (length heard.node) deep) refl

-- the others are answered child by child
pub each_child : (digests : List (List ℕ)) (heard : EntryParts) (theirs : List (List ℕ)) → heard.sums ≡ Some theirs
    → length heard.node < 63 → answers_to digests heard ≡ entries_beneath digests heard.node theirs
each_child digests heard theirs is shallow =
    ap (answers_at digests heard.node) is ∙ rw (lt-leb 63 (length heard.node) shallow) refl

-- so are the digits at which the sums differ
pub told_is : (digests : List (List ℕ)) (heard : EntryParts) (node : List ℕ) (theirs : List (List ℕ)) (digits : List ℕ)
    → heard.sums ≡ Some theirs → node ≡ heard.node → length node < 63
    → digits ≡ differing_at (child_sums digests node) theirs
    → map (λ digit. entry_of digests (child node digit)) digits ≡ answers_to digests heard
told_is digests heard node theirs digits is at shallow differ =
    ap (map (λ digit. entry_of digests (child node digit))) differ
    ∙ ap (λ n. entries_beneath digests n theirs) at
    ∙ sym (each_child digests heard theirs is (omega (arith, shallow, ap length at)))

-- a digit at which sums differ is one
pub digit_has : (own theirs : List (List ℕ)) (digit : ℕ) → Has (differing_at own theirs) digit → digit < 16
unfolding differing_at
digit_has own theirs digit h =
    range_below 16 0 digit (kept_has (is_unequal own theirs) (range_with_len 0 CHILD_COUNT) digit h)

pub digit_small : (own theirs : List (List ℕ)) (digits : List ℕ) (j : ℕ) → digits ≡ differing_at own theirs
    → j < length digits → get_or digits j 0 < 16
digit_small own theirs digits j is lt =
    digit_has own theirs (get_or digits j 0) (subst (λ ds. Has ds (get_or digits j 0)) is (has_at digits j 0 lt))
