-- What one step of the walk finds.
use Rattle.std.proofs.Common.{inl, inr, ◌≡◌, ℕ, ◌<◌, List, [], Bool, true, false, get_or, refl, sym, subst}
use Rattle.std.proofs.Common.{◌∙◌, arith}
use Rattle.std.proofs.lemmas.Bool.{not-false as negated}
use Rattle.std.proofs.lemmas.List.FromFn.{get_or-map-range_with_len}
use Rattle.std.specs.List.{range_with_len}
use Rattle.octets.specs.Members.{Has}
use Rattle.octets.proofs.TextLemmas.{tied_texts}
use Rattle.exchange_tree.specs.declared.nodes.TheConstants.{CHILD_COUNT}
use Rattle.exchange_tree.specs.Nodes.{is_beneath, beneath, child}
use Rattle.exchange_tree.specs.Sums.{sum_of, child_sums}
use Rattle.exchange_tree.specs.Steps.{is_unequal, differing_at, EqualDigestsTell, IsInOneAlone, StepFinds, IsFound}
use Rattle.exchange_tree.proofs.Lists.{has_kept, kept_has, range_has}
use Rattle.exchange_tree.proofs.Beginnings.{children_have_all}

-- a node's list of sums has at a digit the sum of that child
pub sum_at : (digests : List (List ℕ)) (node : List ℕ) (digit : ℕ) → digit < CHILD_COUNT
    → get_or (child_sums digests node) digit [] ≡ sum_of digests (child node digit)
unfolding child_sums
sum_at digests node digit lt =
    get_or-map-range_with_len (λ d. sum_of digests (child node d)) 0 CHILD_COUNT digit digit [] lt (omega arith)

-- what is in one set beneath a node is in another that is equal there
in_both : (node digest : List ℕ) (own theirs : List (List ℕ)) → is_beneath node digest ≡ true
    → beneath node own ≡ beneath node theirs → Has own digest → Has theirs digest
in_both node digest own theirs within equal h =
    kept_has (is_beneath node) theirs digest
    (subst (λ ds. Has ds digest) equal (has_kept (is_beneath node) own digest h within))

not_alone : (node digest : List ℕ) (own theirs : List (List ℕ)) → is_beneath node digest ≡ true
    → beneath node own ≡ beneath node theirs → IsInOneAlone own theirs digest → ⊥
not_alone node digest own theirs within equal (inl alone) =
    alone.1 (in_both node digest own theirs within equal alone.0)
not_alone node digest own theirs within equal (inr alone) =
    alone.1 (in_both node digest theirs own within (sym equal) alone.0)

pub step_finds : StepFinds
unfolding differing_at
step_finds own theirs node digest tell is lt within alone =
    by (is_unequal (child_sums own node) (child_sums theirs node) digit) refl
  where
    found : (digit : ℕ) × (digit < CHILD_COUNT) × (is_beneath (child node digit) digest ≡ true)
    found = children_have_all.some node digest is lt within

    digit : ℕ
    digit = found.0

    by : (b : Bool) → is_unequal (child_sums own node) (child_sums theirs node) digit ≡ b
        → IsFound own theirs node digest
    by true e = record {
      digit = digit;
      unequal = has_kept (is_unequal (child_sums own node) (child_sums theirs node))
          (range_with_len 0 CHILD_COUNT) digit
          (range_has CHILD_COUNT 0 digit (omega arith) (omega (arith, found.1))) e;
      within = found.2;
    }
    by false e =
        let equal = sym (sum_at own node digit found.1) ∙ tied_texts _ _ (negated _ e)
        ∙ sum_at theirs node digit found.1 in
        absurd (not_alone (child node digit) digest own theirs found.2 (tell digit found.1 equal) alone)

pub equal_digests_tell : EqualDigestsTell
equal_digests_tell = record {
  whole = λ digests node digit lt equal. refl;
  each = λ own theirs node same digit lt equal. same digit lt;
}
