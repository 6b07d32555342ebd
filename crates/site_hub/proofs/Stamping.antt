-- The correction that comes next.
use Rattle.std.proofs.Common.{rules, ◌≡◌, ℕ, ◌+◌, ◌≤◌, max, Bool, true, false, List, [], ◌∷◌, Ok, Err}
use Rattle.std.proofs.Common.{refl, sym, ap, subst, ◌∙◌, arith, inl, inr}
use Rattle.std.specs.Prelude.{◌&&◌, ◌==◌, ◌↔◌, nat_le, if◌then◌else◌}
use Rattle.std.proofs.Math.Nat.{le-max_left, le-max_right}
use Rattle.operation.specs.declared.op.Op.{Op}
use Rattle.operation.specs.declared.op.Op.TheVariants.{Correction as a_correction}
use Rattle.operation.specs.declared.target.Target.{Target}
use Rattle.operation.specs.declared.fault.OpFault.{OpFault}
use Rattle.operation.specs.Parts.{CorrectionParts}
use Rattle.operation.specs.Spelling.{digest_of}
use Rattle.operation.specs.Corrections.{is_correction, is_key, is_tag_for, is_plain, checked}
use Rattle.archive_model.specs.Attributes.{correction_in, corrections}
use Rattle.archive_model.specs.Members.{Has}
use Rattle.archive_model.proofs.MemberLaws.{has_filter_map}
use Rattle.site_state.specs.Site.{Map, ops_of, greatest_counter, top_counter_of}
use Rattle.site_state.proofs.Lookups.{held_under}
use Rattle.site_state.proofs.Same.{of_ops}
use mathlib.Core.List.{IsPrefix}
use Rattle.site_hub.specs.declared.entry.Entry.{Entry}
use Rattle.site_hub.specs.History.{set_of, IsHistory}
use Rattle.site_hub.specs.Hub.{Seat, IsTurn}
use Rattle.site_hub.proofs.Histories.{stays, history_front, history_is_site}
use Rattle.site_hub.specs.declared.fault.HubFault.TheVariants.{StampsSpent, BadCorrection}
use Rattle.site_hub.specs.Stamps.{LAST_COUNTER, made_with, may_be_made, next_correction, CountersRise, HasLesser}

le_one : (n : ℕ) → 1 ≤ n → nat_le 1 n ≡ true
le_one n h = search rules

-- whether a correction may be made is told with any counter from 1 on
pub from_one : (counter number : ℕ) (target : Target) (tag : ℕ) (value : List ℕ) → 1 ≤ counter
    → is_correction (made_with counter number target tag value) ≡ may_be_made number target tag value
unfolding is_correction
from_one counter number target tag value h =
    ap (λ b. is_key target && is_tag_for target tag && is_plain value && b && nat_le 1 number) (le_one counter h)

-- what is made is what was asked for, and lawful
pub made_is : (c made : CorrectionParts) → Ok made ≡ checked c → (is_correction c ≡ true) × (made ≡ c)
made_is c made e = by (is_correction c) refl e
  where
    by : (b : Bool) → is_correction c ≡ b → Ok
        made ≡ (if b then Ok c else Err Rattle.operation.specs.declared.fault.OpFault.TheVariants.BadCorrection)
        → (is_correction c ≡ true) × (made ≡ c)
    by true h e = (h, cc)
    by false h e = absurd cc

pub none_is : (c : CorrectionParts) (fault : OpFault) → Err fault ≡ checked c → is_correction c ≡ false
none_is c fault e = by (is_correction c) refl e
  where
    by : (b : Bool) → is_correction c ≡ b → Err
        fault ≡ (if b then Ok c else Err Rattle.operation.specs.declared.fault.OpFault.TheVariants.BadCorrection)
        → is_correction c ≡ false
    by true h e = absurd cc
    by false h e = h

-- that a part is bad does not depend on what is held
pub bad_anywhere : (number : ℕ) (m n : Map) (target : Target) (tag : ℕ) (value : List ℕ) → next_correction number m
    target tag value ≡ Err BadCorrection → next_correction number n target tag value ≡ Err BadCorrection
bad_anywhere number m n target tag value e = by (may_be_made number target tag value) e
  where
    inside : (b : Bool) → (if b then Err StampsSpent else Ok (made_with (top_counter_of (ops_of m) + 1) number target
        tag value)) ≡ Err BadCorrection → ⊥
    inside true e = cc
    inside false e = cc

    by : (b : Bool)
        → (if b then (if top_counter_of (ops_of m) == LAST_COUNTER then Err StampsSpent
        else Ok (made_with (top_counter_of (ops_of m) + 1) number target tag value)) else Err BadCorrection) ≡ Err
        BadCorrection
        → (if b then (if top_counter_of (ops_of n) == LAST_COUNTER then Err StampsSpent
        else Ok (made_with (top_counter_of (ops_of n) + 1) number target tag value)) else Err BadCorrection) ≡ Err
        BadCorrection
    by true e = absurd (inside (top_counter_of (ops_of m) == LAST_COUNTER) e)
    by false e = refl

-- ---- which comes next

module _ (number n counter : ℕ) (m : Map) (target : Target) (tag : ℕ) (value : List ℕ) (is : n ≡ number)
    (one : 1 ≤ counter) where
  lawful_is : is_correction (made_with counter n target tag value) ≡ may_be_made number target tag value
  lawful_is = ap (λ k. is_correction (made_with counter k target tag value)) is ∙ from_one counter number target tag
      value one

  pub next_bad : (fault : OpFault) → Err fault ≡ checked (made_with counter n target tag value)
      → Err BadCorrection ≡ next_correction number m target tag value
  next_bad fault e =
      ap (λ b. if b then (if top_counter_of (ops_of m) == LAST_COUNTER then Err StampsSpent
      else Ok (made_with (top_counter_of (ops_of m) + 1) number target tag value)) else Err BadCorrection)
      (sym (none_is (made_with counter n target tag value) fault e) ∙ lawful_is)

  -- what comes next is decided by the greatest counter
  by_top : (made : CorrectionParts) → Ok made ≡ checked (made_with counter n target tag value)
      → (if top_counter_of (ops_of m) == LAST_COUNTER then Err StampsSpent
      else Ok (made_with (top_counter_of (ops_of m) + 1) number target tag value)) ≡ next_correction number m target tag
      value
  by_top made e =
      ap (λ b. if b then (if top_counter_of (ops_of m) == LAST_COUNTER then Err StampsSpent
      else Ok (made_with (top_counter_of (ops_of m) + 1) number target tag value)) else Err BadCorrection)
      (sym (made_is (made_with counter n target tag value) made e).0 ∙ lawful_is)

  pub next_spent : (made : CorrectionParts) → Ok made ≡ checked (made_with counter n target tag value)
      → (top_counter_of (ops_of m) == LAST_COUNTER) ≡ true → Err StampsSpent ≡ next_correction number m target tag value
  next_spent made e last =
      ap (λ b. if b then Err StampsSpent else Ok (made_with (top_counter_of (ops_of m) + 1) number target tag value))
      (sym last) ∙ by_top made e

  pub next_made : (made : CorrectionParts) → Ok made ≡ checked (made_with counter n target tag value)
      → counter ≡ top_counter_of (ops_of m) + 1 → (top_counter_of (ops_of m) == LAST_COUNTER) ≡ false
      → Ok made ≡ next_correction number m target tag value
  next_made made e next more =
      ap Ok ((made_is (made_with counter n target tag value) made e).1 ∙ ap (λ k. made_with k n target tag value) next
      ∙ ap (λ k. made_with (top_counter_of (ops_of m) + 1) k target tag value) is)
      ∙ ap (λ b. if b then Err StampsSpent else Ok (made_with (top_counter_of (ops_of m) + 1) number target tag value))
      (sym more)
      ∙ by_top made e

-- ---- counters rise

no_greater : (ks : List CorrectionParts) (k : CorrectionParts) → Has ks k → k.stamp.counter ≤ greatest_counter ks
no_greater [] k h = absurd h
no_greater (x ∷ ks) k (inl e) =
    subst (λ (y : CorrectionParts). k.stamp.counter ≤ max y.stamp.counter (greatest_counter ks))
    e (le-max_left k.stamp.counter (greatest_counter ks))
no_greater (x ∷ ks) k (inr h) =
    let before = no_greater ks k h in
    let more = le-max_right x.stamp.counter (greatest_counter ks) in
    omega (arith, before, more)

made_next : (number : ℕ) (m : Map) (target : Target) (tag : ℕ) (value : List ℕ) (made : CorrectionParts)
    → next_correction number m target tag value ≡ Ok made → made.stamp.counter ≡ top_counter_of (ops_of m) + 1
made_next number m target tag value made e = by (may_be_made number target tag value)
    (top_counter_of (ops_of m) == LAST_COUNTER) e
  where
    it : CorrectionParts
    it = made_with (top_counter_of (ops_of m) + 1) number target tag value

    is_it : it ≡ made → made.stamp.counter ≡ top_counter_of (ops_of m) + 1
    is_it s = ap (λ (k : CorrectionParts). k.stamp.counter) (sym s)

    by : (b c : Bool) → (if b then (if c then Err StampsSpent else Ok it) else Err BadCorrection) ≡ Ok made
        → made.stamp.counter ≡ top_counter_of (ops_of m) + 1
    by true true e = absurd cc
    by true false e = is_it cc
    by false c e = absurd cc

pub counters_rise : CountersRise
counters_rise number m target tag value made held e has =
    let below = no_greater (corrections (ops_of m)) held (has_filter_map correction_in (ops_of m) (a_correction held)
    held has refl) in
    let next = made_next number m target tag value made e in
    omega (arith, below, next)

-- ---- at a pass's turn

-- an operation that a beginning of a history holds is held after it
has_still : (opening : Map) (xs ys : List Entry) → IsHistory opening ys → IsPrefix xs ys → (o : Op)
    → Has (ops_of (set_of opening xs)) o → Has (ops_of (set_of opening ys)) o
has_still opening xs ys history pre o has =
    let before = history_is_site opening xs (history_front opening xs ys pre history) in
    of_ops (set_of opening ys) (digest_of o) o (stays opening xs ys history pre (digest_of o) o
    (held_under (set_of opening xs) before o has))

-- what comes next at a pass's turn has a greater counter than each that the pass had seen
pub turn_rises : (number : ℕ) (opening : Map) (before : Seat) (turn : List Entry) (target : Target) (tag : ℕ)
    (value : List ℕ) (made : CorrectionParts) → IsTurn opening before.seen turn
    → next_correction number (set_of opening turn) target tag value ≡ Ok made
    → HasLesser (set_of opening before.seen) made.stamp.counter
turn_rises number opening before turn target tag value made comes next held has =
    counters_rise number (set_of opening turn) target tag value made held next
    (has_still opening before.seen turn comes.history comes.seen (a_correction held) has)

-- that a part is bad is told by the parts alone
pub bad_is : (number : ℕ) (m : Map) (target : Target) (tag : ℕ) (value : List ℕ)
    → (next_correction number m target tag value ≡ Err BadCorrection) ↔ (may_be_made number target tag value ≡ false)
bad_is number m target tag value = by (may_be_made number target tag value)
  where
    inside : (b : Bool) → (if b then Err StampsSpent else Ok (made_with (top_counter_of (ops_of m) + 1) number target
        tag value)) ≡ Err BadCorrection → ⊥
    inside true e = cc
    inside false e = cc

    by : (b : Bool)
        → ((if b then (if top_counter_of (ops_of m) == LAST_COUNTER then Err StampsSpent
        else Ok (made_with (top_counter_of (ops_of m) + 1) number target tag value)) else Err BadCorrection) ≡ Err
        BadCorrection) ↔ (b ≡ false)
    by true = (λ e. absurd (inside (top_counter_of (ops_of m) == LAST_COUNTER) e), λ e. absurd cc)
    by false = (λ e. refl, λ e. refl)
