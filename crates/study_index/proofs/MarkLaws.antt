-- Marks of texts: a run has no mark that a text lacks in which it stands.
use Rattle.std.proofs.Common.{◌≡◌, ℕ, Bool, true, false, List, [], ◌∷◌, ◌+◌, ◌/◌, sym, ap, subst, ◌∙◌, take, arith}
use Rattle.std.proofs.Common.{inl, inr, ⊎_elim, cond, mod-lt, ◌<◌, ◌^◌, ◌%◌, ◌*◌}
use Rattle.std.specs.Prelude.{◌||◌, ◌==◌, ◌⊎◌, nat_le, length}
use Rattle.std.specs.Int.Bits.{bit_or, or_self, or_zero_l, or_zero_r}
use Rattle.std.proofs.lemmas.Bool.{eqb-true, eq-eqb, true≢false, false≢true, and_parts, or_cases, cases_Bool}
use Rattle.std.proofs.lemmas.Nat.{or_comm, or_shr, le_or_r, or_of_32}
use lib.Bits.{or_step}
use lib.Arith.{bin_ind}
use Rattle.octets.specs.Texts.{same}
use Rattle.study_index.specs.Leads.{Text, begins_with, has_run, may_have}
use Rattle.study_index.specs.Marks.{mark_of, marks_behind, marks_of, value_marks}

or_assoc : (c a b : ℕ) → bit_or (bit_or a b) c ≡ bit_or a (bit_or b c)
or_assoc =
    bin_ind (λ (c : ℕ). (a b : ℕ) → bit_or (bit_or a b) c ≡ bit_or a (bit_or b c))
    (λ a b. or_zero_r (bit_or a b) ∙ sym (ap (bit_or a) (or_zero_r b)))
    (λ c ih a b.
    let p : bit_or (bit_or a b / 2) (c / 2) ≡ bit_or (a / 2) (bit_or b c / 2) =
    ap (λ x. bit_or x (c / 2)) (or_shr a b 1) ∙ ih (a / 2) (b / 2) ∙ sym (ap (bit_or (a / 2)) (or_shr b c 1)) in
    omega (arith, or_step (bit_or a b) c, or_step a (bit_or b c), or_step a b, or_step b c))

-- no bit of m is missing in n
abbrev Within : ℕ → ℕ → Type 0
Within m n = bit_or m n ≡ n

within_more : (k m n : ℕ) → Within m n → Within m (bit_or k n)
within_more k m n w = sym (or_assoc n m k) ∙ ap (λ x. bit_or x n) (or_comm m k) ∙ or_assoc n k m ∙ ap (bit_or k) w

within_both : (k m n : ℕ) → Within m n → Within (bit_or k m) (bit_or k n)
within_both k m n w = or_assoc (bit_or k n) k m ∙ ap (bit_or k) (within_more k m n w) ∙ sym (or_assoc n k k)
    ∙ ap (λ x. bit_or x n) (or_self k)

-- ---- the front of a text

front_behind : (first : ℕ) (run text : List ℕ) → begins_with run text ≡ true
    → Within (marks_behind first run) (marks_behind first text)
front_behind first [] text e = or_zero_l (marks_behind first text)
front_behind first (x ∷ run) [] e = absurd (false≢true e)
front_behind first (x ∷ run) (y ∷ text) e =
    let both = and_parts (x == y) (same run (take (length run) text)) e in
    subst (λ z. Within (bit_or (mark_of first x) (marks_behind x run)) (bit_or (mark_of first z) (marks_behind z text)))
    (eqb-true x y both.0)
    (within_both (mark_of first x) (marks_behind x run) (marks_behind x text) (front_behind x run text both.1))

front_within : (run text : List ℕ) → begins_with run text ≡ true → Within (marks_of run) (marks_of text)
front_within [] text e = or_zero_l (marks_of text)
front_within (x ∷ run) [] e = absurd (false≢true e)
front_within (x ∷ run) (y ∷ text) e =
    let both = and_parts (x == y) (same run (take (length run) text)) e in
    subst (λ z. Within (marks_behind x run) (marks_behind z text)) (eqb-true x y both.0)
    (front_behind x run text both.1)

-- ---- anywhere

one_before : (run : List ℕ) (t : ℕ) (text : List ℕ) → Within (marks_of run) (marks_of text)
    → Within (marks_of run) (marks_of (t ∷ text))
one_before run t [] w = w
one_before run t (u ∷ text) w = within_more (mark_of t u) (marks_of run) (marks_of (u ∷ text)) w

run_within : (run text : List ℕ) → has_run run text ≡ true → Within (marks_of run) (marks_of text)
run_within run [] e = front_within run [] e
run_within run (t ∷ text) e = ⊎_elim (front_within run (t ∷ text))
    (λ there. one_before run t text (run_within run text there)) (or_cases (begins_with run (t ∷ text)) (has_run run text) e)

all_within : (m : ℕ) → m < 2 ^ 32 → Within m 4294967295
all_within m small = omega (arith, le_or_r m 4294967295, or_of_32 m 4294967295 small (omega arith))

mark_small : (first second : ℕ) → mark_of first second < 2 ^ 32
mark_small first second = mod-lt (1 * 2 ^ ((first * 11 + second) % 32)) (omega arith)

behind_small : (first : ℕ) (text : List ℕ) → marks_behind first text < 2 ^ 32
behind_small first [] = omega arith
behind_small first (second ∷ text) =
    or_of_32 (mark_of first second) (marks_behind second text) (mark_small first second) (behind_small second text)

marks_small : (text : List ℕ) → marks_of text < 2 ^ 32
marks_small [] = omega arith
marks_small (first ∷ text) = behind_small first text

value_within : (run value : Text) → may_have run value ≡ true → Within (marks_of run) (value_marks value)
value_within run value = by (nat_le 64 (length value))
  where
    by : (long : Bool) → (long || has_run run value) ≡ true
        → Within (marks_of run) (cond long 4294967295 (marks_of value))
    by true e = all_within (marks_of run) (marks_small run)
    by false e = run_within run value e

-- a run stands in no value that lacks one of its marks
pub lacking : (run value : Text) (mine marks : ℕ) → mine ≡ marks_of run → marks ≡ value_marks value
    → (bit_or mine marks == marks) ≡ false → may_have run value ≡ false
lacking run value mine marks is of e = by (cases_Bool (may_have run value))
  where
    by : (may_have run value ≡ true) ⊎ (may_have run value ≡ false) → may_have run value ≡ false
    by (inl has) = absurd (true≢false (sym (eq-eqb (bit_or mine marks) marks
        (ap (λ x. bit_or x marks) is ∙ ap (bit_or (marks_of run)) of
        ∙ value_within run value has ∙ sym of)) ∙ e))
    by (inr lacks) = lacks
