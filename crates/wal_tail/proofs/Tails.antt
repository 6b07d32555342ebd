-- The frames of a log, one behind another.
use Rattle.std.proofs.Common.{◌≡◌, ◌<◌, ◌+◌, inl, inr, suc, ℕ, List, length, sym, ap, subst, ◌∙◌, arith, add-one}
use Rattle.std.proofs.Common.{Bool, if◌then◌else◌}
use Rattle.std.proofs.lemmas.Bool.{cases_lt, cases_order}
use Rattle.sqlite_wal.specs.Format.{IsFrame, part, stored_sum}
use Rattle.sqlite_wal.specs.Recovery.{frame, frame_at, header, sum_before}
use Rattle.sqlite_wal.proofs.PartLemmas.{frames_len-le, frames_len-suc, frames_len-zero}
use Rattle.wal_tail.specs.Tail.{AreCounted, HasFrames, IsBadAt, IsFirstBad, IsFrameFrom, IsLost, IsValidAt, count_from}
use Rattle.wal_tail.specs.Tail.{is_own, page_size}
use Rattle.wal_tail.specs.declared.tail.Lost.{Lost}

-- where the first frame begins, and the next
pub first_place : (log : List ℕ) → 32 ≡ frame_at (page_size log) 0
first_place log = omega (arith, frames_len-zero (page_size log))

pub next_place : (log : List ℕ) (k begin : ℕ) → begin ≡ frame_at (page_size log) k
    → begin + (24 + page_size log) ≡ frame_at (page_size log) (suc k)
next_place log k begin is = omega (arith, is, frames_len-suc (page_size log) k)

module _ (log : List ℕ) (k begin : ℕ) (it : List ℕ) (place : begin ≡ frame_at (page_size log) k)
    (from : IsFrameFrom log begin it) where
  -- what begins there is frame k
  pub frame_is : it ≡ frame (page_size log) log k
  frame_is = from.is ∙ ap (λ n. part log n (24 + page_size log)) place

  pub sum_is : (sum : ℕ × ℕ) → sum ≡ stored_sum it 16 → sum ≡ sum_before (page_size log) log (k + 1)
  sum_is sum is = is ∙ ap (λ f. stored_sum f 16) frame_is ∙ ap (sum_before (page_size log) log) (sym (add-one k))

  module _ (head : List ℕ) (sum : ℕ × ℕ) (head_is : head ≡ header log) (sum_was : sum ≡ sum_before (page_size log) log k)
    where
      pub valid_here : IsFrame head sum it → IsValidAt log k
      valid_here valid = subst (λ h. IsFrame h (sum_before (page_size log) log k) (frame (page_size log) log k)) head_is
          (subst (λ s. IsFrame head s (frame (page_size log) log k)) sum_was (subst (IsFrame head sum) frame_is valid))

      pub valid_there : IsValidAt log k → IsFrame head sum it
      valid_there valid = subst (IsFrame head sum) (sym frame_is)
          (subst (λ s. IsFrame head s (frame (page_size log) log k)) (sym sum_was)
          (subst (λ h. IsFrame h (sum_before (page_size log) log k) (frame (page_size log) log k)) (sym head_is) valid))

-- one more is valid
pub valid_more : (log : List ℕ) (k : ℕ) → ((i : ℕ) → i < k → IsValidAt log i) → IsValidAt log k → (i : ℕ) → i < k + 1
    → IsValidAt log i
valid_more log k before here i low = elim (cases_lt i k) [
  | inl below ↦ before i below
  | inr far ↦ let same : k ≡ i = omega (arith, low, far) in subst (IsValidAt log) same here
]

-- Where those so far are valid and no frame more is whole, none is bad.
pub none_bad : (log : List ℕ) (k begin : ℕ) → begin ≡ frame_at (page_size log) k
    → ((i : ℕ) → i < k → IsValidAt log i) → length log < begin + (24 + page_size log) → (j : ℕ) → ¬ IsFirstBad log j
none_bad log k begin place before short j bad = elim (cases_lt j k) [
  | inl below ↦ bad.bad (before j below)
  | inr past ↦ omega (
    arith,
    bad.whole,
    short,
    next_place log k begin place,
    frames_len-le (page_size log) (suc k) (suc j) (omega (arith, past)),
  )
]

-- One frame is the first that is bad, and one is the number of frames.
pub one_bad : (log : List ℕ) (j k : ℕ) → IsFirstBad log j → IsFirstBad log k → j ≡ k
one_bad log j k one two = elim (cases_order j k) [
  | inl same ↦ same
  | inr rest ↦ elim rest [
    | inl below ↦ absurd (one.bad (two.before j below))
    | inr above ↦ absurd (two.bad (one.before k above))
  ]
]

pub one_count : (log : List ℕ) (a b : ℕ) → HasFrames log a → HasFrames log b → a ≡ b
one_count log a b one two = elim (cases_order a b) [
  | inl same ↦ same
  | inr rest ↦ elim rest [
    | inl below ↦ absurd (omega (arith, one.last, two.whole, frames_len-le (page_size log) (suc a) b below))
    | inr above ↦ absurd (omega (arith, two.last, one.whole, frames_len-le (page_size log) (suc b) a above))
  ]
]

-- one frame more is counted
pub counted_more : (test : List ℕ → Bool) (log : List ℕ) (k n begin count more : ℕ) (it : List ℕ)
    → begin ≡ frame_at (page_size log) (k + n) → IsFrameFrom log begin it → count ≡ count_from test log k n
    → more ≡ (if test it then 1 else 0) → count + more ≡ count_from test log k (n + 1)
unfolding count_from
counted_more test log k n begin count more it place from was one =
    ap (λ c. c + more) was ∙ ap (λ m. count_from test log k n + m)
    (one ∙ ap (λ f. if test f then 1 else 0) (frame_is log (k + n) begin it place from))
    ∙ ap (count_from test log k) (sym (add-one n))

-- the next frame begins behind this one
pub next_inside : (log : List ℕ) (k begin : ℕ) (it : List ℕ) → begin ≡ frame_at (page_size log) k
    → IsFrameFrom log begin it → begin + length it ≡ frame_at (page_size log) (k + 1)
next_inside log k begin it place from =
    omega (arith, from.long, next_place log k begin place) ∙ ap (frame_at (page_size log)) (sym (add-one k))

-- A frame that is not valid behind those that are is the first.
pub bad_here : (log : List ℕ) (k begin : ℕ) (it : List ℕ) → begin ≡ frame_at (page_size log) k → IsFrameFrom log begin it
    → (head : List ℕ) (sum : ℕ × ℕ) → head ≡ header log → sum ≡ sum_before (page_size log) log k
    → ((i : ℕ) → i < k → IsValidAt log i) → ¬ IsFrame head sum it → (own : Bool) → own ≡ is_own head it
    → IsBadAt log k begin own
bad_here log k begin it place from head sum head_is sum_was before bad own salts = record {
  first = record {
    whole = omega (arith, from.within, next_place log k begin place);
    before = before;
    bad = λ valid. bad (valid_there log k begin it place from head sum head_is sum_was valid);
  };
  place = place;
  salts = salts ∙ ap (is_own head) (frame_is log k begin it place from)
      ∙ ap (λ h. is_own h (frame (page_size log) log k)) head_is;
}

-- Where none is counted from the first bad frame on, nothing is lost.
pub none_lost : (log : List ℕ) (k byte frames commits : ℕ) (own : Bool) → IsBadAt log k byte own
    → AreCounted log k frames commits → frames ≡ 0 → (lost : Lost) → ¬ IsLost log lost
none_lost log k byte frames commits own bad counted none lost it =
    let same : lost.frame ≡ k = one_bad log lost.frame k it.bad.first bad.first in
    let theirs : AreCounted log k lost.frames lost.commits = subst (λ n. AreCounted log n lost.frames lost.commits) same
    it.counted in
    let ends = one_count log (k + theirs.behind) (k + counted.behind) theirs.all counted.all in
    let equal : theirs.behind ≡ counted.behind = omega (arith, ends) in
    let count : lost.frames ≡ 0 = theirs.owned ∙ ap (count_from (is_own (header log)) log k) equal ∙ sym counted.owned ∙ none
    in
    omega (arith, it.some, count)
