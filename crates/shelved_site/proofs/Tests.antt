-- What is told of heads, one by one.
use Rattle.std.proofs.Common.{◌≡◌, ◌+◌, ◌<◌, ◌++◌, ◌∷◌, ℕ, List, [], inl, inr, Some, take, length, refl, sym, ap, subst}
use Rattle.std.proofs.Common.{slice_get, ◌∙◌, arith}
use Rattle.std.proofs.lemmas.Option.{slice_get-get_or}
use Rattle.sqlite_disk.specs.Disk.{MoreFaults}
use Rattle.op_log.specs.Heads.{Head}
use Rattle.op_log.proofs.TestedBodies.{take_more}
use Rattle.op_shelf.specs.declared.damaged.Damaged.{Damaged}
use Rattle.op_log.specs.Staged.{StaysOrRises}
use Rattle.shelved_site.specs.Verifying.{AreTold, IsTestedOf, IsTold, damage_of}

-- where the disk failed later it failed
later : (file : List ℕ) (P Q : Type 0) (h : Head) → (P → Q) → IsTold file P h → IsTold file Q h
later file P Q h on (inl off) = inl off
later file P Q h on (inr fails) = inr (on fails)

pub told_later : (file : List ℕ) (P Q : Type 0) (heads : List Head) (told : List Damaged) → (P → Q)
    → AreTold file P heads told → AreTold file Q heads told
told_later file P Q [] told on are = are
told_later file P Q (h ∷ heads) told on (inl (whole, rest)) = inl (whole, told_later file P Q heads told on rest)
told_later file P Q (h ∷ heads) told on (inr (more, is, cause, rest)) =
    inr (more, is, later file P Q h on cause, told_later file P Q heads more on rest)

pub tested_later : (file : List ℕ) (P Q : Type 0) (h : Head) (old new : List Damaged) → (P → Q)
    → IsTestedOf file P h old new → IsTestedOf file Q h old new
tested_later file P Q h old new on (inl whole) = inl whole
tested_later file P Q h old new on (inr (cause, is)) = inr (later file P Q h on cause, is)

module _ (file : List ℕ) (fails : Type 0) where
  -- of heads and one more
  one_more : (heads : List Head) (h : Head) (told new : List Damaged) → AreTold file fails heads told
      → IsTestedOf file fails h told new → AreTold file fails (heads ++ h ∷ []) new
  one_more [] h told new none (inl (whole, same)) = inl (whole, same ∙ none)
  one_more [] h told new none (inr (cause, is)) =
      inr ([], is ∙ ap (λ (ds : List Damaged). ds ++ damage_of h ∷ []) none, cause, refl)
  one_more (k ∷ heads) h told new (inl (whole, rest)) tested = inl (whole, one_more heads h told new rest tested)
  one_more (k ∷ heads) h told new (inr (more, is, cause, rest)) (inl (whole, same)) =
      inr (more, same ∙ is, cause, one_more heads h more more rest (inl (whole, refl)))
  one_more (k ∷ heads) h told new (inr (more, is, cause, rest)) (inr (amiss, added)) =
      inr (
        more ++ damage_of h ∷ [],
        added ∙ ap (λ (ds : List Damaged). ds ++ damage_of h ∷ []) is,
        cause,
        one_more heads h more (more ++ damage_of h ∷ []) rest (inr (amiss, refl)),
      )

  -- one head more was tested
  pub told_next : (heads : List Head) (i : ℕ) (h : Head) (old new : List Damaged) → slice_get heads i ≡ Some h
      → AreTold file fails (take i heads) old → IsTestedOf file fails h old new
      → AreTold file fails (take (i + 1) heads) new
  told_next heads i h old new is were one =
      subst (λ (hs : List Head). AreTold file fails hs new) (sym (take_more heads i h is))
      (one_more (take i heads) h old new were one)

-- there is a head at an index below their number
pub head_at : (heads : List Head) (i : ℕ) → i < length heads → (h : Head) × (slice_get heads i ≡ Some h)
head_at heads i low =
    let none : Head = record { digest = []; front = []; at = 0; size = 0 } in
    (_, slice_get-get_or heads i none low)

-- ---- the count of the disk's failures

-- it rose where it rose first and then stayed or rose
pub rose_first : (a b c : ℕ) → StaysOrRises b c → MoreFaults a b → MoreFaults a c
rose_first a b c (inl same) more = subst (λ (n : ℕ). MoreFaults a n) (sym same) more
rose_first a b c (inr next) more = omega (arith, next, more)

-- and where it stayed or rose first and then rose
pub rose_then : (a b c : ℕ) → StaysOrRises a b → MoreFaults b c → MoreFaults a c
rose_then a b c (inl same) more = subst (λ (n : ℕ). MoreFaults n c) same more
rose_then a b c (inr first) more = omega (arith, first, more)

pub rises_twice : (a b c : ℕ) → StaysOrRises a b → StaysOrRises b c → StaysOrRises a c
rises_twice a b c (inl one) (inl two) = inl (two ∙ one)
rises_twice a b c (inl one) (inr two) = inr (subst (λ (n : ℕ). MoreFaults n c) one two)
rises_twice a b c (inr one) two = inr (rose_first a b c two one)
