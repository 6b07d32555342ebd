-- Heads that are parted by the indexes of some.
use Rattle.std.proofs.Common.{◌≡◌, ◌+◌, ◌≤◌, ◌<◌, ℕ, suc, List, [], ◌∷◌, ◌++◌, inl, inr, map, length, All, refl, sym, ap}
use Rattle.std.proofs.Common.{subst, ◌∙◌, append_assoc, get_or, length-append, arith}
use Rattle.std.proofs.lemmas.List.Elements.{All-cons, All-nil}
use Rattle.operation.specs.declared.op.Op.{Op}
use Rattle.operation.specs.Parts.{ContentParts}
use Rattle.op_log.specs.Heads.{Head}
use Rattle.op_log.specs.Loaded.{IsOf, Lists}
use Rattle.op_log.specs.Recorded.{AreRecordedAs, IsRecordedAs}
use Rattle.shelved_site.specs.Readable.{AreParts, IsAny, unread_at, unread_of}
use Rattle.op_log.specs.Readable.{AreParted}

at_front : (pre : List Head) (h : Head) (heads : List Head) (d : Head) → get_or (pre ++ h ∷ heads) (length pre) d ≡ h
at_front [] h heads d = refl
at_front (x ∷ pre) h heads d = at_front pre h heads d

module _ (Is : Head → Op → Type 0) (Not : Head → Type 0) where
  -- each index is one of a head
  pub within : (heads : List Head) (n m : ℕ) (recorded : List Op) (indexes : List ℕ) → n + length heads ≤ m
      → AreParted Is Not n heads recorded indexes → All (λ (i : ℕ). i < m) indexes
  within [] n m recorded indexes low (none, nothing) =
      subst (λ (is : List ℕ). All (λ (i : ℕ). i < m) is) (sym nothing) (All-nil (λ (i : ℕ). i < m))
  within (h ∷ heads) n m recorded indexes low (inl (r, more, is, it, rest)) =
      within heads (suc n) m more indexes (omega (arith, low)) rest
  within (h ∷ heads) n m recorded indexes low (inr (more, is, amiss, rest)) =
      subst (λ (is : List ℕ). All (λ (i : ℕ). i < m) is) (sym is)
      (All-cons (λ (i : ℕ). i < m) n more (omega (arith, low)) (within heads (suc n) m recorded more (omega (arith, low)) rest))

  module _ (all : List Head) where
    -- what is told of the heads at those indexes parts them as well
    by : (pre heads : List Head) (n : ℕ) (recorded : List Op) (indexes : List ℕ) → pre ++ heads ≡ all → n ≡ length pre
        → AreParted Is Not n heads recorded indexes → AreParts Is Not heads (map (unread_at all) indexes) recorded
    by pre [] n recorded indexes parts is (none, nothing) = (ap (map (unread_at all)) nothing, none)
    by pre (h ∷ heads) n recorded indexes parts is (inl (r, more, first, it, rest)) =
        inl (
          r,
          more,
          first,
          it,
          by (pre ++ h ∷ []) heads (suc n) more indexes (append_assoc pre (h ∷ []) heads ∙ parts)
              (omega (arith, is, length-append pre (h ∷ []))) rest,
        )
    by pre (h ∷ heads) n recorded indexes parts is (inr (more, first, amiss, rest)) =
        let none : Head = record { digest = []; front = []; at = 0; size = 0 } in
        let here : get_or all n none ≡ h =
        ap (λ (hs : List Head). get_or hs n none) (sym parts)
        ∙ ap (λ (i : ℕ). get_or (pre ++ h ∷ heads) i none) is ∙ at_front pre h heads none in
        inr (
          map (unread_at all) more,
          ap (map (unread_at all)) first ∙ ap (λ (k : Head). unread_of k ∷ map (unread_at all) more) here,
          amiss,
          by (pre ++ h ∷ []) heads (suc n) recorded more (append_assoc pre (h ∷ []) heads ∙ parts)
              (omega (arith, is, length-append pre (h ∷ []))) rest,
        )

    pub parts_of : (recorded : List Op) (indexes : List ℕ) → AreParted Is Not 0 all recorded indexes
        → AreParts Is Not all (map (unread_at all) indexes) recorded
    parts_of recorded indexes parted = by [] all 0 recorded indexes refl refl parted

-- ---- where nothing is told, each has its own

pub all_recorded : (file : List ℕ) (contents : List ContentParts) (Not : Head → Type 0) (heads : List Head) (recorded : List Op)
    → AreParts (IsRecordedAs file contents) Not heads [] recorded → AreRecordedAs file contents heads recorded
all_recorded file contents Not [] [] parts = tt
all_recorded file contents Not [] (r ∷ recorded) (none, nothing) = absurd cc
all_recorded file contents Not (h ∷ heads) recorded (inl (r, more, is, it, rest)) =
    subst (λ (rs : List Op). AreRecordedAs file contents (h ∷ heads) rs) (sym is)
    (it, all_recorded file contents Not heads more rest)
all_recorded file contents Not (h ∷ heads) recorded (inr (more, is, amiss, rest)) = absurd cc

pub all_listed : (file : List ℕ) (Not : Head → Type 0) (heads : List Head) (ops : List Op)
    → AreParts (IsOf file) Not heads [] ops → Lists file heads ops
all_listed file Not [] [] parts = tt
all_listed file Not [] (op ∷ ops) (none, nothing) = absurd cc
all_listed file Not (h ∷ heads) ops (inl (op, more, is, it, rest)) =
    subst (λ (os : List Op). Lists file (h ∷ heads) os) (sym is) (it, all_listed file Not heads more rest)
all_listed file Not (h ∷ heads) ops (inr (more, is, amiss, rest)) = absurd cc

-- and the other way round
pub recorded_parts : (file : List ℕ) (contents : List ContentParts) (heads : List Head) (recorded : List Op)
    → AreRecordedAs file contents heads recorded → AreParts (IsRecordedAs file contents) IsAny heads [] recorded
recorded_parts file contents [] [] are = (refl, refl)
recorded_parts file contents [] (r ∷ recorded) are = absurd are
recorded_parts file contents (h ∷ heads) [] are = absurd are
recorded_parts file contents (h ∷ heads) (r ∷ recorded) (it, rest) =
    inl (r, recorded, refl, it, recorded_parts file contents heads recorded rest)
