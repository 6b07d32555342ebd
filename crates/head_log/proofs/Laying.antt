-- What lies below a write stays, and a gate decides.
use Rattle.std.proofs.Common.{◌≡◌, ◌⊎◌, inl, inr, ◌+◌, ◌≤◌, ◌<◌, ◌^◌, ◌∷◌, [], ◌++◌, ℕ, List, false, length}
use Rattle.std.proofs.Common.{sym, ◌∙◌, arith, subst, refl, ap}
use Rattle.std.proofs.lemmas.Bool.{cases_Bool}
use Rattle.std.proofs.lemmas.List.{append-nil}
use Rattle.std.proofs.lemmas.List.Concat.{flat_map-append}
use Rattle.sqlite_disk.specs.Disk.{Holds, Torn}
use Rattle.body_log.proofs.Holding.{past}
use Rattle.head_log.specs.declared.gate.Gate.{Gate}
use Rattle.head_log.specs.Groups.{IsGroupAt, Laid, Ready, StandsFor, first_gate, gate_after, is_shut_at, joined}
use Rattle.head_log.specs.Groups.{shut_gate}
use Rattle.head_log.specs.Groups.{shut_text, text_of}
use Rattle.head_log.proofs.Shutting.{gate_past, shut_at}
use Rattle.head_log.proofs.Texts.{front, behind, eight, long}

-- a gate has two parts
pub same_gate : (a b : Gate) → a.at ≡ b.at → a.prior ≡ b.prior → a ≡ b
same_gate a b place sum = λ i. record { at = place i; prior = sum i }

-- a write leaves what lies above it
pub beyond : (old new : List ℕ) (at n from : ℕ) (bytes : List ℕ) → at + n ≤ from → Torn at n old new
    → Holds old from bytes → Holds new from bytes
beyond old new at n from bytes high torn h =
    record {
      within = omega (arith, h.within, torn.no_shorter);
      each = λ i few. torn.above (from + i) (omega (arith, h.within)) (omega arith) ∙ h.each i few;
    }

-- what one group more has stands behind the rest
pub joined_more : {X : Type 0} (groups : List (List X)) (more : List X)
    → joined (groups ++ more ∷ []) ≡ joined groups ++ more
joined_more {X} groups more =
    flat_map-append (λ (g : List X). g) groups (more ∷ []) ∙ ap (λ (xs : List X). joined groups ++ xs) (append-nil more)

-- groups do not lie backwards
pub laid_up : (file : List ℕ) (from : Gate) (groups : List (List ℕ)) (end : Gate) → Laid file from groups end
    → from.at ≤ end.at
laid_up file from [] end is = let same = ap (λ (gate : Gate). gate.at) is in omega (arith, same)
laid_up file from (group ∷ groups) end (first, rest) =
    let more = laid_up file (gate_after from group) groups end rest in
    omega (arith, more)

-- groups below a write stay
pub laid_past : (old new : List ℕ) (from : Gate) (groups : List (List ℕ)) (end : Gate) (at n : ℕ) → end.at ≤ at
    → end.at ≤ length old → Torn at n old new → Laid old from groups end → Laid new from groups end
laid_past old new from [] end at n low within torn is = is
laid_past old new from (group ∷ groups) end at n low within torn (first, rest) =
    let more = laid_up old (gate_after from group) groups end rest in
    let size = long from.prior group in (
      record {
        not_shut = gate_past old new from.at at n (omega (arith, more, within)) (omega (arith, more, low)) torn
            ∙ first.not_shut;
        text = past old new at n (from.at + 8) (text_of from.prior group)
            (omega (arith, more, low, size)) torn first.text;
        some = first.some;
        short = first.short;
      },
      laid_past old new (gate_after from group) groups end at n low within torn rest,
    )

-- a group behind them makes one more
pub laid_more : (file : List ℕ) (from : Gate) (groups : List (List ℕ)) (end : Gate) (group : List ℕ)
    → Laid file from groups end → IsGroupAt file end group
    → Laid file from (groups ++ group ∷ []) (gate_after end group)
laid_more file from [] end group is it =
    subst (λ (gate : Gate). Laid file gate (group ∷ []) (gate_after end group)) (sym is) (it, refl)
laid_more file from (first ∷ groups) end group (was, rest) it =
    (was, laid_more file (gate_after from first) groups end group rest it)

-- a file that is ready stays so through a write past its gate
pub ready_past : (old new : List ℕ) (end : Gate) (at n : ℕ) (groups : List (List ℕ)) → end.at + 8 ≤ at
    → Torn at n old new → Ready old end groups → Ready new end groups
ready_past old new end at n groups low torn r =
    record {
      laid = laid_past old new first_gate groups end at n (omega (arith, low)) (omega (arith, r.within)) torn r.laid;
      within = omega (arith, r.within, torn.no_shorter);
      shut = gate_past old new end.at at n r.within low torn ∙ r.shut;
    }

-- the shut gate behind a group that is staged
pub next_gate : (file : List ℕ) (end : Gate) (group : List ℕ) → Holds file (end.at + 8) (shut_text end.prior group)
    → Holds file (end.at + 48 + length group) shut_gate
next_gate file end group staged =
    let text = text_of end.prior group in
    let place : end.at + 8 + length text ≡ end.at + 48 + length group = omega (arith, long end.prior group) in
    subst (λ (m : ℕ). Holds file m shut_gate) place (behind file (end.at + 8) text shut_gate staged)

-- once the gate is not shut, the file has one group more
pub gained : (old new : List ℕ) (end : Gate) (groups : List (List ℕ)) (group : List ℕ) → 0 < length group
    → length group < 2 ^ 40 → Torn end.at 8 old new → is_shut_at new end.at ≡ false → Ready old end groups
    → Holds old (end.at + 8) (shut_text end.prior group) → Ready new (gate_after end group) (groups ++ group ∷ [])
gained old new end groups group some short torn other r staged =
    let text = text_of end.prior group in
    let at = end.at + 48 + length group in
    let laid = laid_past old new first_gate groups end end.at 8 (omega arith) (omega (arith, r.within)) torn r.laid in
    let own = front old (end.at + 8) text shut_gate staged in
    let here = beyond old new end.at 8 (end.at + 8) text (omega arith) torn own in
    let there = beyond old new end.at 8 at shut_gate (omega arith) torn (next_gate old end group staged) in
    record {
      laid = laid_more new first_gate groups end group laid
          (record { not_shut = other; text = here; some = some; short = short });
      within = omega (arith, there.within, eight);
      shut = shut_at new at there;
    }

-- whatever a write of the gate leaves stands for the groups, with the one behind the gate or without
pub either : (old new : List ℕ) (end : Gate) (groups : List (List ℕ)) (group : List ℕ) → 0 < length group
    → length group < 2 ^ 40 → Torn end.at 8 old new → Ready old end groups
    → Holds old (end.at + 8) (shut_text end.prior group)
    → StandsFor new groups ⊎ StandsFor new (groups ++ group ∷ [])
either old new end groups group some short torn r staged =
    let laid = laid_past old new first_gate groups end end.at 8 (omega arith) (omega (arith, r.within)) torn r.laid in
    elim (cases_Bool (is_shut_at new end.at)) [
      | inl shut ↦
          let within : end.at + 8 ≤ length new = omega (arith, r.within, torn.no_shorter) in
          inl (inl (end, record { laid = laid; within = within; shut = shut }))
      | inr other ↦ inr (inl (gate_after end group, gained old new end groups group some short torn other r staged))
    ]

-- a file of one shut gate has no group
pub begun : (file : List ℕ) → Holds file 0 shut_gate → Ready file first_gate []
begun file h =
    record {
      laid = refl;
      within = omega (arith, h.within);
      shut = shut_at file 0 h;
    }

-- a file of eight bytes at most has no group
pub none_yet : (file : List ℕ) (groups : List (List ℕ)) → length file ≤ 8 → StandsFor file groups → groups ≡ []
none_yet file groups short (inr none) = none.1
none_yet file [] short (inl ready) = refl
none_yet file (group ∷ groups) short (inl ready) =
    let text = ready.1.laid.0.text.within in
    absurd (omega (arith, short, text, long first_gate.prior group))
