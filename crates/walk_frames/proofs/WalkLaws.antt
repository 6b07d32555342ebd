-- A walk that is read is the walk that was written, and what was written is read again.
use Rattle.std.proofs.Common.{◌≡◌, ℕ, ◌≤◌, ◌<◌, Bool, true, false, cond, ltb, eqb, List, [], ◌∷◌, ◌++◌}
use Rattle.std.proofs.Common.{length, Result, Ok, Err, refl, sym, ap, subst, ◌∙◌, arith}
use Rattle.std.specs.Prelude.{IfErr, IfOk}
use Rattle.std.specs.Int.{w16, from_be_bytes, to_be_bytes}
use Rattle.std.specs.List.{flat_map}
use Rattle.std.proofs.lemmas.Bool.{ltb-false, le-ltb, eqb-true}
use Rattle.std.proofs.lemmas.List.{nil_from_length, append-nil}
use Rattle.std.proofs.lemmas.Nat.{be_bytes_2, from_be_bytes-to_be_bytes_2}
use Rattle.octets.specs.Bytes.{IsBytes}
use Rattle.octets.specs.Gives.{Gives, Told}
use Rattle.octets.proofs.ByteLaws.{IsBytes-two, bind_ok, guard_end, ok_is, told_map}
use Rattle.exchange_frames.specs.declared.fault.FrameFault.{FrameFault}
use Rattle.exchange_frames.specs.declared.fault.FrameFault.TheVariants.{BadFrame, TooLong, Memory}
use Rattle.exchange_frames.specs.Fault.{is_memory}
use Rattle.walk_frames.specs.Entries.{EntryParts}
use Rattle.walk_frames.specs.Walks.{stand_apart, walk_of, IsWalk}
use Rattle.walk_frames.specs.Spelling.{entry_text, walk_text}
use Rattle.walk_frames.specs.Reading.{entries_at, walk_at, HasFault}
use Rattle.walk_frames.proofs.EntryLaws.{entries_takes, entries_again, entries_bad}
use Rattle.walk_frames.proofs.Readings.{guard_then, OnlyBad, bad_then, bad_cond}

abbrev Walk : Type 0
Walk = List EntryParts

-- ---- entries that are a walk's

of_takes : (entries walk : Walk) → walk_of entries ≡ Ok walk → (length entries ≤ 4096) × (stand_apart entries ≡ true)
    × (entries ≡ walk)
unfolding walk_of
of_takes entries walk e =
    let a = guard_then (ltb 4096 (length entries)) BadFrame (cond (stand_apart entries) (Ok entries) (Err BadFrame))
    walk e in
    let b = guard_end (stand_apart entries) BadFrame entries walk a.1 in
    (ltb-false 4096 (length entries) a.0, b.0, b.1)

of_again : (walk : Walk) → IsWalk walk → walk_of walk ≡ Ok walk
unfolding walk_of
of_again walk is = rw (le-ltb 4096 (length walk) is.short, is.apart) refl

-- ---- a whole body

walk_takes_rest : (a b : ℕ) (rest : List ℕ) (walk : Walk) → a < 256 → b < 256 → walk_at (a ∷ b ∷ rest) ≡ Ok walk
    → (a ∷ b ∷ rest ≡ walk_text walk) × IsWalk walk
unfolding walk_at walk_text
walk_takes_rest a b rest walk p q e =
    let n = from_be_bytes w16 (a ∷ b ∷ []) in
    let f = bind_ok (entries_at n rest)
    (λ entries. cond (eqb (length entries.1) 0) (walk_of entries.0) (Err BadFrame)) walk e in
    let entries = f.0.0 in
    let g = ended (eqb (length f.0.1) 0) (walk_of entries) walk f.2 in
    let made = of_takes entries walk g.1 in
    let parts = entries_takes n rest f.0 f.1 in
    let none : f.0.1 ≡ [] = nil_from_length f.0.1 (eqb-true (length f.0.1) 0 g.0) in
    let front : to_be_bytes w16 (length entries) ≡ a ∷ b ∷ [] =
    be_bytes_2 (a ∷ b ∷ []) (length entries) refl (IsBytes-two a b p q) parts.1
    in
    let body : rest ≡ flat_map entry_text entries =
    parts.0 ∙ ap (λ (t : List ℕ). flat_map entry_text entries ++ t) none ∙ append-nil (flat_map entry_text entries)
    in
    let whole : a ∷ b ∷ rest ≡ walk_text entries =
    ap (λ (t : List ℕ). a ∷ b ∷ t) body ∙ ap (λ (t : List ℕ). t ++ flat_map entry_text entries) (sym front)
    in
    let lawful : IsWalk entries = record { short = made.0; apart = made.1; lawful = parts.2 } in
    subst (λ (w : Walk). (a ∷ b ∷ rest ≡ walk_text w) × IsWalk w) made.2 (whole, lawful)
  where
    ended : (t : Bool) (r : Result Walk FrameFault) (w : Walk) → cond t r (Err BadFrame) ≡ Ok w
        → (t ≡ true) × (r ≡ Ok w)
    ended true r w e = (refl, e)
    ended false r w e = absurd cc

-- What is read of a body is spelled so, and is a walk.
pub walk_takes : (body : List ℕ) (walk : Walk) → IsBytes body → walk_at body ≡ Ok walk → (body ≡ walk_text walk)
    × IsWalk walk
unfolding walk_at
walk_takes [] walk fits e = absurd cc
walk_takes (a ∷ []) walk fits e = absurd cc
walk_takes (a ∷ b ∷ rest) walk fits e = walk_takes_rest a b rest walk (fits 0) (fits 1) e

-- What is spelled of a walk is read again.
pub walk_again : (walk : Walk) → IsWalk walk → walk_at (walk_text walk) ≡ Ok walk
unfolding walk_at walk_text
walk_again walk is =
    let text = flat_map entry_text walk in
    let count : from_be_bytes w16 (to_be_bytes w16 (length walk)) ≡ length walk =
    from_be_bytes-to_be_bytes_2 (length walk) (omega (arith, is.short))
    in
    let entries : entries_at (length walk) text ≡ Ok (walk, []) =
    ap (entries_at (length walk)) (sym (append-nil text)) ∙ entries_again walk [] is.lawful
    in
    rw (count, entries) (of_again walk is)

-- One text is read as one walk.
pub walk_once : (v w : Walk) → IsWalk v → IsWalk w → walk_text v ≡ walk_text w → v ≡ w
walk_once v w p q e = ok_is FrameFault v w (sym (walk_again v p) ∙ ap walk_at e ∙ walk_again w q)

-- ---- faults

of_bad : (entries : Walk) → OnlyBad (walk_of entries)
unfolding walk_of
of_bad entries =
    bad_cond (ltb 4096 (length entries)) (Err BadFrame) (cond (stand_apart entries) (Ok entries) (Err BadFrame)) refl
    (bad_cond (stand_apart entries) (Ok entries) (Err BadFrame) tt refl)

walk_bad : (body : List ℕ) → OnlyBad (walk_at body)
unfolding walk_at
walk_bad [] = refl
walk_bad (a ∷ []) = refl
walk_bad (a ∷ b ∷ rest) =
    bad_then (entries_at (from_be_bytes w16 (a ∷ b ∷ [])) rest)
    (λ entries. cond (eqb (length entries.1) 0) (walk_of entries.0) (Err BadFrame))
    (entries_bad (from_be_bytes w16 (a ∷ b ∷ [])) rest)
    (λ entries. bad_cond (eqb (length entries.1) 0) (walk_of entries.0) (Err BadFrame) (of_bad entries.0) refl)

-- What can't be read has the fault that is told.
pub fault_is : (body : List ℕ) (e : FrameFault) → walk_at body ≡ Err e → HasFault body e
fault_is body BadFrame is = λ walk lawful text. absurd (cc (sym is ∙ ap walk_at text ∙ walk_again walk lawful))
fault_is body TooLong is = absurd (cc (subst (λ (r : Result Walk FrameFault). OnlyBad r) is (walk_bad body)))
fault_is body Memory is = absurd (cc (subst (λ (r : Result Walk FrameFault). OnlyBad r) is (walk_bad body)))

-- What has a fault comes to it.
pub fault_told : (body : List ℕ) (e : FrameFault) → IsBytes body → HasFault body e → walk_at body ≡ Err e
fault_told body TooLong fits has = absurd has
fault_told body Memory fits has = absurd has
fault_told body BadFrame fits has = by_reading (walk_at body) refl
  where
    bad : (r : Result Walk FrameFault) (d : FrameFault) → r ≡ Err d → OnlyBad r → r ≡ Err BadFrame
    bad r d is only = is ∙ ap (λ (f : FrameFault). Err f) (subst (λ (s : Result Walk FrameFault). OnlyBad s) is only)

    by_reading : (r : Result Walk FrameFault) → walk_at body ≡ r → walk_at body ≡ Err BadFrame
    by_reading (Ok walk) is =
        let read = walk_takes body walk fits is in
        absurd (has walk read.1 read.0)
    by_reading (Err d) is = bad (walk_at body) d is (walk_bad body)

-- ---- what was answered

abbrev Answer : Type 0
Answer = Result Walk FrameFault

pub answered_so : (body : List ℕ) (answered : Answer) → IsBytes body → Gives is_memory (λ w. w) answered (walk_at body)
    → IfOk answered (λ walk. (body ≡ walk_text walk) × IsWalk walk)
answered_so body (Ok walk) fits gives = walk_takes body walk fits gives
answered_so body (Err e) fits gives = tt

pub faulted_so : (body : List ℕ) (answered : Answer) → Gives is_memory (λ w. w) answered (walk_at body)
    → IfErr answered (λ e. Told is_memory e (HasFault body))
faulted_so body (Ok walk) gives = tt
faulted_so body (Err e) gives = told_map is_memory e (λ f. walk_at body ≡ Err f) (HasFault body) (fault_is body e) gives
