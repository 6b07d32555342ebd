-- An entry that is read is the entry that was written, and what was written is read again.
use Rattle.std.proofs.Common.{◌≡◌, ℕ, zero, suc, ◌*◌, ◌/◌, true, false, ltb, eqb, List, [], ◌∷◌, ◌++◌, length, take}
use Rattle.std.proofs.Common.{drop, Option, Some, None, Ok, Err, refl, sym, ap, subst, ◌∙◌, append_assoc, arith}
use Rattle.std.specs.Prelude.{IfSome}
use Rattle.std.specs.List.{flat_map, AllByRecursion}
use Rattle.std.proofs.lemmas.Bool.{ltb-false, le-ltb, eqb-true}
use Rattle.std.proofs.lemmas.Bool.{eq-eqb as eqb_is}
use Rattle.std.proofs.lemmas.List.{take_at, drop_at, take-append-drop, length-append, length-take-le}
use Rattle.std.proofs.lemmas.List.Concat.{flat_map-cons}
use Rattle.octets.specs.Gives.{◌>>=◌}
use Rattle.octets.proofs.ByteLaws.{bind_ok, guard_end, ok_is}
use Rattle.exchange_frames.specs.Digests.{digests_in}
use Rattle.exchange_frames.specs.Spelling.{digests_text, AreDigests}
use Rattle.exchange_frames.specs.declared.fault.FrameFault.{FrameFault}
use Rattle.exchange_frames.specs.declared.fault.FrameFault.TheVariants.{BadFrame}
use Rattle.exchange_frames.proofs.Chunks.{cut_in, text_in, in_text}
use Rattle.exchange_frames.proofs.Lists.{cut_whole, text_length}
use Rattle.walk_frames.specs.Entries.{EntryParts, AreSums, sums_of, IsEntry}
use Rattle.walk_frames.specs.Spelling.{node_text, sums_text, entry_text}
use Rattle.walk_frames.specs.Reading.{node_at, sums_at, entry_at, entries_at}
use Rattle.walk_frames.proofs.NodeLaws.{node_takes, node_again, node_bad}
use Rattle.walk_frames.proofs.Readings.{guard_then, OnlyBad, bad_then, bad_cond}

abbrev Sums : Type 0
Sums = Option (List (List ℕ))

-- ---- sums

sums_takes_some : (rest : List ℕ) (x : Sums × List ℕ) → sums_at (1 ∷ rest) ≡ Ok x
    → (1 ∷ rest ≡ sums_text x.0 ++ x.1) × IfSome x.0 AreSums
unfolding sums_at
sums_takes_some rest x e =
    let text = take 512 rest in
    let ds = digests_in text in
    let a = guard_then (ltb (length rest) 512) BadFrame (sums_of ds >>= λ sums. Ok (Some sums, drop 512 rest)) x e in
    let b = bind_ok (sums_of ds) (λ sums. Ok (Some sums, drop 512 rest)) x a.1 in
    let n = guard_end (eqb (length ds) 16) BadFrame ds b.0 b.1 in
    let long : length text ≡ 512 = length-take-le 512 rest (ltb-false (length rest) 512 a.0) in
    let whole : length text ≡ 32 * (length text / 32) = omega (arith, long) in
    let lawful : AreSums ds =
    record {
      many = eqb-true (length ds) 16 n.0;
      whole = subst AreDigests (sym (cut_in 16 text long)) (cut_whole 16 text long);
    }
    in
    let parts : 1 ∷ rest ≡ sums_text (Some ds) ++ drop 512 rest =
    ap (λ (t : List ℕ). 1 ∷ t) (sym (take-append-drop 512 rest))
    ∙ ap (λ (t : List ℕ). 1 ∷ (t ++ drop 512 rest)) (sym (text_in text whole))
    in
    let first : Sums × List ℕ = (Some ds, drop 512 rest) in
    let read : Sums × List ℕ = (Some b.0, drop 512 rest) in
    let same : first ≡ read = ap (λ (t : List (List ℕ)). (Some t, drop 512 rest)) n.1 in
    subst (λ (y : Sums × List ℕ). (1 ∷ rest ≡ sums_text y.0 ++ y.1) × IfSome y.0 AreSums)
    (same ∙ ok_is FrameFault read x b.2) (parts, lawful)

sums_takes : (text : List ℕ) (x : Sums × List ℕ) → sums_at text ≡ Ok x → (text ≡ sums_text x.0 ++ x.1)
    × IfSome x.0 AreSums
unfolding sums_at
sums_takes [] x e = absurd cc
sums_takes (zero ∷ rest) x e =
    let read : Sums × List ℕ = (None, rest) in
    subst (λ (y : Sums × List ℕ). (0 ∷ rest ≡ sums_text y.0 ++ y.1) × IfSome y.0 AreSums)
    (ok_is FrameFault read x e) (refl, tt)
sums_takes (suc zero ∷ rest) x e = sums_takes_some rest x e
sums_takes (suc (suc b) ∷ rest) x e = absurd cc

sums_again : (sums : Sums) (rest : List ℕ) → IfSome sums AreSums → sums_at (sums_text sums ++ rest) ≡ Ok (sums, rest)
unfolding sums_at
sums_again None rest is = refl
sums_again (Some ds) rest is =
    let text = digests_text ds in
    let len : length text ≡ 512 = omega (arith, text_length ds is.whole, is.many) in
    let long : ltb (length (text ++ rest)) 512 ≡ false = le-ltb _ _ (omega (arith, length-append text rest, len)) in
    let digests : digests_in text ≡ ds = in_text ds text refl (text_length ds is.whole) is.whole in
    let many : eqb (length ds) 16 ≡ true = eqb_is _ _ is.many in
    rw (long, take_at text rest 512 len, drop_at text rest 512 len, digests, many) refl

-- ---- one entry

entry_takes : (text : List ℕ) (x : EntryParts × List ℕ) → entry_at text ≡ Ok x → (text ≡ entry_text x.0 ++ x.1)
    × IsEntry x.0
unfolding entry_at entry_text
entry_takes text x e =
    let a = bind_ok (node_at text) (λ node. sums_at node.1 >>= λ sums.
    Ok (record { node = node.0; sums = sums.0 }, sums.1)) x e in
    let b = bind_ok (sums_at a.0.1) (λ sums. Ok (record { node = a.0.0; sums = sums.0 }, sums.1)) x a.2 in
    let node = node_takes text a.0 a.1 in
    let sums = sums_takes a.0.1 b.0 b.1 in
    let made : EntryParts × List ℕ = (record { node = a.0.0; sums = b.0.0 }, b.0.1) in
    let whole : text ≡ entry_text made.0 ++ made.1 =
    node.0 ∙ ap (λ (t : List ℕ). node_text a.0.0 ++ t) sums.0
    ∙ sym (append_assoc (node_text a.0.0) (sums_text b.0.0) b.0.1)
    in
    let lawful : IsEntry made.0 = record { node = node.1; sums = sums.1 } in
    subst (λ (y : EntryParts × List ℕ). (text ≡ entry_text y.0 ++ y.1) × IsEntry y.0)
    (ok_is FrameFault made x b.2) (whole, lawful)

entry_again : (entry : EntryParts) (rest : List ℕ) → IsEntry entry → entry_at (entry_text entry ++ rest) ≡ Ok
    (entry, rest)
unfolding entry_at entry_text
entry_again entry rest is =
    let behind = sums_text entry.sums ++ rest in
    ap entry_at (append_assoc (node_text entry.node) (sums_text entry.sums) rest)
    ∙ rw (node_again entry.node behind is.node, sums_again entry.sums rest is.sums) refl

-- ---- entries

pub entries_takes : (n : ℕ) (text : List ℕ) (x : List EntryParts × List ℕ) → entries_at n text ≡ Ok x
    → (text ≡ flat_map entry_text x.0 ++ x.1) × (length x.0 ≡ n) × AllByRecursion IsEntry x.0
unfolding entries_at
entries_takes zero text x e =
    let read : List EntryParts × List ℕ = ([], text) in
    subst (λ (y : List EntryParts × List ℕ). (text ≡ flat_map entry_text y.0 ++ y.1) × (length y.0 ≡ 0)
    × AllByRecursion IsEntry y.0) (ok_is FrameFault read x e) (refl, refl, tt)
entries_takes (suc n) text x e =
    let a = bind_ok (entry_at text) (λ first. entries_at n first.1 >>= λ others.
    Ok (first.0 ∷ others.0, others.1)) x e in
    let b = bind_ok (entries_at n a.0.1) (λ others. Ok (a.0.0 ∷ others.0, others.1)) x a.2 in
    let first = entry_takes text a.0 a.1 in
    let others = entries_takes n a.0.1 b.0 b.1 in
    let read : List EntryParts × List ℕ = (a.0.0 ∷ b.0.0, b.0.1) in
    let whole : text ≡ flat_map entry_text read.0 ++ read.1 =
    first.0 ∙ ap (λ (t : List ℕ). entry_text a.0.0 ++ t) others.0
    ∙ sym (append_assoc (entry_text a.0.0) (flat_map entry_text b.0.0) b.0.1)
    ∙ ap (λ (t : List ℕ). t ++ b.0.1) (sym (flat_map-cons entry_text a.0.0 b.0.0))
    in
    subst (λ (y : List EntryParts × List ℕ). (text ≡ flat_map entry_text y.0 ++ y.1) × (length y.0 ≡ suc n)
    × AllByRecursion IsEntry y.0) (ok_is FrameFault read x b.2) (whole, ap suc others.1, (first.1, others.2))

pub entries_again : (entries : List EntryParts) (rest : List ℕ) → AllByRecursion IsEntry entries
    → entries_at (length entries) (flat_map entry_text entries ++ rest) ≡ Ok (entries, rest)
unfolding entries_at
entries_again [] rest are = refl
entries_again (entry ∷ entries) rest are =
    let behind = flat_map entry_text entries ++ rest in
    let regrouped : flat_map entry_text (entry ∷ entries) ++ rest ≡ entry_text entry ++ behind =
    ap (λ (t : List ℕ). t ++ rest) (flat_map-cons entry_text entry entries)
    ∙ append_assoc (entry_text entry) (flat_map entry_text entries) rest
    in
    ap (entries_at (suc (length entries))) regrouped
    ∙ rw (entry_again entry behind are.0, entries_again entries rest are.1) refl

-- ---- faults

sums_of_bad : (ds : List (List ℕ)) → OnlyBad (sums_of ds)
sums_of_bad ds = bad_cond (eqb (length ds) 16) (Ok ds) (Err BadFrame) tt refl

sums_bad : (text : List ℕ) → OnlyBad (sums_at text)
unfolding sums_at
sums_bad [] = refl
sums_bad (zero ∷ rest) = tt
sums_bad (suc zero ∷ rest) =
    let ds = digests_in (take 512 rest) in
    bad_cond (ltb (length rest) 512) (Err BadFrame) (sums_of ds >>= λ sums. Ok (Some sums, drop 512 rest)) refl
    (bad_then (sums_of ds) (λ sums. Ok (Some sums, drop 512 rest)) (sums_of_bad ds) (λ sums. tt))
sums_bad (suc (suc b) ∷ rest) = refl

entry_bad : (text : List ℕ) → OnlyBad (entry_at text)
unfolding entry_at
entry_bad text =
    bad_then (node_at text) (λ node. sums_at node.1 >>= λ sums. Ok (record { node = node.0; sums = sums.0 }, sums.1))
    (node_bad text) (λ node. bad_then (sums_at node.1)
    (λ sums. Ok (record { node = node.0; sums = sums.0 }, sums.1)) (sums_bad node.1) (λ sums. tt))

pub entries_bad : (n : ℕ) (text : List ℕ) → OnlyBad (entries_at n text)
unfolding entries_at
entries_bad zero text = tt
entries_bad (suc n) text =
    bad_then (entry_at text) (λ first. entries_at n first.1 >>= λ others. Ok (first.0 ∷ others.0, others.1))
    (entry_bad text) (λ first. bad_then (entries_at n first.1) (λ others. Ok (first.0 ∷ others.0, others.1))
    (entries_bad n first.1) (λ others. tt))
