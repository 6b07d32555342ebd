-- Reading entries one after the other, as a loop does.
use Rattle.std.proofs.Common.{◌≡◌, ℕ, suc, ◌-◌, ◌+◌, ◌≤◌, ◌<◌, List, [], ◌∷◌, ◌++◌, Ok, Err, refl, sym, ap, ◌∙◌}
use Rattle.std.proofs.Common.{append_assoc, arith}
use Rattle.std.proofs.lemmas.List.{append-nil}
use Rattle.octets.specs.Gives.{◌>>=◌, Told}
use Rattle.octets.proofs.ByteLaws.{told_map}
use Rattle.exchange_frames.specs.declared.fault.FrameFault.{FrameFault}
use Rattle.exchange_frames.specs.Fault.{is_memory}
use Rattle.walk_frames.specs.Entries.{EntryParts}
use Rattle.walk_frames.specs.Reading.{Read, entry_at, entries_at}

-- what was read before, and what is still read
abbrev pub with_front : List EntryParts → Read (List EntryParts) → Read (List EntryParts)
with_front front read = read >>= λ x. Ok (front ++ x.0, x.1)

regroup : (front : List EntryParts) (n : EntryParts) (read : Read (List EntryParts))
    → with_front front (read >>= λ x. Ok (n ∷ x.0, x.1)) ≡ with_front (front ++ n ∷ []) read
regroup front n (Ok x) = ap (λ (ns : List EntryParts). Ok (ns, x.1)) (simp append_assoc)
regroup front n (Err f) = refl

pub goes_on : (front : List EntryParts) (count i : ℕ) (text : List ℕ) (n : EntryParts) (after : List ℕ)
    (total : Read (List EntryParts)) → i < count → entry_at text ≡ Ok (n, after)
    → with_front front (entries_at (count - i) text) ≡ total
    → with_front (front ++ n ∷ []) (entries_at (count - (i + 1)) after) ≡ total
unfolding entries_at
goes_on front count i text n after total lt h so_far =
    let k : count - i ≡ suc (count - (i + 1)) = omega arith in
    let one : with_front front (entries_at (count - i) text)
    ≡ with_front (front ++ n ∷ []) (entries_at (count - (i + 1)) after) =
    rw (k, h) (regroup front n (entries_at (count - (i + 1)) after))
    in
    sym one ∙ so_far

fails : (f : FrameFault) (front : List EntryParts) (count i : ℕ) (text : List ℕ) (total : Read (List EntryParts))
    → i < count → with_front front (entries_at (count - i) text) ≡ total → entry_at text ≡ Err f → total ≡ Err f
unfolding entries_at
fails f front count i text total lt so_far h =
    let k : count - i ≡ suc (count - (i + 1)) = omega arith in
    let one : with_front front (entries_at (count - i) text) ≡ Err f = rw (k, h) refl in
    sym so_far ∙ one

-- A fault of one is a fault of all.
pub ends : (e : FrameFault) (front : List EntryParts) (count i : ℕ) (text : List ℕ) (total : Read (List EntryParts))
    → i < count → Told is_memory e (λ f. entry_at text ≡ Err f)
    → with_front front (entries_at (count - i) text) ≡ total → Told is_memory e (λ f. total ≡ Err f)
ends e front count i text total lt told so_far =
    told_map is_memory e (λ f. entry_at text ≡ Err f) (λ f. total ≡ Err f)
    (fails e front count i text total lt so_far) told

pub is_done : (front : List EntryParts) (count i : ℕ) (text : List ℕ) (total : Read (List EntryParts)) → count ≤ i
    → with_front front (entries_at (count - i) text) ≡ total → total ≡ Ok (front, text)
unfolding entries_at
is_done front count i text total le so_far =
    let k : count - i ≡ 0 = omega arith in
    let one : with_front front (entries_at (count - i) text) ≡ Ok (front, text) =
    rw k (ap (λ (ns : List EntryParts). Ok (ns, text)) (append-nil front))
    in
    sym so_far ∙ one
