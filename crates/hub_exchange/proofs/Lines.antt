-- Laws of the lines of a ledger.
use Rattle.std.proofs.Common.{◌≡◌, ℕ, ◌==◌, Bool, true, false, List, [], ◌∷◌, ◌++◌, if◌then◌else◌, refl, sym, ap, subst}
use Rattle.std.proofs.Common.{◌∙◌, append_assoc}
use Rattle.std.proofs.lemmas.Bool.{eq-eqb}
use Rattle.std.proofs.lemmas.List.{append-nil}
use mathlib.Core.List.{IsPrefix}
use Rattle.hub_exchange.specs.Lines.{Written, digests_of, pen_of}
use Rattle.hub_exchange.specs.Rules.{IsUnused}

-- what begins a beginning begins the whole
pub prefix_trans : {A : Type 0} (xs ys zs : List A) → IsPrefix xs ys → IsPrefix ys zs → IsPrefix xs zs
prefix_trans xs ys zs p q = (p.0 ++ q.0, sym (append_assoc xs p.0 q.0) ∙ (ap (λ w. w ++ q.0) p.1 ∙ q.1))

-- digests of two lists of lines, by whether a line before them is of the ledger
append_by : (b : Bool) (digest : List ℕ) (all all' front front' : List (List ℕ)) (pen pen' : ℕ) (ys : List Written)
    → all ≡ front ++ digests_of pen ys → all' ≡ front' ++ digests_of pen' ys
    → (if b then digest ∷ all else all')
    ≡ (if b then digest ∷ front else front') ++ digests_of (if b then pen else pen') ys
append_by true digest all all' front front' pen pen' ys e e' = ap (λ (t : List (List ℕ)). digest ∷ t) e
append_by false digest all all' front front' pen pen' ys e e' = e'

-- the digests of lines, and of lines behind them
pub digests_append : (first : ℕ) (xs ys : List Written)
    → digests_of first (xs ++ ys) ≡ digests_of first xs ++ digests_of (pen_of first xs) ys
digests_append first [] ys = refl
digests_append first (w ∷ xs) ys = append_by (w.pen == first) w.digest _ _ _ _ (pen_of w.next xs) (pen_of first xs) ys
    (digests_append w.next xs ys) (digests_append first xs ys)

pen_by : (b : Bool) (all all' pen pen' : ℕ) (ys : List Written) → all ≡ pen_of pen ys → all' ≡ pen_of pen' ys
    → (if b then all else all') ≡ pen_of (if b then pen else pen') ys
pen_by true all all' pen pen' ys e e' = e
pen_by false all all' pen pen' ys e e' = e'

pub pen_append : (first : ℕ) (xs ys : List Written) → pen_of first (xs ++ ys) ≡ pen_of (pen_of first xs) ys
pen_append first [] ys = refl
pen_append first (w ∷ xs) ys = pen_by (w.pen == first) _ _ (pen_of w.next xs) (pen_of first xs) ys
    (pen_append w.next xs ys) (pen_append first xs ys)

-- where a pen has written nothing
digests_unused : (pen : ℕ) (log : List Written) → IsUnused pen log → digests_of pen log ≡ []
digests_unused pen [] none = refl
digests_unused pen (w ∷ log) none =
    subst (λ (b : Bool). (if b then w.digest ∷ digests_of w.next log else digests_of pen log) ≡ []) (sym none.0)
    (digests_unused pen log none.1)

pen_unused : (pen : ℕ) (log : List Written) → IsUnused pen log → pen_of pen log ≡ pen
pen_unused pen [] none = refl
pen_unused pen (w ∷ log) none =
    subst (λ (b : Bool). (if b then pen_of w.next log else pen_of pen log) ≡ pen) (sym none.0)
    (pen_unused pen log none.1)

unused_behind : (pen : ℕ) (xs ys : List Written) → IsUnused pen (xs ++ ys) → IsUnused pen ys
unused_behind pen [] ys none = none
unused_behind pen (x ∷ xs) ys none = unused_behind pen xs ys none.1

-- a beginning has a beginning of the digests
pub digests_begin : (first : ℕ) (xs ys : List Written) → IsPrefix xs ys
    → IsPrefix (digests_of first xs) (digests_of first ys)
digests_begin first xs ys begins =
    (digests_of (pen_of first xs) begins.0, sym (digests_append first xs begins.0) ∙ ap (digests_of first) begins.1)

-- where the next pen has written nothing there are no digests but those that were seen
pub all_seen : (first pen : ℕ) (seen log : List Written) → pen ≡ pen_of first seen → IsPrefix seen log → IsUnused pen log
    → digests_of first log ≡ digests_of first seen
all_seen first pen seen log is begins none =
    let behind : IsUnused (pen_of first seen) begins.0 = unused_behind (pen_of first seen) seen begins.0
    (subst (λ (l : List Written). IsUnused (pen_of first seen) l) (sym begins.1)
    (subst (λ (p : ℕ). IsUnused p log) is none)) in
    ap (digests_of first) (sym begins.1) ∙ digests_append first seen begins.0
    ∙ ap (λ (t : List (List ℕ)). digests_of first seen ++ t) (digests_unused (pen_of first seen) begins.0 behind)
    ∙ append-nil (digests_of first seen)

pen_seen : (first pen : ℕ) (seen log : List Written) → pen ≡ pen_of first seen → IsPrefix seen log → IsUnused pen log
    → pen_of first log ≡ pen
pen_seen first pen seen log is begins none =
    let behind : IsUnused (pen_of first seen) begins.0 = unused_behind (pen_of first seen) seen begins.0
    (subst (λ (l : List Written). IsUnused (pen_of first seen) l) (sym begins.1)
    (subst (λ (p : ℕ). IsUnused p log) is none)) in
    ap (pen_of first) (sym begins.1) ∙ pen_append first seen begins.0
    ∙ pen_unused (pen_of first seen) begins.0 behind ∙ sym is

-- a line that a pen wrote
digest_one : (pen : ℕ) (w : Written) → w.pen ≡ pen → digests_of pen (w ∷ []) ≡ w.digest ∷ []
digest_one pen w is = subst (λ (b : Bool). (if b then w.digest ∷ [] else []) ≡ w.digest ∷ []) (sym (eq-eqb w.pen pen is)) refl

pen_one : (pen : ℕ) (w : Written) → w.pen ≡ pen → pen_of pen (w ∷ []) ≡ w.next
pen_one pen w is = subst (λ (b : Bool). (if b then w.next else pen) ≡ w.next) (sym (eq-eqb w.pen pen is)) refl

-- the next pen wrote a line
pub digest_more : (first pen : ℕ) (seen log new : List Written) (w : Written) → pen ≡ pen_of first seen → w.pen ≡ pen
    → new ≡ log ++ w ∷ [] → IsPrefix seen log → IsUnused pen log
    → digests_of first new ≡ digests_of first seen ++ w.digest ∷ []
digest_more first pen seen log new w is by grown begins none =
    ap (digests_of first) grown ∙ digests_append first log (w ∷ [])
    ∙ ap (λ (p : ℕ). digests_of first log ++ digests_of p (w ∷ [])) (pen_seen first pen seen log is begins none)
    ∙ ap (λ (t : List (List ℕ)). digests_of first log ++ t) (digest_one pen w by)
    ∙ ap (λ (t : List (List ℕ)). t ++ w.digest ∷ []) (all_seen first pen seen log is begins none)

pub pen_more : (first pen : ℕ) (seen log new : List Written) (w : Written) → pen ≡ pen_of first seen → w.pen ≡ pen
    → new ≡ log ++ w ∷ [] → IsPrefix seen log → IsUnused pen log → pen_of first new ≡ w.next
pen_more first pen seen log new w is by grown begins none =
    ap (pen_of first) grown ∙ pen_append first log (w ∷ [])
    ∙ ap (λ (p : ℕ). pen_of p (w ∷ [])) (pen_seen first pen seen log is begins none) ∙ pen_one pen w by
