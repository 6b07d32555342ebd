-- The steps of a ledger keep the rule of its book.
use Rattle.std.proofs.Common.{◌≡◌, ℕ, ◌<◌, ◌==◌, true, false, List, [], ◌∷◌, ◌++◌, length, Option, None}
use Rattle.std.proofs.Common.{refl, sym}
use Rattle.std.proofs.Common.{ap, subst, ◌∙◌, arith, inl, inr, length-append, slice_set}
use Rattle.std.proofs.lemmas.Bool.{cases_eq, ne_eqb, true≢false}
use Rattle.std.proofs.lemmas.List.{append-nil, get_or-set_same, get_or-set_other, length-set, get_or_append_left}
use prog.Atomic.{either}
use Rattle.logbook.specs.Pages.{Cell, cell, Nib, no_nib, keeps, gives, adds, may_write, step, Moves}
use Rattle.hub_exchange.specs.Lines.{Written}
use Rattle.hub_exchange.specs.Rules.{IsHome, AreHome, IsKept, IsUnused, signed, Makes, Writes, Looks}

abbrev pub shown : List Written → List Written
shown log = []

abbrev pub moved : Written → List Written → List Written → ℕ → Type 0
moved ask xs ys n = Unit {0}

-- what is home stays home, whichever word is brought home
home_set : (cs : List Cell) (j k n : ℕ) → IsHome cs k → IsHome (slice_set cs j (n, true)) k
home_set cs j k n home = (
  subst (λ (len : ℕ). k < len) (sym (length-set cs j (n, true))) home.0,
  elim (cases_eq k j) as (λ _. (cell (slice_set cs j (n, true)) k).1 ≡ true) [
    | inl same ↦ subst (λ (i : ℕ). (cell (slice_set cs i (n, true)) k).1 ≡ true) same
        (ap (λ (c : Cell). c.1) (get_or-set_same cs k (n, true) (0, false) home.0))
    | inr other ↦ ap (λ (c : Cell). c.1) (get_or-set_other cs j k (n, true) (0, false) other) ∙ home.1
  ],
)

-- it is home then
set_home : (cs : List Cell) (k n : ℕ) → k < length cs → IsHome (slice_set cs k (n, true)) k
set_home cs k n low = (
  subst (λ (len : ℕ). k < len) (sym (length-set cs k (n, true))) low,
  ap (λ (c : Cell). c.1) (get_or-set_same cs k (n, true) (0, false) low),
)

-- and where a word is added
home_more : (cs : List Cell) (k : ℕ) → IsHome cs k → IsHome (cs ++ (0, false) ∷ []) k
home_more cs k home = (
  omega (arith, length-append cs ((0, false) ∷ []), home.0),
  ap (λ (c : Cell). c.1) (get_or_append_left cs ((0, false) ∷ []) (0, false) k home.0) ∙ home.1,
)

are_set : (cs : List Cell) (j n : ℕ) (log : List Written) → AreHome cs log → AreHome (slice_set cs j (n, true)) log
are_set cs j n [] all = tt
are_set cs j n (w ∷ log) all = (home_set cs j w.pen n all.0, are_set cs j n log all.1)

are_added : (cs : List Cell) (log : List Written) → AreHome cs log → AreHome (cs ++ (0, false) ∷ []) log
are_added cs [] all = tt
are_added cs (w ∷ log) all = (home_more cs w.pen all.0, are_added cs log all.1)

are_more : (cs : List Cell) (log : List Written) (w : Written) → AreHome cs log → IsHome cs w.pen
    → AreHome cs (log ++ w ∷ [])
are_more cs [] w all one = (one, tt)
are_more cs (v ∷ log) w all one = (all.0, are_more cs log w all.1 one)

are_all : (cs : List Cell) (log : List Written) → AreHome cs log → AreHome cs (log ++ [])
are_all cs log all = subst (AreHome cs) (sym (append-nil log)) all

-- a pen whose word is away has written nothing
unused : (cs : List Cell) (pen : ℕ) (log : List Written) → AreHome cs log → (cell cs pen).1 ≡ false → IsUnused pen log
unused cs pen [] all away = tt
unused cs pen (w ∷ log) all away = (
  ne_eqb w.pen pen
      (λ same. true≢false (sym (subst (λ (k : ℕ). (cell cs k).1 ≡ true) same all.0.1) ∙ away)),
  unused cs pen log all.1 away,
)

-- a pen is made
pub makes_moves : (v : List Written) (s : Option ℕ) (a : Written)
    → Moves IsKept shown (moved a) 0 (v, (no_nib, s)) (λ n. either (n == 0) 0 n) (Makes (step 0 0 0 a) (v, (no_nib, s)))
makes_moves v s a cs log kept begins away =
    let set = slice_set cs 0 (either ((cell cs 0).0 == 0) 0 (cell cs 0).0, true) in (
      kept.first.0,
      kept.first.1,
      (
        adds,
        [],
        s,
        tt,
        record {
          first = home_more set 0 (home_set cs 0 0 _ kept.first);
          pens = are_all (set ++ (0, false) ∷ []) log (are_added set log (are_set cs 0 _ log kept.pens));
        },
        inl (refl, refl),
        refl,
      ),
    )

-- a pen writes a line, as whose word is away, and comes home
pub writes_moves : (v : List Written) (pen : Nib) (a : Written) → pen.right ≡ may_write
    → Moves IsKept shown (moved a) 0 (v, (pen, None)) (λ n. either (n == 0) 0 n) (Writes (step 0 0 0 a) (v, (pen, None)))
writes_moves v pen a right cs log kept begins away =
    let out = away right in
    let set = slice_set cs 0 (either ((cell cs 0).0 == 0) 0 (cell cs 0).0, true) in
    let low : pen.key < length set = subst (λ (len : ℕ). pen.key < len) (sym (length-set cs 0 _)) out.0 in (
      kept.first.0,
      kept.first.1,
      (
        gives,
        signed pen.key a ∷ [],
        None,
        right,
        record {
          first = home_set set pen.key 0 pen.value (home_set cs 0 0 _ kept.first);
          pens = are_more (slice_set set pen.key (pen.value, true)) log (signed pen.key a)
              (are_set set pen.key pen.value log (are_set cs 0 _ log kept.pens))
              (set_home set pen.key pen.value low);
        },
        inl (refl, refl),
        (log, refl, begins, unused cs pen.key log kept.pens out.1),
      ),
    )

-- a pen looks, and its word stays away
pub looks_moves : (v : List Written) (pen : Nib) (s : Option ℕ) (a : Written) → pen.right ≡ may_write
    → Moves IsKept shown (moved a) 0 (v, (pen, s)) (λ n. either (n == 0) 0 n) (Looks (step 0 0 0 a) (v, (pen, s)))
looks_moves v pen s a right cs log kept begins away =
    let out = away right in
    let set = slice_set cs 0 (either ((cell cs 0).0 == 0) 0 (cell cs 0).0, true) in (
      kept.first.0,
      kept.first.1,
      (
        keeps,
        [],
        s,
        tt,
        record {
          first = home_set cs 0 0 _ kept.first;
          pens = are_all set log (are_set cs 0 _ log kept.pens);
        },
        inl (refl, refl),
        (refl, subst (IsUnused pen.key) (sym (append-nil log)) (unused cs pen.key log kept.pens out.1)),
      ),
    )
