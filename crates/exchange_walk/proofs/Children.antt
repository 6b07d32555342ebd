-- Which entry is the split of which a node is a child.
use Rattle.std.proofs.Common.{inl, inr, ◌≡◌, ◌⊎◌, ℕ, zero, suc, ◌+◌, ◌<◌, List, [], ◌∷◌, ◌++◌, Bool, true, false}
use Rattle.std.proofs.Common.{eqb, length, take, drop, get_or, refl, sym, ap, subst, ◌∙◌, arith}
use Rattle.std.proofs.lemmas.Bool.{and_parts, and_from, eqb-true, eq-eqb, cases_order, false≢true}
use Rattle.std.proofs.lemmas.List.{take-append-drop, length-drop}
use Rattle.std.specs.List.Sorted.{IsPartitionPoint, IsPartitionedBy}
use Rattle.octets.specs.Members.{Has}
use Rattle.octets.proofs.TextLemmas.{tied_texts}
use Rattle.walk_frames.specs.Nodes.{is_within, is_before, AreDigits}
use Rattle.walk_frames.specs.Entries.{EntryParts}
use Rattle.walk_frames.specs.Walks.{stand_apart}
use Rattle.walk_frames.proofs.Order.{before, before_then, same_is, Precedes, decided}
use Rattle.exchange_tree.specs.Nodes.{child}
use Rattle.exchange_walk.specs.Splits.{is_split}
use Rattle.exchange_walk.specs.Hearing.{is_child_of, IsChildOfSplit, IsAnswerTo}
use Rattle.exchange_walk.proofs.Lists.{has_at, take_next}
use Rattle.exchange_walk.proofs.Members.{parts_have}
use Rattle.exchange_walk.proofs.Order.{Ascends, ascends, before_behind}
use Rattle.exchange_walk.proofs.Finding.{longer}

-- ---- nodes

child_within : (node : List ℕ) (digit : ℕ) → is_within (child node digit) node ≡ true
child_within [] digit = refl
child_within (n ∷ ns) digit =
    let one : eqb n n ≡ true = grind arith in
    and_from (eqb n n) (is_within (child ns digit) ns) one (child_within ns digit)

-- nothing stands before what it is within
not_before : (node : List ℕ) (digit : ℕ) → before node (child node digit) ≡ false
not_before [] digit = refl
not_before (n ∷ ns) digit = by (before (n ∷ ns) (child (n ∷ ns) digit)) refl (not_before ns digit)
  where
    by : (b : Bool) → before (n ∷ ns) (child (n ∷ ns) digit) ≡ b → before ns (child ns digit) ≡ false
        → before (n ∷ ns) (child (n ∷ ns) digit) ≡ false
    by false e rest = e
    by true e rest = absurd (order (decided n n (before ns (child ns digit)) e))
      where
        order : (n < n) ⊎ ((n ≡ n) × (before ns (child ns digit) ≡ true)) → ⊥
        order (inl lt) = omega (arith, lt)
        order (inr same) = false≢true (sym rest ∙ same.1)

one_left : (digits : List ℕ) → length digits ≡ 1 → (digit : ℕ) × (digits ≡ digit ∷ [])
one_left [] e = absurd (omega (arith, e))
one_left (d ∷ []) e = (d, refl)
one_left (d ∷ x ∷ ds) e = absurd (omega (arith, e))

last_small : (node : List ℕ) (digit : ℕ) → AreDigits (child node digit) → digit < 16
last_small [] digit are = are.0
last_small (n ∷ ns) digit are = last_small ns digit are.1

-- ---- one entry

pub split_has : (said : List EntryParts) (split : EntryParts) (node : List ℕ) → AreDigits node → Has said split
    → is_child_of split node ≡ true → IsChildOfSplit said node
split_has said split node are h e =
    let p = and_parts (is_split split) _ e in
    let q = and_parts (eqb (length node) (length split.node + 1)) (is_within node split.node) p.1 in
    let long : length node ≡ length split.node + 1 = eqb-true (length node) (length split.node + 1) q.0 in
    let front : split.node ≡ take (length split.node) node =
    tied_texts split.node (take (length split.node) node) q.1 in
    let rest = one_left (drop (length split.node) node)
    (omega (arith, long, length-drop (length split.node) node)) in
    let is : node ≡ child split.node rest.0 =
    sym (take-append-drop (length split.node) node)
    ∙ ap (λ (front : List ℕ). front ++ drop (length split.node) node) (sym front)
    ∙ ap (λ (ds : List ℕ). split.node ++ ds) rest.1 in
    record {
      split = split;
      was_said = h;
      splits = p.0;
      digit = rest.0;
      small = last_small split.node rest.0 (subst AreDigits is are);
      is = is;
    }

pub is_the_split : (said : List EntryParts) (node : List ℕ) (is : IsChildOfSplit said node)
    → is_child_of is.split node ≡ true
is_the_split said node is =
    and_from (is_split is.split) _ is.splits
    (and_from (eqb (length node) (length is.split.node + 1)) (is_within node is.split.node)
    (eq-eqb (length node) (length is.split.node + 1) (ap length is.is ∙ longer is.split.node is.digit))
    (ap (λ (n : List ℕ). is_within n is.split.node) is.is ∙ child_within is.split.node is.digit))

-- ---- all entries

has_place : (xs : List EntryParts) (x d : EntryParts) → Has xs x → (k : ℕ) × (k < length xs) × (get_or xs k d ≡ x)
has_place [] x d h = absurd h
has_place (y ∷ ys) x d (inl at) = (0, omega arith, sym at)
has_place (y ∷ ys) x d (inr h) =
    let more = has_place ys x d h in
    (suc more.0, omega (arith, more.1), more.2)

in_order : (xs : List EntryParts) (i j : ℕ) (d : EntryParts) → Ascends xs → i < j → j < length xs
    → Precedes (get_or xs i d) (get_or xs j d)
in_order [] i j d a lt fits = absurd (omega (arith, fits))
in_order (x ∷ xs) i zero d a lt fits = absurd (omega (arith, lt))
in_order (x ∷ xs) zero (suc j) d a lt fits = a.0 (get_or xs j d) (has_at xs j d (omega (arith, fits)))
in_order (x ∷ xs) (suc i) (suc j) d a lt fits = in_order xs i j d a.1 (omega (arith, lt)) (omega (arith, fits))

-- What ascends is parted by whether it stands before a node.
pub before_parts : (node : List ℕ) (said : List EntryParts) → stand_apart said ≡ true
    → IsPartitionedBy (λ e. is_before e.node node) said
unfolding stand_apart
before_parts node said apart i j d le lt e = by (cases_order i j)
  where
    at : ℕ → EntryParts
    at k = get_or said k d

    by : (i ≡ j) ⊎ ((i < j) ⊎ (j < i)) → is_before (at i).node node ≡ true
    by (inl same) = ap (λ k. is_before (at k).node node) same ∙ e
    by (inr (inl less)) =
        same_is (at i).node node
        ∙ before_then (at i).node (at j).node node (in_order said i j d (ascends said apart) less lt)
        (sym (same_is (at j).node node) ∙ e)
    by (inr (inr more)) = absurd (omega (arith, le, more))

nothing_behind : (node : List ℕ) → node ++ [] ≡ node
nothing_behind [] = refl
nothing_behind (n ∷ ns) = ap (λ (ds : List ℕ). n ∷ ds) (nothing_behind ns)

-- The split of which a node is a child is the first entry that does not stand before it.
pub is_first : (said : List EntryParts) (node : List ℕ) (first : ℕ) (d : EntryParts) → stand_apart said ≡ true
    → IsPartitionPoint (λ e. is_before e.node node ≡ true) (λ e. is_before e.node node ≡ false) said first
    → (is : IsChildOfSplit said node) → (first < length said) × (get_or said first d ≡ is.split)
unfolding stand_apart
is_first said node first d apart point is = by (cases_order first k)
  where
    place : (k : ℕ) × (k < length said) × (get_or said k d ≡ is.split)
    place = has_place said is.split d is.was_said

    k : ℕ
    k = place.0

    at : ℕ → EntryParts
    at n = get_or said n d

    not_true : (b : Bool) → b ≡ true → b ≡ false → ⊥
    not_true b e f = false≢true (sym f ∙ e)

    own : before is.split.node node ≡ false
    own = ap (before is.split.node) is.is ∙ not_before is.split.node is.digit

    by : (first ≡ k) ⊎ ((first < k) ⊎ (k < first)) → (first < length said) × (get_or said first d ≡ is.split)
    by (inl same) = (omega (arith, same, place.1), ap at same ∙ place.2)
    by (inr (inl less)) =
        let earlier = in_order said first k d (ascends said apart) less place.1 in
        let stands = before_behind (at first).node (at k).node [] (is.digit ∷ []) earlier in
        let whole : before (at first).node node ≡ true =
        ap (λ (n : List ℕ). before n node) (sym (nothing_behind (at first).node))
        ∙ ap (before ((at first).node ++ [])) (is.is ∙ ap (λ (e : EntryParts). child e.node is.digit) (sym place.2))
        ∙ stands in
        absurd (not_true _ (same_is (at first).node node ∙ whole)
        (point.1 first d (omega arith) (omega (arith, less, place.1))))
    by (inr (inr more)) =
        absurd (not_true _ (point.0 k d (omega arith) more)
        (ap (λ (e : EntryParts). is_before e.node node) place.2 ∙ same_is is.split.node node ∙ own))

-- One entry more is for a child of a split.
pub one_more : (said xs : List EntryParts) (i : ℕ) (d : EntryParts) → i < length xs → IsAnswerTo said (take i xs)
    → IsChildOfSplit said (get_or xs i d).node → IsAnswerTo said (take (i + 1) xs)
one_more said xs i d lt all one entry h =
    by (parts_have (take i xs) (get_or xs i d ∷ []) entry (subst (λ es. Has es entry) (take_next i xs d lt) h))
  where
    by : Has (take i xs) entry ⊎ Has (get_or xs i d ∷ []) entry → IsChildOfSplit said entry.node
    by (inl g) = all entry g
    by (inr (inl at)) = subst (λ (e : EntryParts). IsChildOfSplit said e.node) (sym at) one
    by (inr (inr g)) = absurd g
