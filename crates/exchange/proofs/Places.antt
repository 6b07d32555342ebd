-- The digests of a set by their first bytes.
use Rattle.std.proofs.Common.{inl, inr, ◌≡◌, ℕ, zero, suc, ◌+◌, ◌<◌, ◌≤◌, List, [], ◌∷◌, ◌++◌, Bool, true, false, cond}
use Rattle.std.proofs.Common.{eqb, length, refl, sym, ap, ◌∙◌, arith, append_assoc}
use Rattle.std.proofs.lemmas.List.{append-nil}
use Rattle.std.proofs.Math.ListN.{replicate}
use Rattle.std.proofs.lemmas.Bool.{false≢true, eqb-true}
use Rattle.std.specs.Prelude.{◌⊎◌, filter, ◌&&◌, ◌==◌, not, nat_lt, if◌then◌else◌}
use Rattle.std.specs.BTreeMap.Range.{range_contains, entries_between}
use Rattle.std.specs.Cmp.Lexicographic.{slice_cmp}
use Rattle.std.specs.FinMap.{entries}
use Rattle.std.specs.List.{AllByRecursion, list_any}
use Rattle.std.specs.List.Sorted.{IsStrictlySortedBy}
use Rattle.std.specs.Map.{keys_of}
use Rattle.std.specs.Ordering.{nat_cmp, is_le, ordering_then}
use Rattle.std.specs.declared.cmp.Ordering.{Ordering}
use Rattle.std.specs.declared.cmp.Ordering.TheVariants.{Less, Equal, Greater}
use Rattle.std.specs.declared.ops.Bound.TheVariants.{Included, Excluded, Unbounded}
use Rattle.operation.specs.declared.op.Op.{Op}
use Rattle.site_state.specs.Site.{Map, IsSite, digest_cmp}
use Rattle.exchange.specs.declared.version.Version.{Version}
use Rattle.exchange.specs.Held.{is_spoken, place_of, is_in, spoken_of, offered}
use Rattle.exchange.specs.Places.{front_at, end_at}
use Rattle.exchange.proofs.Said.{all_of, offered_sorted, offered_small, keys_long}

-- ---- what lies between two bounds

cmp_equal : (a b : ℕ) → eqb b a ≡ true → nat_cmp a b ≡ Equal
cmp_equal a b e = grind arith

zero_less : (b : ℕ) → eqb b 0 ≡ false → nat_cmp 0 b ≡ Less
zero_less b e = grind arith

-- no digest of so many bytes is less than so many zeros
zeros_first : (n : ℕ) (rest : List ℕ) → n ≤ length rest → is_le (slice_cmp nat_cmp (replicate n 0) rest) ≡ true
zeros_first zero [] le = refl
zeros_first zero (r ∷ rest) le = refl
zeros_first (suc n) [] le = absurd (omega (arith, le))
zeros_first (suc n) (r ∷ rest) le = by (eqb r 0) refl (zeros_first n rest (omega (arith, le)))
  where
    by : (b : Bool) → eqb r 0 ≡ b → is_le (slice_cmp nat_cmp (replicate n 0) rest) ≡ true
        → is_le (ordering_then (nat_cmp 0 r) (slice_cmp nat_cmp (replicate n 0) rest)) ≡ true
    by true e more = ap (λ (o : Ordering). is_le (ordering_then o (slice_cmp nat_cmp (replicate n 0) rest)))
        (cmp_equal 0 r e) ∙ more
    by false e more = ap (λ (o : Ordering). is_le (ordering_then o (slice_cmp nat_cmp (replicate n 0) rest)))
        (zero_less r e)

cmp_greater : (a b : ℕ) → b < a → nat_cmp a b ≡ Greater
cmp_greater a b lt = grind arith

-- a digest that begins with a byte is not before the front of that
from_front : (p : ℕ) (d : List ℕ) → length d ≡ 32 → (place_of d == p) ≡ true
    → is_le (digest_cmp (p ∷ replicate 31 0) d) ≡ true
from_front p [] long at = absurd (omega (arith, long))
from_front p (b ∷ rest) long at =
    ap (λ (o : Ordering). is_le (ordering_then o (slice_cmp nat_cmp (replicate 31 0) rest))) (cmp_equal p b at)
    ∙ zeros_first 31 rest (omega (arith, long))

-- and before the front of a greater one
before_end : (q p : ℕ) (zs d : List ℕ) → p < q → length d ≡ 32 → (place_of d == p) ≡ true
    → is_le (digest_cmp (q ∷ zs) d) ≡ false
before_end q p zs [] lt long at = absurd (omega (arith, long))
before_end q p zs (b ∷ rest) lt long at =
    ap (λ (o : Ordering). is_le (ordering_then o (slice_cmp nat_cmp zs rest)))
    (cmp_greater q b (omega (arith, lt, eqb-true b p at)))

in_range : (p : ℕ) (d : List ℕ) → length d ≡ 32 → (place_of d == p) ≡ true
    → range_contains digest_cmp (Included (front_at p)) (end_at p) d ≡ true
in_range p d long at = by (p == 255)
  where
    by : (b : Bool) → range_contains digest_cmp (Included (p ∷ replicate 31 0)) (if b then Unbounded else Excluded
        ((p + 1) ∷ replicate 31 0)) d ≡ true
    by true = ap (λ (x : Bool). x && true) (from_front p d long at)
    by false = ap (λ (x : Bool). x && not (is_le (digest_cmp ((p + 1) ∷ replicate 31 0) d))) (from_front p d long at)
        ∙ ap not (before_end (p + 1) p (replicate 31 0) d (omega arith) long at)

-- ---- a part of the entries

abbrev pub at_place : ℕ → List ℕ → Bool
at_place p d = place_of d == p

first_kept : (p : ℕ) (s : Bool) (e : List ℕ × Op) (es : List (List ℕ × Op))
    → filter (at_place p) (keys_of (cond s (e ∷ es) es)) ≡ cond (s && at_place p e.0)
    (e.0 ∷ filter (at_place p) (keys_of es)) (filter (at_place p) (keys_of es))
first_kept p true e es = refl
first_kept p false e es = refl

not_kept : (s f : Bool) (d : List ℕ) (ds : List (List ℕ)) → (f ≡ true → false ≡ true)
    → cond (s && f) (d ∷ ds) ds ≡ ds
not_kept s true d ds only = absurd (false≢true (only refl))
not_kept true false d ds only = refl
not_kept false false d ds only = refl

kept_one : (version : Version) (p : ℕ) (r : Bool) (e : List ℕ × Op) (some all : List (List ℕ × Op))
    → (at_place p e.0 ≡ true → r ≡ true)
    → filter (at_place p) (spoken_of version some) ≡ filter (at_place p) (spoken_of version all)
    → filter (at_place p) (spoken_of version (cond r (e ∷ some) some))
    ≡ filter (at_place p) (spoken_of version (e ∷ all))
kept_one version p true e some all only same =
    let spoken = is_spoken version e.1 in
    first_kept p spoken e (filter (λ x. is_spoken version x.1) some)
    ∙ ap (λ (ds : List (List ℕ)). cond (spoken && at_place p e.0) (e.0 ∷ ds) ds) same
    ∙ sym (first_kept p spoken e (filter (λ x. is_spoken version x.1) all))
kept_one version p false e some all only same =
    let spoken = is_spoken version e.1 in
    same ∙ sym (first_kept p spoken e (filter (λ x. is_spoken version x.1) all)
    ∙ not_kept spoken (at_place p e.0) e.0 (filter (at_place p) (spoken_of version all)) only)

-- the digests of a byte are those of the range of it
pub of_range : (version : Version) (p : ℕ) (es : List (List ℕ × Op))
    → AllByRecursion (λ d. length d ≡ 32) (keys_of es)
    → filter (at_place p) (spoken_of version (entries_between digest_cmp (Included (front_at p)) (end_at p) es))
    ≡ filter (at_place p) (spoken_of version es)
of_range version p [] long = refl
of_range version p (e ∷ es) long = kept_one version p
    (range_contains digest_cmp (Included (front_at p)) (end_at p) e.0) e
    (entries_between digest_cmp (Included (front_at p)) (end_at p) es) es (in_range p e.0 long.0)
    (of_range version p es long.1)

-- ---- place by place

abbrev pub from_place : ℕ → List ℕ → Bool
from_place n d = not (nat_lt (place_of d) n)

abbrev pub has_at : List ℕ → ℕ → Bool
has_at places n = list_any (λ q. q == n) places

below_or : (k n : ℕ) → ((nat_lt k n ≡ true) × (eqb k n ≡ false) × (nat_lt k (n + 1) ≡ true))
    ⊎ (((nat_lt k n ≡ false) × (eqb k n ≡ true) × (nat_lt k (n + 1) ≡ true))
    ⊎ ((nat_lt k n ≡ false) × (eqb k n ≡ false) × (nat_lt k (n + 1) ≡ false)))
below_or k n = by (nat_lt k n) (eqb k n) refl refl
  where
    by : (a b : Bool) → nat_lt k n ≡ a → eqb k n ≡ b
        → ((nat_lt k n ≡ true) × (eqb k n ≡ false) × (nat_lt k (n + 1) ≡ true))
        ⊎ (((nat_lt k n ≡ false) × (eqb k n ≡ true) × (nat_lt k (n + 1) ≡ true))
        ⊎ ((nat_lt k n ≡ false) × (eqb k n ≡ false) × (nat_lt k (n + 1) ≡ false)))
    by true b lt eq = inl (lt, grind arith, grind arith)
    by false true lt eq = inr (inl (lt, eq, grind arith))
    by false false lt eq = inr (inr (lt, eq, grind arith))

pub first_le : (x y : List ℕ) → digest_cmp x y ≡ Less → place_of x ≤ place_of y
first_le [] [] e = absurd (let clash : Equal ≡ Less = e in cc)
first_le [] (b ∷ ys) e = omega arith
first_le (a ∷ xs) [] e = absurd (let clash : Greater ≡ Less = e in cc)
first_le (a ∷ xs) (b ∷ ys) e = by (nat_lt b a) refl
  where
    by : (t : Bool) → nat_lt b a ≡ t → a ≤ b
    by false lt = grind arith
    by true lt = absurd (let clash : Greater ≡ Less = sym (ap (λ (o : Ordering). ordering_then o (slice_cmp nat_cmp
        xs ys)) (cmp_greater a b (grind arith))) ∙ e in cc)

none_there : (n : ℕ) (d : List ℕ) (ds : List (List ℕ)) → nat_lt (place_of d) (n + 1) ≡ false
    → AllByRecursion (λ y. digest_cmp d y ≡ Less) ds → filter (at_place n) ds ≡ []
none_there n d [] later all = refl
none_there n d (x ∷ ds) later all = by (at_place n x) refl (first_le d x all.0) (none_there n d ds later all.1)
  where
    by : (b : Bool) → at_place n x ≡ b → place_of d ≤ place_of x → filter (at_place n) ds ≡ []
        → cond b (x ∷ filter (at_place n) ds) (filter (at_place n) ds) ≡ []
    by true e le none = absurd (false≢true (sym later ∙ grind arith))
    by false e le none = none

part : (q : List ℕ → Bool) (h fn an fm : Bool) (d : List ℕ) (n_on at_n m_on : List (List ℕ))
    → filter q n_on ≡ cond h at_n [] ++ filter q m_on
    → ((fn ≡ false) × (an ≡ false) × (fm ≡ false)) ⊎ (((fn ≡ true) × (an ≡ true) × (fm ≡ false) × (q d ≡ h))
    ⊎ ((fn ≡ true) × (an ≡ false) × (fm ≡ true) × (at_n ≡ [])))
    → filter q (cond fn (d ∷ n_on) n_on) ≡ cond h (cond an (d ∷ at_n) at_n) [] ++ filter q (cond fm (d ∷ m_on) m_on)
part q h fn an fm d n_on at_n m_on same (inl is) = rw (is.0, is.1, is.2) same
part q h fn an fm d n_on at_n m_on same (inr (inl is)) = rw (is.0, is.1, is.2) (by h is.3 same)
  where
    by : (h : Bool) → q d ≡ h → filter q n_on ≡ cond h at_n [] ++ filter q m_on
        → cond (q d) (d ∷ filter q n_on) (filter q n_on) ≡ cond h (d ∷ at_n) [] ++ filter q m_on
    by true e more = ap (λ (b : Bool). cond b (d ∷ filter q n_on) (filter q n_on)) e ∙ ap (λ xs. d ∷ xs) more
    by false e more = ap (λ (b : Bool). cond b (d ∷ filter q n_on) (filter q n_on)) e ∙ more
part q h fn an fm d n_on at_n m_on same (inr (inr is)) = rw (is.0, is.1, is.2) (by h is.3 same)
  where
    by : (h : Bool) → at_n ≡ [] → filter q n_on ≡ cond h at_n [] ++ filter q m_on
        → cond (q d) (d ∷ filter q n_on) (filter q n_on)
        ≡ cond h at_n [] ++ cond (q d) (d ∷ filter q m_on) (filter q m_on)
    by true e more = ap (λ xs. cond (q d) (d ∷ xs) xs) (more ∙ ap (λ xs. xs ++ filter q m_on) e)
        ∙ ap (λ xs. xs ++ cond (q d) (d ∷ filter q m_on) (filter q m_on)) (sym e)
    by false e more = ap (λ xs. cond (q d) (d ∷ xs) xs) more

abbrev none_of : List (List ℕ)
none_of = []

nothing : (h : Bool) → none_of ≡ cond h none_of none_of ++ none_of
nothing true = refl
nothing false = refl

pub next_place : (places : List ℕ) (n : ℕ) (ds : List (List ℕ)) → IsStrictlySortedBy digest_cmp ds
    → filter (is_in places) (filter (from_place n) ds) ≡ cond (has_at places n) (filter (at_place n) ds) []
    ++ filter (is_in places) (filter (from_place (n + 1)) ds)
unfolding IsStrictlySortedBy
next_place places n [] sorted = nothing (has_at places n)
next_place places n (d ∷ ds) sorted = part (is_in places) (has_at places n) (from_place n d) (at_place n d)
    (from_place (n + 1) d) d (filter (from_place n) ds) (filter (at_place n) ds) (filter (from_place (n + 1)) ds)
    (next_place places n ds sorted.1) (by (below_or (place_of d) n))
  where
    by : ((nat_lt (place_of d) n ≡ true) × (eqb (place_of d) n ≡ false) × (nat_lt (place_of d) (n + 1) ≡ true))
        ⊎ (((nat_lt (place_of d) n ≡ false) × (eqb (place_of d) n ≡ true) × (nat_lt (place_of d) (n + 1) ≡ true))
        ⊎ ((nat_lt (place_of d) n ≡ false) × (eqb (place_of d) n ≡ false) × (nat_lt (place_of d) (n + 1) ≡ false)))
        → ((from_place n d ≡ false) × (at_place n d ≡ false) × (from_place (n + 1) d ≡ false))
        ⊎ (((from_place n d ≡ true) × (at_place n d ≡ true) × (from_place (n + 1) d ≡ false)
        × (is_in places d ≡ has_at places n))
        ⊎ ((from_place n d ≡ true) × (at_place n d ≡ false) × (from_place (n + 1) d ≡ true)
        × (filter (at_place n) ds ≡ [])))
    by (inl c) = inl (ap not c.0, c.1, ap not c.2)
    by (inr (inl c)) = inr (inl (ap not c.0, c.1, ap not c.2, ap (has_at places) (eqb-true (place_of d) n c.1)))
    by (inr (inr c)) = inr (inr (ap not c.0, c.1, ap not c.2, none_there n d ds c.2 sorted.0))

all_from : (ds : List (List ℕ)) → filter (from_place 0) ds ≡ ds
all_from [] = refl
all_from (d ∷ ds) = by (nat_lt (place_of d) 0) (grind arith) (all_from ds)
  where
    by : (b : Bool) → b ≡ false → filter (from_place 0) ds ≡ ds
        → cond (not b) (d ∷ filter (from_place 0) ds) (filter (from_place 0) ds) ≡ d ∷ ds
    by true e more = absurd (false≢true (sym e))
    by false e more = ap (λ xs. d ∷ xs) more

none_from : (ds : List (List ℕ)) → AllByRecursion (λ d. place_of d < 256) ds → filter (from_place 256) ds ≡ []
none_from [] small = refl
none_from (d ∷ ds) small = by (nat_lt (place_of d) 256) (below small.0) (none_from ds small.1)
  where
    below : place_of d < 256 → nat_lt (place_of d) 256 ≡ true
    below lt = grind arith

    by : (b : Bool) → b ≡ true → filter (from_place 256) ds ≡ []
        → cond (not b) (d ∷ filter (from_place 256) ds) (filter (from_place 256) ds) ≡ []
    by true e more = more
    by false e more = absurd (false≢true e)

-- ---- a set

-- the digests of a byte of a set, by their range
pub of_place : (version : Version) (m : Map) (p : ℕ) (es : List (List ℕ × Op)) → IsSite m → es ≡ entries m
    → filter (at_place p) (spoken_of version (entries_between digest_cmp (Included (front_at p)) (end_at p) es))
    ≡ filter (at_place p) (offered version m)
of_place version m p es own is =
    ap (λ (xs : List (List ℕ × Op)). filter (at_place p)
    (spoken_of version (entries_between digest_cmp (Included (front_at p)) (end_at p) xs))) is
    ∙ of_range version p (entries m) (keys_long m own)

-- none was put in yet
pub first_place : (version : Version) (places : List ℕ) (m : Map)
    → filter (is_in places) (filter (from_place 0) (offered version m)) ≡ filter (is_in places) (offered version m)
first_place version places m = ap (filter (is_in places)) (all_from (offered version m))

-- those of a place were put in, where it is one of them
pub place_done : (version : Version) (places : List ℕ) (m : Map) (n : ℕ) (b : Bool) (old new total : List (List ℕ))
    → has_at places n ≡ b → new ≡ old ++ cond b (filter (at_place n) (offered version m)) []
    → old ++ filter (is_in places) (filter (from_place n) (offered version m)) ≡ total
    → new ++ filter (is_in places) (filter (from_place (n + 1)) (offered version m)) ≡ total
place_done version places m n b old new total has is was =
    let rest = filter (is_in places) (filter (from_place (n + 1)) (offered version m)) in
    let here = cond b (filter (at_place n) (offered version m)) [] in
    ap (λ ds. ds ++ rest) is ∙ append_assoc old here rest
    ∙ ap (λ ds. old ++ ds) (ap (λ c. cond c (filter (at_place n) (offered version m)) [] ++ rest) (sym has)
    ∙ sym (next_place places n (offered version m) (offered_sorted version m)))
    ∙ was

-- all were put in
pub last_place : (version : Version) (places : List ℕ) (m : Map) (n : ℕ) (old total : List (List ℕ)) → IsSite m
    → n ≡ 256 → old ++ filter (is_in places) (filter (from_place n) (offered version m)) ≡ total → old ≡ total
last_place version places m n old total own end was =
    let none = none_from (offered version m) (all_of (λ d. place_of d < 256) (offered version m)
    (offered_small version m own)) in
    sym (append-nil old) ∙ ap (λ ds. old ++ filter (is_in places) ds) (sym none
    ∙ ap (λ k. filter (from_place k) (offered version m)) (sym end)) ∙ was
