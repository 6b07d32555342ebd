-- The order of digests, of their digits, and of nodes.
use Rattle.std.proofs.Common.{inl, inr, ◌≡◌, ℕ, zero, suc, ◌+◌, ◌<◌, ◌≤◌, List, [], ◌∷◌, Bool, true, false}
use Rattle.std.proofs.Common.{cond, eqb, length, get_or, drop, take, refl, sym, ap, ◌∙◌, arith}
use Rattle.std.proofs.lemmas.Bool.{false≢true, eqb-true}
use Rattle.std.specs.Prelude.{◌⊎◌, ◌&&◌, ◌/◌, ◌%◌, ◌==◌, nat_lt, not, filter, if◌then◌else◌}
use Rattle.std.specs.List.Sorted.{IsStrictlySortedBy, IsPartitionedBy, IsPartitionPoint}
use Rattle.std.specs.Ordering.{nat_cmp, ordering_then, ordering_index, is_eq, is_lt, is_gt}
use Rattle.std.specs.declared.cmp.Ordering.{Ordering}
use Rattle.std.specs.declared.cmp.Ordering.TheVariants.{Less, Equal, Greater}
use Rattle.std.proofs.lemmas.List.{length-drop, get_or-drop}
use Rattle.std.proofs.lemmas.Map.Keys.{Less-from_sorted}
use Rattle.octets.specs.Texts.{text_cmp}
use Rattle.exchange_tree.specs.Nodes.{digits_of, begins, is_beneath, beneath}
use Rattle.exchange_tree.specs.Ranges.{head_cmp, node_cmp, is_before, is_through}

-- ---- comparing numbers

cmp_less : (a b : ℕ) → a < b → nat_cmp a b ≡ Less
cmp_less a b lt = grind arith

cmp_same : (a : ℕ) → nat_cmp a a ≡ Equal
cmp_same a = grind arith

cmp_greater : (a b : ℕ) → b < a → nat_cmp a b ≡ Greater
cmp_greater a b lt = grind arith

pub three : (a b : ℕ) → (a < b) ⊎ ((a ≡ b) ⊎ (b < a))
three a b = by (nat_lt a b) (eqb a b) refl refl
  where
    by : (x y : Bool) → nat_lt a b ≡ x → eqb a b ≡ y → (a < b) ⊎ ((a ≡ b) ⊎ (b < a))
    by true y e f = inl (grind arith)
    by false true e f = inr (inl (eqb-true a b f))
    by false false e f = inr (inr (grind arith))

less≢equal : Less ≡ Equal → ⊥
less≢equal e = cc

greater≢less : Greater ≡ Less → ⊥
greater≢less e = cc

equal≢less : Equal ≡ Less → ⊥
equal≢less e = cc

equal≢greater : Equal ≡ Greater → ⊥
equal≢greater e = cc

less≢greater : Less ≡ Greater → ⊥
less≢greater e = cc

-- a first number that decides
then_less : (a b : ℕ) (o : Ordering) → a < b → ordering_then (nat_cmp a b) o ≡ Less
then_less a b o lt = ap (λ (x : Ordering). ordering_then x o) (cmp_less a b lt)

then_same : (a b : ℕ) (o : Ordering) → a ≡ b → ordering_then (nat_cmp a b) o ≡ o
then_same a b o e = ap (λ x. ordering_then (nat_cmp x b) o) e ∙ ap (λ (x : Ordering). ordering_then x o) (cmp_same b)

then_greater : (a b : ℕ) (o : Ordering) → b < a → ordering_then (nat_cmp a b) o ≡ Greater
then_greater a b o lt = ap (λ (x : Ordering). ordering_then x o) (cmp_greater a b lt)

-- ---- digests ascend as their digits do

pub digits_less : (xs ys : List ℕ) → text_cmp xs ys ≡ Less → text_cmp (digits_of xs) (digits_of ys) ≡ Less
digits_less [] [] e = absurd (equal≢less e)
digits_less [] (b ∷ ys) e = refl
digits_less (a ∷ xs) [] e = absurd (greater≢less e)
digits_less (a ∷ xs) (b ∷ ys) e = by (three a b) (three (a / 16) (b / 16)) (digits_less xs ys)
  where
    rest : Ordering
    rest = text_cmp (digits_of xs) (digits_of ys)

    low : Ordering
    low = ordering_then (nat_cmp (a % 16) (b % 16)) rest

    by : (a < b) ⊎ ((a ≡ b) ⊎ (b < a)) → (a / 16 < b / 16) ⊎ ((a / 16 ≡ b / 16) ⊎ (b / 16 < a / 16))
        → (text_cmp xs ys ≡ Less → rest ≡ Less) → ordering_then (nat_cmp (a / 16) (b / 16)) low ≡ Less
    by (inl lt) (inl high) more = then_less (a / 16) (b / 16) low high
    by (inl lt) (inr (inl high)) more =
        then_same (a / 16) (b / 16) low high ∙ then_less (a % 16) (b % 16) rest (omega (arith, lt, high))
    by (inl lt) (inr (inr high)) more = absurd (omega (arith, lt, high))
    by (inr (inl same)) high more =
        then_same (a / 16) (b / 16) low (ap (λ n. n / 16) same)
        ∙ then_same (a % 16) (b % 16) rest (ap (λ n. n % 16) same)
        ∙ more (sym (then_same a b (text_cmp xs ys) same) ∙ e)
    by (inr (inr gt)) high more = absurd (greater≢less (sym (then_greater a b (text_cmp xs ys) gt) ∙ e))

-- ---- what is before a node, or behind it

pub before_less : (xs ys node : List ℕ) → text_cmp xs ys ≡ Less → node_cmp ys node ≡ Less → node_cmp xs node ≡ Less
before_less xs ys [] e f = absurd (equal≢less f)
before_less [] ys (n ∷ ns) e f = refl
before_less (x ∷ xs) [] (n ∷ ns) e f = absurd (greater≢less e)
before_less (x ∷ xs) (y ∷ ys) (n ∷ ns) e f = by (three x y) (three y n) (before_less xs ys ns)
  where
    by : (x < y) ⊎ ((x ≡ y) ⊎ (y < x)) → (y < n) ⊎ ((y ≡ n) ⊎ (n < y))
        → (text_cmp xs ys ≡ Less → node_cmp ys ns ≡ Less → node_cmp xs ns ≡ Less)
        → ordering_then (nat_cmp x n) (node_cmp xs ns) ≡ Less
    by (inl lt) (inl low) more = then_less x n (node_cmp xs ns) (omega (arith, lt, low))
    by (inl lt) (inr (inl at)) more = then_less x n (node_cmp xs ns) (omega (arith, lt, at))
    by (inl lt) (inr (inr high)) more = absurd (greater≢less (sym (then_greater y n (node_cmp ys ns) high) ∙ f))
    by (inr (inl same)) (inl low) more = then_less x n (node_cmp xs ns) (omega (arith, same, low))
    by (inr (inl same)) (inr (inl at)) more =
        then_same x n (node_cmp xs ns) (same ∙ at)
        ∙ more (sym (then_same x y (text_cmp xs ys) same) ∙ e)
        (sym (then_same y n (node_cmp ys ns) at) ∙ f)
    by (inr (inl same)) (inr (inr high)) more =
        absurd (greater≢less (sym (then_greater y n (node_cmp ys ns) high) ∙ f))
    by (inr (inr gt)) at more = absurd (greater≢less (sym (then_greater x y (text_cmp xs ys) gt) ∙ e))

pub behind_greater : (xs ys node : List ℕ) → text_cmp xs ys ≡ Less → node_cmp xs node ≡ Greater
    → node_cmp ys node ≡ Greater
behind_greater xs ys [] e f = absurd (equal≢greater f)
behind_greater [] ys (n ∷ ns) e f = absurd (less≢greater f)
behind_greater (x ∷ xs) [] (n ∷ ns) e f = absurd (greater≢less e)
behind_greater (x ∷ xs) (y ∷ ys) (n ∷ ns) e f = by (three x y) (three x n) (behind_greater xs ys ns)
  where
    by : (x < y) ⊎ ((x ≡ y) ⊎ (y < x)) → (x < n) ⊎ ((x ≡ n) ⊎ (n < x))
        → (text_cmp xs ys ≡ Less → node_cmp xs ns ≡ Greater → node_cmp ys ns ≡ Greater)
        → ordering_then (nat_cmp y n) (node_cmp ys ns) ≡ Greater
    by lt (inl low) more = absurd (less≢greater (sym (then_less x n (node_cmp xs ns) low) ∙ f))
    by (inl lt) (inr (inl at)) more = then_greater y n (node_cmp ys ns) (omega (arith, lt, at))
    by (inl lt) (inr (inr high)) more = then_greater y n (node_cmp ys ns) (omega (arith, lt, high))
    by (inr (inl same)) (inr (inl at)) more =
        then_same y n (node_cmp ys ns) (sym same ∙ at)
        ∙ more (sym (then_same x y (text_cmp xs ys) same) ∙ e)
        (sym (then_same x n (node_cmp xs ns) at) ∙ f)
    by (inr (inl same)) (inr (inr high)) more = then_greater y n (node_cmp ys ns) (omega (arith, same, high))
    by (inr (inr gt)) at more = absurd (greater≢less (sym (then_greater x y (text_cmp xs ys) gt) ∙ e))

-- ---- what is neither lies beneath it

pub begins_is : (digits node : List ℕ) → begins node digits ≡ is_eq (node_cmp digits node)
begins_is digits [] = refl
begins_is [] (n ∷ ns) = refl
begins_is (d ∷ ds) (n ∷ ns) = by (three d n) (begins_is ds ns)
  where
    by : (d < n) ⊎ ((d ≡ n) ⊎ (n < d)) → begins ns ds ≡ is_eq (node_cmp ds ns) → (eqb d n && begins ns ds)
        ≡ is_eq (ordering_then (nat_cmp d n) (node_cmp ds ns))
    by (inl lt) more =
        let apart : eqb d n ≡ false = grind arith in
        ap (λ b. b && begins ns ds) apart ∙ ap is_eq (sym (then_less d n (node_cmp ds ns) lt))
    by (inr (inl same)) more =
        let at : eqb d n ≡ true = grind arith in
        ap (λ b. b && begins ns ds) at ∙ more ∙ ap is_eq (sym (then_same d n (node_cmp ds ns) same))
    by (inr (inr gt)) more =
        let apart : eqb d n ≡ false = grind arith in
        ap (λ b. b && begins ns ds) apart ∙ ap is_eq (sym (then_greater d n (node_cmp ds ns) gt))

not_before : (o : Ordering) → is_lt o ≡ true → is_eq o ≡ false
not_before Less e = refl
not_before Equal e = absurd (false≢true e)
not_before Greater e = absurd (false≢true e)

not_behind : (o : Ordering) → not (is_gt o) ≡ false → is_eq o ≡ false
not_behind Less e = absurd (false≢true (sym e))
not_behind Equal e = absurd (false≢true (sym e))
not_behind Greater e = refl

in_between : (o : Ordering) → is_lt o ≡ false → not (is_gt o) ≡ true → is_eq o ≡ true
in_between Less e f = absurd (false≢true (sym e))
in_between Equal e f = refl
in_between Greater e f = absurd (false≢true f)

pub before_is_not : (node digest : List ℕ) → is_before node digest ≡ true → is_beneath node digest ≡ false
before_is_not node digest e =
    begins_is (digits_of digest) node ∙ not_before (node_cmp (digits_of digest) node) e

pub behind_is_not : (node digest : List ℕ) → is_through node digest ≡ false → is_beneath node digest ≡ false
behind_is_not node digest e =
    begins_is (digits_of digest) node ∙ not_behind (node_cmp (digits_of digest) node) e

pub between_is : (node digest : List ℕ) → is_before node digest ≡ false → is_through node digest ≡ true
    → is_beneath node digest ≡ true
between_is node digest e f =
    begins_is (digits_of digest) node ∙ in_between (node_cmp (digits_of digest) node) e f

-- ---- digests that ascend are parted by a node

is_less : (o : Ordering) → is_lt o ≡ true → o ≡ Less
is_less Less e = refl
is_less Equal e = absurd (false≢true e)
is_less Greater e = absurd (false≢true e)

is_greater : (o : Ordering) → not (is_gt o) ≡ false → o ≡ Greater
is_greater Less e = absurd (false≢true (sym e))
is_greater Equal e = absurd (false≢true (sym e))
is_greater Greater e = refl

pub before_parts : (node : List ℕ) (ds : List (List ℕ)) → IsStrictlySortedBy text_cmp ds
    → IsPartitionedBy (is_before node) ds
before_parts node ds sorted i j d le lt e = by (three i j)
  where
    by : (i < j) ⊎ ((i ≡ j) ⊎ (j < i)) → is_before node (get_or ds i d) ≡ true
    by (inl less) =
        ap is_lt (before_less (digits_of (get_or ds i d)) (digits_of (get_or ds j d)) node
        (digits_less (get_or ds i d) (get_or ds j d) (Less-from_sorted text_cmp ds i j d sorted less lt))
        (is_less (node_cmp (digits_of (get_or ds j d)) node) e))
    by (inr (inl same)) = ap (λ k. is_before node (get_or ds k d)) same ∙ e
    by (inr (inr more)) = absurd (omega (arith, le, more))

pub through_parts : (node : List ℕ) (ds : List (List ℕ)) → IsStrictlySortedBy text_cmp ds
    → IsPartitionedBy (is_through node) ds
through_parts node ds sorted i j d le lt e = by (three i j)
  where
    turned : (b : Bool) → is_through node (get_or ds i d) ≡ b → i < j → is_through node (get_or ds i d) ≡ true
    turned true f less = f
    turned false f less =
        absurd (false≢true (sym (ap (λ (o : Ordering). not (is_gt o))
        (behind_greater (digits_of (get_or ds i d)) (digits_of (get_or ds j d)) node
        (digits_less (get_or ds i d) (get_or ds j d) (Less-from_sorted text_cmp ds i j d sorted less lt))
        (is_greater (node_cmp (digits_of (get_or ds i d)) node) f))) ∙ e))

    by : (i < j) ⊎ ((i ≡ j) ⊎ (j < i)) → is_through node (get_or ds i d) ≡ true
    by (inl less) = turned (is_through node (get_or ds i d)) refl less
    by (inr (inl same)) = ap (λ k. is_through node (get_or ds k d)) same ∙ e
    by (inr (inr more)) = absurd (omega (arith, le, more))

-- ---- the range

pub sorted_behind : (n : ℕ) (ds : List (List ℕ)) → IsStrictlySortedBy text_cmp ds
    → IsStrictlySortedBy text_cmp (drop n ds)
unfolding IsStrictlySortedBy
sorted_behind zero ds sorted = sorted
sorted_behind (suc n) [] sorted = sorted
sorted_behind (suc n) (d ∷ ds) sorted = sorted_behind n ds sorted.1

-- what does not pass at the front is not kept
pub front_not_kept : (p : List ℕ → Bool) (n : ℕ) (ds : List (List ℕ)) → n ≤ length ds
    → ((k : ℕ) (d : List ℕ) → k < n → p (get_or ds k d) ≡ false) → filter p ds ≡ filter p (drop n ds)
front_not_kept p zero ds le fails = refl
front_not_kept p (suc n) [] le fails = absurd (omega (arith, le))
front_not_kept p (suc n) (d ∷ ds) le fails =
    ap (λ b. cond b (d ∷ filter p ds) (filter p ds)) (fails 0 d (omega arith))
    ∙ front_not_kept p n ds (omega (arith, le)) (λ k e lt. fails (suc k) e (omega (arith, lt)))

none_kept : (p : List ℕ → Bool) (ds : List (List ℕ))
    → ((k : ℕ) (d : List ℕ) → k < length ds → p (get_or ds k d) ≡ false) → filter p ds ≡ []
none_kept p [] fails = refl
none_kept p (d ∷ ds) fails =
    ap (λ b. cond b (d ∷ filter p ds) (filter p ds)) (fails 0 d (omega arith))
    ∙ none_kept p ds (λ k e lt. fails (suc k) e (omega (arith, lt)))

-- what passes is kept where nothing behind it does
pub front_kept : (p : List ℕ → Bool) (n : ℕ) (ds : List (List ℕ)) → n ≤ length ds
    → ((k : ℕ) (d : List ℕ) → k < n → p (get_or ds k d) ≡ true)
    → ((k : ℕ) (d : List ℕ) → n ≤ k → k < length ds → p (get_or ds k d) ≡ false) → filter p ds ≡ take n ds
front_kept p zero ds le passes fails = none_kept p ds (λ k d lt. fails k d (omega arith) lt)
front_kept p (suc n) [] le passes fails = absurd (omega (arith, le))
front_kept p (suc n) (d ∷ ds) le passes fails =
    ap (λ b. cond b (d ∷ filter p ds) (filter p ds)) (passes 0 d (omega arith))
    ∙ ap (λ ks. d ∷ ks) (front_kept p n ds (omega (arith, le)) (λ k e lt. passes (suc k) e (omega (arith, lt)))
    (λ k e low lt. fails (suc k) e (omega (arith, low)) (omega (arith, lt))))

-- what lies beneath a node begins behind what comes before it, and ends before what comes behind it
pub range_is : (node : List ℕ) (ds behind : List (List ℕ)) (s n : ℕ) → s ≤ length ds → behind ≡ drop s ds
    → IsPartitionPoint (λ d. is_before node d ≡ true) (λ d. is_before node d ≡ false) ds s → n ≤ length behind
    → IsPartitionPoint (λ d. is_through node d ≡ true) (λ d. is_through node d ≡ false) behind n
    → take n behind ≡ beneath node ds
range_is node ds behind s n within is first fits last =
    sym (front_not_kept (is_beneath node) s ds within
    (λ k d lt. before_is_not node (get_or ds k d) (first.0 k d (omega arith) lt))
    ∙ ap (filter (is_beneath node)) (sym is)
    ∙ front_kept (is_beneath node) n behind fits
    (λ k d lt. between_is node (get_or behind k d) (later k d (omega (arith, lt, fits)))
    (last.0 k d (omega arith) lt))
    (λ k d low lt. behind_is_not node (get_or behind k d) (last.1 k d low lt)))
  where
    later : (k : ℕ) (d : List ℕ) → k < length behind → is_before node (get_or behind k d) ≡ false
    later k d lt =
        let long : length behind ≡ length (drop s ds) = ap length is in
        ap (λ xs. is_before node (get_or xs k d)) is ∙ ap (is_before node) (get_or-drop s ds k d)
        ∙ first.1 (s + k) d (omega arith) (omega (arith, lt, long, length-drop s ds))

-- ---- the digit at a place

drop_none : (n : ℕ) → drop {A = ℕ} n [] ≡ []
drop_none zero = refl
drop_none (suc n) = refl

pub drop_one : (n : ℕ) (xs : List ℕ) → drop 1 (drop n xs) ≡ drop (n + 1) xs
drop_one zero xs = refl
drop_one (suc n) [] = let long : suc n + 1 ≡ suc (n + 1) = omega arith in ap (λ k. drop k []) (sym long)
drop_one (suc n) (x ∷ xs) = let long : suc n + 1 ≡ suc (n + 1) = omega arith in
    drop_one n xs ∙ ap (λ k. drop k (x ∷ xs)) (sym long)

none_at : (bytes : List ℕ) (at n : ℕ) → length bytes ≤ at / 2 → head_cmp (drop at (digits_of bytes)) n ≡ Less
none_at [] zero n le = refl
none_at [] (suc at) n le = refl
none_at (b ∷ bs) zero n le = absurd (omega (arith, le))
none_at (b ∷ bs) (suc zero) n le = absurd (omega (arith, le))
none_at (b ∷ bs) (suc (suc at)) n le = none_at bs at n (omega (arith, le))

abbrev pub half_of : ℕ → ℕ → ℕ
half_of byte at = if at % 2 == 0 then byte / 16 else byte % 16

digit_at : (bytes : List ℕ) (at n : ℕ) → at / 2 < length bytes
    → head_cmp (drop at (digits_of bytes)) n ≡ nat_cmp (half_of (get_or bytes (at / 2) 0) at) n
digit_at [] at n lt = absurd (omega (arith, lt))
digit_at (b ∷ bs) zero n lt = refl
digit_at (b ∷ bs) (suc zero) n lt = refl
digit_at (b ∷ bs) (suc (suc at)) n lt =
    let next : suc (suc at) / 2 ≡ suc (at / 2) = omega arith in
    let even : suc (suc at) % 2 ≡ at % 2 = omega arith in
    digit_at bs at n (omega (arith, lt))
    ∙ ap (λ (k : ℕ). nat_cmp (if k == 0 then get_or bs (at / 2) 0 / 16 else get_or bs (at / 2) 0 % 16) n) (sym even)
    ∙ ap (λ (i : ℕ). nat_cmp (half_of (get_or (b ∷ bs) i 0) (suc (suc at))) n) (sym next)

pub no_digit : (bytes : List ℕ) (at n : ℕ) → length bytes ≤ at / 2 → Less ≡ head_cmp (drop at (digits_of bytes)) n
no_digit bytes at n le = sym (none_at bytes at n le)

pub a_digit : (bytes : List ℕ) (at n : ℕ) → at / 2 < length bytes
    → nat_cmp (half_of (get_or bytes (at / 2) 0) at) n ≡ head_cmp (drop at (digits_of bytes)) n
a_digit bytes at n lt = sym (digit_at bytes at n lt)

-- ---- one digit of a node after another

pub node_step : (digits node : List ℕ) (at n : ℕ) → at < length node → get_or node at 0 ≡ n
    → node_cmp (drop at digits) (drop at node)
    ≡ ordering_then (head_cmp (drop at digits) n) (node_cmp (drop (at + 1) digits) (drop (at + 1) node))
node_step digits [] at n lt is = absurd (omega (arith, lt))
node_step digits (m ∷ ms) zero n lt is =
    ap (λ k. ordering_then (head_cmp digits k) (node_cmp (drop 1 digits) ms)) is
node_step [] (m ∷ ms) (suc at) n lt is =
    let next : suc at + 1 ≡ suc (at + 1) = omega arith in
    let none : drop at [] ≡ [] = drop_none at in
    ap (λ ds. node_cmp ds (drop at ms)) (sym none) ∙ node_step [] ms at n (omega (arith, lt)) is
    ∙ ap (λ ds. ordering_then (head_cmp ds n) (node_cmp (drop (at + 1) []) (drop (at + 1) ms))) none
    ∙ ap (λ ds. ordering_then Less (node_cmp ds (drop (at + 1) ms))) (drop_none (at + 1))
    ∙ ap (λ k. ordering_then (head_cmp [] n) (node_cmp (drop k []) (drop k (m ∷ ms)))) (sym next)
node_step (d ∷ ds) (m ∷ ms) (suc at) n lt is =
    let next : suc at + 1 ≡ suc (at + 1) = omega arith in
    node_step ds ms at n (omega (arith, lt)) is
    ∙ ap (λ k. ordering_then (head_cmp (drop at ds) n) (node_cmp (drop k (d ∷ ds)) (drop k (m ∷ ms)))) (sym next)

pub all_same : (digits node : List ℕ) (at : ℕ) → length node ≤ at → node_cmp (drop at digits) (drop at node) ≡ Equal
all_same digits [] at le = ap (node_cmp (drop at digits)) (drop_none at)
all_same digits (m ∷ ms) zero le = absurd (omega (arith, le))
all_same [] (m ∷ ms) (suc at) le =
    ap (λ ds. node_cmp ds (drop at ms)) (sym (drop_none at)) ∙ all_same [] ms at (omega (arith, le))
all_same (d ∷ ds) (m ∷ ms) (suc at) le = all_same ds ms at (omega (arith, le))

pub is_same : (o : Ordering) → not (ordering_index o == 1) ≡ false → o ≡ Equal
is_same Less e = absurd (false≢true (sym e))
is_same Equal e = refl
is_same Greater e = absurd (false≢true (sym e))

pub is_other : (o : Ordering) → not (ordering_index o == 1) ≡ true → is_eq o ≡ false
is_other Less e = refl
is_other Equal e = absurd (false≢true e)
is_other Greater e = refl

pub then_other : (o rest : Ordering) → is_eq o ≡ false → ordering_then o rest ≡ o
then_other Less rest e = refl
then_other Equal rest e = absurd (false≢true (sym e))
then_other Greater rest e = refl
