-- The greatest counter of the corrections of a site, as operations are added.
use Rattle.std.proofs.Common.{◌≡◌, ℕ, max, ◌≤◌, T, ◌&&◌, List, [], ◌∷◌, Bool, true, false, cond, Option, Some, None}
use Rattle.std.proofs.Common.{inl, inr, refl, sym, ap, subst, ◌∙◌, arith}
use Rattle.std.proofs.Math.Nat.{le-max_left, le-max_right, max-le}
use Rattle.std.specs.Ordering.{is_lt, is_eq}
use Rattle.std.specs.declared.cmp.Ordering.{Ordering}
use Rattle.std.specs.declared.cmp.Ordering.TheVariants.{Less, Equal, Greater}
use Rattle.std.specs.Cmp.{tied_itself}
use Rattle.std.specs.Cmp.Lexicographic.{nat_list_cmp_total}
use Rattle.std.specs.BTreeMap.{is_at}
use Rattle.std.specs.FinMap.{entries, entries_sorted, is_sorted, empty, insert, get-insert, get-empty}
use Rattle.std.specs.FinMap.Entries.{below_all}
use Rattle.std.specs.List.{AllByRecursion}
use Rattle.std.specs.List.Sorted.{IsStrictlySortedBy}
use Rattle.std.specs.Map.{keys_of, values_of}
use Rattle.std.proofs.lemmas.Option.{same_Some as is_one}
use Rattle.operation.specs.declared.op.Op.{Op}
use Rattle.operation.specs.declared.op.Op.TheVariants.{Content as a_content, Correction as a_correction}
use Rattle.operation.specs.Spelling.{digest_of}
use Rattle.archive_model.specs.Members.{Has}
use Rattle.site_state.specs.Site.{Map, digest_cmp, of_entries, ops_of, held_at, with_op, counter_of, top_counter_of}
use Rattle.site_state.specs.Site.{HasTop}
use Rattle.site_state.specs.Union.{either, union, Agree}
use Rattle.site_state.proofs.Maps.{held, tied, one_more, get_held}
use Rattle.site_state.proofs.Unions.{held_entries, held_in_union, first_held, rest_held}
use Rattle.site_state.proofs.Same.{of_ops}

-- ---- the entries of a site ascend

and_left : (a b : Bool) → T (a && b) → T a
and_left true b p = tt
and_left false b p = p

and_right : (a b : Bool) → T (a && b) → T b
and_right true b p = p
and_right false b p = absurd p

is_less : (r : Ordering) → T (is_lt r) → r ≡ Less
is_less Less p = refl
is_less Equal p = absurd p
is_less Greater p = absurd p

all_above : (d : List ℕ) (es : List (List ℕ × Op)) → T (below_all digest_cmp d es)
    → AllByRecursion (λ k. digest_cmp d k ≡ Less) (keys_of es)
all_above d [] p = tt
all_above d (e ∷ es) p = (is_less (digest_cmp d e.0) (and_left _ _ p), all_above d es (and_right _ _ p))

pub ascend : (es : List (List ℕ × Op)) → T (is_sorted digest_cmp es) → IsStrictlySortedBy digest_cmp (keys_of es)
unfolding IsStrictlySortedBy
ascend [] p = tt
ascend (e ∷ es) p = (all_above e.0 es (and_left _ _ p), ascend es (and_right _ _ p))

-- ---- no counter is greater, and none that is less is the top

top_first : (o : Op) (ops : List Op) → top_counter_of (o ∷ ops) ≡ max (counter_of o) (top_counter_of ops)
top_first (a_content c) ops = omega arith
top_first (a_correction k) ops = refl

top_above : (ops : List Op) (o : Op) → Has ops o → counter_of o ≤ top_counter_of ops
top_above [] o h = absurd h
top_above (x ∷ ops) o (inl e) =
    subst (λ n. counter_of o ≤ n) (sym (top_first x ops))
    (subst (λ p. counter_of o ≤ max (counter_of p) (top_counter_of ops))
    e (le-max_left (counter_of o) (top_counter_of ops)))
top_above (x ∷ ops) o (inr h) =
    let before = top_above ops o h in
    let more = le-max_right (counter_of x) (top_counter_of ops) in
    subst (λ n. counter_of o ≤ n) (sym (top_first x ops)) (omega (arith, before, more))

top_below : (es : List (List ℕ × Op)) (t : ℕ) → IsStrictlySortedBy digest_cmp (keys_of es)
    → ((d : List ℕ) (o : Op) → held es d ≡ Some o → counter_of o ≤ t) → top_counter_of (values_of es) ≤ t
unfolding IsStrictlySortedBy
top_below [] t sorted h = omega arith
top_below (e ∷ es) t sorted h =
    subst (λ n. n ≤ t) (sym (top_first e.1 (values_of es)))
    (max-le (h e.0 e.1 (first_held (e ∷ es) es e.0 e.1 refl))
    (top_below es t sorted.1 (λ d o there. h d o (rest_held (e ∷ es) es e.0 e.1 refl sorted d o there))))

-- no counter that is held is greater than the top
above : (m : Map) (d : List ℕ) (o : Op) → held_at m d ≡ Some o → counter_of o ≤ top_counter_of (ops_of m)
above m d o there = top_above (ops_of m) o (of_ops m d o there)

-- where no counter that is held is greater, the top is not
below : (m : Map) (t : ℕ) → ((d : List ℕ) (o : Op) → held_at m d ≡ Some o → counter_of o ≤ t)
    → top_counter_of (ops_of m) ≤ t
below m t h = top_below (entries m) t (ascend (entries m) (entries_sorted m))
    (λ d o there. h d o (sym (held_entries m d) ∙ there))

between : (a b : ℕ) → a ≤ b → b ≤ a → a ≡ b
between a b p q = omega (arith, p, q)

-- ---- an operation more

added_below : (m : Map) (x o : Op) (d : List ℕ) (b : Bool) → cond b (Some x) (held_at m d) ≡ Some o
    → counter_of o ≤ max (top_counter_of (ops_of m)) (counter_of x)
added_below m x o d true e = subst (λ p. counter_of p ≤ max (top_counter_of (ops_of m)) (counter_of x)) (is_one x o e)
    (le-max_right (top_counter_of (ops_of m)) (counter_of x))
added_below m x o d false e =
    let here = above m d o e in
    let more = le-max_left (top_counter_of (ops_of m)) (counter_of x) in
    omega (arith, here, more)

added_still : (m : Map) (x o : Op) (d : List ℕ) (b : Bool) → is_at (digest_cmp d) (digest_of x) ≡ b
    → held_at m (digest_of x) ≡ None → held_at m d ≡ Some o → cond b (Some x) (held_at m d) ≡ Some o
added_still m x o d true is none there = absurd (let e = sym (ap (held_at m) (tied d (digest_of x) is) ∙ none)
    ∙ there in cc)
added_still m x o d false is none there = there

-- the top of a site with an operation that it did not hold
top_with : (m : Map) (x : Op) → held_at m (digest_of x) ≡ None → max (top_counter_of (ops_of m))
    (counter_of x) ≡ top_counter_of (ops_of (with_op m x))
top_with m x none =
    let at = λ (d : List ℕ). get-insert nat_list_cmp_total m (digest_of x) x d in
    between _ _
    (max-le
    (below m (top_counter_of (ops_of (with_op m x)))
    (λ d o there. above (with_op m x) d o (at d ∙ added_still m x o d _ refl none there)))
    (above (with_op m x) (digest_of x) x (at (digest_of x) ∙ ap (λ b. cond b (Some x) (held_at m (digest_of x)))
    (ap is_eq (tied_itself nat_list_cmp_total (digest_of x))))))
    (below (with_op m x) _ (λ d o there. added_below m x o d _ (sym (at d) ∙ there)))

-- ---- two sites

either_below : (m n : Map) (o : Op) (d : List ℕ) (r : Option Op) → held_at m d ≡ r → either r (held_at n d) ≡ Some o
    → counter_of o ≤ max (top_counter_of (ops_of m)) (top_counter_of (ops_of n))
either_below m n o d None here e =
    let there = above n d o e in
    let more = le-max_right (top_counter_of (ops_of m)) (top_counter_of (ops_of n)) in
    omega (arith, there, more)
either_below m n o d (Some x) here e =
    let there = above m d o (here ∙ e) in
    let more = le-max_left (top_counter_of (ops_of m)) (top_counter_of (ops_of n)) in
    omega (arith, there, more)

second_still : (m n : Map) (o : Op) (d : List ℕ) (r : Option Op) → held_at m d ≡ r → Agree m n → held_at n d ≡ Some o
    → either r (held_at n d) ≡ Some o
second_still m n o d None here agree there = there
second_still m n o d (Some x) here agree there = ap Some (agree d x o here there)

-- the top of the union of sites that agree
top_union : (m n : Map) → Agree m n → max (top_counter_of (ops_of m)) (top_counter_of (ops_of n)) ≡ top_counter_of
    (ops_of (union m n))
top_union m n agree =
    between _ _
    (max-le
    (below m (top_counter_of (ops_of (union m n))) (λ d o there. above (union m n) d o (held_in_union m n d
    ∙ ap (λ r. either r (held_at n d)) there)))
    (below n (top_counter_of (ops_of (union m n))) (λ d o there. above (union m n) d o (held_in_union m n d
    ∙ second_still m n o d _ refl agree there))))
    (below (union m n) _ (λ d o there. either_below m n o d _ refl (sym (held_in_union m n d) ∙ there)))

-- ---- what a site keeps

-- the top of a site that holds nothing
pub top_none : (es : List (List ℕ × Op)) → es ≡ [] → HasTop (of_entries es) 0
top_none es none =
    let nothing : top_counter_of (ops_of (empty {X = Op} {R = digest_cmp})) ≤ 0 = below empty
    0 (λ d o there. absurd (let e = sym (get-empty digest_cmp d) ∙ there in cc)) in
    subst (λ xs. HasTop (of_entries xs) 0) (sym none) (between 0 _ (omega arith) nothing)

-- the top of a site that took an operation
pub top_taken : (es fs : List (List ℕ × Op)) (d : List ℕ) (o : Op) (top counter later : ℕ)
    → ((q : List ℕ) → held fs q ≡ cond (is_at (digest_cmp d) q) (Some o) (held es q)) → d ≡ digest_of o
    → None ≡ held es d
    → HasTop (of_entries es) top → counter ≡ counter_of o → later ≡ max top counter → HasTop (of_entries fs) later
top_taken es fs d o top counter later added own none was of raised =
    raised ∙ ap (λ t. max t counter) was ∙ ap (max (top_counter_of (ops_of (of_entries es)))) of
    ∙ top_with (of_entries es) o (get_held es (digest_of o) ∙ ap (held es) (sym own) ∙ sym none)
    ∙ ap (λ m. top_counter_of (ops_of m)) (sym (one_more es fs d o added ∙ ap (λ k. insert (of_entries es) k o) own))

-- the top of a site that took in another
pub top_merged : (m n k : Map) (top other later : ℕ) → k ≡ union m n → Agree m n → HasTop m top → HasTop n other
    → later ≡ max top other → HasTop k later
top_merged m n k top other later both agree this that raised =
    raised ∙ ap (λ t. max t other) this ∙ ap (max (top_counter_of (ops_of m))) that ∙ top_union m n agree
    ∙ ap (λ x. top_counter_of (ops_of x)) (sym both)
