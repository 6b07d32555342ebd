-- The index of a site, as operations are added.
use Rattle.std.proofs.Common.{◌≡◌, ℕ, List, [], ◌∷◌, ◌++◌, Bool, true, false, cond, Option, Some, None, inl, inr, ◌⊎◌}
use Rattle.std.proofs.Common.{refl, sym, ap, subst, ◌∙◌}
use Rattle.std.specs.Prelude.{Contains, All, map, IfSome}
use Rattle.std.proofs.lemmas.List.Elements.{All-nil, All-cons, All-contains, All-weaker, Contains-push}
use Rattle.std.proofs.lemmas.List.Elements.{Contains-append_left, Contains-append_right}
use Rattle.std.specs.Ordering.{is_eq}
use Rattle.std.specs.Cmp.{tied_itself}
use Rattle.std.specs.Cmp.Lexicographic.{nat_list_cmp_total}
use Rattle.std.specs.BTreeMap.{is_at}
use Rattle.std.specs.FinMap.{entries, entries_sorted}
use Rattle.std.specs.List.{AllByRecursion}
use Rattle.std.specs.List.Sorted.{IsStrictlySortedBy}
use Rattle.std.specs.Map.{keys_of, values_of}
use Rattle.std.proofs.lemmas.Option.{same_Some as some_is}
use Rattle.operation.specs.declared.op.Op.{Op}
use Rattle.operation.specs.Spelling.{digest_of}
use Rattle.octets.specs.Members.{Has}
use Rattle.archive_model.specs.Laws.{Ascend}
use Rattle.octets.specs.Texts.{text_cmp}
use Rattle.join_laws.specs.Laws.{HasSameMembers}
use Rattle.join_laws.proofs.Folds.{value_same}
use Rattle.study_index.specs.Index.{IndexValue, index_joined, index_of, nothing}
use Rattle.study_index.specs.Definition.{index_value}
use Rattle.study_index.specs.Proved.Indexes.{index_laws, index_summary_laws}
use Rattle.study_index.proofs.Definitions.{held as index_held}
use Rattle.site_state.specs.Site.{Map, digest_cmp, IsSite, of_entries, ops_of, held_at, HasIndex}
use Rattle.site_state.specs.Union.{either, union, Agree}
use Rattle.site_state.proofs.Maps.{same_sites, held, get_held, tied, tree_ops}
use Rattle.site_state.proofs.Unions.{held_entries, held_in_union, first_held, rest_held, own_entries}
use Rattle.site_state.proofs.Same.{of_ops, has_left, has_right}
use Rattle.site_state.proofs.Tops.{ascend}

-- ---- an operation that is put in and taken out again

at_itself : (d : List ℕ) → is_at (digest_cmp d) d ≡ true
at_itself d = ap is_eq (tied_itself nat_list_cmp_total d)

pub put_there : (es fs : List (List ℕ × Op)) (d : List ℕ) (o : Op)
    → ((q : List ℕ) → held fs q ≡ cond (is_at (digest_cmp d) q) (Some o) (held es q)) → held fs d ≡ Some o
put_there es fs d o added = added d ∙ ap (λ b. cond b (Some o) (held es d)) (at_itself d)

pub taken_out : (es mid fs : List (List ℕ × Op)) (d : List ℕ) (o : Op)
    → ((q : List ℕ) → held mid q ≡ cond (is_at (digest_cmp d) q) (Some o) (held es q))
    → ((q : List ℕ) → held fs q ≡ cond (is_at (digest_cmp d) q) None (held mid q)) → held es d ≡ None
    → of_entries fs ≡ of_entries es
taken_out es mid fs d o put out none = same_sites _ _ (λ q. get_held fs q ∙ out q ∙ by q (is_at (digest_cmp d) q) refl
    ∙ sym (get_held es q))
  where
    by : (q : List ℕ) (b : Bool) → is_at (digest_cmp d) q ≡ b → cond b None (held mid q) ≡ held es q
    by q true at = sym none ∙ ap (held es) (tied d q at)
    by q false at = put q ∙ ap (λ b. cond b (Some o) (held es q)) at

-- ---- members

contains_has : (ops : List Op) (x : Op) → Contains ops x → Has ops x
contains_has ops x c = All-contains (Has ops) ops x (all ops) c
  where
    all : (xs : List Op) → All (Has xs) xs
    all [] = All-nil (Has [])
    all (y ∷ ys) = All-cons (Has (y ∷ ys)) y ys (inl refl) (All-weaker (Has ys) (Has (y ∷ ys)) (λ z h. inr h)
        ys (all ys))

has_contains : (ops : List Op) (x : Op) → Has ops x → Contains ops x
has_contains [] x h = absurd h
has_contains (y ∷ ys) x (inl e) = subst (Contains (y ∷ ys)) (sym e)
    (Contains-append_left (y ∷ []) ys y (Contains-push [] y))
has_contains (y ∷ ys) x (inr h) = Contains-append_right (y ∷ []) ys x (has_contains ys x h)

same_members : (xs ys : List Op) → ((x : Op) → Has xs x → Has ys x) → ((x : Op) → Has ys x → Has xs x)
    → HasSameMembers xs ys
same_members xs ys there back x = (
  λ c. has_contains ys x (there x (contains_has xs x c)),
  λ c. has_contains xs
      x (back x (contains_has ys x c)),
)

-- an operation of a site is held under some digest
IsHeld : Map → Op → Type 0
IsHeld m o = (d : List ℕ) × (held_at m d ≡ Some o)

held_of : (es : List (List ℕ × Op)) → IsStrictlySortedBy digest_cmp (keys_of es) → (o : Op) → Has (values_of es) o
    → (d : List ℕ) × (held es d ≡ Some o)
unfolding IsStrictlySortedBy
held_of [] sorted o h = absurd h
held_of (e ∷ es) sorted o (inl s) = (e.0, first_held (e ∷ es) es e.0 e.1 refl ∙ ap Some (sym s))
held_of (e ∷ es) sorted o (inr h) =
    let there = held_of es sorted.1 o h in
    (there.0, rest_held (e ∷ es) es e.0 e.1 refl sorted there.0 o there.1)

pub ops_held : (m : Map) (o : Op) → Has (ops_of m) o → (d : List ℕ) × (held_at m d ≡ Some o)
ops_held m o h =
    let there = held_of (entries m) (ascend (entries m) (entries_sorted m)) o h in
    (there.0, sym (held_entries m there.0) ∙ there.1)

-- ---- the index of operations is that of their set

value_of_same : (xs ys : List Op) → ((x : Op) → Has xs x → Has ys x) → ((x : Op) → Has ys x → Has xs x)
    → index_value xs ≡ index_value ys
value_of_same xs ys there back = value_same index_laws index_summary_laws xs ys (same_members xs ys there back)

value-append : (xs ys : List Op) → index_value (xs ++ ys) ≡ index_joined (index_value xs) (index_value ys)
value-append [] ys = sym (index_summary_laws.neutral (index_value ys) (index_held ys))
value-append (x ∷ xs) ys =
    ap (index_joined (index_of x)) (value-append xs ys)
    ∙ sym (index_laws.associative (index_of x) (index_value xs) (index_value ys) (index_summary_laws.one_held x)
    (index_held xs) (index_held ys))

-- ---- what a site keeps

pub index_none : (es : List (List ℕ × Op)) (v : IndexValue) → es ≡ [] → v ≡ nothing → HasIndex (of_entries es) v
unfolding IsStrictlySortedBy
index_none es v none is = is ∙ ap index_value (tree_ops (of_entries []) [] refl tt)
    ∙ ap (λ (xs : List (List ℕ × Op)). index_value (ops_of (of_entries xs))) (sym none)

pub index_kept : (es fs : List (List ℕ × Op)) (v w : IndexValue) → of_entries fs ≡ of_entries es → w ≡ v
    → HasIndex (of_entries es) v → HasIndex (of_entries fs) w
index_kept es fs v w same is was = is ∙ was ∙ ap (λ m. index_value (ops_of m)) (sym same)

-- the index of a site that took an operation
pub index_taken : (es fs : List (List ℕ × Op)) (d : List ℕ) (o : Op) (v w : IndexValue)
    → ((q : List ℕ) → held fs q ≡ cond (is_at (digest_cmp d) q) (Some o) (held es q)) → d ≡ digest_of o
    → None ≡ held es d
    → HasIndex (of_entries es) v → w ≡ index_joined v (index_of o) → HasIndex (of_entries fs) w
index_taken es fs d o v w added own none was is =
    let m = of_entries es in
    let k = of_entries fs in
    is ∙ ap (λ x. index_joined x (index_of o)) was
    ∙ index_laws.commutative (index_value (ops_of m)) (index_of o) (index_held (ops_of m))
    (index_summary_laws.one_held o)
    ∙ value_of_same (o ∷ ops_of m) (ops_of k) there back
  where
    at : (q : List ℕ) → held_at (of_entries fs) q ≡ cond (is_at (digest_cmp d) q) (Some o) (held_at (of_entries es) q)
    at q = get_held fs q ∙ added q ∙ ap (cond (is_at (digest_cmp d) q) (Some o)) (sym (get_held es q))

    still : (x : Op) (q : List ℕ) (b : Bool) → is_at (digest_cmp d) q ≡ b → held_at (of_entries es) q ≡ Some x
        → cond b (Some o) (held_at (of_entries es) q) ≡ Some x
    still x q true tie here = absurd (let e = none ∙ ap (held es) (tied d q tie) ∙ sym (get_held es q) ∙ here in cc)
    still x q false tie here = here

    there : (x : Op) → Has (o ∷ ops_of (of_entries es)) x → Has (ops_of (of_entries fs)) x
    there x (inl e) = of_ops (of_entries fs) d x (get_held fs d ∙ put_there es fs d o added ∙ ap Some (sym e))
    there x (inr h) =
        let before = ops_held (of_entries es) x h in
        of_ops (of_entries fs) before.0 x (at before.0 ∙ still x before.0 (is_at (digest_cmp d) before.0) refl before.1)

    found : (x : Op) (q : List ℕ) (b : Bool) → cond b (Some o) (held_at (of_entries es) q) ≡ Some x
        → Has (o ∷ ops_of (of_entries es)) x
    found x q true e = inl (sym (some_is o x e))
    found x q false e = inr (of_ops (of_entries es) q x e)

    back : (x : Op) → Has (ops_of (of_entries fs)) x → Has (o ∷ ops_of (of_entries es)) x
    back x h =
        let after = ops_held (of_entries fs) x h in
        found x after.0 (is_at (digest_cmp d) after.0) (sym (at after.0) ∙ after.1)

one_of_both : (xs ys : List Op) (x : Op) → Has (xs ++ ys) x → Has xs x ⊎ Has ys x
one_of_both [] ys x h = inr h
one_of_both (z ∷ xs) ys x (inl e) = inl (inl e)
one_of_both (z ∷ xs) ys x (inr h) = elim (one_of_both xs ys x h) as (λ _. Has (z ∷ xs) x ⊎ Has ys x)
    [ inl k ↦ inl (inr k) | inr k ↦ inr k ]

-- the index of a site that took in another
pub index_merged : (m n k : Map) (v w u : IndexValue) → k ≡ union m n → Agree m n → HasIndex m v → HasIndex n w
    → u ≡ index_joined v w → HasIndex k u
index_merged m n k v w u both agree this that is =
    is ∙ ap (λ x. index_joined x w) this ∙ ap (index_joined (index_value (ops_of m))) that
    ∙ sym (value-append (ops_of m) (ops_of n))
    ∙ value_of_same (ops_of m ++ ops_of n) (ops_of (union m n)) there back
    ∙ ap (λ x. index_value (ops_of x)) (sym both)
  where
    second : (x : Op) (d : List ℕ) (r : Option Op) → held_at m d ≡ r → held_at n d ≡ Some x
        → either r (held_at n d) ≡ Some x
    second x d None here e = e
    second x d (Some y) here e = ap Some (agree d y x here e)

    at_either : (x : Op) → Has (ops_of m) x ⊎ Has (ops_of n) x → Has (ops_of (union m n)) x
    at_either x (inl h) =
        let there = ops_held m x h in
        of_ops (union m n) there.0 x (held_in_union m n there.0 ∙ ap (λ r. either r (held_at n there.0)) there.1)
    at_either x (inr h) =
        let there = ops_held n x h in
        of_ops (union m n) there.0 x (held_in_union m n there.0 ∙ second x there.0 (held_at m there.0) refl there.1)

    there : (x : Op) → Has (ops_of m ++ ops_of n) x → Has (ops_of (union m n)) x
    there x h = at_either x (one_of_both (ops_of m) (ops_of n) x h)

    from : (x : Op) (d : List ℕ) (r : Option Op) → held_at m d ≡ r → either r (held_at n d) ≡ Some x
        → Has (ops_of m ++ ops_of n) x
    from x d None here e = has_right (ops_of m) (ops_of n) x (of_ops n d x e)
    from x d (Some y) here e = has_left (ops_of m) (ops_of n) x (of_ops m d x (here ∙ e))

    back : (x : Op) → Has (ops_of (union m n)) x → Has (ops_of m ++ ops_of n) x
    back x h =
        let here = ops_held (union m n) x h in
        from x here.0 (held_at m here.0) refl (sym (held_in_union m n here.0) ∙ here.1)

-- ---- the operations of a site ascend by digest

digests_are_keys : (es : List (List ℕ × Op)) → AllByRecursion (λ e. e.0 ≡ digest_of e.1) es → keys_of es ≡ map digest_of
    (values_of es)
digests_are_keys [] own = refl
digests_are_keys (e ∷ es) own =
    let rest = digests_are_keys es own.1 in
    λ i. own.0 i ∷ rest i

pub ops_ascend : (m : Map) → IsSite m → Ascend (ops_of m)
ops_ascend m site =
    let sorted = ascend (entries m) (entries_sorted m) in
    subst (IsStrictlySortedBy text_cmp) (digests_are_keys (entries m)
    (own_entries (entries m) sorted (λ d. subst (λ r. IfSome r (λ o. d ≡ digest_of o)) (sym (held_entries m d))
    (site d)))) sorted
