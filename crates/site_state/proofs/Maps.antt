-- What the entries of a tree are as a finite map.
use Rattle.std.proofs.Common.{◌≡◌, ◌≢◌, ℕ, List, [], ◌∷◌, Bool, true, false, cond, Option, Some, None, IsTrue, refl}
use Rattle.std.proofs.Common.{sym, ap, subst, ◌∙◌, Bor}
use Rattle.std.specs.Prelude.{IfSome, is_some}
use Rattle.std.proofs.lemmas.Bool.{false≢true}
use Rattle.std.specs.Ordering.{is_eq}
use Rattle.std.specs.declared.cmp.Ordering.TheVariants.{Less}
use Rattle.std.specs.Cmp.{eq_by_cmp_equiv, tied_itself, Equal-is}
use Rattle.std.specs.Cmp.Lexicographic.{nat_list_cmp_total}
use Rattle.std.specs.BTreeMap.{is_at}
use Rattle.std.specs.FinMap.{entries, entries-insert, len-entries, len-empty, put, get, insert, from_entries, empty}
use Rattle.std.specs.FinMap.{find, same_map, get-from_entries, get-insert, nat_cmp-IsAntisymmetric}
use Rattle.std.specs.FinMap.{slice_cmp-IsAntisymmetric}
use Rattle.std.specs.Option.{option_copied}
use Rattle.std.specs.Map.{lookup, keys_of, values_of}
use Rattle.std.specs.List.{AllByRecursion}
use Rattle.std.specs.List.Sorted.{IsStrictlySortedBy}
use Rattle.std.proofs.lemmas.List.{nil_from_length as nothing}
use Rattle.operation.specs.declared.op.Op.{Op}
use Rattle.operation.specs.Spelling.{digest_of}
use Rattle.site_state.specs.Site.{digest_cmp, Map, IsSite, ops_of, digests_of, held_at}

-- maps that hold the same under each digest are one
pub same_sites : (u v : Map) → ((d : List ℕ) → held_at u d ≡ held_at v d) → u ≡ v
same_sites u v same = same_map nat_list_cmp_total (slice_cmp-IsAntisymmetric nat_cmp-IsAntisymmetric) u v same

-- what entries have at a digest
abbrev pub held : List (List ℕ × Op) → List ℕ → Option Op
held es q = lookup (is_at (digest_cmp q)) es

pub find_held : (es : List (List ℕ × Op)) (q : List ℕ) → find digest_cmp q es ≡ held es q
find_held [] q = refl
find_held (e ∷ es) q = ap (cond (is_at (digest_cmp q) e.0) (Some e.1)) (find_held es q)

pub get_held : (es : List (List ℕ × Op)) (q : List ℕ) → get (from_entries {R = digest_cmp} es) q ≡ held es q
get_held es q = get-from_entries nat_list_cmp_total es q ∙ find_held es q

-- entries that differ at one digest make maps that differ there
pub one_more : (es fs : List (List ℕ × Op)) (d : List ℕ) (o : Op)
    → ((q : List ℕ) → held fs q ≡ cond (is_at (digest_cmp d) q) (Some o) (held es q)) → from_entries {R = digest_cmp}
    fs ≡ insert (from_entries es) d o
one_more es fs d o h = same_sites _ _ (λ q.
    get_held fs q ∙ h q ∙ ap (λ b. cond b (Some o) (held es q)) ((eq_by_cmp_equiv nat_list_cmp_total).symm d q)
    ∙ sym (get-insert nat_list_cmp_total (from_entries es) d o q ∙ ap (cond (is_at (digest_cmp q) d) (Some o))
    (get_held es q)))

-- no operation is a site
pub none_is_site : (es : List (List ℕ × Op)) → es ≡ [] → IsSite (from_entries {R = digest_cmp} es)
none_is_site es e d = subst (λ (r : Option Op). IfSome r (λ o. d ≡ digest_of o))
    (sym (get_held es d ∙ ap (λ (xs : List (List ℕ × Op)). held xs d) e)) tt

-- digests that tie are one
pub tied : (d e : List ℕ) → is_at (digest_cmp d) e ≡ true → d ≡ e
tied d e is = slice_cmp-IsAntisymmetric nat_cmp-IsAntisymmetric d e ((Equal-is _).0 is)

-- a digest ties with itself
pub apart : (d e : List ℕ) → is_at (digest_cmp d) e ≡ false → d ≢ e
apart d e is q = absurd (false≢true (sym is ∙ ap (λ x. is_at (digest_cmp d) x) (sym q)
    ∙ ap is_eq (tied_itself nat_list_cmp_total d)))

at_digest : (d q : List ℕ) (o : Op) (b : Bool) (r : Option Op) → is_at (digest_cmp d) q ≡ b → d ≡ digest_of o
    → IfSome r (λ x. q ≡ digest_of x) → IfSome (cond b (Some o) r) (λ x. q ≡ digest_of x)
at_digest d q o true r is e was = sym (tied d q is) ∙ e
at_digest d q o false r is e was = was

-- one operation more, under its digest
pub one_more_is_site : (es fs : List (List ℕ × Op)) (d : List ℕ) (o : Op)
    → ((q : List ℕ) → held fs q ≡ cond (is_at (digest_cmp d) q) (Some o) (held es q)) → d ≡ digest_of o
    → IsSite (from_entries {R = digest_cmp} es) → IsSite (from_entries {R = digest_cmp} fs)
one_more_is_site es fs d o h e was q =
    subst (λ (r : Option Op). IfSome r (λ x. q ≡ digest_of x)) (sym (get_held fs q ∙ h q))
    (at_digest d q o _ (held es q) refl e (subst (λ (r : Option Op). IfSome r (λ x. q ≡ digest_of x)) (get_held es q)
    (was q)))

-- what a look-up in the tree says of the map
pub found_at : (m : Map) (es : List (List ℕ × Op)) (d : List ℕ) (r : Option Op) → from_entries es ≡ m → r ≡ held es d
    → held_at m d ≡ r
found_at m es d r view found = ap (λ (x : Map). get x d) (sym view) ∙ get_held es d ∙ sym found

pub some_is : {X : Type 0} (o : Option X) → (IsTrue (is_some o) → o ≢ None) × (o ≢ None → IsTrue (is_some o))
some_is None = (λ t e. absurd (false≢true t), λ n. absurd (n refl))
some_is (Some x) = (λ t e. absurd cc, λ n. refl)

put_first : (k : List ℕ) (v : Op) (es : List (List ℕ × Op)) → AllByRecursion (λ d. digest_cmp k d ≡ Less) (keys_of es)
    → put digest_cmp k v es ≡ (k, v) ∷ es
put_first k v [] first = refl
put_first k v (e ∷ es) first = rw first.0 refl

-- entries that ascend are those of the map that they make
pub sorted_entries : (es : List (List ℕ × Op)) → IsStrictlySortedBy digest_cmp (keys_of es)
    → entries (from_entries {R = digest_cmp} es) ≡ es
unfolding IsStrictlySortedBy
sorted_entries [] sorted = nothing _ (sym (len-entries (empty {R = digest_cmp})) ∙ len-empty digest_cmp Op)
sorted_entries (e ∷ es) sorted = entries-insert nat_list_cmp_total (from_entries es) e.0 e.1
    ∙ ap (put digest_cmp e.0 e.1) (sorted_entries es sorted.1) ∙ put_first e.0 e.1 es sorted.0

-- the operations of a site are the values of its tree
pub tree_ops : (m : Map) (es : List (List ℕ × Op)) → from_entries es ≡ m → IsStrictlySortedBy digest_cmp (keys_of es)
    → values_of es ≡ ops_of m
tree_ops m es view sorted = ap values_of (sym (sorted_entries es sorted)) ∙ ap ops_of view

-- the digests of a site are the keys of its tree
pub tree_digests : (m : Map) (es : List (List ℕ × Op)) → from_entries es ≡ m → IsStrictlySortedBy digest_cmp
    (keys_of es) → keys_of es ≡ digests_of m
tree_digests m es view sorted = ap keys_of (sym (sorted_entries es sorted)) ∙ ap digests_of view

-- what is found under a digest has it
pub found_own : (es : List (List ℕ × Op)) (d : List ℕ) (r : Option (Bor Op)) → IsSite (from_entries {R = digest_cmp} es)
    → option_copied r ≡ held es d → IfSome r (λ x. d ≡ digest_of x.now)
found_own es d None site found = tt
found_own es d (Some x) site found = subst (λ (s : Option Op). IfSome s (λ o. d ≡ digest_of o))
    (get_held es d ∙ sym found) (site d)
