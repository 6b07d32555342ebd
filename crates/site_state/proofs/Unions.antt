-- Unions of sites, digest by digest, and their laws.
use Rattle.std.proofs.Common.{◌≡◌, ℕ, List, [], ◌∷◌, ◌++◌, Bool, true, false, cond, Option, Some, None, refl, sym, ap}
use Rattle.std.proofs.Common.{◌∙◌, subst, Bor}
use Rattle.std.proofs.lemmas.Bool.{false≢true}
use Rattle.std.specs.Prelude.{IfSome, is_some, ◌↔◌, IsTrue, MatchBool, MatchOption, not}
use Rattle.std.specs.Ordering.{is_eq}
use Rattle.std.specs.declared.cmp.Ordering.TheVariants.{Less, Equal}
use Rattle.std.specs.Cmp.{eq_by_cmp_equiv, tied_itself}
use Rattle.std.specs.Cmp.Lexicographic.{nat_list_cmp_total}
use Rattle.std.specs.BTreeMap.{is_at}
use Rattle.std.specs.Map.{keys_of, values_of}
use Rattle.std.specs.List.{AllByRecursion}
use Rattle.std.specs.List.Sorted.{IsStrictlySortedBy}
use Rattle.std.specs.FinMap.{entries, get-entries, get-empty, empty}
use Rattle.std.proofs.lemmas.Option.{same_Some as some_is}
use Rattle.join_laws.specs.Proved.Ascending.{below_last, front_ascends}
use Rattle.operation.specs.declared.op.Op.{Op}
use Rattle.operation.specs.Spelling.{digest_of}
use Rattle.site_state.specs.Site.{Map, digest_cmp, of_entries, held_at, IsSite, HasOther, HasNoOther}
use Rattle.site_state.specs.Union.{either, union, Agree, DoClash}
use Rattle.site_state.proofs.Maps.{same_sites, held, find_held, get_held, tied}

pub held_entries : (m : Map) (d : List ℕ) → held (entries m) d ≡ held_at m d
held_entries m d = sym (find_held (entries m) d) ∙ sym (get-entries m d)

either_cond : (b : Bool) (o : Op) (r s : Option Op) → cond b (Some o) (either r s) ≡ either (cond b (Some o) r) s
either_cond true o r s = refl
either_cond false o r s = refl

held-append : (es fs : List (List ℕ × Op)) (d : List ℕ) → held (es ++ fs) d ≡ either (held es d) (held fs d)
held-append [] fs d = refl
held-append (e ∷ es) fs d = ap (cond (is_at (digest_cmp d) e.0) (Some e.1)) (held-append es fs d)
    ∙ either_cond (is_at (digest_cmp d) e.0) e.1 (held es d) (held fs d)

-- under a digest the union has what the first has, else what the second has
pub held_in_union : (m n : Map) (d : List ℕ) → held_at (union m n) d ≡ either (held_at m d) (held_at n d)
held_in_union m n d =
    get_held (entries m ++ entries n) d ∙ held-append (entries m) (entries n) d
    ∙ ap (λ r. either r (held (entries n) d)) (held_entries m d) ∙ ap (either (held_at m d)) (held_entries n d)

pub either_none : (r : Option Op) → either r None ≡ r
either_none None = refl
either_none (Some o) = refl

turned : (r s : Option Op) → ((o p : Op) → r ≡ Some o → s ≡ Some p → o ≡ p) → either r s ≡ either s r
turned None None same = refl
turned None (Some p) same = refl
turned (Some o) None same = refl
turned (Some o) (Some p) same = ap Some (same o p refl refl)

twice : (r : Option Op) → either r r ≡ r
twice None = refl
twice (Some o) = refl

regrouped : (r s t : Option Op) → either (either r s) t ≡ either r (either s t)
regrouped None s t = refl
regrouped (Some o) s t = refl

pub commutative : (m n : Map) → Agree m n → union m n ≡ union n m
commutative m n agree = same_sites _ _ (λ d. held_in_union m n d ∙ turned (held_at m d) (held_at n d) (agree d)
    ∙ sym (held_in_union n m d))

pub idempotent : (m : Map) → union m m ≡ m
idempotent m = same_sites _ _ (λ d. held_in_union m m d ∙ twice (held_at m d))

pub associative : (m n k : Map) → union (union m n) k ≡ union m (union n k)
associative m n k = same_sites _ _ (λ d.
    held_in_union (union m n) k d ∙ ap (λ r. either r (held_at k d)) (held_in_union m n d) ∙ regrouped (held_at m d)
    (held_at n d) (held_at k d)
    ∙ ap (either (held_at m d)) (sym (held_in_union n k d)) ∙ sym (held_in_union m (union n k) d))

-- a site with what nothing holds is the site
pub from_nothing : (m : Map) → union empty m ≡ m
from_nothing m = same_sites _ _ (λ d. held_in_union empty m d ∙ ap (λ r. either r (held_at m d))
    (get-empty digest_cmp d))

own : (r s : Option Op) (d : List ℕ) → IfSome r (λ o. d ≡ digest_of o) → IfSome s (λ o. d ≡ digest_of o)
    → IfSome (either r s) (λ o. d ≡ digest_of o)
own None s d p q = q
own (Some o) s d p q = p

-- the union of sites is a site
pub union_is_site : (m n : Map) → IsSite m → IsSite n → IsSite (union m n)
union_is_site m n p q d = subst (λ (r : Option Op). IfSome r (λ o. d ≡ digest_of o)) (sym (held_in_union m n d))
    (own (held_at m d) (held_at n d) d (p d) (q d))

-- sites that agree do not clash
pub no_clash : (m n : Map) {P : Type 0} → Agree m n → DoClash m n → P
no_clash m n agree (d, o, p, here, there, differ) = absurd (differ (agree d o p here there))

-- ---- copies of one tree put into another

passed_over : (b : Bool) (o : Op) (r : Option Op) → (b ≡ true → is_some r ≡ true) → r ≡ either r (cond b (Some o) None)
passed_over true o None h = absurd (false≢true (h refl))
passed_over true o (Some p) h = refl
passed_over false o None h = refl
passed_over false o (Some p) h = refl

put_in : (b : Bool) (o : Op) (r : Option Op) → (b ≡ true → is_some r ≡ false) → cond b (Some o) r ≡ either
    r (cond b (Some o) None)
put_in true o None h = refl
put_in true o (Some p) h = absurd (false≢true (sym (h refl)))
put_in false o None h = refl
put_in false o (Some p) h = refl

alone : (d : List ℕ) (o : Op) (q : List ℕ) → held_at (of_entries ((d, o) ∷ [])) q ≡ cond (is_at (digest_cmp q) d)
    (Some o) None
alone d o q = get_held ((d, o) ∷ []) q

-- an entry whose digest is there adds nothing
pub known_entry : (es : List (List ℕ × Op)) (d : List ℕ) (o : Op) → is_some (held es d) ≡ true
    → of_entries es ≡ union (of_entries es) (of_entries ((d, o) ∷ []))
known_entry es d o there = same_sites _ _ (λ q.
    get_held es q ∙ passed_over (is_at (digest_cmp q) d) o (held es q) (λ e. ap (λ x. is_some (held es x)) (tied q d e)
    ∙ there)
    ∙ ap (λ r. either r (cond (is_at (digest_cmp q) d) (Some o) None)) (sym (get_held es q))
    ∙ ap (either (held_at (of_entries es) q)) (sym (alone d o q))
    ∙ sym (held_in_union (of_entries es) (of_entries ((d, o) ∷ [])) q))

-- an entry whose digest is not there is added
pub new_entry : (es fs : List (List ℕ × Op)) (d : List ℕ) (o : Op) → is_some (held es d) ≡ false
    → ((q : List ℕ) → held fs q ≡ cond (is_at (digest_cmp d) q) (Some o) (held es q))
    → of_entries fs ≡ union (of_entries es) (of_entries ((d, o) ∷ []))
new_entry es fs d o none added = same_sites _ _ (λ q.
    get_held fs q ∙ added q ∙ ap (λ b. cond b (Some o) (held es q)) ((eq_by_cmp_equiv nat_list_cmp_total).symm d q)
    ∙ put_in (is_at (digest_cmp q) d) o (held es q) (λ e. ap (λ x. is_some (held es x)) (tied q d e) ∙ none)
    ∙ ap (λ r. either r (cond (is_at (digest_cmp q) d) (Some o) None)) (sym (get_held es q))
    ∙ ap (either (held_at (of_entries es) q)) (sym (alone d o q))
    ∙ sym (held_in_union (of_entries es) (of_entries ((d, o) ∷ [])) q))

-- entries are the first with the others
first_and_rest : (d : List ℕ) (o : Op) (fs : List (List ℕ × Op)) → union (of_entries ((d, o) ∷ []))
    (of_entries fs) ≡ of_entries ((d, o) ∷ fs)
first_and_rest d o fs = same_sites _ _ (λ q.
    held_in_union (of_entries ((d, o) ∷ [])) (of_entries fs) q ∙ ap (λ r. either r (held_at (of_entries fs) q))
    (alone d o q)
    ∙ ap (either (cond (is_at (digest_cmp q) d) (Some o) None)) (get_held fs q)
    ∙ sym (either_cond (is_at (digest_cmp q) d) o None (held fs q)) ∙ sym (get_held ((d, o) ∷ fs) q))

-- one entry was added, and the others are left
pub entry_added : (m n : Map) (d : List ℕ) (o : Op) (es fs : List (List ℕ × Op))
    → n ≡ union m (of_entries ((d, o) ∷ [])) → es ≡ (d, o) ∷ fs → union n (of_entries fs) ≡ union m (of_entries es)
entry_added m n d o es fs added parts =
    ap (λ k. union k (of_entries fs)) added ∙ associative m (of_entries ((d, o) ∷ [])) (of_entries fs)
    ∙ ap (union m) (first_and_rest d o fs) ∙ ap (λ xs. union m (of_entries xs)) (sym parts)

-- of two entries of two digests either may be looked at first
either_first : (first last : Bool) (p o : Op) (r : Option Op) → (first ≡ true → last ≡ true → ⊥)
    → cond last (Some o) (cond first (Some p) r) ≡ cond first (Some p) (cond last (Some o) r)
either_first true true p o r apart = absurd (apart refl refl)
either_first true false p o r apart = refl
either_first false true p o r apart = refl
either_first false false p o r apart = refl

-- where digests ascend the last entry may stand first
last_at : (fs : List (List ℕ × Op)) (d : List ℕ) (o : Op) → IsStrictlySortedBy digest_cmp (keys_of (fs ++ (d, o) ∷ []))
    → (q : List ℕ) → held ((d, o) ∷ fs) q ≡ held (fs ++ (d, o) ∷ []) q
unfolding IsStrictlySortedBy
last_at [] d o ascend q = refl
last_at (f ∷ fs) d o ascend q =
    either_first (is_at (digest_cmp q) f.0) (is_at (digest_cmp q) d) f.1 o (held fs q) (λ here there.
    let one : f.0 ≡ d = sym (tied q f.0 here) ∙ tied q d there in
    let less : digest_cmp d d ≡ Less =
    ap (λ k. digest_cmp k d) (sym one) ∙ below_last digest_cmp f.0 fs (d, o) ascend.0 in
    let both : Equal ≡ Less = sym (tied_itself nat_list_cmp_total d) ∙ less in
    cc)
    ∙ ap (cond (is_at (digest_cmp q) f.0) (Some f.1)) (last_at fs d o ascend.1 q)

-- the last entry was added, and the others are left
pub last_added : (m n : Map) (d : List ℕ) (o : Op) (es fs : List (List ℕ × Op))
    → n ≡ union m (of_entries ((d, o) ∷ [])) → IsStrictlySortedBy digest_cmp (keys_of es) → es ≡ fs ++ (d, o) ∷ []
    → (union n (of_entries fs) ≡ union m (of_entries es)) × IsStrictlySortedBy digest_cmp (keys_of fs)
last_added m n d o es fs added ascend parts =
    let all = subst (λ xs. IsStrictlySortedBy digest_cmp (keys_of xs)) parts ascend in (
      entry_added m n d o ((d, o) ∷ fs) fs added refl
          ∙ ap (union m) (same_sites _ _ (λ q. get_held ((d, o) ∷ fs) q ∙ last_at fs d o all q
          ∙ sym (get_held (fs ++ (d, o) ∷ []) q)))
          ∙ ap (λ xs. union m (of_entries xs)) (sym parts),
      front_ascends digest_cmp fs (d, o) all,
    )

-- nothing is left
pub all_added : (m : Map) (fs : List (List ℕ × Op)) → fs ≡ [] → m ≡ union m (of_entries fs)
all_added m fs none = sym (ap (λ xs. union m (of_entries xs)) none ∙ same_sites _ _ (λ d.
    held_in_union m empty d ∙ ap (either (held_at m d)) (get-empty digest_cmp d) ∙ either_none (held_at m d)))

-- ---- whether two trees clash

-- where both have a digest they have one operation
abbrev pub AgreeOver : List (List ℕ × Op) → List (List ℕ × Op) → Type 0
AgreeOver es fs = (d : List ℕ) (o p : Op) → held_at (of_entries es) d ≡ Some o → held fs d ≡ Some p → o ≡ p

agree_at : (es fs : List (List ℕ × Op)) (k : List ℕ) (x : Op) → HasNoOther (of_entries es) k x → AgreeOver es fs
    → (d : List ℕ) (o p : Op) (b : Bool) → is_at (digest_cmp d) k ≡ b → held_at (of_entries es) d ≡ Some o
    → cond b (Some x) (held fs d) ≡ Some p → o ≡ p
agree_at es fs k x one agree d o p true tie here there = one o (ap (held_at (of_entries es)) (sym (tied d k tie))
    ∙ here) ∙ some_is x p there
agree_at es fs k x one agree d o p false tie here there = agree d o p here there

-- one entry more does not clash
pub agree_more : (es gs fs : List (List ℕ × Op)) (k : List ℕ) (x : Op) → gs ≡ (k, x) ∷ fs → HasNoOther (of_entries es) k
    x → AgreeOver es fs → AgreeOver es gs
agree_more es gs fs k x parts one agree = subst (AgreeOver es) (sym parts) (λ d o p. agree_at es fs k x one agree d o
    p (is_at (digest_cmp d) k) refl)

pub agree_none : (es fs : List (List ℕ × Op)) → fs ≡ [] → AgreeOver es fs
agree_none es fs none = subst (AgreeOver es) (sym none) (λ d o p here there. absurd cc)

pub agreed : (es fs : List (List ℕ × Op)) → AgreeOver es fs → Agree (of_entries es) (of_entries fs)
agreed es fs agree d o p here there = agree d o p here (sym (get_held fs d) ∙ there)

pub first_held : (gs fs : List (List ℕ × Op)) (k : List ℕ) (x : Op) → gs ≡ (k, x) ∷ fs → held gs k ≡ Some x
first_held gs fs k x parts = ap (λ xs. held xs k) parts ∙ ap (λ r. cond (is_eq r) (Some x) (held fs k))
    (tied_itself nat_list_cmp_total k)

later_held : (es : List (List ℕ × Op)) (k : List ℕ) → AllByRecursion (λ d. digest_cmp k d ≡ Less) (keys_of es)
    → held es k ≡ None
later_held [] k after = refl
later_held (e ∷ es) k after = ap (λ r. cond (is_eq r) (Some e.1) (held es k)) after.0 ∙ later_held es k after.1

below_held : (b : Bool) (x p : Op) (r : Option Op) → (b ≡ true → r ≡ None) → r ≡ Some p → cond b (Some x) r ≡ Some p
below_held true x p r none there = absurd (let e = sym (none refl) ∙ there in cc)
below_held false x p r none there = there

-- what is held by the others is held by all
pub rest_held : (gs fs : List (List ℕ × Op)) (k : List ℕ) (x : Op) → gs ≡ (k, x) ∷ fs → IsStrictlySortedBy digest_cmp
    (keys_of gs) → (d : List ℕ) (p : Op) → held fs d ≡ Some p → held gs d ≡ Some p
unfolding IsStrictlySortedBy
rest_held gs fs k x parts sorted d p there =
    let up = subst (λ (xs : List (List ℕ × Op)). IsStrictlySortedBy digest_cmp (keys_of xs)) parts sorted in
    ap (λ xs. held xs d) parts ∙ below_held (is_at (digest_cmp d) k) x p (held fs d) (λ e. ap (held fs) (tied d k e)
    ∙ later_held fs k up.0) there

pub rest_sorted : (gs fs : List (List ℕ × Op)) (k : List ℕ) (x : Op) → gs ≡ (k, x) ∷ fs → IsStrictlySortedBy digest_cmp
    (keys_of gs) → IsStrictlySortedBy digest_cmp (keys_of fs)
unfolding IsStrictlySortedBy
rest_sorted gs fs k x parts sorted = (subst (λ (xs : List (List ℕ × Op)). IsStrictlySortedBy digest_cmp (keys_of xs))
    parts sorted).1

-- ---- sites with the same operations

head_own : (b : Bool) (d : List ℕ) (x : Op) (r : Option Op) → b ≡ true → IfSome (cond b (Some x) r)
    (λ o. d ≡ digest_of o) → d ≡ digest_of x
head_own true d x r e own = own
head_own false d x r e own = absurd (false≢true e)

tail_own : (b : Bool) (d : List ℕ) (x : Op) (r : Option Op) → (b ≡ true → r ≡ None) → IfSome (cond b (Some x) r)
    (λ o. d ≡ digest_of o) → IfSome r (λ o. d ≡ digest_of o)
tail_own true d x r none own = subst (λ (s : Option Op). IfSome s (λ o. d ≡ digest_of o)) (sym (none refl)) tt
tail_own false d x r none own = own

-- each entry of the tree of a site has its own digest
pub own_entries : (es : List (List ℕ × Op)) → IsStrictlySortedBy digest_cmp (keys_of es)
    → ((d : List ℕ) → IfSome (held es d) (λ o. d ≡ digest_of o)) → AllByRecursion (λ e. e.0 ≡ digest_of e.1) es
unfolding IsStrictlySortedBy
own_entries [] sorted own = tt
own_entries (e ∷ es) sorted own = (
  head_own (is_at (digest_cmp e.0) e.0) e.0 e.1 (held es e.0) (ap is_eq (tied_itself nat_list_cmp_total e.0)) (own e.0),
  own_entries es sorted.1 (λ d. tail_own (is_at (digest_cmp d) e.0) d e.1 (held es d) (λ b. ap (held es) (tied d e.0 b)
      ∙ later_held es e.0 sorted.0) (own d)),
)

same_entries : (es fs : List (List ℕ × Op)) → AllByRecursion (λ e. e.0 ≡ digest_of e.1) es
    → AllByRecursion (λ e. e.0 ≡ digest_of e.1) fs → values_of es ≡ values_of fs → es ≡ fs
same_entries [] [] p q e = refl
same_entries [] (f ∷ fs) p q e = absurd cc
same_entries (x ∷ es) [] p q e = absurd cc
same_entries (x ∷ es) (f ∷ fs) p q e =
    let op : x.1 ≡ f.1 = cc in
    let rest : values_of es ≡ values_of fs = cc in
    let digest = p.0 ∙ ap digest_of op ∙ sym q.0 in
    let more = same_entries es fs p.1 q.1 rest in
    λ i. (digest i, op i) ∷ more i

pub of_tree : (es : List (List ℕ × Op)) → IsSite (of_entries es) → (d : List ℕ) → IfSome (held es d)
    (λ o. d ≡ digest_of o)
of_tree es site d = subst (λ (r : Option Op). IfSome r (λ o. d ≡ digest_of o)) (get_held es d) (site d)

-- sites with the same operations are one
pub same_ops : (m n : Map) (es fs : List (List ℕ × Op)) → of_entries es ≡ m → of_entries fs ≡ n → IsStrictlySortedBy
    digest_cmp (keys_of es) → IsStrictlySortedBy digest_cmp (keys_of fs)
    → IsSite (of_entries es) → IsSite (of_entries fs) → values_of es ≡ values_of fs → m ≡ n
same_ops m n es fs this other up also own theirs e =
    sym this ∙ ap of_entries (same_entries es fs (own_entries es up (of_tree es own))
    (own_entries fs also (of_tree fs theirs)) e) ∙ other

-- what two lists are, by what is left of them
pub heads_same : (x y : Op) (xs ys rest others : List Op) {P : Type 0} → rest ≡ x ∷ xs → others ≡ y ∷ ys → x ≡ y
    → (rest ≡ others) ↔ P → (xs ≡ ys) ↔ P
heads_same x y xs ys rest others here there same so_far =
    (λ e. so_far.0 (here ∙ (λ i. same i ∷ e i) ∙ sym there), λ p. let e = sym here ∙ so_far.1 p ∙ there in cc)

pub first_same : (x y : Op) (xs ys rest others : List Op) → rest ≡ x ∷ xs → others ≡ y ∷ ys → rest ≡ others → x ≡ y
first_same x y xs ys rest others here there e = let both = sym here ∙ e ∙ there in cc

pub not_longer : (x : Op) (xs rest others : List Op) {P : Type 0} → rest ≡ x ∷ xs → others ≡ [] → rest ≡ others → P
not_longer x xs rest others here none e = absurd (let both = sym here ∙ e ∙ none in cc)

-- another is held, or none
pub other_or_not : (m : Map) (d : List ℕ) (o held : Op) (b : Bool) → held_at m d ≡ Some held → (IsTrue b → held ≡ o)
    × (held ≡ o → IsTrue b) → MatchBool (not b) (HasOther m d o) (HasNoOther m d o)
other_or_not m d o held true here equal = λ other there. some_is other held (sym there ∙ here) ∙ equal.0 refl
other_or_not m d o held false here equal = (held, here, λ e. absurd (false≢true (equal.1 e)))

pub none_held : (m : Map) (d : List ℕ) (o : Op) → held_at m d ≡ None → HasNoOther m d o
none_held m d o none other there = absurd (let e = sym none ∙ there in cc)

-- copies of two trees in one are their union
pub merged : (none first second es fs : List (List ℕ × Op)) → none ≡ [] → of_entries first ≡ union (of_entries none)
    (of_entries es) → of_entries second ≡ union (of_entries first) (of_entries fs)
    → of_entries second ≡ union (of_entries es) (of_entries fs)
merged none first second es fs nothing one both =
    both ∙ ap (λ m. union m (of_entries fs)) (one ∙ ap (λ xs. union (of_entries xs) (of_entries es)) nothing
    ∙ from_nothing (of_entries es))

-- whether an iterator over what is left has ended
pub ended : (others later : List Op) (r : Option (Bor Op)) (b : Bool) → MatchOption r ((others ≡ []) × (later ≡ []))
    (λ x. others ≡ x.now ∷ later) → is_some r ≡ not b → (IsTrue b → others ≡ []) × (others ≡ [] → IsTrue b)
ended others later None true steps e = (λ t. steps.0, λ n. refl)
ended others later None false steps e = absurd (false≢true e)
ended others later (Some x) true steps e = absurd (false≢true (sym e))
ended others later (Some x) false steps e = (λ t. absurd (false≢true t), λ n. absurd (let both = sym n ∙ steps in cc))
