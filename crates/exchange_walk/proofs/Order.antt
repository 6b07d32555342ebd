-- The entries of an answer ascend, and none lies within another.
use Rattle.std.proofs.Common.{inl, inr, ◌≡◌, ◌⊎◌, ℕ, zero, suc, ◌+◌, ◌<◌, ◌≤◌, List, [], ◌∷◌, ◌++◌, Bool, true, false}
use Rattle.std.proofs.Common.{cond, Option, Some, None, leb, length, take, refl, sym, subst, ◌∙◌, arith}
use Rattle.std.proofs.lemmas.Bool.{and_parts, and_from}
use Rattle.std.proofs.lemmas.List.Concat.{flat_map-cons}
use Rattle.std.specs.Prelude.{⊤, map, filter}
use Rattle.std.specs.List.{flat_map, range_with_len}
use Rattle.octets.specs.Members.{Has}
use Rattle.walk_frames.specs.Entries.{EntryParts}
use Rattle.walk_frames.specs.Walks.{passes_next, all_pass, is_earlier, stand_apart}
use Rattle.walk_frames.proofs.Order.{before, decided, at_once, further, same_is, Precedes, all_later}
use Rattle.exchange_tree.specs.Nodes.{child}
use Rattle.exchange_tree.specs.Sums.{child_sums}
use Rattle.exchange_tree.specs.Steps.{is_unequal, differing_at}
use Rattle.exchange_tree.specs.declared.nodes.TheConstants.{CHILD_COUNT}
use Rattle.exchange_tree.proofs.Lists.{kept_has}
use Rattle.exchange_walk.specs.Answers.{entry_of, entries_beneath, answers_at, answers_to, all_answers, answer_of}
use Rattle.exchange_walk.proofs.Members.{of_each, take_has, parts_have, map_has, flat_has}

-- ---- nodes

-- what stands before another does so with whatever is behind the two
pub before_behind : (a b x y : List ℕ) → before a b ≡ true → before (a ++ x) (b ++ y) ≡ true
before_behind [] b x y p = absurd cc
before_behind (m ∷ ms) [] x y p = absurd cc
before_behind (m ∷ ms) (n ∷ ns) x y p = by (decided m n (before ms ns) p) (before_behind ms ns x y)
  where
    by : (m < n) ⊎ ((m ≡ n) × (before ms ns ≡ true)) → (before ms ns ≡ true → before (ms ++ x) (ns ++ y) ≡ true)
        → before ((m ∷ ms) ++ x) ((n ∷ ns) ++ y) ≡ true
    by (inl lt) rest = at_once m n (before (ms ++ x) (ns ++ y)) lt
    by (inr same) rest = further m n (before (ms ++ x) (ns ++ y)) same.0 (rest same.1)

-- of two children of a node that of the lesser digit stands before the other
siblings : (node : List ℕ) (a b : ℕ) → a < b → before (child node a) (child node b) ≡ true
siblings [] a b lt = at_once a b false lt
siblings (n ∷ ns) a b lt = further n n (before (child ns a) (child ns b)) refl (siblings ns a b lt)

-- ---- digits

abbrev Rises : List ℕ → Type 0
Rises [] = ⊤
Rises (d ∷ ds) = ((x : ℕ) → Has ds x → d < x) × Rises ds

range_from : (n a x : ℕ) → Has (range_with_len a n) x → a ≤ x
range_from zero a x h = absurd h
range_from (suc n) a x (inl at) = omega (arith, at)
range_from (suc n) a x (inr h) = omega (arith, range_from n (a + 1) x h)

range_rises : (n a : ℕ) → Rises (range_with_len a n)
range_rises zero a = tt
range_rises (suc n) a = (λ x h. omega (arith, range_from n (a + 1) x h), range_rises n (a + 1))

kept_rise : (p : ℕ → Bool) (ds : List ℕ) → Rises ds → Rises (filter p ds)
kept_rise p [] r = tt
kept_rise p (d ∷ ds) r = by (p d) (kept_rise p ds r.1)
  where
    by : (b : Bool) → Rises (filter p ds) → Rises (cond b (d ∷ filter p ds) (filter p ds))
    by true rest = (λ x h. r.0 x (kept_has p ds x h), rest)
    by false rest = rest

differing_rise : (own theirs : List (List ℕ)) → Rises (differing_at own theirs)
unfolding differing_at
differing_rise own theirs = kept_rise (is_unequal own theirs) (range_with_len 0 CHILD_COUNT) (range_rises CHILD_COUNT 0)

-- ---- entries

abbrev pub Ascends : List EntryParts → Type 0
Ascends [] = ⊤
Ascends (e ∷ es) = ((x : EntryParts) → Has es x → Precedes e x) × Ascends es

join : (xs ys : List EntryParts) → Ascends xs → Ascends ys
    → ((x y : EntryParts) → Has xs x → Has ys y → Precedes x y) → Ascends (xs ++ ys)
join [] ys a b between = b
join (e ∷ xs) ys a b between =
    (λ x h. by x (parts_have xs ys x h), join xs ys a.1 b (λ x y h g. between x y (inr h) g))
  where
    by : (x : EntryParts) → Has xs x ⊎ Has ys x → Precedes e x
    by x (inl h) = a.0 x h
    by x (inr h) = between e x (inl refl) h

front : (n : ℕ) (xs : List EntryParts) → Ascends xs → Ascends (take n xs)
front zero xs a = tt
front (suc n) [] a = tt
front (suc n) (e ∷ xs) a = (λ x h. a.0 x (take_has n xs x h), front n xs a.1)

pub ascends : (walk : List EntryParts) → all_pass is_earlier walk ≡ true → Ascends walk
ascends [] e = tt
ascends (entry ∷ walk) e = (
  λ x h. of_each (Precedes entry) walk x (all_later entry walk e) h,
  ascends walk (and_parts (passes_next is_earlier entry walk) (all_pass is_earlier walk) e).1,
)

apart : (walk : List EntryParts) → Ascends walk → all_pass is_earlier walk ≡ true
apart [] a = refl
apart (e ∷ []) a = refl
apart (e ∷ x ∷ walk) a =
    and_from (is_earlier e x) (all_pass is_earlier (x ∷ walk)) (same_is e.node x.node ∙ a.0 x (inl refl))
    (apart (x ∷ walk) a.1)

-- ---- answers

-- an answer to a heard entry is the entry for a child whose sums differ
pub record IsAnswerOf (digests : List (List ℕ)) (heard entry : EntryParts) : Type 0 where
  pub theirs : List (List ℕ)
  pub split : heard.sums ≡ Some theirs
  pub shallow : leb 63 (length heard.node) ≡ false
  pub digit : ℕ
  pub differs : Has (differing_at (child_sums digests heard.node) theirs) digit
  pub is : entry ≡ entry_of digests (child heard.node digit)

pub answers_are : (digests : List (List ℕ)) (heard entry : EntryParts) → Has (answers_to digests heard) entry
    → IsAnswerOf digests heard entry
answers_are digests heard entry h = by heard.sums refl h
  where
    deep : (theirs : List (List ℕ)) → heard.sums ≡ Some theirs → (b : Bool) → leb 63 (length heard.node) ≡ b
        → Has (cond b [] (entries_beneath digests heard.node theirs)) entry → IsAnswerOf digests heard entry
    deep theirs is true at g = absurd g
    deep theirs is false at g =
        let found = map_has (λ digit. entry_of digests (child heard.node digit))
        (differing_at (child_sums digests heard.node) theirs) entry g in
        record { theirs = theirs; split = is; shallow = at; digit = found.0; differs = found.1; is = found.2 }

    by : (sums : Option (List (List ℕ))) → heard.sums ≡ sums → Has (answers_at digests heard.node sums) entry
        → IsAnswerOf digests heard entry
    by None is g = absurd g
    by (Some theirs) is g = deep theirs is (leb 63 (length heard.node)) refl g

children_ascend : (digests : List (List ℕ)) (node : List ℕ) (ds : List ℕ) → Rises ds
    → Ascends (map (λ digit. entry_of digests (child node digit)) ds)
children_ascend digests node [] r = tt
children_ascend digests node (d ∷ ds) r = (λ x h. one x (map_has f ds x h), children_ascend digests node ds r.1)
  where
    f : ℕ → EntryParts
    f digit = entry_of digests (child node digit)

    one : (x : EntryParts) → ((y : ℕ) × Has ds y × (x ≡ f y)) → Precedes (f d) x
    one x at = subst (λ (e : EntryParts). Precedes (f d) e) (sym at.2) (siblings node d at.0 (r.0 at.0 at.1))

one_ascends : (digests : List (List ℕ)) (heard : EntryParts) → Ascends (answers_to digests heard)
one_ascends digests heard = by heard.sums
  where
    deep : (theirs : List (List ℕ)) (b : Bool) → Ascends (cond b [] (entries_beneath digests heard.node theirs))
    deep theirs true = tt
    deep theirs false = children_ascend digests heard.node (differing_at (child_sums digests heard.node) theirs)
        (differing_rise (child_sums digests heard.node) theirs)

    by : (sums : Option (List (List ℕ))) → Ascends (answers_at digests heard.node sums)
    by None = tt
    by (Some theirs) = deep theirs (leb 63 (length heard.node))

-- what answers an entry stands before what answers a later one
between : (digests : List (List ℕ)) (a b x y : EntryParts) → Precedes a b → Has (answers_to digests a) x
    → Has (answers_to digests b) y → Precedes x y
between digests a b x y p h g =
    let one = answers_are digests a x h in
    let other = answers_are digests b y g in
    subst (λ (e : EntryParts). Precedes e y) (sym one.is)
    (subst (λ (e : EntryParts). Precedes (entry_of digests (child a.node one.digit)) e) (sym other.is)
    (before_behind a.node b.node (one.digit ∷ []) (other.digit ∷ []) p))

all_ascend : (digests : List (List ℕ)) (heard : List EntryParts) → Ascends heard
    → Ascends (flat_map (answers_to digests) heard)
all_ascend digests [] a = tt
all_ascend digests (h ∷ hs) a =
    subst Ascends (sym (flat_map-cons (answers_to digests) h hs))
    (join (answers_to digests h) (flat_map (answers_to digests) hs) (one_ascends digests h) (all_ascend digests hs a.1)
    (λ x y g k. later x y g (flat_has (answers_to digests) hs y k)))
  where
    later : (x y : EntryParts) → Has (answers_to digests h) x
        → ((z : EntryParts) × Has hs z × Has (answers_to digests z) y) → Precedes x y
    later x y g at = between digests h at.0 x y (a.0 at.0 at.1) g at.2

-- The answer to a walk stands apart as that does.
pub answer_apart : (digests : List (List ℕ)) (heard : List EntryParts) → stand_apart heard ≡ true
    → stand_apart (answer_of digests heard) ≡ true
unfolding stand_apart answer_of all_answers
answer_apart digests heard e =
    apart (answer_of digests heard) (front 4096 (all_answers digests heard) (all_ascend digests heard (ascends heard e)))
