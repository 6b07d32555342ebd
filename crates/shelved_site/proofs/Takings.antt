-- The site that took some operations, one after another.
use Rattle.std.proofs.Common.{◌≡◌, ◌⊎◌, inl, inr, List, [], ◌∷◌, ◌++◌, reverse, Some, None, Option, Ok, append-nil as ends}
use Rattle.std.proofs.Common.{refl, sym, ap, subst, ◌∙◌}
use Rattle.std.proofs.lemmas.List.{reverse-reverse}
use Rattle.std.proofs.lemmas.Grind.{reverse_onto}
use Rattle.std.specs.FinMap.{empty, get-empty}
use Rattle.site_state.specs.Site.{digest_cmp}
use Rattle.archive_model.specs.Members.{Has, SameMembers}
use Rattle.operation.specs.declared.op.Op.{Op}
use Rattle.operation.specs.declared.taken.Taken.{Taken}
use Rattle.operation.specs.declared.taken.Taken.TheVariants.{New, Known}
use Rattle.operation.specs.Spelling.{digest_of}
use Rattle.site_state.specs.Site.{Map, with_op, held_at, IsClash, Takes}
use Rattle.site_state.specs.Laws.{Apart, holding, after_taking}
use Rattle.site_state.proofs.Same.{taking_adds, told, Told, has_left, has_right}

holding_more : (m : Map) (ops : List Op) (op : Op) → holding m (ops ++ op ∷ []) ≡ with_op (holding m ops) op
holding_more m [] op = refl
holding_more m (x ∷ ops) op = holding_more (with_op m x) ops op

moved : (done : List Op) (op : Op) (rest : List Op) → (done ++ op ∷ []) ++ rest ≡ done ++ (op ∷ rest)
moved [] op rest = refl
moved (x ∷ done) op rest = ap (λ (ops : List Op). x ∷ ops) (moved done op rest)

-- all were met
pub all_met : (done ops : List Op) → done ++ [] ≡ ops → done ≡ ops
all_met done ops parts = sym (ends done) ∙ parts

-- ---- what was taken is apart

in_either : (done : List Op) (op o : Op) → Has (done ++ op ∷ []) o → Has done o ⊎ (o ≡ op)
in_either [] op o (inl e) = inr e
in_either [] op o (inr none) = elim none [ ]
in_either (x ∷ done) op o (inl e) = inl (inl e)
in_either (x ∷ done) op o (inr has) = elim (in_either done op o has) as (λ _. Has (x ∷ done) o ⊎ (o ≡ op)) [
  | inl h ↦ inl (inr h)
  | inr e ↦ inr e
]

-- one of them that has the digest of an operation that is not held, or is, is that operation
is_it : (done : List Op) (op : Op) (r : Option Op) → Apart done → Told empty done (digest_of op) r
    → (r ≡ None) ⊎ (r ≡ Some op) → (o : Op) → Has done o → digest_of o ≡ digest_of op → o ≡ op
is_it done op r one (inl (p, has, own, is)) (inl none) o here same = absurd cc
is_it done op r one (inl (p, has, own, is)) (inr held) o here same =
    let it : p ≡ op = cc in
    one o p here has (same ∙ sym own) ∙ it
is_it done op r one (inr (none, is)) held o here same = elim (none o here same) [ ]

held_or_not : (m n : Map) (op : Op) (taken : Taken) → Takes m op (Ok taken) n
    → (held_at m (digest_of op) ≡ None) ⊎ (held_at m (digest_of op) ≡ Some op)
held_or_not m n op New takes = inl takes.0
held_or_not m n op Known takes = inr takes.0

-- operations that were taken are apart with one more that is
apart_next : (m n : Map) (done : List Op) (op : Op) (taken : Taken) → m ≡ after_taking done → Apart done
    → Takes m op (Ok taken) n → Apart (done ++ op ∷ [])
apart_next m n done op taken is one takes = λ o p ho hp e. both o p (in_either done op o ho) (in_either done op p hp) e
  where
    it : (o : Op) → Has done o → digest_of o ≡ digest_of op → o ≡ op
    it = is_it done op (held_at (after_taking done) (digest_of op)) one (told empty done (digest_of op))
        (subst (λ (s : Map). (held_at s (digest_of op) ≡ None) ⊎ (held_at s (digest_of op) ≡ Some op)) is
        (held_or_not m n op taken takes))

    both : (o p : Op) → Has done o ⊎ (o ≡ op) → Has done p ⊎ (p ≡ op) → digest_of o ≡ digest_of p → o ≡ p
    both o p (inl ho) (inl hp) e = one o p ho hp e
    both o p (inl ho) (inr is) e = it o ho (e ∙ ap digest_of is) ∙ sym is
    both o p (inr is) (inl hp) e = is ∙ sym (it p hp (sym e ∙ ap digest_of is))
    both o p (inr is) (inr too) e = is ∙ sym too

-- ---- what was taken, and what is to be

-- one operation more was taken, new or known
pub taken_next : (m n : Map) (done rest all : List Op) (op : Op) (taken : Taken) → m ≡ after_taking done
    → Apart done → done ++ (op ∷ rest) ≡ all → Takes m op (Ok taken) n
    → (now : List Op) × (n ≡ after_taking now) × (now ++ rest ≡ all) × Apart now
taken_next m n done rest all op taken is one parts takes = (
  done ++ op ∷ [],
  taking_adds m n op taken takes ∙ ap (λ s. with_op s op) is ∙ sym (holding_more empty done op),
  moved done op rest ∙ parts,
  apart_next m n done op taken is one takes,
)

met : (done : List Op) (op other : Op) (r : Option Op) → Told empty done (digest_of op) r → r ≡ Some other
    → Has done other × (digest_of other ≡ digest_of op)
met done op other r (inl (o, has, own, is)) held =
    let same : o ≡ other = cc in
    (subst (Has done) same has, subst (λ p. digest_of p ≡ digest_of op) same own)
met done op other r (inr (none, is)) held =
    let nothing : r ≡ None = is ∙ get-empty digest_cmp (digest_of op) in
    absurd cc

-- an operation that clashes shares its digest with an unequal one of those before it
pub clash_is_among : (m : Map) (done rest all : List Op) (op : Op) → m ≡ after_taking done → done ++ (op ∷ rest) ≡ all
    → IsClash m op → ¬ Apart all
clash_is_among m done rest all op is parts (other, held, differs) apart =
    let here =
    met done op other _ (told empty done (digest_of op)) (ap (λ s. held_at s (digest_of op)) (sym is) ∙ held) in
    differs (apart other op (subst (λ ops. Has ops other) parts (has_left done (op ∷ rest) other here.0))
    (subst (λ ops. Has ops op) parts (has_right done (op ∷ rest) op (inl refl))) here.1)

-- ---- in the other order

turned : (ops : List Op) (o : Op) → Has ops o → Has (reverse ops) o
turned [] o none = elim none [ ]
turned (x ∷ ops) o (inl e) =
    subst (λ (xs : List Op). Has xs o) (sym (reverse_onto ops x [])) (has_right (reverse ops) (x ∷ []) o (inl e))
turned (x ∷ ops) o (inr has) =
    subst (λ (xs : List Op). Has xs o) (sym (reverse_onto ops x [])) (has_left (reverse ops) (x ∷ []) o (turned ops o has))

-- the last of them first, they are the same
pub same_turned : (ops : List Op) → SameMembers (reverse ops) ops
same_turned ops o =
    (λ has. subst (λ (xs : List Op). Has xs o) (reverse-reverse ops) (turned (reverse ops) o has), turned ops o)

-- and so they are apart where these are
pub apart_turned : (ops : List Op) → Apart ops → Apart (reverse ops)
apart_turned ops one o p ho hp = one o p ((same_turned ops o).0 ho) ((same_turned ops p).0 hp)
