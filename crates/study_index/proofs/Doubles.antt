-- Copies of one SOP Instance UID stand side by side.
use Rattle.std.specs.Prelude.{◌≡◌, Bool, true, false, cond, ◌&&◌, ◌||◌, nat_lt, List, [], ◌∷◌, length, Option, None}
use Rattle.std.specs.Prelude.{Some}
use Rattle.std.proofs.Common.{refl, sym, ap, ◌∙◌, arith}
use mathlib.Core.Bool.{true≢false, and-false as none_here, or_comm as or_swapped, or_assoc}
use borrow.Author.Tests.{lt-ltb}
use Rattle.std.specs.List.{filter, AllByRecursion}
use Rattle.std.specs.List.Sorted.{IsStrictlySortedBy}
use Rattle.std.specs.Ordering.{is_eq, ordering_then}
use Rattle.std.specs.declared.cmp.Ordering.{Ordering}
use Rattle.std.specs.declared.cmp.Ordering.TheVariants.{Less, Equal, Greater}
use Rattle.std.specs.BTreeMap.{is_at}
use Rattle.std.specs.BTreeSet.{insert_key}
use Rattle.std.specs.Cmp.Lexicographic.{nat_list_cmp_total}
use Rattle.octets.specs.Texts.{same, text_cmp}
use Rattle.archive_model.proofs.ModelLaws.{same_is, same_itself}
use Rattle.join_laws.specs.Proved.Sets.{has-insert_key}
use Rattle.study_index.specs.Keys.{has}
use Rattle.study_index.specs.Live.{Text}
use Rattle.study_index.specs.Index.{Copy, copy_cmp}
use Rattle.study_index.specs.Copies.{is_copy_of, is_doubled, is_next_copy}
use Rattle.study_index.specs.Proved.Picks.{text_exact}
use Rattle.study_index.proofs.Definitions.{at_text}

-- ---- how many there are

abbrev is_some_there : {X : Type 0} → List X → Bool
is_some_there [] = false
is_some_there (x ∷ xs) = true

abbrev are_two_there : {X : Type 0} → List X → Bool
are_two_there [] = false
are_two_there (x ∷ xs) = is_some_there xs

are_two : {X : Type 0} (xs : List X) → are_two_there xs ≡ nat_lt 1 (length xs)
are_two [] = refl
are_two (x ∷ []) = refl
are_two (x ∷ y ∷ xs) = sym (lt-ltb 1 (length (x ∷ y ∷ xs)) (omega arith))

-- ---- what is found behind a copy

-- whether one of some copies is of a UID and has a copy of it before it
abbrev pub repeats : Option Copy → List Copy → Text → Bool
repeats before [] uid = false
repeats before (c ∷ cs) uid = (is_next_copy before c && is_copy_of uid c) || repeats (Some c) cs uid

-- copies ascend by UID
uid_up : (b c : Copy) → copy_cmp b c ≡ Less → same b.uid c.uid ≡ false → text_cmp b.uid c.uid ≡ Less
uid_up b c less apart = by (text_cmp b.uid c.uid) refl less
  where
    by : (o : Ordering) → text_cmp b.uid c.uid ≡ o → ordering_then o (text_cmp b.digest c.digest) ≡ Less
        → text_cmp b.uid c.uid ≡ Less
    by Less e l = e
    by Equal e l = absurd (true≢false (sym (same_itself b.uid c.uid (text_exact b.uid c.uid e)) ∙ apart))
    by Greater e l = absurd cc

below_apart : (uid t : Text) → text_cmp uid t ≡ Less → same t uid ≡ false
below_apart uid t less = sym (at_text uid t) ∙ ap is_eq less

further : (uid : Text) (c d : Copy) → text_cmp uid c.uid ≡ Less → copy_cmp c d ≡ Less → text_cmp uid d.uid ≡ Less
further uid c d below less = by (text_cmp c.uid d.uid) refl less
  where
    by : (o : Ordering) → text_cmp c.uid d.uid ≡ o → ordering_then o (text_cmp c.digest d.digest) ≡ Less
        → text_cmp uid d.uid ≡ Less
    by Less e l = nat_list_cmp_total.trans uid c.uid d.uid below e
    by Equal e l = ap (text_cmp uid) (sym (text_exact c.uid d.uid e)) ∙ below
    by Greater e l = absurd cc

-- no copy of a UID stands past one of a greater UID
none_past : (uid : Text) (c : Copy) (cs : List Copy) → text_cmp uid c.uid ≡ Less
    → AllByRecursion (λ d. copy_cmp c d ≡ Less) cs → filter (is_copy_of uid) cs ≡ []
none_past uid c [] below all = refl
none_past uid c (d ∷ cs) below all = ap (λ b. cond b (d ∷ filter (is_copy_of uid) cs) (filter (is_copy_of uid) cs))
    (below_apart uid d.uid (further uid c d below all.0)) ∙ none_past uid c cs below all.1

-- behind a copy of the UID one more is enough, and behind another two are
pub counted : (b : Copy) (cs : List Copy) (uid : Text) → IsStrictlySortedBy copy_cmp (b ∷ cs) → repeats (Some b) cs
    uid ≡ cond (same b.uid uid) (is_some_there (filter (is_copy_of uid) cs))
    (are_two_there (filter (is_copy_of uid) cs))
unfolding IsStrictlySortedBy
counted b [] uid up = nothing (same b.uid uid)
  where
    nothing : (t : Bool) → false ≡ cond t false false
    nothing true = refl
    nothing false = refl
counted b (c ∷ cs) uid up = by (same b.uid uid) (same c.uid uid) refl refl (counted c cs uid up.1)
  where
    rest : List Copy
    rest = filter (is_copy_of uid) cs

    by : (t s : Bool) → same b.uid uid ≡ t → same c.uid uid ≡ s → repeats (Some c) cs uid ≡ cond
        s (is_some_there (filter (is_copy_of uid) cs)) (are_two_there (filter (is_copy_of uid) cs))
        → ((same b.uid c.uid && s) || repeats (Some c) cs uid) ≡ cond
        t (is_some_there (cond s (c ∷ filter (is_copy_of uid) cs) (filter (is_copy_of uid) cs)))
        (are_two_there (cond s (c ∷ filter (is_copy_of uid) cs) (filter (is_copy_of uid) cs)))
    by true true e f more = ap (λ x. (x && true) || repeats (Some c) cs uid)
        (same_itself b.uid c.uid (same_is b.uid uid e ∙ sym (same_is c.uid uid f)))
    by true false e f more =
        let is : b.uid ≡ uid = same_is b.uid uid e in
        let apart : same b.uid c.uid ≡ false = below_no (same b.uid c.uid) refl in
        let past : text_cmp uid c.uid ≡ Less = ap (λ u. text_cmp u c.uid) (sym is) ∙ uid_up b c up.0.0 apart in
        let none : filter (is_copy_of uid) cs ≡ [] = none_past uid c cs past up.1.0 in
        ap (λ x. x || repeats (Some c) cs uid) (none_here (same b.uid c.uid)) ∙ more ∙ ap are_two_there none
        ∙ sym (ap is_some_there none)
      where
        below_no : (x : Bool) → same b.uid c.uid ≡ x → x ≡ false
        below_no true g = absurd (true≢false
            (sym (same_itself c.uid uid (sym (same_is b.uid c.uid g) ∙ same_is b.uid uid e))
            ∙ f))
        below_no false g = refl
    by false true e f more = ap (λ x. (x && true) || repeats (Some c) cs uid) (apart (same b.uid c.uid) refl) ∙ more
      where
        apart : (x : Bool) → same b.uid c.uid ≡ x → x ≡ false
        apart true g = absurd (true≢false (sym (same_itself b.uid uid (same_is b.uid c.uid g ∙ same_is c.uid uid f))
            ∙ e))
        apart false g = refl
    by false false e f more = ap (λ x. x || repeats (Some c) cs uid) (none_here (same b.uid c.uid)) ∙ more

pub all_counted : (cs : List Copy) (uid : Text) → IsStrictlySortedBy copy_cmp cs → repeats None cs uid ≡ is_doubled cs
    uid
all_counted [] uid up = refl
all_counted (c ∷ cs) uid up = counted c cs uid up ∙ by (same c.uid uid) ∙ are_two (filter (is_copy_of uid) (c ∷ cs))
  where
    by : (s : Bool) → cond s (is_some_there (filter (is_copy_of uid) cs)) (are_two_there (filter (is_copy_of uid) cs))
        ≡ are_two_there (cond s (c ∷ filter (is_copy_of uid) cs) (filter (is_copy_of uid) cs))
    by true = refl
    by false = refl

-- ---- one more copy is seen

pub or_none : (a : Bool) → a ≡ (a || false)
or_none true = refl
or_none false = refl

-- the UID of the copy was put in
pub put_in : (before : Option Copy) (c : Copy) (old new : List Text) (uid : Text) → is_next_copy before c ≡ true
    → new ≡ insert_key text_cmp old c.uid → has text_cmp new
    uid ≡ (has text_cmp old uid || (is_next_copy before c && is_copy_of uid c))
put_in before c old new uid next is =
    ap (λ us. has text_cmp us uid) is ∙ has-insert_key nat_list_cmp_total text_exact uid c.uid old
    ∙ or_swapped (is_at (text_cmp uid) c.uid) (has text_cmp old uid)
    ∙ ap (λ b. has text_cmp old uid || b) (at_text uid c.uid)
    ∙ ap (λ b. has text_cmp old uid || (b && is_copy_of uid c)) (sym next)

-- it was not, and nothing changed
pub left_out : (before : Option Copy) (c : Copy) (old : List Text) (uid : Text) → is_next_copy before c ≡ false
    → has text_cmp old uid ≡ (has text_cmp old uid || (is_next_copy before c && is_copy_of uid c))
left_out before c old uid next = or_none (has text_cmp old uid)
    ∙ ap (λ b. has text_cmp old uid || (b && is_copy_of uid c)) (sym next)

pub seen : (before : Option Copy) (c : Copy) (cs : List Copy) (old new : List Text) (uid : Text)
    → has text_cmp new uid ≡ (has text_cmp old uid || (is_next_copy before c && is_copy_of uid c))
    → (has text_cmp new uid || repeats (Some c) cs uid) ≡ (has text_cmp old uid || repeats before (c ∷ cs) uid)
seen before c cs old new uid put = ap (λ b. b || repeats (Some c) cs uid) put ∙ or_assoc (has text_cmp old uid)
    (is_next_copy before c && is_copy_of uid c) (repeats (Some c) cs uid)
