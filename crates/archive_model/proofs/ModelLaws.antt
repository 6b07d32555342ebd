-- What the definitions mean, member by member.
use Rattle.std.proofs.Common.{◌≡◌, ℕ, ◌<◌, List, [], ◌∷◌, Bool, true, false, cond, Option, Some, None}
use Rattle.std.proofs.Common.{refl, sym, ap, ◌∙◌, subst, inl, inr, ◌⊎◌, map, length, arith}
use Rattle.std.specs.Prelude.{◌==◌, if◌then◌else◌}
use Rattle.std.proofs.lemmas.Bool.{false≢true, and_parts as and_true, and_from as true_and}
use borrow.Author.Tests.{ltb-true, lt-ltb, eq-eqb}
use Rattle.std.specs.Ordering.{nat_cmp, is_le, ordering_then, ordering_reverse}
use Rattle.std.specs.declared.cmp.Ordering.{Ordering}
use Rattle.std.specs.declared.cmp.Ordering.TheVariants.{Less, Equal, Greater}
use Rattle.std.specs.Cmp.{tied_itself}
use Rattle.std.specs.Cmp.Lexicographic.{nat_list_cmp_total, bytes_decides}
use Rattle.std.specs.FinMap.{nat_cmp-IsAntisymmetric, slice_cmp-IsAntisymmetric}
use Rattle.std.specs.List.{filter, filter_map, cons_option, AllByRecursion}
use Rattle.std.specs.List.Sorted.{IsStrictlySortedBy}
use Rattle.std.proofs.lemmas.Option.{same_Some as some_content}
use Rattle.rejection_note.specs.declared.note.Note.{Note}
use Rattle.rejection_note.specs.declared.title.NoteTitle.{NoteTitle}
use Rattle.rejection_note.specs.declared.title.NoteTitle.TheVariants.{Quality, Safety, Worklist, Expired}
use Rattle.archive_model.specs.Index.{code_of, names_under, CoveredByTitles}
use Rattle.operation.specs.declared.op.Op.{Op}
use Rattle.operation.specs.declared.op.Op.TheVariants.{Content as a_content, Correction as a_correction}
use Rattle.operation.specs.Parts.{ContentParts}
use Rattle.operation.specs.Spelling.{digest_of}
use Rattle.archive_model.specs.declared.view.View.{View}
use Rattle.octets.specs.Texts.{same, text_cmp}
use Rattle.archive_model.specs.View.{hides}
use Rattle.archive_model.specs.Contents.{content_in, contents, contents_of, is_of_instance, pick, is_flagged}
use Rattle.archive_model.specs.Contents.{instances}
use Rattle.archive_model.specs.Covered.{is_among, covers, is_covered, is_hiding}
use Rattle.archive_model.specs.Shown.{shown, shown_at, unless_hiding}
use Rattle.archive_model.specs.Groups.{is_of_study, is_of_series, first_of}
use Rattle.archive_model.specs.Attributes.{correction_cmp, is_last}
use Rattle.octets.specs.Members.{Has}
use Rattle.archive_model.specs.Laws.{GreatestIsLast, SomeHaveGreatest, LastHaveOneValue}
use Rattle.archive_model.specs.Laws.{PickIsContent, PickIsLeast, ContentsHavePick, CoveredIsNamed, ShownArePicks}
use Rattle.archive_model.specs.Laws.{FlaggedHaveTwo, ShownAscend, StudyRepresentativeIsLeast}
use Rattle.archive_model.specs.Laws.{SeriesRepresentativeIsLeast}
use Rattle.octets.proofs.TextLemmas.{in_ascending, ascending_sorted}
use Rattle.archive_model.proofs.MemberLaws.{has_all, found_has, none_has, any_has, has_any, has_filter, filter_has}
use Rattle.archive_model.proofs.MemberLaws.{has_map, has_filter_map, filter_map_has}
use Rattle.archive_model.proofs.Latest.{correction_total, from_latest}

-- ---- texts

pub same_is : (a b : List ℕ) → same a b ≡ true → a ≡ b
same_is a b e = (bytes_decides a b).0 e

pub same_itself : (a b : List ℕ) → a ≡ b → same a b ≡ true
same_itself a b e = (bytes_decides a b).1 e

text_tie : (a b : List ℕ) → text_cmp a b ≡ Equal → a ≡ b
text_tie a b e = slice_cmp-IsAntisymmetric nat_cmp-IsAntisymmetric a b e

-- ---- greatest

pub greatest_is_last : GreatestIsLast
greatest_is_last ks k e =
    let found = found_has (is_last ks) ks k e in
    (found.0, λ other has. has_all (λ x. is_le (correction_cmp x k)) ks other found.1 has)

pub some_have_greatest : SomeHaveGreatest
some_have_greatest [] e = refl
some_have_greatest (k ∷ ks) e = absurd (from_latest ks k e)

both_le : (r : Ordering) → is_le r ≡ true → is_le (ordering_reverse r) ≡ true → r ≡ Equal
both_le Less p q = absurd (false≢true q)
both_le Equal p q = refl
both_le Greater p q = absurd (false≢true p)

then_second : (r s : Ordering) → ordering_then r s ≡ Equal → s ≡ Equal
then_second Less s e = absurd cc
then_second Equal s e = e
then_second Greater s e = absurd cc

pub last_have_one_value : LastHaveOneValue
last_have_one_value j k p q =
    let tie = both_le (correction_cmp j k) p (ap is_le (sym (correction_total.antisymm k j)) ∙ q) in
    text_tie j.value k.value (then_second _ _ (then_second (nat_cmp j.stamp.counter k.stamp.counter) _ tie))

-- ---- picks

pub pick_is_content : PickIsContent
pick_is_content uid ops c e =
    let found = found_has (is_of_instance uid) (contents ops) c e in (found.0, same_is c.instance uid found.1)

pub contents_have_pick : ContentsHavePick
contents_have_pick uid ops c none has is = false≢true (sym (none_has (is_of_instance uid) (contents ops) c none has)
    ∙ same_itself c.instance uid is)

all_has : {X : Type 0} (P : X → Type 0) (xs : List X) (x : X) → AllByRecursion P xs → Has xs x → P x
all_has P [] x all has = absurd has
all_has P (y ∷ ys) x all (inl s) = subst P (sym s) all.0
all_has P (y ∷ ys) x all (inr later) = all_has P ys x all.1 later

content_is : (o : Op) (c : ContentParts) → content_in o ≡ Some c → o ≡ a_content c
content_is (a_content x) c e = ap a_content (let s : x ≡ c = cc in s)
content_is (a_correction k) c e = absurd cc

pub content_has : (ops : List Op) (c : ContentParts) → Has (contents ops) c → Has ops (a_content c)
content_has ops c has = let at = filter_map_has content_in ops c has in subst (Has ops) (content_is at.0 c at.2) at.1

le_itself : (d : List ℕ) → is_le (text_cmp d d) ≡ true
le_itself d = ap is_le (tied_itself nat_list_cmp_total d)

abbrev pub digest_in : ContentParts → List ℕ
digest_in c = digest_of (a_content c)

least_first : (uid : List ℕ) (x c d : ContentParts) (ops : List Op) (b : Bool) → is_of_instance uid x ≡ b
    → AllByRecursion (λ y. text_cmp (digest_in x) y ≡ Less) (map digest_of ops)
    → (pick uid ops ≡ Some c → Has (contents ops) d → is_le (text_cmp (digest_in c) (digest_in d)) ≡ true)
    → cond b (Some x) (pick uid ops) ≡ Some c → (d ≡ x) ⊎ Has (contents ops) d → d.instance ≡ uid
    → is_le (text_cmp (digest_in c) (digest_in d)) ≡ true
least_first uid x c d ops true is up more e (inl s) inst =
    ap (λ y. is_le (text_cmp (digest_in y) (digest_in d))) (sym (some_content x c e))
    ∙ ap (λ y. is_le (text_cmp (digest_in x) (digest_in y))) s ∙ le_itself (digest_in x)
least_first uid x c d ops true is up more e (inr h) inst =
    ap (λ y. is_le (text_cmp (digest_in y) (digest_in d))) (sym (some_content x c e))
    ∙ ap is_le (all_has (λ y. text_cmp (digest_in x) y ≡ Less) (map digest_of ops) (digest_in d)
    up (has_map digest_of ops (a_content d) (content_has ops d h)))
least_first uid x c d ops false is up more e (inl s) inst =
    absurd (false≢true (sym is ∙ same_itself x.instance uid (ap (λ (y : ContentParts). y.instance) (sym s) ∙ inst)))
least_first uid x c d ops false is up more e (inr h) inst = more e h

pub pick_is_least : PickIsLeast
unfolding IsStrictlySortedBy
pick_is_least uid [] c d up e has inst = absurd has
pick_is_least uid (a_content x ∷ ops) c d up e has inst = least_first uid x c d ops (is_of_instance uid x) refl
    up.0 (λ p h. pick_is_least uid ops c d up.1 p h inst) e has inst
pick_is_least uid (a_correction k ∷ ops) c d up e has inst = pick_is_least uid ops c d up.1 e has inst

-- ---- what is covered

among_has : (uids : List (List ℕ)) (uid : List ℕ) → is_among uids uid ≡ true → Has uids uid
among_has uids uid e = let at = any_has (λ u. same u uid) uids e in subst (Has uids) (same_is at.0 uid at.2) at.1

pub has_among : (uids : List (List ℕ)) (uid : List ℕ) → Has uids uid → is_among uids uid ≡ true
has_among uids uid has = has_any (λ u. same u uid) uids uid has (same_itself uid uid refl)

covers_is : (view : View) (uid : List ℕ) (r : Option Note) → covers view uid r ≡ true → (note : Note) × (r ≡ Some note)
    × (hides view note.title ≡ true) × Has note.covers uid
covers_is view uid None e = absurd (false≢true e)
covers_is view uid (Some note) e = let both = and_true (hides view note.title) (is_among note.covers uid) e in
    (note, refl, both.0, among_has note.covers uid both.1)

pub covered_is_named : CoveredIsNamed
covered_is_named view ops uid = (
  λ e. let at = any_has (λ (c : ContentParts). covers view uid c.note) (contents ops) e in
      let says = covers_is view uid at.0.note at.2 in
      (at.0, says.0, at.1, says.1, says.2, says.3),
  λ w. has_any (λ (c : ContentParts). covers view uid c.note) (contents ops) w.0 w.2 (ap (covers view uid) w.3
      ∙ true_and (hides view w.1.title) (is_among w.1.covers uid) w.4 (has_among w.1.covers uid w.5)),
)

-- ---- what is shown, and what is flagged

instance_has : (ops : List Op) (c : ContentParts) → Has (contents ops) c → Has (instances ops) c.instance
instance_has ops c has = in_ascending c.instance (map (λ (x : ContentParts). x.instance) (contents ops))
    (has_map (λ (x : ContentParts). x.instance) (contents ops) c has)

unless_is : (view : View) (x c : ContentParts) (b : Bool) → is_hiding view x.note ≡ b
    → (if b then None else Some x) ≡ Some c → (x ≡ c) × (is_hiding view c.note ≡ false)
unless_is view x c true is e = absurd cc
unless_is view x c false is e = let s = some_content x c e in
    (s, ap (λ (y : ContentParts). is_hiding view y.note) (sym s) ∙ is)

shown_is : (view : View) (ops : List Op) (uid : List ℕ) (c : ContentParts) (b : Bool) (r : Option ContentParts)
    → is_covered view ops uid ≡ b → pick uid ops ≡ r → (if b then None else unless_hiding view r) ≡ Some c
    → (pick uid ops ≡ Some c) × (is_covered view ops uid ≡ false) × (is_hiding view c.note ≡ false)
shown_is view ops uid c true r covered picked e = absurd cc
shown_is view ops uid c false None covered picked e = absurd cc
shown_is view ops uid c false (Some x) covered picked e =
    let last = unless_is view x c (is_hiding view x.note) refl e in (picked ∙ ap Some last.0, covered, last.1)

pub shown_are_picks : ShownArePicks
shown_are_picks view ops c = (
  λ has. let at = filter_map_has (shown_at view ops) (instances ops) c has in
      let is = shown_is view ops at.0 c (is_covered view ops at.0) (pick at.0 ops) refl refl at.2 in
      let uid = (pick_is_content at.0 ops c is.0).1 in
      (ap (λ u. pick u ops) uid ∙ is.0, ap (is_covered view ops) uid ∙ is.1, is.2),
  λ w. has_filter_map (shown_at view ops) (instances ops) c.instance
      c (instance_has ops c (pick_is_content c.instance ops c w.0).0)
      (ap (λ b. if b then None else unless_hiding view (pick c.instance ops)) w.1 ∙ ap (unless_hiding view) w.0
      ∙ ap (λ b. if b then None else Some c) w.2),
)

one_there : {X : Type 0} (xs : List X) → 1 < length xs → (x : X) × Has xs x
one_there [] e = absurd (omega arith)
one_there (x ∷ xs) e = (x, inl refl)

pub flagged_have_two : FlaggedHaveTwo
flagged_have_two ops uid = (
  λ has. ltb-true 1 (length (contents_of uid ops)) (filter_has (is_flagged ops) (instances ops) uid has).1,
  λ two. let at = one_there (contents_of uid ops) two in
      let of = filter_has (is_of_instance uid) (contents ops) at.0 at.1 in
      has_filter (is_flagged ops) (instances ops) uid (subst (Has (instances ops)) (same_is at.0.instance uid of.1)
      (instance_has ops at.0 of.0)) (lt-ltb 1 (length (contents_of uid ops)) two),
)

-- ---- titles

says_title : (view : View) (uid : List ℕ) (r : Option Note) → covers view uid r ≡ true → (title : NoteTitle)
    × (names_under title uid r ≡ true) × (hides view title ≡ true)
says_title view uid None e = absurd (false≢true e)
says_title view uid (Some note) e =
    let both = and_true (hides view note.title) (is_among note.covers uid) e in (
      note.title,
      true_and (code_of note.title == code_of note.title) (is_among note.covers uid)
          (eq-eqb (code_of note.title) (code_of note.title) refl) both.1,
      both.0,
    )

one_title : (a b : NoteTitle) → (code_of a == code_of b) ≡ true → a ≡ b
one_title Quality Quality e = refl
one_title Quality Safety e = absurd (false≢true e)
one_title Quality Worklist e = absurd (false≢true e)
one_title Quality Expired e = absurd (false≢true e)
one_title Safety Quality e = absurd (false≢true e)
one_title Safety Safety e = refl
one_title Safety Worklist e = absurd (false≢true e)
one_title Safety Expired e = absurd (false≢true e)
one_title Worklist Quality e = absurd (false≢true e)
one_title Worklist Safety e = absurd (false≢true e)
one_title Worklist Worklist e = refl
one_title Worklist Expired e = absurd (false≢true e)
one_title Expired Quality e = absurd (false≢true e)
one_title Expired Safety e = absurd (false≢true e)
one_title Expired Worklist e = absurd (false≢true e)
one_title Expired Expired e = refl

hides_named : (view : View) (uid : List ℕ) (title : NoteTitle) (r : Option Note) → names_under title uid r ≡ true
    → hides view title ≡ true → covers view uid r ≡ true
hides_named view uid title None e h = absurd (false≢true e)
hides_named view uid title (Some note) e h =
    let both = and_true (code_of note.title == code_of title) (is_among note.covers uid) e in
    true_and (hides view note.title) (is_among note.covers uid) (ap (hides view) (one_title note.title title both.0)
    ∙ h) both.1

pub covered_by_titles : CoveredByTitles
covered_by_titles view ops uid = (
  λ e. let at = any_has (λ (c : ContentParts). covers view uid c.note) (contents ops) e in
      let says = says_title view uid at.0.note at.2 in
      (says.0, has_any (λ (c : ContentParts). names_under says.0 uid c.note) (contents ops) at.0 at.1 says.1, says.2),
  λ w. let at = any_has (λ (c : ContentParts). names_under w.0 uid c.note) (contents ops) w.1 in
      has_any (λ (c : ContentParts). covers view uid c.note) (contents ops) at.0
      at.1 (hides_named view uid w.0 at.0.note at.2 w.2),
)

-- ---- representatives

abbrev inst_of : List ContentParts → List (List ℕ)
inst_of cs = map (λ (c : ContentParts). c.instance) cs

shown_instance : (view : View) (ops : List Op) (uid : List ℕ) (c : ContentParts) → shown_at view ops uid ≡ Some c
    → c.instance ≡ uid
shown_instance view ops uid c e = (pick_is_content uid ops c (shown_is view ops uid c (is_covered view ops uid)
    (pick uid ops) refl refl e).0).1

given_all : (P : List ℕ → Type 0) (u : List ℕ) (cs : List ContentParts) (r : Option ContentParts)
    → ((c : ContentParts) → r ≡ Some c → c.instance ≡ u) → P u → AllByRecursion P (inst_of cs)
    → AllByRecursion P (inst_of (cons_option r cs))
given_all P u cs None of p all = all
given_all P u cs (Some c) of p all = (subst P (sym (of c refl)) p, all)

mapped_all : (P : List ℕ → Type 0) (f : List ℕ → Option ContentParts) (us : List (List ℕ))
    → ((u : List ℕ) (c : ContentParts) → f u ≡ Some c → c.instance ≡ u) → AllByRecursion P us
    → AllByRecursion P (inst_of (filter_map f us))
mapped_all P f [] of all = tt
mapped_all P f (u ∷ us) of all = given_all P u (filter_map f us) (f u) (of u) all.0 (mapped_all P f us of all.1)

given_sorted : (u : List ℕ) (cs : List ContentParts) (r : Option ContentParts)
    → ((c : ContentParts) → r ≡ Some c → c.instance ≡ u) → AllByRecursion (λ y. text_cmp u y ≡ Less) (inst_of cs)
    → IsStrictlySortedBy text_cmp (inst_of cs) → IsStrictlySortedBy text_cmp (inst_of (cons_option r cs))
unfolding IsStrictlySortedBy
given_sorted u cs None of below up = up
given_sorted u cs (Some c) of below up = (
  subst (λ v. AllByRecursion (λ y. text_cmp v y ≡ Less) (inst_of cs))
      (sym (of c refl)) below,
  up,
)

mapped_sorted : (f : List ℕ → Option ContentParts) (us : List (List ℕ))
    → ((u : List ℕ) (c : ContentParts) → f u ≡ Some c → c.instance ≡ u) → IsStrictlySortedBy text_cmp us
    → IsStrictlySortedBy text_cmp (inst_of (filter_map f us))
unfolding IsStrictlySortedBy
mapped_sorted f [] of up = tt
mapped_sorted f (u ∷ us) of up = given_sorted u (filter_map f us) (f u) (of u) (mapped_all (λ y. text_cmp u y ≡ Less) f
    us of up.0) (mapped_sorted f us of up.1)

pub shown_ascend : ShownAscend
shown_ascend view ops = mapped_sorted (shown_at view ops) (instances ops) (shown_instance view ops)
    (ascending_sorted (map (λ (c : ContentParts). c.instance) (contents ops)))

first_least : (p : ContentParts → Bool) (x c d : ContentParts) (cs : List ContentParts) (b : Bool)
    → AllByRecursion (λ y. text_cmp x.instance y ≡ Less) (inst_of cs)
    → (first_of (filter p cs) ≡ Some c → Has (filter p cs) d → is_le (text_cmp c.instance d.instance) ≡ true)
    → first_of (cond b (x ∷ filter p cs) (filter p cs)) ≡ Some c → Has (cond b (x ∷ filter p cs) (filter p cs)) d
    → is_le (text_cmp c.instance d.instance) ≡ true
first_least p x c d cs true up more e (inl s) =
    ap (λ (y : ContentParts). is_le (text_cmp y.instance d.instance)) (sym (some_content x c e))
    ∙ ap (λ (y : ContentParts). is_le (text_cmp x.instance y.instance)) s ∙ le_itself x.instance
first_least p x c d cs true up more e (inr h) =
    ap (λ (y : ContentParts). is_le (text_cmp y.instance d.instance)) (sym (some_content x c e))
    ∙ ap is_le (all_has (λ y. text_cmp x.instance y ≡ Less) (inst_of cs) d.instance
    up (has_map (λ (y : ContentParts). y.instance) cs d (filter_has p cs d h).0))
first_least p x c d cs false up more e h = more e h

filtered_least : (p : ContentParts → Bool) (cs : List ContentParts) (c d : ContentParts) → IsStrictlySortedBy text_cmp
    (inst_of cs) → first_of (filter p cs) ≡ Some c → Has (filter p cs) d → is_le (text_cmp c.instance d.instance) ≡ true
unfolding IsStrictlySortedBy
filtered_least p [] c d up e h = absurd h
filtered_least p (x ∷ cs) c d up e h = first_least p x c d cs (p x) up.0 (filtered_least p cs c d up.1) e h

first_there : (cs : List ContentParts) (c : ContentParts) → first_of cs ≡ Some c → Has cs c
first_there [] c e = absurd cc
first_there (x ∷ cs) c e = inl (sym (some_content x c e))

pub study_is_least : StudyRepresentativeIsLeast
study_is_least view ops study c e = (
  first_there (filter (is_of_study study) (shown view ops)) c e,
  λ d h. filtered_least (is_of_study study) (shown view ops) c d (shown_ascend view ops) e h,
)

pub series_is_least : SeriesRepresentativeIsLeast
series_is_least view ops study series c e = (
  first_there (filter (is_of_series study series) (shown view ops)) c e,
  λ d h. filtered_least (is_of_series study series) (shown view ops) c d (shown_ascend view ops) e h,
)
