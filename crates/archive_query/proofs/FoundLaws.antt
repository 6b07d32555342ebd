-- What a look takes is enough for the rows: the values that corrections give to what is shown.
use Rattle.std.proofs.Common.{◌≡◌, ℕ, zero, suc, drop, Bool, true, false, cond, List, [], ◌∷◌, length, Option, Some}
use Rattle.std.proofs.Common.{None, refl}
use Rattle.std.proofs.Common.{sym, ap, subst, ◌∙◌, inl, inr, ◌⊎◌, arith}
use Rattle.std.specs.Prelude.{◌==◌, ◌||◌, if◌then◌else◌}
use Rattle.std.proofs.lemmas.Bool.{false≢true, eqb-true}
use Rattle.std.specs.List.{filter, filter_map, cons_option, list_any}
use Rattle.std.specs.Map.{lookup}
use Rattle.std.specs.BTreeMap.{is_at}
use Rattle.std.specs.Ordering.{is_eq}
use Rattle.std.proofs.lemmas.Cmp.{nat_list_cmp_total, tied_itself}
use Rattle.std.proofs.lemmas.Option.{same_Some as same_content}
use Rattle.std.proofs.lemmas.List.{nil_from_length as no_entries}
use Rattle.operation.specs.declared.op.Op.{Op}
use Rattle.operation.specs.Parts.{ContentParts, CorrectionParts, own_value}
use Rattle.octets.specs.Members.{Has}
use Rattle.octets.specs.Texts.{same, text_cmp}
use Rattle.archive_model.specs.declared.view.View.{View}
use Rattle.archive_model.specs.Contents.{pick}
use Rattle.archive_model.specs.Covered.{is_covered, is_hiding}
use Rattle.archive_model.specs.Shown.{shown_at, unless_hiding}
use Rattle.archive_model.specs.Attributes.{corrections, corrects, greatest, corrected, attribute}
use Rattle.archive_model.proofs.MemberLaws.{filter_has, filter_map_has}
use Rattle.archive_model.proofs.ModelLaws.{same_is, same_itself, pick_is_content}
use Rattle.study_index.specs.Proved.Picks.{text_exact}
use Rattle.study_index.proofs.KeyLaws.{same_key}
use Rattle.archive_model.specs.declared.asked.Asked.{Asked}
use Rattle.archive_model.specs.declared.query.Query.{Query}
use Rattle.archive_model.specs.Rows.{is_named, named, rows_among}
use Rattle.archive_query.specs.Found.{fixes_of, value_among, these_or_none, fixes_under, fixes_put, value_by}
use Rattle.archive_query.specs.Found.{AreFixes, rows_found}
use Rattle.archive_query.proofs.RowLaws.{rows_agree}

-- ---- the fixes of a content say its corrected values

module _ (ops : List Op) (c : ContentParts) (tag : ℕ) where
  -- where the corrected value is the content's own, so is the one that is found
  found_own : (asked : List Asked) → attribute ops c tag ≡ own_value c tag
      → value_among (own_value c tag) tag (fixes_of ops asked c) ≡ own_value c tag
  found_own [] e = refl
  found_own (a ∷ asked) e = by (same (attribute ops c a.tag) (own_value c a.tag)) refl (found_own asked e)
    where
      here : (b : Bool) → (a.tag == tag) ≡ b
          → value_among (own_value c tag) tag (fixes_of ops asked c) ≡ own_value c tag
          → (if b then attribute ops c a.tag else value_among (own_value c tag) tag (fixes_of ops asked c))
          ≡ own_value c tag
      here true is rest = ap (attribute ops c) (eqb-true a.tag tag is) ∙ e
      here false is rest = rest

      by : (b : Bool) → same (attribute ops c a.tag) (own_value c a.tag) ≡ b
          → value_among (own_value c tag) tag (fixes_of ops asked c) ≡ own_value c tag
          → value_among (own_value c tag) tag (cons_option (if b then None else Some (a.tag, attribute ops c a.tag))
          (fixes_of ops asked c)) ≡ own_value c tag
      by true is rest = rest
      by false is rest = here (a.tag == tag) refl rest

  pub found_asked : (asked : List Asked) → list_any (λ a. a.tag == tag) asked ≡ true
      → value_among (own_value c tag) tag (fixes_of ops asked c) ≡ attribute ops c tag
  found_asked [] e = absurd (false≢true e)
  found_asked (a ∷ asked) e = by (same (attribute ops c a.tag) (own_value c a.tag)) refl (a.tag == tag) refl e
      (found_asked asked)
    where
      by : (b : Bool) → same (attribute ops c a.tag) (own_value c a.tag) ≡ b → (d : Bool) → (a.tag == tag) ≡ d
          → (d || list_any (λ a. a.tag == tag) asked) ≡ true
          → (list_any (λ a. a.tag == tag) asked ≡ true
          → value_among (own_value c tag) tag (fixes_of ops asked c) ≡ attribute ops c tag)
          → value_among (own_value c tag) tag (cons_option (if b then None else Some (a.tag, attribute ops c a.tag))
          (fixes_of ops asked c)) ≡ attribute ops c tag
      by true is true at e rest =
          let own : attribute ops c tag ≡ own_value c tag =
          subst (λ t. attribute ops c t ≡ own_value c t) (eqb-true a.tag tag at)
          (same_is (attribute ops c a.tag) (own_value c a.tag) is) in
          found_own asked own ∙ sym own
      by true is false at e rest = rest e
      by false is true at e rest = ap (λ (b : Bool). if b then attribute ops c a.tag
          else value_among (own_value c tag) tag (fixes_of ops asked c)) at ∙ ap (attribute ops c) (eqb-true a.tag tag at)
      by false is false at e rest = ap (λ (b : Bool). if b then attribute ops c a.tag
          else value_among (own_value c tag) tag (fixes_of ops asked c)) at ∙ rest e

-- with no corrections there is no fix
pub none_fixed : (ops : List Op) (c : ContentParts) → corrections ops ≡ [] → (asked : List Asked)
    → fixes_of ops asked c ≡ []
none_fixed ops c none [] = refl
none_fixed ops c none (a ∷ asked) =
    let own : attribute ops c a.tag ≡ own_value c a.tag = ap (λ (ks : List CorrectionParts).
    corrected (own_value c a.tag) (greatest (filter (corrects c a.tag) ks))) none in
    ap (λ (b : Bool). cons_option (if b then None else Some (a.tag, attribute ops c a.tag)) (fixes_of ops asked c))
    (same_itself (attribute ops c a.tag) (own_value c a.tag) own) ∙ none_fixed ops c none asked

pub none_needed : (ops : List Op) (asked : List Asked) (cs : List ContentParts) → length (corrections ops) ≡ 0
    → AreFixes ops asked cs []
none_needed ops asked cs none told tells c has =
    sym (none_fixed ops c (no_entries (corrections ops) none) asked)

-- ---- fixes that are put in, content after content

-- what stands under a UID is nothing, or what is told of it
abbrev pub IsToldOf : (List ℕ → List (ℕ × List ℕ)) → List (List ℕ × List (ℕ × List ℕ)) → Type 0
IsToldOf told fixes = (uid : List ℕ) → (fixes_under fixes uid ≡ []) ⊎ (fixes_under fixes uid ≡ told uid)

-- and of these contents it is what is told
abbrev pub TellsOf : (List ℕ → List (ℕ × List ℕ)) → List (List ℕ × List (ℕ × List ℕ)) → List ContentParts → Type 0
TellsOf told fixes cs = (c : ContentParts) → Has cs c → fixes_under fixes c.instance ≡ told c.instance

module _ (told : List ℕ → List (ℕ × List ℕ)) (old new : List (List ℕ × List (ℕ × List ℕ))) (under : List ℕ)
    (fixes : List (ℕ × List ℕ)) (is : told under ≡ fixes)
    (put : (uid : List ℕ) → fixes_under new uid ≡ fixes_put old under fixes uid) where
  pub told_put : IsToldOf told old → IsToldOf told new
  told_put all uid = by fixes is (put uid)
    where
      at : (f : ℕ × List ℕ) (fs : List (ℕ × List ℕ)) → told under ≡ f ∷ fs → (b : Bool)
          → is_at (text_cmp under) uid ≡ b → fixes_under new uid ≡ (if b then f ∷ fs else fixes_under old uid)
          → (fixes_under new uid ≡ []) ⊎ (fixes_under new uid ≡ told uid)
      at f fs t true e p = inr (p ∙ sym t ∙ ap told (same_key text_exact under uid e))
      at f fs t false e p = elim (all uid) [
        | inl none ↦ inl (p ∙ none)
        | inr there ↦ inr (p ∙ there)
      ]

      by : (fs : List (ℕ × List ℕ)) → told under ≡ fs → fixes_under new uid ≡ fixes_put old under fs uid
          → (fixes_under new uid ≡ []) ⊎ (fixes_under new uid ≡ told uid)
      by [] t p = elim (all uid) [
        | inl none ↦ inl (p ∙ none)
        | inr there ↦ inr (p ∙ there)
      ]
      by (f ∷ fs) t p = at f fs t (is_at (text_cmp under) uid) refl p

  -- what was told of a UID stays told
  stays : (uid : List ℕ) → fixes_under old uid ≡ told uid → fixes_under new uid ≡ told uid
  stays uid there = by fixes is (put uid)
    where
      at : (f : ℕ × List ℕ) (fs : List (ℕ × List ℕ)) → told under ≡ f ∷ fs → (b : Bool)
          → is_at (text_cmp under) uid ≡ b → fixes_under new uid ≡ (if b then f ∷ fs else fixes_under old uid)
          → fixes_under new uid ≡ told uid
      at f fs t true e p = p ∙ sym t ∙ ap told (same_key text_exact under uid e)
      at f fs t false e p = p ∙ there

      by : (fs : List (ℕ × List ℕ)) → told under ≡ fs → fixes_under new uid ≡ fixes_put old under fs uid
          → fixes_under new uid ≡ told uid
      by [] t p = p ∙ there
      by (f ∷ fs) t p = at f fs t (is_at (text_cmp under) uid) refl p

  -- and what was put in is told
  here : is_at (text_cmp under) under ≡ true → IsToldOf told old → fixes_under new under ≡ told under
  here itself all = by fixes is (put under)
    where
      by : (fs : List (ℕ × List ℕ)) → told under ≡ fs → fixes_under new under ≡ fixes_put old under fs under
          → fixes_under new under ≡ told under
      by [] t p = elim (all under) [
        | inl none ↦ p ∙ none ∙ sym t
        | inr there ↦ p ∙ there
      ]
      by (f ∷ fs) t p = p ∙ ap (λ (b : Bool). if b then f ∷ fs else fixes_under old under) itself ∙ sym t

itself : (uid : List ℕ) → is_at (text_cmp uid) uid ≡ true
itself uid = ap is_eq (tied_itself nat_list_cmp_total uid)

-- ---- one content more

-- each content's fixes stand under its UID, or it is still to come
abbrev pub IsToCome : (List ℕ → List (ℕ × List ℕ)) → List ContentParts → List (List ℕ × List (ℕ × List ℕ))
    → List ContentParts → Type 0
IsToCome told cs fixes left = (c : ContentParts) → Has cs c
    → (fixes_under fixes c.instance ≡ told c.instance) ⊎ Has left c

module _ (ops : List Op) (asked : List Asked) (told : List ℕ → List (ℕ × List ℕ)) (cs : List ContentParts)
    (old new : List (List ℕ × List (ℕ × List ℕ))) where
  pub come : (x : ContentParts) (more : List ContentParts) → told x.instance ≡ fixes_of ops asked x
      → IsToldOf told old → IsToCome told cs old (x ∷ more)
      → ((uid : List ℕ) → fixes_under new uid ≡ fixes_put old x.instance (fixes_of ops asked x) uid)
      → IsToCome told cs new more
  come x more is all left put c has = by (left c has)
    where
      first : c ≡ x → fixes_under new c.instance ≡ told c.instance
      first e = subst (λ (u : List ℕ). fixes_under new u ≡ told u) (sym (ap (λ (d : ContentParts). d.instance) e))
          (here told old new x.instance (fixes_of ops asked x) is put (itself x.instance) all)

      by : (fixes_under old c.instance ≡ told c.instance) ⊎ Has (x ∷ more) c
          → (fixes_under new c.instance ≡ told c.instance) ⊎ Has more c
      by (inl there) = inl (stays told old new x.instance (fixes_of ops asked x) is put c.instance there)
      by (inr (inl e)) = inl (first e)
      by (inr (inr later)) = inr later

pub begin : (told : List ℕ → List (ℕ × List ℕ)) (cs : List ContentParts) (fixes : List (List ℕ × List (ℕ × List ℕ)))
    → fixes ≡ [] → IsToldOf told fixes × IsToCome told cs fixes cs
begin told cs fixes e = (
  λ uid. inl (ap (λ (fs : List (List ℕ × List (ℕ × List ℕ))). fixes_under fs uid) e),
  λ c has. inr has,
)

pub all_come : (told : List ℕ → List (ℕ × List ℕ)) (cs : List ContentParts) (fixes : List (List ℕ × List (ℕ × List ℕ)))
    (left : List ContentParts) → left ≡ [] → IsToCome told cs fixes left → (c : ContentParts) → Has cs c
    → fixes_under fixes c.instance ≡ told c.instance
all_come told cs fixes left none all c has = elim (all c has) [
  | inl there ↦ there
  | inr later ↦ absurd (subst (λ (xs : List ContentParts). Has xs c) none later)
]

pub has_drop : {X : Type 0} (i : ℕ) (xs ys : List X) (x : X) → drop i xs ≡ x ∷ ys → Has xs x
has_drop zero xs ys x e = subst (λ zs. Has zs x) (sym e) (inl refl)
has_drop (suc i) [] ys x e = cc
has_drop (suc i) (z ∷ xs) ys x e = inr (has_drop i xs ys x e)

-- ---- fixes that are put in

pub put_none : (fixes : List (List ℕ × List (ℕ × List ℕ))) (under : List ℕ) (fs : List (ℕ × List ℕ))
    → (length fs == 0) ≡ true → (uid : List ℕ) → fixes_under fixes uid ≡ fixes_put fixes under fs uid
put_none fixes under [] e uid = refl
put_none fixes under (f ∷ fs) e uid = let z : length (f ∷ fs) ≡ 0 = eqb-true (length (f ∷ fs)) 0 e in
    absurd (omega (arith, z))

pub put_some : (old new : List (List ℕ × List (ℕ × List ℕ))) (under : List ℕ) (fs : List (ℕ × List ℕ))
    → (length fs == 0) ≡ false → ((q : List ℕ) → lookup (is_at (text_cmp q)) new
    ≡ cond (is_at (text_cmp under) q) (Some fs) (lookup (is_at (text_cmp q)) old))
    → (uid : List ℕ) → fixes_under new uid ≡ fixes_put old under fs uid
put_some old new under [] e puts uid = cc
put_some old new under (f ∷ fs) e puts uid = ap these_or_none (puts uid) ∙ by (is_at (text_cmp under) uid)
  where
    by : (b : Bool) → these_or_none (cond b (Some (f ∷ fs)) (lookup (is_at (text_cmp uid)) old))
        ≡ (if b then f ∷ fs else fixes_under old uid)
    by true = refl
    by false = refl

-- ---- what is shown is shown at its own UID

shown_instance : (view : View) (ops : List Op) (uid : List ℕ) (c : ContentParts) → shown_at view ops uid ≡ Some c
    → c.instance ≡ uid
shown_instance view ops uid c e = by (is_covered view ops uid) (pick uid ops) refl e
  where
    unhidden : (b : Bool) (d : ContentParts) → pick uid ops ≡ Some d → (if b then None else Some d) ≡ Some c
        → c.instance ≡ uid
    unhidden true d p e = cc
    unhidden false d p e = ap (λ (x : ContentParts). x.instance) (sym (same_content d c e))
        ∙ (pick_is_content uid ops d p).1

    by : (b : Bool) (p : Option ContentParts) → pick uid ops ≡ p → (if b then None else unless_hiding view p) ≡ Some c
        → c.instance ≡ uid
    by true p is e = cc
    by false None is e = cc
    by false (Some d) is e = unhidden (is_hiding view d.note) d is e

pub shown_here : (view : View) (ops : List Op) (q : Query) (us : List (List ℕ)) (c : ContentParts)
    → Has (named q (filter_map (shown_at view ops) us)) c → shown_at view ops c.instance ≡ Some c
shown_here view ops q us c has =
    let at = filter_map_has (shown_at view ops) us c (filter_has (is_named q) (filter_map (shown_at view ops) us) c
    has).0 in
    ap (shown_at view ops) (shown_instance view ops at.0 c at.2) ∙ at.2

-- ---- the rows of what was taken

abbrev told_of : List Op → List Asked → Option ContentParts → List (ℕ × List ℕ)
told_of ops asked None = []
told_of ops asked (Some c) = fixes_of ops asked c

pub enough_found : (view : View) (ops : List Op) (called : List ℕ) (q : Query) (cs : List ContentParts)
    (fixes : List (List ℕ × List (ℕ × List ℕ)))
    → ((c : ContentParts) → Has cs c → shown_at view ops c.instance ≡ Some c) → AreFixes ops q.asked cs fixes
    → rows_found called q (cs, fixes) ≡ rows_among ops called q cs
enough_found view ops called q cs fixes shown are =
    let told : List ℕ → List (ℕ × List ℕ) = λ uid. told_of ops q.asked (shown_at view ops uid) in
    let there : (c : ContentParts) → Has cs c → fixes_under fixes c.instance ≡ fixes_of ops q.asked c =
    are told (λ c has. ap (told_of ops q.asked) (shown c has)) in
    rows_agree (value_by fixes) (attribute ops) called q cs
    (λ c has tag asked. ap (value_among (own_value c tag) tag) (there c has) ∙ found_asked ops c tag q.asked asked)
