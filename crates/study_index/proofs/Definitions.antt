-- The joined values of a list of operations, ascending by digest, are what the definition says.
use Rattle.std.proofs.Common.{arith, ◌≡◌, ℕ, List, [], ◌∷◌, Bool, true, false, cond, Option, Some, None, IsTrue, refl}
use Rattle.std.proofs.Common.{sym, ap, ◌∙◌, subst, inl, inr, map}
use Rattle.std.specs.Prelude.{◌&&◌, ◌||◌, ◌==◌}
use Rattle.std.proofs.lemmas.Bool.{false≢true}
use Rattle.std.specs.Cmp.{unsigned_ties, tied_itself, alike_right}
use Rattle.std.specs.Cmp.Lexicographic.{nat_list_cmp_total, texts_ties}
use Rattle.std.specs.Option.{option_map}
use Rattle.std.specs.List.{filter, list_any, AllByRecursion}
use Rattle.std.specs.List.Sorted.{IsStrictlySortedBy}
use Rattle.std.specs.Map.{keys_of, lookup}
use Rattle.std.specs.Ordering.{nat_cmp, is_eq, is_lt, is_le, ordering_then, ordering_reverse}
use Rattle.std.specs.declared.cmp.Ordering.{Ordering}
use Rattle.std.specs.declared.cmp.Ordering.TheVariants.{Less, Equal, Greater}
use Rattle.std.specs.BTreeMap.{is_at}
use mathlib.Core.Bool.{or-false as or_none}
use Rattle.rejection_note.specs.declared.note.Note.{Note}
use Rattle.rejection_note.specs.declared.title.NoteTitle.{NoteTitle}
use Rattle.operation.specs.declared.op.Op.{Op}
use Rattle.operation.specs.declared.op.Op.TheVariants.{Content as a_content, Correction as a_correction}
use Rattle.operation.specs.declared.target.Target.{Target}
use Rattle.operation.specs.declared.target.Target.TheVariants.{Study, Patient, Series}
use Rattle.operation.specs.Parts.{ContentParts, CorrectionParts}
use Rattle.operation.specs.Spelling.{digest_of}
use Rattle.octets.specs.Texts.{same, text_cmp}
use Rattle.octets.specs.Members.{Has}
use Rattle.archive_model.specs.Contents.{pick}
use Rattle.archive_model.specs.Attributes.{corrections, correction_cmp, greatest}
use Rattle.archive_model.specs.Index.{code_of, copies, is_content_of, names_under, is_titled, is_same_target, is_fix}
use Rattle.archive_model.specs.Index.{fix}
use Rattle.archive_model.specs.Laws.{Ascend}
use Rattle.archive_model.proofs.Latest.{correction_total}
use Rattle.archive_model.proofs.ModelLaws.{same_is, greatest_is_last, some_have_greatest, pick_is_content, content_has}
use Rattle.join_laws.specs.Laws.{summary_of, joined_options}
use Rattle.join_laws.specs.Greatest.{greatest_of}
use Rattle.join_laws.specs.Least.{least_of}
use Rattle.join_laws.specs.MapOf.{entry}
use Rattle.join_laws.specs.Proved.Sets.{has-union}
use Rattle.join_laws.specs.Proved.Maps.{lookup-map_joined}
use Rattle.join_laws.proofs.Folds.{value_held}
use Rattle.study_index.specs.Keys.{has}
use Rattle.study_index.specs.Live.{Text, pick_cmp, flat, pick_at}
use Rattle.study_index.specs.Index.{FixKey, Fix, IndexValue, a_copy, a_naming, copy_cmp, naming_cmp, fix_key_cmp}
use Rattle.study_index.specs.Index.{fix_cmp, fixes_joined}
use Rattle.study_index.specs.Index.{IsIndex, index_joined, nothing, is_short, namings, titles_of, pick_of, fix_key}
use Rattle.study_index.specs.Index.{fix_of, index_of, fix_at}
use Rattle.study_index.specs.Definition.{IsIndexOf}
use Rattle.study_index.specs.Proved.Indexes.{copy_total, copy_exact, naming_total, naming_exact, fix_key_total}
use Rattle.study_index.specs.Proved.Indexes.{fix_key_exact, fix_exact, index_laws, index_summary_laws}
use Rattle.study_index.specs.Leads.{Lead, lead_cmp, leads_of, is_lead}
use Rattle.study_index.specs.Proved.Leads.{lead_total, lead_exact}
use Rattle.study_index.proofs.KeyLaws.{at_either}
use Rattle.study_index.proofs.Trees.{pick_at-joined}

-- the index of a list of operations
abbrev pub value : List Op → IndexValue
value = summary_of index_joined nothing index_of

pub held : (ops : List Op) → IsIndex (value ops)
held ops = value_held index_laws index_summary_laws ops

-- ---- tests

pub then_eq : (a b : Ordering) → is_eq (ordering_then a b) ≡ (is_eq a && is_eq b)
then_eq Less b = refl
then_eq Equal b = refl
then_eq Greater b = refl

-- texts that tie are those with the same bytes
pub at_text : (t u : Text) → is_at (text_cmp t) u ≡ same u t
at_text t u = at_either nat_list_cmp_total t u ∙ sym (texts_ties u t)

at_number : (m n : ℕ) → is_eq (nat_cmp m n) ≡ (m == n)
at_number m n = sym (unsigned_ties m n)

and_swapped : (a b : Bool) → (a && b) ≡ (b && a)
and_swapped true true = refl
and_swapped true false = refl
and_swapped false true = refl
and_swapped false false = refl

-- ---- copies

pub at_copy : (uid digest instance other : Text) → is_at (copy_cmp (a_copy uid digest)) (a_copy instance other) ≡
    (same instance uid
    && is_at (text_cmp digest) other)
at_copy uid digest instance other = then_eq (text_cmp uid instance) (text_cmp digest other)
    ∙ ap (λ b. b && is_eq (text_cmp digest other)) (at_text uid instance)

one_copy : (b : Bool) (uid digest : Text) (op : Op) (ops : List Op) → is_content_of uid op ≡ b
    → ((b && is_at (text_cmp digest) (digest_of op)) || has text_cmp (map digest_of (filter (is_content_of uid) ops))
    digest) ≡ has text_cmp (map digest_of (cond b (op ∷ filter (is_content_of uid) ops)
    (filter (is_content_of uid) ops))) digest
one_copy true uid digest op ops e = refl
one_copy false uid digest op ops e = refl

pub has_copy : (ops : List Op) (uid digest : Text) → has copy_cmp (value ops).copies (a_copy uid digest) ≡ has text_cmp
    (copies uid ops) digest
has_copy [] uid digest = refl
has_copy (a_content c ∷ ops) uid digest =
    has-union copy_total copy_exact (a_copy uid digest) (value ops).copies
    (a_copy c.instance (digest_of (a_content c)) ∷ [])
    ∙ ap (λ b. (b || false) || has copy_cmp (value ops).copies (a_copy uid digest))
    (at_copy uid digest c.instance (digest_of (a_content c)))
    ∙ ap (λ b. b || has copy_cmp (value ops).copies (a_copy uid digest)) (or_none _)
    ∙ ap (λ b. (same c.instance uid && is_at (text_cmp digest) (digest_of (a_content c))) || b)
    (has_copy ops uid digest)
    ∙ one_copy (same c.instance uid) uid digest (a_content c) ops refl
has_copy (a_correction k ∷ ops) uid digest = has-union copy_total copy_exact (a_copy uid digest) (value ops).copies []
    ∙ has_copy ops uid digest

-- ---- leads

has_lead : (ops : List Op) (lead : Lead) → has lead_cmp (value ops).leads lead ≡ is_lead ops lead
has_lead [] lead = refl
has_lead (a_content c ∷ ops) lead =
    has-union lead_total lead_exact lead (value ops).leads (leads_of (a_content c))
    ∙ ap (λ b. has lead_cmp (leads_of (a_content c)) lead || b) (has_lead ops lead)
has_lead (a_correction k ∷ ops) lead =
    has-union lead_total lead_exact lead (value ops).leads (leads_of (a_correction k))
    ∙ ap (λ b. has lead_cmp (leads_of (a_correction k)) lead || b) (has_lead ops lead)

-- ---- titles

at_naming : (uid other : Text) (m n : ℕ) → is_at (naming_cmp (a_naming uid m)) (a_naming other n) ≡
    (same other uid && (n == m))
at_naming uid other m n =
    then_eq (text_cmp uid other) (nat_cmp m n) ∙ ap (λ b. b && is_eq (nat_cmp m n)) (at_text uid other)
    ∙ ap (λ b. same other uid && b) (at_number m n ∙ swapped)
  where
    swapped : (m == n) ≡ (n == m)
    swapped = grind (arith)

-- a UID of at most 64 bytes is none that is longer
not_longer : (uid other : Text) → IsTrue (is_short uid) → is_short other ≡ false → same other uid ≡ false
not_longer uid other short long = by (same other uid) refl
  where
    by : (b : Bool) → same other uid ≡ b → b ≡ false
    by true e = absurd (false≢true (sym long ∙ ap is_short (same_is other uid e) ∙ short))
    by false e = refl

spread : (s e r : Bool) → ((s && e) || (e && r)) ≡ (e && (s || r))
spread true true r = refl
spread true false r = refl
spread false true r = refl
spread false false r = refl

has_namings : (uid : Text) (title own : NoteTitle) (uids : List Text) → IsTrue (is_short uid)
    → has naming_cmp (map (λ u. a_naming u (code_of own)) (filter is_short uids)) (a_naming uid (code_of title)) ≡
    (code_of own == code_of
    title && list_any (λ u. same u uid) uids)
has_namings uid title own [] short = none (code_of own == code_of title)
  where
    none : (b : Bool) → false ≡ (b && false)
    none true = refl
    none false = refl
has_namings uid title own (u ∷ uids) short = by (is_short u) refl (has_namings uid title own uids short)
  where
    by : (b : Bool) → is_short u ≡ b → has naming_cmp (map (λ x. a_naming x (code_of own)) (filter is_short uids))
        (a_naming uid (code_of title)) ≡ (code_of own == code_of title && list_any (λ x. same x uid) uids)
        → has naming_cmp (map (λ x. a_naming x (code_of own)) (cond b (u ∷ filter is_short uids)
        (filter is_short uids)))
        (a_naming uid (code_of title)) ≡ (code_of own == code_of title && (same u uid || list_any
        (λ x. same x uid) uids))
    by true e later =
        ap (λ b. b || has naming_cmp (map (λ x. a_naming x (code_of own)) (filter is_short uids))
        (a_naming uid (code_of title)))
        (at_naming uid u (code_of title) (code_of own))
        ∙ ap (λ b. (same u uid && (code_of own == code_of title)) || b) later
        ∙ spread (same u uid) (code_of own == code_of title) (list_any (λ x. same x uid) uids)
    by false e later =
        later
        ∙ ap (λ b. code_of own == code_of title && (b || list_any (λ x. same x uid) uids))
        (sym (not_longer uid u short e))

has_titles : (uid : Text) (title : NoteTitle) (note : Option Note) → IsTrue (is_short uid)
    → has naming_cmp (titles_of note) (a_naming uid (code_of title)) ≡ names_under title uid note
has_titles uid title None short = refl
has_titles uid title (Some note) short = has-union naming_total naming_exact (a_naming uid (code_of title))
    (namings note) []
    ∙ has_namings uid title note.title note.covers short

has_title : (ops : List Op) (uid : Text) (title : NoteTitle) → IsTrue (is_short uid) → has naming_cmp (value ops).titles
    (a_naming uid (code_of title)) ≡ is_titled ops uid title
has_title [] uid title short = refl
has_title (a_content c ∷ ops) uid title short =
    has-union naming_total naming_exact (a_naming uid (code_of title)) (value ops).titles (titles_of c.note)
    ∙ ap (λ b. b || has naming_cmp (value ops).titles (a_naming uid (code_of title)))
    (has_titles uid title c.note short)
    ∙ ap (λ b. names_under title uid c.note || b) (has_title ops uid title short)
has_title (a_correction k ∷ ops) uid title short = has-union naming_total naming_exact (a_naming uid (code_of title))
    (value ops).titles [] ∙ has_title ops uid title short

-- ---- corrections

some_fix : (a : Option Fix) → greatest_of fix_cmp a None ≡ a
some_fix None = refl
some_fix (Some x) = refl

flat-joined : (a b : Option (Option Fix)) → flat (joined_options (greatest_of fix_cmp) a b) ≡ greatest_of
    fix_cmp (flat a) (flat b)
flat-joined None b = refl
flat-joined (Some x) None = sym (some_fix x)
flat-joined (Some x) (Some y) = refl

fix_at-joined : (fixes others : List (FixKey × Option Fix)) → IsStrictlySortedBy fix_key_cmp (keys_of fixes)
    → IsStrictlySortedBy fix_key_cmp (keys_of others) → (key : FixKey)
    → fix_at key (fixes_joined fixes others) ≡ greatest_of fix_cmp (fix_at key fixes) (fix_at key others)
fix_at-joined fixes others s t key =
    ap flat (lookup-map_joined fix_key_total fix_key_exact (greatest_of fix_cmp) key others fixes s t)
    ∙ flat-joined (lookup (is_at (fix_key_cmp key)) fixes) (lookup (is_at (fix_key_cmp key)) others)

at_key : (target : Target) (tag : ℕ) (k : CorrectionParts) → is_at (fix_key_cmp (fix_key target tag))
    (fix_key k.target k.tag) ≡ is_fix target tag k
at_key target tag k = by target k.target
  where
    swapped : (tag == k.tag) ≡ (k.tag == tag)
    swapped = grind (arith)

    keyed : (mine yours : Text) → is_eq (ordering_then (text_cmp mine yours) (nat_cmp tag k.tag)) ≡ (k.tag == tag &&
        same yours mine)
    keyed mine yours =
        then_eq (text_cmp mine yours) (nat_cmp tag k.tag) ∙ ap (λ b. b && is_eq (nat_cmp tag k.tag))
        (at_text mine yours)
        ∙ ap (λ b. same yours mine && b) (at_number tag k.tag ∙ swapped) ∙ and_swapped (same yours mine) (k.tag == tag)

    apart : (b : Bool) → false ≡ (b && false)
    apart true = refl
    apart false = refl

    by : (mine yours : Target) → is_at (fix_key_cmp (fix_key mine tag)) (fix_key yours k.tag) ≡ (k.tag == tag &&
        is_same_target yours mine)
    by (Study a) (Study b) = keyed a b
    by (Patient a) (Patient b) = keyed a b
    by (Series a) (Series b) = keyed a b
    by (Study a) (Patient b) = apart (k.tag == tag)
    by (Study a) (Series b) = apart (k.tag == tag)
    by (Patient a) (Study b) = apart (k.tag == tag)
    by (Patient a) (Series b) = apart (k.tag == tag)
    by (Series a) (Study b) = apart (k.tag == tag)
    by (Series a) (Patient b) = apart (k.tag == tag)

-- corrections of which neither comes after the other have one counter, site and value
le_both : (r : Ordering) → is_le r ≡ true → is_le (ordering_reverse r) ≡ true → r ≡ Equal
le_both Less p q = absurd (false≢true q)
le_both Equal p q = refl
le_both Greater p q = absurd (false≢true p)

one_fix : (j k : CorrectionParts) → is_le (correction_cmp j k) ≡ true → is_le (correction_cmp k j) ≡ true
    → fix_of j ≡ fix_of k
one_fix j k p q = fix_exact (fix_of j) (fix_of k)
    (le_both (correction_cmp j k) p (ap is_le (sym (correction_total.antisymm k j)) ∙ q))

not_lt : (r : Ordering) → is_lt r ≡ false → is_le (ordering_reverse r) ≡ true
not_lt Less e = absurd (false≢true (sym e))
not_lt Equal e = refl
not_lt Greater e = refl

is_lt_le : (r : Ordering) → is_lt r ≡ true → is_le r ≡ true
is_lt_le Less e = refl
is_lt_le Equal e = absurd (false≢true e)
is_lt_le Greater e = absurd (false≢true e)

le_itself : (k : CorrectionParts) → is_le (correction_cmp k k) ≡ true
le_itself k = ap is_le (tied_itself correction_total k)

le_trans : (a b c : CorrectionParts) → is_le (correction_cmp a b) ≡ true → is_le (correction_cmp b c) ≡ true
    → is_le (correction_cmp a c) ≡ true
le_trans a b c p q = by (correction_cmp a b) (correction_cmp b c) refl refl p q
  where
    by : (r s : Ordering) → correction_cmp a b ≡ r → correction_cmp b c ≡ s → is_le r ≡ true → is_le s ≡ true
        → is_le (correction_cmp a c) ≡ true
    by Less Less l m p q = ap is_le (correction_total.trans a b c l m)
    by Less Equal l m p q = ap is_le (sym (alike_right correction_total b c a m) ∙ l)
    by Equal s l m p q = ap is_le (correction_total.congr a b c l ∙ m) ∙ q
    by Greater s l m p q = absurd (false≢true p)
    by Less Greater l m p q = absurd (false≢true q)

-- a correction that is one of some, and that none of them comes after, is the greatest
is_greatest : (ks : List CorrectionParts) (x : CorrectionParts) → Has ks x → ((other : CorrectionParts) → Has ks other
    → is_le (correction_cmp other x) ≡ true) → option_map fix_of (greatest ks) ≡ Some (fix_of x)
is_greatest ks x has last = by (greatest ks) refl
  where
    none : ks ≡ [] → ⊥
    none e = subst (λ (xs : List CorrectionParts). Has xs x → ⊥) (sym e) (λ h. h) has

    by : (r : Option CorrectionParts) → greatest ks ≡ r → option_map fix_of r ≡ Some (fix_of x)
    by None e = absurd (none (some_have_greatest ks e))
    by (Some g) e =
        let found = greatest_is_last ks g e in
        ap (λ (f : Fix). Some f) (one_fix g x (last g found.0) (found.1 x has))

pub greatest_more : (k : CorrectionParts) (ks : List CorrectionParts)
    → option_map fix_of (greatest (k ∷ ks)) ≡ greatest_of fix_cmp (Some (fix_of k)) (option_map fix_of (greatest ks))
greatest_more k ks = by (greatest ks) refl
  where
    alone : (other : CorrectionParts) → ks ≡ [] → Has (k ∷ ks) other → is_le (correction_cmp other k) ≡ true
    alone other e (inl same_one) = ap (λ (x : CorrectionParts). is_le (correction_cmp x k)) same_one ∙ le_itself k
    alone other e (inr among) = absurd (subst (λ (xs : List CorrectionParts). Has xs other) e among)

    by : (r : Option CorrectionParts) → greatest ks ≡ r → option_map fix_of (greatest (k ∷ ks)) ≡ greatest_of
        fix_cmp (Some (fix_of k)) (option_map fix_of r)
    by None e = is_greatest (k ∷ ks) k (inl refl) (λ other. alone other (some_have_greatest ks e))
    by (Some g) e = chosen (is_lt (correction_cmp g k)) refl
      where
        found : Has ks g × ((other : CorrectionParts) → Has ks other → is_le (correction_cmp other g) ≡ true)
        found = greatest_is_last ks g e

        chosen : (b : Bool) → is_lt (correction_cmp g k) ≡ b → option_map fix_of (greatest (k ∷ ks)) ≡ Some
            (cond b (fix_of k) (fix_of g))
        chosen true less = is_greatest (k ∷ ks) k (inl refl) below
          where
            below : (other : CorrectionParts) → Has (k ∷ ks) other → is_le (correction_cmp other k) ≡ true
            below other (inl same_one) = ap (λ (x : CorrectionParts). is_le (correction_cmp x k)) same_one ∙ le_itself k
            below other (inr among) = le_trans other g k (found.1 other among) (is_lt_le (correction_cmp g k) less)
        chosen false more = is_greatest (k ∷ ks) g (inr found.0) below
          where
            up : is_le (correction_cmp k g) ≡ true
            up = ap is_le (correction_total.antisymm k g) ∙ not_lt (correction_cmp g k) more

            below : (other : CorrectionParts) → Has (k ∷ ks) other → is_le (correction_cmp other g) ≡ true
            below other (inl same_one) = ap (λ (x : CorrectionParts). is_le (correction_cmp x g)) same_one ∙ up
            below other (inr among) = found.1 other among

one_fix_more : (b : Bool) (k : CorrectionParts) (ks : List CorrectionParts)
    → greatest_of fix_cmp (flat (cond b (Some (Some (fix_of k))) None)) (option_map fix_of (greatest ks)) ≡ option_map
    fix_of (greatest (cond b (k ∷ ks) ks))
one_fix_more true k ks = sym (greatest_more k ks)
one_fix_more false k ks = refl

has_fix : (ops : List Op) (target : Target) (tag : ℕ) → fix_at (fix_key target tag) (value ops).fixes ≡ option_map
    fix_of (fix target tag ops)
has_fix [] target tag = refl
has_fix (a_content c ∷ ops) target tag =
    fix_at-joined [] (value ops).fixes index_laws_none (held ops).fixes.0 (fix_key target tag) ∙ has_fix ops target tag
  where
    index_laws_none : IsStrictlySortedBy fix_key_cmp (keys_of (index_of (a_content c)).fixes)
    index_laws_none = (index_summary_laws.one_held (a_content c)).fixes.0
has_fix (a_correction k ∷ ops) target tag =
    fix_at-joined (entry (fix_key k.target k.tag) (Some (fix_of k))) (value ops).fixes
    (index_summary_laws.one_held (a_correction k)).fixes.0 (held ops).fixes.0 (fix_key target tag)
    ∙ ap (λ b. greatest_of fix_cmp (flat (cond b (Some (Some (fix_of k))) None))
    (fix_at (fix_key target tag) (value ops).fixes)) (at_key target tag k)
    ∙ ap (greatest_of fix_cmp (flat (cond (is_fix target tag k) (Some (Some (fix_of k))) None)))
    (has_fix ops target tag)
    ∙ one_fix_more (is_fix target tag k) k (filter (is_fix target tag) (corrections ops))

-- ---- picks

all_has : (P : Text → Type 0) (ops : List Op) (o : Op) → AllByRecursion P (map digest_of ops) → Has ops o
    → P (digest_of o)
all_has P [] o all has = absurd has
all_has P (p ∷ ops) o all (inl e) = subst (λ (x : Op). P (digest_of x)) (sym e) all.0
all_has P (p ∷ ops) o all (inr has) = all_has P ops o all.1 has

-- of a content that stands first, and the pick of those behind it, the first is the lesser
first_is_least : (c : ContentParts) (ops : List Op) (uid : Text) → Ascend (a_content c ∷ ops)
    → least_of pick_cmp (Some (pick_of c)) (option_map pick_of (pick uid ops)) ≡ Some (pick_of c)
unfolding IsStrictlySortedBy
first_is_least c ops uid up = by (pick uid ops) refl
  where
    turned : (r s : Ordering) → r ≡ Less → is_lt (ordering_then (ordering_reverse r) s) ≡ false
    turned r s e = ap (λ x. is_lt (ordering_then (ordering_reverse x) s)) e

    by : (r : Option ContentParts) → pick uid ops ≡ r → least_of pick_cmp (Some (pick_of c))
        (option_map pick_of r) ≡ Some (pick_of c)
    by None e = refl
    by (Some d) e =
        let less : text_cmp (digest_of (a_content c)) (digest_of (a_content d)) ≡ Less =
        all_has (λ t. text_cmp (digest_of (a_content c)) t ≡ Less) ops (a_content d)
        up.0 (content_has ops d (pick_is_content uid ops d e).0) in
        let rest = ordering_then (text_cmp (pick_of d).study (pick_of c).study) (text_cmp (pick_of d).series
        (pick_of c).series)
        in
        let later : is_lt (pick_cmp (pick_of d) (pick_of c)) ≡ false =
        ap (λ x. is_lt (ordering_then x rest)) (nat_list_cmp_total.antisymm (digest_of (a_content d))
        (digest_of (a_content c))) ∙ turned (text_cmp (digest_of (a_content c)) (digest_of (a_content d))) rest less
        in
        ap (λ b. Some (cond b (pick_of d) (pick_of c))) later

has_pick : (ops : List Op) → Ascend ops → (uid : Text) → pick_at uid (value ops).picks ≡ option_map
    pick_of (pick uid ops)
unfolding IsStrictlySortedBy
has_pick [] up uid = refl
has_pick (a_content c ∷ ops) up uid =
    pick_at-joined (entry c.instance (Some (pick_of c))) (value ops).picks
    (index_summary_laws.one_held (a_content c)).picks.0 (held ops).picks.0 uid
    ∙ ap (λ b. least_of pick_cmp (flat (cond b (Some (Some (pick_of c))) None)) (pick_at uid (value ops).picks))
    (at_text uid c.instance)
    ∙ ap (least_of pick_cmp (flat (cond (same c.instance uid) (Some (Some (pick_of c))) None))) (has_pick ops up.1 uid)
    ∙ by (same c.instance uid)
  where
    by : (b : Bool) → least_of pick_cmp (flat (cond b (Some (Some (pick_of c))) None))
        (option_map pick_of (pick uid ops)) ≡ option_map pick_of (cond b (Some c) (pick uid ops))
    by true = first_is_least c ops uid up
    by false = refl
has_pick (a_correction k ∷ ops) up uid =
    pick_at-joined [] (value ops).picks index_summary_laws.nothing_held.picks.0 (held ops).picks.0 uid
    ∙ has_pick ops up.1 uid

-- ---- the whole

pub is_index : (ops : List Op) → Ascend ops → IsIndexOf ops (value ops)
is_index ops up = record {
  picks = has_pick ops up;
  copies = has_copy ops;
  leads = has_lead ops;
  titles = has_title ops;
  fixes = has_fix ops;
}
