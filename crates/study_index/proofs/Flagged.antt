-- What the copies of an index say of its contents: how many there are, and of which SOP Instance UIDs there are two.
use Rattle.std.specs.Prelude.{◌≡◌, ◌+◌, Bool, true, false, cond, ◌&&◌, ◌||◌, nat_lt, List, [], ◌∷◌, length, map}
use Rattle.std.proofs.Common.{suc, refl, sym, ap, ◌∙◌, arith}
use mathlib.Core.Bool.{true≢false}
use borrow.Author.Tests.{ltb-true}
use Rattle.std.specs.List.{filter, list_any, AllByRecursion}
use Rattle.std.specs.List.Sorted.{IsStrictlySortedBy}
use Rattle.std.specs.Ordering.{is_eq, ordering_then, match_ordering}
use Rattle.std.specs.declared.cmp.Ordering.{Ordering}
use Rattle.std.specs.declared.cmp.Ordering.TheVariants.{Less, Equal, Greater}
use Rattle.std.specs.BTreeMap.{is_at}
use Rattle.std.specs.BTreeSet.{insert_key}
use Rattle.std.specs.Cmp.Lexicographic.{nat_list_cmp_total}
use Rattle.std.proofs.lemmas.Cmp.{tied_itself}
use Rattle.std.proofs.lemmas.List.{length-map}
use Rattle.std.proofs.lemmas.List.Kept.{IsStrictlySortedBy-filter}
use Rattle.std.specs.Cmp.{both_ways, Equal-is}
use Rattle.operation.specs.declared.op.Op.{Op}
use Rattle.operation.specs.declared.op.Op.TheVariants.{Content as a_content, Correction as a_correction}
use Rattle.operation.specs.Spelling.{digest_of}
use Rattle.octets.specs.Texts.{same, text_cmp}
use Rattle.octets.proofs.TextLemmas.{ascending_sorted}
use Rattle.archive_model.specs.Contents.{contents, contents_of, is_of_instance, is_flagged, flagged, instances}
use Rattle.archive_model.specs.Attributes.{corrections}
use Rattle.archive_model.specs.Index.{is_content_of, copies}
use Rattle.archive_model.specs.Laws.{Ascend}
use Rattle.archive_model.proofs.MemberLaws.{any_has, has_any, filter_has}
use Rattle.archive_model.proofs.ModelLaws.{same_is, flagged_have_two}
use Rattle.join_laws.specs.GrowSet.{only}
use Rattle.join_laws.specs.Proved.Sets.{same_keys, set_laws}
use Rattle.study_index.specs.Keys.{has}
use Rattle.study_index.specs.Live.{Text}
use Rattle.study_index.specs.Index.{Copy, IndexValue, a_copy, copy_cmp}
use Rattle.study_index.specs.Definition.{IsIndexOf, index_value}
use Rattle.study_index.specs.Copies.{is_copy_of, is_doubled}
use Rattle.study_index.specs.Proved.Picks.{text_exact}
use Rattle.study_index.specs.Proved.Indexes.{copy_total, copy_exact}
use Rattle.study_index.proofs.Definitions.{has_copy, held, at_copy}

-- ---- the digests of the copies of a UID

abbrev digests : Text → List Copy → List Text
digests uid cs = map (λ c. c.digest) (filter (is_copy_of uid) cs)

-- copies of one UID ascend by digest
above : (uid : Text) (c : Copy) (cs : List Copy) → c.uid ≡ uid → AllByRecursion (λ d. copy_cmp c d ≡ Less) cs
    → AllByRecursion (λ t. text_cmp c.digest t ≡ Less) (digests uid cs)
above uid c [] is all = tt
above uid c (d ∷ cs) is all = by (same d.uid uid) refl (above uid c cs is all.1)
  where
    by : (b : Bool) → same d.uid uid ≡ b → AllByRecursion (λ t. text_cmp c.digest t ≡ Less) (digests uid cs)
        → AllByRecursion (λ t. text_cmp c.digest t ≡ Less)
        (map (λ x. x.digest) (cond b (d ∷ filter (is_copy_of uid) cs) (filter (is_copy_of uid) cs)))
    by true e later =
        let one : c.uid ≡ d.uid = is ∙ sym (same_is d.uid uid e) in
        let tie : text_cmp c.uid d.uid ≡ Equal = ap (text_cmp c.uid) (sym one) ∙ tied_itself nat_list_cmp_total c.uid in
        (sym (ap (λ o. ordering_then o (text_cmp c.digest d.digest)) tie) ∙ all.0, later)
    by false e later = later

digests_ascend : (uid : Text) (cs : List Copy) → IsStrictlySortedBy copy_cmp cs → IsStrictlySortedBy text_cmp
    (digests uid cs)
unfolding IsStrictlySortedBy
digests_ascend uid [] up = tt
digests_ascend uid (c ∷ cs) up = by (same c.uid uid) refl (digests_ascend uid cs up.1)
  where
    by : (b : Bool) → same c.uid uid ≡ b → IsStrictlySortedBy text_cmp (digests uid cs) → IsStrictlySortedBy text_cmp
        (map (λ x. x.digest) (cond b (c ∷ filter (is_copy_of uid) cs) (filter (is_copy_of uid) cs)))
    by true e later = (above uid c cs (same_is c.uid uid e) up.0, later)
    by false e later = later

has_digest : (uid digest : Text) (cs : List Copy) → has text_cmp (digests uid cs) digest ≡ has copy_cmp cs
    (a_copy uid digest)
has_digest uid digest [] = refl
has_digest uid digest (c ∷ cs) = by (same c.uid uid) (has_digest uid digest cs)
    ∙ ap (λ b. b || has copy_cmp cs (a_copy uid digest)) (sym (at_copy uid digest c.uid c.digest))
  where
    by : (b : Bool) → has text_cmp (digests uid cs) digest ≡ has copy_cmp cs (a_copy uid digest)
        → has text_cmp (map (λ x. x.digest) (cond b (c ∷ filter (is_copy_of uid) cs) (filter (is_copy_of uid) cs)))
        digest ≡ ((b && is_at (text_cmp digest) c.digest) || has copy_cmp cs (a_copy uid digest))
    by true later = ap (λ b. is_at (text_cmp digest) c.digest || b) later
    by false later = later

-- ---- the digests of the contents of a UID

below_kept : (x : Text) (p : Op → Bool) (ops : List Op) → AllByRecursion (λ t. text_cmp x t ≡ Less) (map digest_of ops)
    → AllByRecursion (λ t. text_cmp x t ≡ Less) (map digest_of (filter p ops))
below_kept x p [] all = tt
below_kept x p (o ∷ ops) all = by (p o) (below_kept x p ops all.1)
  where
    by : (b : Bool) → AllByRecursion (λ t. text_cmp x t ≡ Less) (map digest_of (filter p ops))
        → AllByRecursion (λ t. text_cmp x t ≡ Less) (map digest_of (cond b (o ∷ filter p ops) (filter p ops)))
    by true later = (all.0, later)
    by false later = later

kept_ascend : (p : Op → Bool) (ops : List Op) → Ascend ops → IsStrictlySortedBy text_cmp (map digest_of (filter p ops))
unfolding IsStrictlySortedBy
kept_ascend p [] up = tt
kept_ascend p (o ∷ ops) up = by (p o) (kept_ascend p ops up.1)
  where
    by : (b : Bool) → IsStrictlySortedBy text_cmp (map digest_of (filter p ops)) → IsStrictlySortedBy text_cmp
        (map digest_of (cond b (o ∷ filter p ops) (filter p ops)))
    by true later = (below_kept (digest_of o) p ops up.0, later)
    by false later = later

as_many : (uid : Text) (ops : List Op) → length (copies uid ops) ≡ length (contents_of uid ops)
as_many uid [] = refl
as_many uid (a_content c ∷ ops) = by (same c.instance uid) (as_many uid ops)
  where
    by : (b : Bool) → length (copies uid ops) ≡ length (contents_of uid ops)
        → length (map digest_of (cond b (a_content c ∷ filter (is_content_of uid) ops)
        (filter (is_content_of uid) ops))) ≡ length (cond b (c ∷ filter (is_of_instance uid) (contents ops))
        (filter (is_of_instance uid) (contents ops)))
    by true later = ap suc later
    by false later = later
as_many uid (a_correction k ∷ ops) = as_many uid ops

module _ (ops : List Op) (up : Ascend ops) (index : IndexValue) (is : IsIndexOf ops index)
    (sorted : IsStrictlySortedBy copy_cmp index.copies) where
  -- two copies of a UID are two contents of it
  doubled : (uid : Text) → is_doubled index.copies uid ≡ is_flagged ops uid
  doubled uid =
      ap (nat_lt 1) (
      sym (length-map (filter (is_copy_of uid) index.copies) (λ c. c.digest))
      ∙ ap length (same_keys nat_list_cmp_total text_exact (digests uid index.copies) (copies uid ops)
      (digests_ascend uid index.copies sorted) (kept_ascend (is_content_of uid) ops up)
      (λ digest. has_digest uid digest index.copies ∙ is.copies uid digest))
      ∙ as_many uid ops)

  has_flagged : (uid : Text) → is_flagged ops uid ≡ has text_cmp (flagged ops) uid
  has_flagged uid = both_ways (is_flagged ops uid) (has text_cmp (flagged ops) uid) there back
    where
      there : is_flagged ops uid ≡ true → has text_cmp (flagged ops) uid ≡ true
      there h = has_any (is_at (text_cmp uid)) (flagged ops)
          uid ((flagged_have_two ops uid).1 (ltb-true 1 (length (contents_of uid ops)) h))
          (ap is_eq (tied_itself nat_list_cmp_total uid))

      back : has text_cmp (flagged ops) uid ≡ true → is_flagged ops uid ≡ true
      back h =
          let at = any_has (is_at (text_cmp uid)) (flagged ops) h in
          ap (is_flagged ops) (text_exact uid at.0 ((Equal-is (text_cmp uid at.0)).0 at.2))
          ∙ (filter_has (is_flagged ops) (instances ops) at.0 at.1).1

  -- UIDs that ascend and are those of two copies are the flagged ones
  pub flagged_are : (uids : List Text) → IsStrictlySortedBy text_cmp uids
      → ((uid : Text) → has text_cmp uids uid ≡ is_doubled index.copies uid) → uids ≡ flagged ops
  flagged_are uids rise two =
      same_keys nat_list_cmp_total text_exact uids (flagged ops)
      rise (IsStrictlySortedBy-filter text_cmp (is_flagged ops) (instances ops)
      (ascending_sorted (map (λ c. c.instance) (contents ops)))) (λ uid.
      two uid ∙ doubled uid ∙ has_flagged uid)

-- ---- how many there are

one_more : {K : Type 0} (R : K → K → Ordering) (k : K) (ks : List K) → list_any (is_at (R k)) ks ≡ false
    → length (insert_key R ks k) ≡ suc (length ks)
one_more R k [] none = refl
one_more R k (x ∷ xs) none = by (R k x) none (one_more R k xs)
  where
    by : (o : Ordering) → (is_eq o || list_any (is_at (R k)) xs) ≡ false → (list_any (is_at (R k)) xs ≡ false
        → length (insert_key R xs k) ≡ suc (length xs))
        → length (match_ordering o (k ∷ x ∷ xs) (x ∷ xs) (x ∷ insert_key R xs k)) ≡ suc (length (x ∷ xs))
    by Less n later = refl
    by Equal n later = absurd (true≢false n)
    by Greater n later = ap suc (later n)

none_below : (x : Text) (ts : List Text) → AllByRecursion (λ t. text_cmp x t ≡ Less) ts → has text_cmp ts x ≡ false
none_below x [] all = refl
none_below x (t ∷ ts) all = ap (λ o. is_eq o || has text_cmp ts x) all.0 ∙ none_below x ts all.1

-- each content is a copy of its own
pub contents_counted : (ops : List Op) → Ascend ops → length (index_value ops).copies ≡ length (contents ops)
unfolding IsStrictlySortedBy
contents_counted [] up = refl
contents_counted (a_content c ∷ ops) up =
    let digest = digest_of (a_content c) in
    let own : Copy = a_copy c.instance digest in
    ap length ((set_laws copy_total copy_exact).commutative (only own) (index_value ops).copies (tt, tt)
    (held ops).copies)
    ∙ one_more copy_cmp own (index_value ops).copies (has_copy ops c.instance digest
    ∙ none_below digest (copies c.instance ops) (below_kept digest (is_content_of c.instance) ops up.0))
    ∙ ap suc (contents_counted ops up.1)
contents_counted (a_correction k ∷ ops) up = ap length ((set_laws copy_total copy_exact).commutative []
    (index_value ops).copies tt (held ops).copies) ∙ contents_counted ops up.1

-- what is no content is a correction
pub kinds_counted : (ops : List Op) → length (contents ops) + length (corrections ops) ≡ length ops
kinds_counted [] = refl
kinds_counted (a_content c ∷ ops) = let more = kinds_counted ops in omega arith
kinds_counted (a_correction k ∷ ops) = let more = kinds_counted ops in omega arith
