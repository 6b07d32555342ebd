-- The correction of an attribute that counts is the greatest of three that are looked up.
use Rattle.std.proofs.Common.{rules, ◌≡◌, ◌≤◌, ℕ, List, [], ◌∷◌, Bool, true, false, cond, Option, Some, None, IsTrue}
use Rattle.std.proofs.Common.{refl, sym, ap, ◌∙◌, subst, inl, inr}
use Rattle.std.specs.Prelude.{◌&&◌, ◌==◌, if◌then◌else◌, nat_le, length}
use Rattle.std.proofs.lemmas.Bool.{eqb-true, false≢true, and_parts as both}
use Rattle.std.specs.Option.{option_map}
use Rattle.std.specs.List.{filter}
use Rattle.std.specs.Cmp.{second_so as and_second, both_ways}
use Rattle.operation.specs.declared.op.Op.{Op}
use Rattle.operation.specs.declared.op.Op.TheVariants.{Content as a_content, Correction as a_correction}
use Rattle.operation.specs.declared.target.Target.{Target}
use Rattle.operation.specs.declared.target.Target.TheVariants.{Study, Patient, Series}
use Rattle.operation.specs.Parts.{ContentParts, CorrectionParts, key_of}
use Rattle.operation.specs.Corrections.{is_correction, is_tag_for, is_corrected}
use Rattle.operation.proofs.Bounds.{key_short}
use Rattle.operation.proofs.TagLaws.{tag_corrected}
use Rattle.octets.specs.Texts.{same}
use Rattle.octets.specs.Members.{Has}
use Rattle.archive_model.specs.Contents.{study_of, patient_of, series_of}
use Rattle.archive_model.specs.Attributes.{corrections, correction_in, corrects, is_target_of, greatest, correction_for}
use Rattle.archive_model.specs.Index.{is_same_target, is_fix}
use Rattle.archive_model.proofs.MemberLaws.{filter_map_has}
use Rattle.archive_model.proofs.ModelLaws.{same_is, same_itself}
use Rattle.join_laws.specs.Greatest.{greatest_of}
use Rattle.join_laws.specs.Proved.Orders.{greatest_laws}
use Rattle.study_index.specs.Live.{Text}
use Rattle.study_index.specs.Index.{Fix, IndexValue, fix_cmp, is_short, fix_key, fix_of, fix_at, short_fix_at}
use Rattle.study_index.specs.Index.{latest_at}
use Rattle.study_index.specs.Definition.{IsIndexOf, IsLawful, AreLawful}
use Rattle.study_index.specs.Proved.Indexes.{fix_total, fix_exact}
use Rattle.study_index.proofs.Definitions.{greatest_more}

abbrev later_of : Option Fix → Option Fix → Option Fix
later_of = greatest_of fix_cmp

assoc : (a b c : Option Fix) → greatest_of fix_cmp (greatest_of fix_cmp a b) c ≡ greatest_of fix_cmp
    a (greatest_of fix_cmp b c)
assoc a b c = (greatest_laws fix_cmp fix_total fix_exact).associative a b c tt tt tt

comm : (a b : Option Fix) → greatest_of fix_cmp a b ≡ greatest_of fix_cmp b a
comm a b = (greatest_laws fix_cmp fix_total fix_exact).commutative a b tt tt

-- what comes to the second of three comes to all of them
second_of : (k a b c : Option Fix) → greatest_of fix_cmp a (greatest_of fix_cmp (greatest_of fix_cmp k b) c)
    ≡ greatest_of fix_cmp k (greatest_of fix_cmp a (greatest_of fix_cmp b c))
second_of k a b c =
    ap (greatest_of fix_cmp a) (assoc k b c) ∙ sym (assoc a k (greatest_of fix_cmp b c))
    ∙ ap (λ x. greatest_of fix_cmp x (greatest_of fix_cmp b c)) (comm a k) ∙ assoc k a (greatest_of fix_cmp b c)

third_of : (k a b c : Option Fix) → greatest_of fix_cmp a (greatest_of fix_cmp b (greatest_of fix_cmp k c))
    ≡ greatest_of fix_cmp k (greatest_of fix_cmp a (greatest_of fix_cmp b c))
third_of k a b c = ap (greatest_of fix_cmp a) (sym (assoc b k c) ∙ ap (λ x. greatest_of fix_cmp x c) (comm b k)
    ∙ assoc k b c) ∙ sym (assoc a k (greatest_of fix_cmp b c))
    ∙ ap (λ x. greatest_of fix_cmp x (greatest_of fix_cmp b c)) (comm a k) ∙ assoc k a (greatest_of fix_cmp b c)

same_turned : (t u : Text) → same t u ≡ same u t
same_turned t u = both_ways (same t u) (same u t) (λ e. same_itself u t (sym (same_is t u e)))
    (λ e. same_itself t u (sym (same_is u t e)))

-- the greatest of those that pass a test, as an index has it
abbrev last : (CorrectionParts → Bool) → List CorrectionParts → Option Fix
last p ks = option_map fix_of (greatest (filter p ks))

abbrev last_fix : Target → ℕ → List CorrectionParts → Option Fix
last_fix target tag ks = last (is_fix target tag) ks

-- one correction more, where it passes
more : (p : CorrectionParts → Bool) (k : CorrectionParts) (ks : List CorrectionParts) → p k ≡ true
    → last p (k ∷ ks) ≡ greatest_of fix_cmp (Some (fix_of k)) (last p ks)
more p k ks e = ap (λ b. option_map fix_of (greatest (cond b (k ∷ filter p ks) (filter p ks)))) e
    ∙ greatest_more k (filter p ks)

-- and where it does not
none_more : (p : CorrectionParts → Bool) (k : CorrectionParts) (ks : List CorrectionParts) → p k ≡ false
    → last p (k ∷ ks) ≡ last p ks
none_more p k ks e = ap (λ b. option_map fix_of (greatest (cond b (k ∷ filter p ks) (filter p ks)))) e

module _ (c : ContentParts) (tag : ℕ) where
  abbrev of_three : List CorrectionParts → Option Fix
  of_three ks = greatest_of fix_cmp (last_fix (Study (study_of c)) tag ks)
      (greatest_of fix_cmp (last_fix (Patient (patient_of c)) tag ks) (last_fix (Series (series_of c)) tag ks))

  three_more : (k : CorrectionParts) (ks : List CorrectionParts) → last (corrects c tag) ks ≡ of_three ks
      → last (corrects c tag) (k ∷ ks) ≡ of_three (k ∷ ks)
  three_more k ks rest = by k.target refl (k.tag == tag) refl
    where
      all_none : (is_fix (Study (study_of c)) tag k) ≡ false → (is_fix (Patient (patient_of c)) tag k) ≡ false
          → (is_fix (Series (series_of c)) tag k) ≡ false → of_three (k ∷ ks) ≡ of_three ks
      all_none s p q =
          ap (λ x. greatest_of fix_cmp x (greatest_of fix_cmp (last_fix (Patient (patient_of c)) tag (k ∷ ks))
          (last_fix (Series (series_of c)) tag (k ∷ ks)))) (none_more (is_fix (Study (study_of c)) tag) k ks s)
          ∙ ap (λ x. greatest_of fix_cmp (last_fix (Study (study_of c)) tag ks)
          (greatest_of fix_cmp x (last_fix (Series (series_of c)) tag (k ∷ ks))))
          (none_more (is_fix (Patient (patient_of c)) tag) k ks p)
          ∙ ap (λ x. greatest_of fix_cmp (last_fix (Study (study_of c)) tag ks)
          (greatest_of fix_cmp (last_fix (Patient (patient_of c)) tag ks) x))
          (none_more (is_fix (Series (series_of c)) tag) k ks q)

      none : corrects c tag k ≡ false → (is_fix (Study (study_of c)) tag k) ≡ false
          → (is_fix (Patient (patient_of c)) tag k) ≡ false → (is_fix (Series (series_of c)) tag k) ≡ false
          → last (corrects c tag) (k ∷ ks) ≡ of_three (k ∷ ks)
      none no_one s p q = none_more (corrects c tag) k ks no_one ∙ rest ∙ sym (all_none s p q)

      at_study : corrects c tag k ≡ true → (is_fix (Study (study_of c)) tag k) ≡ true
          → (is_fix (Patient (patient_of c)) tag k) ≡ false → (is_fix (Series (series_of c)) tag k) ≡ false
          → last (corrects c tag) (k ∷ ks) ≡ of_three (k ∷ ks)
      at_study one s p q =
          more (corrects c tag) k ks one ∙ ap (greatest_of fix_cmp (Some (fix_of k))) rest
          ∙ sym (
          ap (λ x. greatest_of fix_cmp x (greatest_of fix_cmp (last_fix (Patient (patient_of c)) tag (k ∷ ks))
          (last_fix (Series (series_of c)) tag (k ∷ ks)))) (more (is_fix (Study (study_of c)) tag) k ks s)
          ∙ ap (λ x. greatest_of fix_cmp (greatest_of fix_cmp (Some (fix_of k)) (last_fix (Study (study_of c)) tag ks))
          (greatest_of fix_cmp x (last_fix (Series (series_of c)) tag (k ∷ ks))))
          (none_more (is_fix (Patient (patient_of c)) tag) k ks p)
          ∙ ap (λ x. greatest_of fix_cmp (greatest_of fix_cmp (Some (fix_of k)) (last_fix (Study (study_of c)) tag ks))
          (greatest_of fix_cmp (last_fix (Patient (patient_of c)) tag ks) x))
          (none_more (is_fix (Series (series_of c)) tag) k ks q)
          ∙ assoc (Some (fix_of k)) (last_fix (Study (study_of c)) tag ks)
          (greatest_of fix_cmp (last_fix (Patient (patient_of c)) tag ks) (last_fix (Series (series_of c)) tag ks)))

      at_patient : corrects c tag k ≡ true → (is_fix (Study (study_of c)) tag k) ≡ false
          → (is_fix (Patient (patient_of c)) tag k) ≡ true → (is_fix (Series (series_of c)) tag k) ≡ false
          → last (corrects c tag) (k ∷ ks) ≡ of_three (k ∷ ks)
      at_patient one s p q =
          more (corrects c tag) k ks one ∙ ap (greatest_of fix_cmp (Some (fix_of k))) rest
          ∙ sym (
          ap (λ x. greatest_of fix_cmp x (greatest_of fix_cmp (last_fix (Patient (patient_of c)) tag (k ∷ ks))
          (last_fix (Series (series_of c)) tag (k ∷ ks)))) (none_more (is_fix (Study (study_of c)) tag) k ks s)
          ∙ ap (λ x. greatest_of fix_cmp (last_fix (Study (study_of c)) tag ks)
          (greatest_of fix_cmp x (last_fix (Series (series_of c)) tag (k ∷ ks))))
          (more (is_fix (Patient (patient_of c)) tag) k ks p)
          ∙ ap (λ x. greatest_of fix_cmp (last_fix (Study (study_of c)) tag ks)
          (greatest_of fix_cmp (greatest_of fix_cmp (Some (fix_of k)) (last_fix (Patient (patient_of c)) tag ks)) x))
          (none_more (is_fix (Series (series_of c)) tag) k ks q)
          ∙ second_of (Some (fix_of k)) (last_fix (Study (study_of c)) tag ks) (last_fix (Patient (patient_of c)) tag
          ks) (last_fix (Series (series_of c)) tag ks))

      at_series : corrects c tag k ≡ true → (is_fix (Study (study_of c)) tag k) ≡ false
          → (is_fix (Patient (patient_of c)) tag k) ≡ false → (is_fix (Series (series_of c)) tag k) ≡ true
          → last (corrects c tag) (k ∷ ks) ≡ of_three (k ∷ ks)
      at_series one s p q =
          more (corrects c tag) k ks one ∙ ap (greatest_of fix_cmp (Some (fix_of k))) rest
          ∙ sym (
          ap (λ x. greatest_of fix_cmp x (greatest_of fix_cmp (last_fix (Patient (patient_of c)) tag (k ∷ ks))
          (last_fix (Series (series_of c)) tag (k ∷ ks)))) (none_more (is_fix (Study (study_of c)) tag) k ks s)
          ∙ ap (λ x. greatest_of fix_cmp (last_fix (Study (study_of c)) tag ks)
          (greatest_of fix_cmp x (last_fix (Series (series_of c)) tag (k ∷ ks))))
          (none_more (is_fix (Patient (patient_of c)) tag) k ks p)
          ∙ ap (λ x. greatest_of fix_cmp (last_fix (Study (study_of c)) tag ks)
          (greatest_of fix_cmp (last_fix (Patient (patient_of c)) tag ks) x)) (more (is_fix (Series (series_of c)) tag)
          k ks q)
          ∙ third_of (Some (fix_of k)) (last_fix (Study (study_of c)) tag ks) (last_fix (Patient (patient_of c)) tag ks)
          (last_fix (Series (series_of c)) tag ks))

      -- the tests, at the target and the tag of the correction
      asks : (target : Target) (b : Bool) → k.target ≡ target → (k.tag == tag) ≡ b
          → corrects c tag k ≡ (b && is_target_of c target)
      asks target b t e = ap (λ x. x && is_target_of c k.target) e ∙ ap (λ x. b && is_target_of c x) t

      asks_fix : (mine target : Target) (b : Bool) → k.target ≡ target → (k.tag == tag) ≡ b
          → is_fix mine tag k ≡ (b && is_same_target target mine)
      asks_fix mine target b t e = ap (λ x. x && is_same_target k.target mine) e ∙ ap (λ x. b && is_same_target x mine)
          t

      by : (target : Target) → k.target ≡ target → (b : Bool) → (k.tag == tag) ≡ b → last (corrects c tag)
          (k ∷ ks) ≡ of_three (k ∷ ks)
      by target t false e = none (asks target false t e) (asks_fix (Study (study_of c)) target false t e)
          (asks_fix (Patient (patient_of c)) target false t e) (asks_fix (Series (series_of c)) target false t e)
      by (Study key) t true e = chosen (same key (study_of c)) refl
        where
          chosen : (b : Bool) → same key (study_of c) ≡ b → last (corrects c tag) (k ∷ ks) ≡ of_three (k ∷ ks)
          chosen true h = at_study (asks (Study key) true t e ∙ same_turned (study_of c) key ∙ h)
              (asks_fix (Study (study_of c)) (Study key) true t e ∙ h) (asks_fix (Patient (patient_of c)) (Study key)
              true t e) (asks_fix (Series (series_of c)) (Study key) true t e)
          chosen false h = none (asks (Study key) true t e ∙ same_turned (study_of c) key ∙ h)
              (asks_fix (Study (study_of c)) (Study key) true t e ∙ h) (asks_fix (Patient (patient_of c)) (Study key)
              true t e) (asks_fix (Series (series_of c)) (Study key) true t e)
      by (Patient key) t true e = chosen (same key (patient_of c)) refl
        where
          chosen : (b : Bool) → same key (patient_of c) ≡ b → last (corrects c tag) (k ∷ ks) ≡ of_three (k ∷ ks)
          chosen true h = at_patient (asks (Patient key) true t e ∙ same_turned (patient_of c) key ∙ h)
              (asks_fix (Study (study_of c)) (Patient key) true t e) (asks_fix (Patient (patient_of c)) (Patient key)
              true t e ∙ h) (asks_fix (Series (series_of c)) (Patient key) true t e)
          chosen false h = none (asks (Patient key) true t e ∙ same_turned (patient_of c) key ∙ h)
              (asks_fix (Study (study_of c)) (Patient key) true t e) (asks_fix (Patient (patient_of c)) (Patient key)
              true t e ∙ h) (asks_fix (Series (series_of c)) (Patient key) true t e)
      by (Series key) t true e = chosen (same key (series_of c)) refl
        where
          chosen : (b : Bool) → same key (series_of c) ≡ b → last (corrects c tag) (k ∷ ks) ≡ of_three (k ∷ ks)
          chosen true h = at_series (asks (Series key) true t e ∙ same_turned (series_of c) key ∙ h)
              (asks_fix (Study (study_of c)) (Series key) true t e) (asks_fix (Patient (patient_of c)) (Series key) true
              t e) (asks_fix (Series (series_of c)) (Series key) true t e ∙ h)
          chosen false h = none (asks (Series key) true t e ∙ same_turned (series_of c) key ∙ h)
              (asks_fix (Study (study_of c)) (Series key) true t e) (asks_fix (Patient (patient_of c)) (Series key) true
              t e) (asks_fix (Series (series_of c)) (Series key) true t e ∙ h)

  three : (ks : List CorrectionParts) → last (corrects c tag) ks ≡ of_three ks
  three [] = refl
  three (k ∷ ks) = three_more k ks (three ks)

-- ---- corrections of a set

correction_is : (o : Op) (k : CorrectionParts) → correction_in o ≡ Some k → o ≡ a_correction k
correction_is (a_content c) k e = absurd cc
correction_is (a_correction x) k e = ap a_correction (let s : x ≡ k = cc in s)

pub lawful_of : (ops : List Op) → AreLawful ops → (k : CorrectionParts) → Has (corrections ops) k
    → IsTrue (is_correction k)
lawful_of ops all k h =
    let at = filter_map_has correction_in ops k h in
    subst IsLawful (correction_is at.0 k at.2) (all at.0 at.1)

same_key_of : (mine yours : Target) → is_same_target mine yours ≡ true → key_of mine ≡ key_of yours
same_key_of (Study a) (Study b) e = same_is a b e
same_key_of (Patient a) (Patient b) e = same_is a b e
same_key_of (Series a) (Series b) e = same_is a b e
same_key_of (Study a) (Patient b) e = absurd (false≢true e)
same_key_of (Study a) (Series b) e = absurd (false≢true e)
same_key_of (Patient a) (Study b) e = absurd (false≢true e)
same_key_of (Patient a) (Series b) e = absurd (false≢true e)
same_key_of (Series a) (Study b) e = absurd (false≢true e)
same_key_of (Series a) (Patient b) e = absurd (false≢true e)

pub le_test : (a b : ℕ) → a ≤ b → nat_le a b ≡ true
le_test a b h = search rules

-- a correction's key has at most 64 bytes
short_key : (k : CorrectionParts) → IsTrue (is_correction k) → is_short (key_of k.target) ≡ true
unfolding is_correction
short_key k lawful = le_test (length (key_of k.target))
    64 (key_short k.target (both _ _ (both _ _ (both _ _ (both _ _ lawful).0).0).0).0)

-- and its tag is one for its target
pub tag_is_for : (k : CorrectionParts) → IsTrue (is_correction k) → is_tag_for k.target k.tag ≡ true
unfolding is_correction
tag_is_for k lawful = (both _ _ (both _ _ (both _ _ (both _ _ lawful).0).0).0).1

-- of a key of more than 64 bytes there is no correction
none_long : (target : Target) (tag : ℕ) (ks : List CorrectionParts)
    → ((k : CorrectionParts) → Has ks k → IsTrue (is_correction k)) → is_short (key_of target) ≡ false
    → last_fix target tag ks ≡ None
none_long target tag [] all long = refl
none_long target tag (k ∷ ks) all long = none_more (is_fix target tag) k ks (by (is_fix target tag k) refl)
    ∙ none_long target tag ks (λ x h. all x (inr h)) long
  where
    by : (b : Bool) → is_fix target tag k ≡ b → b ≡ false
    by true e = absurd (false≢true (sym long
        ∙ ap is_short (sym (same_key_of k.target target (and_second (k.tag == tag) _ e)))
        ∙ short_key k (all k (inl refl))))
    by false e = refl

module _ (ops : List Op) (index : IndexValue) (is : IsIndexOf ops index) (lawful : AreLawful ops) where
  short_is : (target : Target) (tag : ℕ) → short_fix_at (fix_key target tag) index.fixes ≡ last_fix target
      tag (corrections ops)
  short_is target tag = by (is_short (key_of target)) refl
    where
      by : (b : Bool) → is_short (key_of target) ≡ b → (if b then fix_at (fix_key target tag) index.fixes else None)
          ≡ last_fix target tag (corrections ops)
      by true e = is.fixes target tag
      by false e = sym (none_long target tag (corrections ops) (lawful_of ops lawful) e)

  -- what is looked up is the correction that counts
  pub latest_is : (c : ContentParts) (tag : ℕ) → latest_at c tag index.fixes ≡ option_map
      fix_of (correction_for ops c tag)
  latest_is c tag =
      ap (λ x. greatest_of fix_cmp x (greatest_of fix_cmp (short_fix_at (fix_key (Patient (patient_of c)) tag)
      index.fixes) (short_fix_at (fix_key (Series (series_of c)) tag) index.fixes)))
      (short_is (Study (study_of c)) tag)
      ∙ ap (λ x. greatest_of fix_cmp (last_fix (Study (study_of c)) tag (corrections ops))
      (greatest_of fix_cmp x (short_fix_at (fix_key (Series (series_of c)) tag) index.fixes)))
      (short_is (Patient (patient_of c)) tag)
      ∙ ap (λ x. greatest_of fix_cmp (last_fix (Study (study_of c)) tag (corrections ops))
      (greatest_of fix_cmp (last_fix (Patient (patient_of c)) tag (corrections ops)) x))
      (short_is (Series (series_of c)) tag)
      ∙ sym (three c tag (corrections ops))

-- ---- attributes that no correction is for

tags_are : (a b : ℕ) → (a == b) ≡ true → a ≡ b
tags_are a b e = eqb-true a b e

none_for : (c : ContentParts) (tag : ℕ) (ks : List CorrectionParts)
    → ((k : CorrectionParts) → Has ks k → IsTrue (is_correction k)) → is_corrected tag ≡ false → filter (corrects c tag)
    ks ≡ []
none_for c tag [] all other = refl
none_for c tag (k ∷ ks) all other =
    ap (λ b. cond b (k ∷ filter (corrects c tag) ks) (filter (corrects c tag) ks)) (by (k.tag == tag) refl)
    ∙ none_for c tag ks (λ x h. all x (inr h)) other
  where
    by : (b : Bool) → (k.tag == tag) ≡ b → (b && is_target_of c k.target) ≡ false
    by true e = absurd (false≢true (sym other ∙ ap is_corrected (sym (tags_are k.tag tag e)) ∙ tag_corrected k.target
        k.tag (tag_is_for k (all k (inl refl)))))
    by false e = refl

-- a set of lawful operations has no correction of an attribute that no correction is for
pub not_corrected : (ops : List Op) → AreLawful ops → (c : ContentParts) (tag : ℕ) → is_corrected tag ≡ false
    → correction_for ops c tag ≡ None
not_corrected ops lawful c tag other = ap greatest (none_for c tag (corrections ops) (lawful_of ops lawful) other)
