-- The leads are enough: where a walk passes what leads from the value of an attribute of a content, it comes to the
-- content's study, whatever is picked or hidden.
use Rattle.std.proofs.Common.{◌≡◌, ℕ, Bool, true, false, List, [], ◌∷◌, map, take, Option, Some, None, inl, inr}
use Rattle.std.proofs.Common.{refl, sym, ap, subst, ◌∙◌}
use Rattle.std.specs.Prelude.{◌&&◌, ◌==◌, not}
use Rattle.std.proofs.lemmas.Bool.{eqb-true, false≢true, and_parts as both, or_left as first_of}
use Rattle.std.specs.List.{filter}
use Rattle.std.specs.Ordering.{is_eq, is_le, ordering_then}
use Rattle.std.specs.declared.cmp.Ordering.TheVariants.{Less, Equal, Greater}
use Rattle.std.specs.Cmp.Lexicographic.{nat_list_cmp_total}
use Rattle.std.specs.BTreeMap.{is_at}
use Rattle.std.proofs.lemmas.Cmp.{tied_itself, nat_cmp_total}
use Rattle.dictionary.specs.declared.elements.TheConstants.{PATIENT_ID, SERIES_DESCRIPTION}
use Rattle.operation.specs.declared.op.Op.{Op}
use Rattle.operation.specs.declared.op.Op.TheVariants.{Content as a_content, Correction as a_correction}
use Rattle.operation.specs.declared.target.Target.{Target}
use Rattle.operation.specs.declared.target.Target.TheVariants.{Study, Patient, Series}
use Rattle.operation.specs.Corrections.{is_tag_for}
use Rattle.operation.proofs.TagLaws.{series_tag}
use Rattle.operation.specs.Parts.{ContentParts, CorrectionParts, own_value}
use Rattle.octets.specs.Members.{Has}
use Rattle.octets.specs.Texts.{text_cmp}
use Rattle.archive_model.specs.Contents.{contents, study_of, patient_of}
use Rattle.archive_model.specs.Attributes.{attribute, corrected, corrections, corrects, correction_for, correction_in}
use Rattle.archive_model.specs.Attributes.{is_last, is_target_of}
use Rattle.archive_model.proofs.MemberLaws.{has_filter, filter_has, has_any, any_has, has_map, found_has}
use Rattle.archive_model.proofs.MemberLaws.{filter_map_has}
use Rattle.archive_model.proofs.ModelLaws.{same_is, content_has}
use Rattle.join_laws.specs.Proved.Sets.{has-union}
use Rattle.study_index.specs.Keys.{has}
use Rattle.study_index.specs.Live.{Text}
use Rattle.study_index.proofs.KeyLaws.{at_itself, same_key}
use Rattle.study_index.specs.Index.{IndexValue}
use Rattle.study_index.specs.Definition.{IsIndexOf, AreLawful}
use Rattle.study_index.specs.Leads.{Lead, a_lead, lead_cmp, led_tags, led_byte, as_led, stored_lead, given_leads}
use Rattle.study_index.specs.Leads.{leads_of}
use Rattle.study_index.specs.Leads.{is_between, home_front, home_end, is_key, is_homed, leads_to, is_led, IsWithin}
use Rattle.study_index.specs.Leads.{value_front, value_end}
use Rattle.study_index.specs.Proved.Leads.{lead_total, lead_exact}
use Rattle.study_index.proofs.Corrected.{lawful_of, tag_is_for}
use Rattle.archive_query.specs.Leads.{is_led_tag}

itself : (t : Text) → text_cmp t t ≡ Equal
itself t = tied_itself nat_list_cmp_total t

lead_itself : (p : Lead) → is_at (lead_cmp p) p ≡ true
lead_itself p = at_itself lead_total p

listed : (leads : List Lead) (p : Lead) → has lead_cmp leads p ≡ true → Has leads p
listed leads p h =
    let at = any_has (is_at (lead_cmp p)) leads h in
    subst (Has leads) (sym (same_key lead_exact p at.0 at.2)) at.1

pub le_none : (t : Text) → is_le (text_cmp [] t) ≡ true
le_none [] = refl
le_none (x ∷ xs) = refl

between_homes : (patient s : Text) → is_between (home_front patient) (home_end patient) (a_lead PATIENT_ID patient 1 s)
    ≡ true
between_homes patient s =
    ap (λ o. is_le (ordering_then o (text_cmp [] s)) && not (is_le (ordering_then o Greater))) (itself patient)
    ∙ ap (λ b. b && true) (le_none s)

pub all_kept : (text : Text) → map (led_byte false) text ≡ text
all_kept [] = refl
all_kept (t ∷ text) = ap (λ (ts : Text). t ∷ ts) (all_kept text)

correction_is : (o : Op) (k : CorrectionParts) → correction_in o ≡ Some k → o ≡ a_correction k
correction_is (a_content c) k e = absurd cc
correction_is (a_correction x) k e = ap a_correction (let s : x ≡ k = cc in s)

correction_has : (ops : List Op) (k : CorrectionParts) → Has (corrections ops) k → Has ops (a_correction k)
correction_has ops k h =
    let at = filter_map_has correction_in ops k h in
    subst (Has ops) (correction_is at.0 k at.2) at.1

-- a content leads from its value of each of the tags
has_own : (c : ContentParts) (tag : ℕ) → is_led_tag tag ≡ true → has lead_cmp (leads_of (a_content c)) (stored_lead
    c tag) ≡ true
has_own c tag t =
    let at = any_has (λ one. one == tag) led_tags t in
    let tie : at.0 ≡ tag = eqb-true at.0 tag at.2 in
    has-union lead_total lead_exact (stored_lead c tag) (map (stored_lead c) led_tags) []
    ∙ has_any (is_at (lead_cmp (stored_lead c tag))) (map (stored_lead c) led_tags) (stored_lead c tag)
    (has_map (stored_lead c) led_tags tag (subst (Has led_tags) tie at.1)) (lead_itself (stored_lead c tag))

module _ (ops : List Op) (index : IndexValue) (is : IsIndexOf ops index) where
  abbrev leads : List Lead
  leads = index.leads

  stored : (c : ContentParts) → Has (contents ops) c → (tag : ℕ) → is_led_tag tag ≡ true
      → has lead_cmp leads (stored_lead c tag) ≡ true
  stored c h tag t =
      is.leads (stored_lead c tag)
      ∙ has_any (λ op. has lead_cmp (leads_of op) (stored_lead c tag)) ops (a_content c) (content_has ops c h)
      (has_own c tag t)

  given : (k : CorrectionParts) → Has (corrections ops) k → (lead : Lead)
      → has lead_cmp (given_leads k.target k.tag k.value) lead ≡ true → has lead_cmp leads lead ≡ true
  given k h lead e =
      is.leads lead
      ∙ has_any (λ op. has lead_cmp (leads_of op) lead) ops (a_correction k) (correction_has ops k h) e

  -- a content's study is among those of its stored patient ID
  homed : (c : ContentParts) → Has (contents ops) c → is_homed leads (take 64 (study_of c)) (take 64 (patient_of c)) ≡ true
  homed c h =
      let home = stored_lead c PATIENT_ID in
      let same_home : home ≡ a_lead PATIENT_ID (take 64 (patient_of c)) 1 (take 64 (study_of c)) =
      ap (λ (t : Text). a_lead PATIENT_ID t 1 (take 64 (study_of c))) (all_kept (take 64 (patient_of c))) in
      let patient = take 64 (patient_of c) in
      has_any (is_key (take 64 (study_of c))) (filter (is_between (home_front patient) (home_end patient)) leads) home
      (has_filter (is_between (home_front patient) (home_end patient)) leads home
      (listed leads home (stored c h PATIENT_ID refl))
      (ap (is_between (home_front patient) (home_end patient)) same_home ∙ between_homes patient (take 64 (study_of c))))
      (ap is_eq (itself (take 64 (study_of c))))

  module _ (lawful : AreLawful ops) (passes : Lead → Bool) where
    -- what leads to a study, in the walk, makes it a candidate
    led : (s : Text) (lead : Lead) → has lead_cmp leads lead ≡ true → passes lead ≡ true
        → leads_to leads s lead ≡ true → is_led passes leads s ≡ true
    led s lead h b t = has_any (leads_to leads s) (filter passes leads) lead
        (has_filter passes leads lead (listed leads lead h) b) t

    by_target : (tag : ℕ) → is_led_tag tag ≡ true → (c : ContentParts) → Has (contents ops) c → (k : CorrectionParts)
        → Has (corrections ops) k → k.tag ≡ tag → IsWithin passes tag k.value → (target : Target) → k.target ≡ target
        → is_target_of c target ≡ true → is_led passes leads (take 64 (study_of c)) ≡ true
    by_target tag t c h k kh same_tag within (Study key) e to =
        let lead : Lead = a_lead tag (as_led tag k.value) 1 (take 64 key) in
        led (take 64 (study_of c)) lead
        (given k kh lead (ap (λ (x : Target). has lead_cmp (given_leads x k.tag k.value) lead) e
        ∙ ap (λ n. has lead_cmp (given_leads (Study key) n k.value) lead) same_tag
        ∙ first_of (is_at (lead_cmp lead) lead) false (lead_itself lead)))
        (within 1 (take 64 key) (inl refl))
        (ap (λ (x : Text). is_at (text_cmp (take 64 (study_of c))) (take 64 x)) (sym (same_is (study_of c) key to))
        ∙ ap is_eq (itself (take 64 (study_of c))))
    by_target tag t c h k kh same_tag within (Patient key) e to =
        let lead : Lead = a_lead tag (as_led tag k.value) 2 (take 64 key) in
        led (take 64 (study_of c)) lead
        (given k kh lead (ap (λ (x : Target). has lead_cmp (given_leads x k.tag k.value) lead) e
        ∙ ap (λ n. has lead_cmp (given_leads (Patient key) n k.value) lead) same_tag
        ∙ first_of (is_at (lead_cmp lead) lead) false (lead_itself lead)))
        (within 2 (take 64 key) (inr refl))
        (ap (λ (x : Text). is_homed leads (take 64 (study_of c)) (take 64 x)) (sym (same_is (patient_of c) key to))
        ∙ homed c h)
    by_target tag t c h k kh same_tag within (Series key) e to =
        let for_it = ap (λ (x : Target). is_tag_for x k.tag) (sym e) ∙ tag_is_for k (lawful_of ops lawful k kh) in
        let tie : tag ≡ SERIES_DESCRIPTION = sym same_tag ∙ series_tag key k.tag for_it in
        absurd (false≢true (ap is_led_tag (sym tie) ∙ t))

    enough_by : (tag : ℕ) → is_led_tag tag ≡ true → (c : ContentParts) → Has (contents ops) c
        → (r : Option CorrectionParts) → correction_for ops c tag ≡ r → IsWithin passes tag (corrected (own_value c tag) r)
        → is_led passes leads (take 64 (study_of c)) ≡ true
    enough_by tag t c h None e within = led (take 64 (study_of c)) (stored_lead c tag) (stored c h tag t)
        (within 1 (take 64 (study_of c)) (inl refl)) (ap is_eq (itself (take 64 (study_of c))))
    enough_by tag t c h (Some k) e within =
        let mine = filter (corrects c tag) (corrections ops) in
        let found = found_has (is_last mine) mine k e in
        let one = filter_has (corrects c tag) (corrections ops) k found.0 in
        let parts = both (k.tag == tag) (is_target_of c k.target) one.1 in
        by_target tag t c h k one.0 (eqb-true k.tag tag parts.0) within k.target refl parts.1

    -- whatever is picked or hidden
    pub leads_enough : (tag : ℕ) → is_led_tag tag ≡ true → (c : ContentParts) → Has (contents ops) c
        → IsWithin passes tag (attribute ops c tag) → is_led passes leads (take 64 (study_of c)) ≡ true
    leads_enough tag t c h within = enough_by tag t c h (correction_for ops c tag) refl within

-- ---- what stands between

-- whatever leads from a value stands between its front and its end
pub value_within : (tag : ℕ) (value text : Text) → as_led tag value ≡ text
    → IsWithin (is_between (value_front tag text) (value_end tag text)) tag value
value_within tag value text e kind k (inl one) =
    ap (λ n. is_between (value_front tag text) (value_end tag text) (a_lead tag (as_led tag value) n k)) one
    ∙ ap (λ (v : Text). is_between (value_front tag text) (value_end tag text) (a_lead tag v 1 k)) e
    ∙ ap (λ o. is_le (ordering_then o (ordering_then (text_cmp text text) Less)) &&
    not (is_le (ordering_then o (ordering_then (text_cmp text text) Greater)))) (tied_itself nat_cmp_total tag)
    ∙ ap (λ o. is_le (ordering_then o Less) && not (is_le (ordering_then o Greater))) (itself text)
value_within tag value text e kind k (inr two) =
    ap (λ n. is_between (value_front tag text) (value_end tag text) (a_lead tag (as_led tag value) n k)) two
    ∙ ap (λ (v : Text). is_between (value_front tag text) (value_end tag text) (a_lead tag v 2 k)) e
    ∙ ap (λ o. is_le (ordering_then o (ordering_then (text_cmp text text) Less)) &&
    not (is_le (ordering_then o (ordering_then (text_cmp text text) Greater)))) (tied_itself nat_cmp_total tag)
    ∙ ap (λ o. is_le (ordering_then o Less) && not (is_le (ordering_then o Greater))) (itself text)
