-- Where the dates of a range stand.
use Rattle.std.proofs.Common.{◌≡◌, ℕ, ◌<◌, Bool, true, false, [], ◌++◌, map, take, length, refl, sym, ap, ◌∙◌}
use Rattle.std.proofs.Common.{inl, inr, ◌⊎◌, arith}
use Rattle.std.specs.Prelude.{◌&&◌, ◌||◌, ◌==◌, not}
use Rattle.std.proofs.lemmas.Bool.{eqb-true, false≢true, and_parts as both, and_from as both_true, not-true as not_true}
use Rattle.std.proofs.lemmas.List.{take_all, nil_from_length as nothing}
use Rattle.std.specs.Cmp.{nat_cmp_is}
use Rattle.std.proofs.lemmas.Cmp.{tied_itself, nat_cmp_total}
use Rattle.std.specs.Ordering.{nat_cmp, is_le, ordering_then}
use Rattle.std.specs.declared.cmp.Ordering.{Ordering}
use Rattle.std.specs.declared.cmp.Ordering.TheVariants.{Less, Equal, Greater}
use Rattle.octets.specs.Texts.{text_cmp}
use Rattle.dictionary.specs.declared.role.Matching.{Matching}
use Rattle.dictionary.specs.declared.role.Matching.TheVariants.{Dates, Times, WildCard, Name, Uids, Single}
use Rattle.dictionary.specs.declared.role.Matching.TheVariants.{Answered}
use Rattle.key_matching.specs.declared.range.Moment.TheVariants.{Date}
use Rattle.key_matching.specs.Matches.{is_match_by}
use Rattle.key_matching.specs.Range.{are_digits, is_date, is_from, is_until, is_in_range, is_no_later, is_open}
use Rattle.key_matching.specs.Range.{first_end, last_end}
use Rattle.study_index.specs.Live.{Text}
use Rattle.study_index.specs.Leads.{Lead, a_lead, lead_cmp, led_byte, is_folded, as_led, is_between, value_front}
use Rattle.study_index.specs.Leads.{IsWithin, IsBehind, LeadWalk, is_walked, may_have}
use Rattle.archive_query.specs.Leads.{is_dates, IsUpTo}
use Rattle.archive_query.proofs.LeadEnough.{all_kept, le_none}
use Rattle.archive_query.proofs.TextLeads.{kind_after, before_end, walked, none_stands}

either : {P : Type 0} (a b : Bool) → (a || b) ≡ true → (a ≡ true → P) → (b ≡ true → P) → P
either true b e f g = f refl
either false b e f g = g e

eight : (t : Text) → is_date t ≡ true → length t ≡ 8
eight t e = eqb-true (length t) 8 (both (length t == 8) (are_digits t) e).0

known : (t : Text) → is_date t ≡ true → take 64 t ≡ t
known t e = take_all 64 t (omega (arith, eight t e))

led_is : (tag : ℕ) (value : Text) → is_folded tag ≡ false → is_date value ≡ true → as_led tag value ≡ value
led_is tag value kept date = ap (λ b. map (led_byte b) (take 64 value)) kept ∙ all_kept (take 64 value) ∙ known value date

le_then : (o p : Ordering) → is_le o ≡ true → p ≡ Less → is_le (ordering_then o p) ≡ true
le_then Less p l e = refl
le_then Equal p l e = ap is_le e
le_then Greater p l e = absurd (false≢true l)

less_then : (o p : Ordering) → is_le o ≡ true → p ≡ Less → ordering_then o p ≡ Less
less_then Less p l e = refl
less_then Equal p l e = e
less_then Greater p l e = absurd (false≢true l)

-- the first end is no later than a value in the range
first_first : (first value : Text) → is_from Date first value ≡ true → is_le (text_cmp (take 64 first) value) ≡ true
first_first first value e = either (is_open first) (is_date first && is_no_later Date first value) e
    (λ none. ap (λ (t : Text). is_le (text_cmp (take 64 t) value))
    (nothing first (eqb-true (length first) 0 none)) ∙ le_none value)
    (λ h. let parts = both (is_date first) (is_no_later Date first value) h in
    ap (λ (t : Text). is_le (text_cmp t value)) (known first parts.0) ∙ parts.1)

front_before : (tag : ℕ) (first value : Text) → is_from Date first value ≡ true → (kind : ℕ) (key : Text)
    → (kind ≡ 1) ⊎ (kind ≡ 2)
    → is_le (lead_cmp (value_front tag (take 64 first)) (a_lead tag value kind key)) ≡ true
front_before tag first value e kind key which =
    ap (λ o. is_le (ordering_then o (ordering_then (text_cmp (take 64 first) value) (ordering_then (nat_cmp 0 kind)
    (text_cmp [] key))))) (tied_itself nat_cmp_total tag)
    ∙ le_then (text_cmp (take 64 first) value) (ordering_then (nat_cmp 0 kind) (text_cmp [] key))
    (first_first first value e) (kind_after kind key which)

-- ---- the last end

pub up_given : (tag : ℕ) (last : Text) (end : Lead) → (length last ≡ 0 → ⊥) → end ≡ a_lead tag (take 64 last) 3 []
    → IsUpTo tag last end
up_given tag last end some is value kind key until below =
    ap (lead_cmp (a_lead tag value kind key)) is
    ∙ ap (λ o. ordering_then o (ordering_then (text_cmp value (take 64 last)) (ordering_then (nat_cmp kind 3)
    (text_cmp key [])))) (tied_itself nat_cmp_total tag)
    ∙ less_then (text_cmp value (take 64 last)) (ordering_then (nat_cmp kind 3) (text_cmp key [])) no_later
    (ap (λ o. ordering_then o (text_cmp key [])) (sym (nat_cmp_is kind 3 Less below)))
  where
    no_later : is_le (text_cmp value (take 64 last)) ≡ true
    no_later = either (is_open last) (is_date last && is_no_later Date value last) until
        (λ none. absurd (some (eqb-true (length last) 0 none)))
        (λ h. let parts = both (is_date last) (is_no_later Date value last) h in
        ap (λ (t : Text). is_le (text_cmp value t)) (known last parts.0) ∙ parts.1)

pub up_open : (tag : ℕ) (last text : Text) (end : Lead) → text ≡ [] → IsBehind tag text end → IsUpTo tag last end
up_open tag last text end none behind value kind key until below =
    ap (λ (t : Text). lead_cmp (a_lead tag (t ++ value) kind key) end) (sym none) ∙ behind value kind key

-- ---- both

pub dates_within : (tag : ℕ) (key first last : Text) (walk : LeadWalk) → is_folded tag ≡ false
    → first ≡ first_end key → last ≡ last_end key → walk.front ≡ value_front tag (take 64 first)
    → IsUpTo tag last walk.end → walk.needle ≡ [] → (value : Text) → is_in_range Date key value ≡ true
    → IsWithin (is_walked walk) tag value
dates_within tag key first last walk kept is_first is_last front up none value e =
    let date_and = both (is_date value) (is_from Date (first_end key) value && is_until Date (last_end key) value)
    (grouped e) in
    let ends = both (is_from Date (first_end key) value) (is_until Date (last_end key) value) date_and.1 in
    let from = ap (λ (t : Text). is_from Date t value) is_first ∙ ends.0 in
    let until = ap (λ (t : Text). is_until Date t value) is_last ∙ ends.1 in
    let same = led_is tag value kept date_and.0 in
    walked walk tag value
    (λ kind k which. ap (λ (t : Text). is_between walk.front walk.end (a_lead tag t kind k)) same
    ∙ both_true (is_le (lead_cmp walk.front (a_lead tag value kind k)))
    (not (is_le (lead_cmp walk.end (a_lead tag value kind k))))
    (ap (λ (l : Lead). is_le (lead_cmp l (a_lead tag value kind k))) front
    ∙ front_before tag first value from kind k which)
    (before_end (a_lead tag value kind k) walk.end (up value kind k until (small kind which))))
    (ap (λ (n : Text). may_have n (as_led tag value)) none ∙ none_stands (as_led tag value))
  where
    grouped : is_in_range Date key value ≡ true → (is_date value && (is_from Date (first_end key) value && is_until
        Date (last_end key) value)) ≡ true
    grouped h = by (is_date value) h
      where
        by : (b : Bool) → (b && is_from Date (first_end key) value && is_until Date (last_end key) value) ≡ true
            → (b && (is_from Date (first_end key) value && is_until Date (last_end key) value)) ≡ true
        by true g = g
        by false g = g

    small : (kind : ℕ) → (kind ≡ 1) ⊎ (kind ≡ 2) → kind < 3
    small kind (inl one) = omega (arith, one)
    small kind (inr two) = omega (arith, two)

pub dates_as : (m : Matching) (tag : ℕ) (key value : Text) → is_dates m tag ≡ true → is_match_by m key value ≡ true
    → is_in_range Date key value ≡ true
dates_as Dates tag key value d e = e
dates_as Times tag key value d e = absurd (false≢true d)
dates_as WildCard tag key value d e = absurd (false≢true d)
dates_as Name tag key value d e = absurd (false≢true d)
dates_as Uids tag key value d e = absurd (false≢true d)
dates_as Single tag key value d e = absurd (false≢true d)
dates_as Answered tag key value d e = absurd (false≢true d)

pub dates_kept : (m : Matching) (tag : ℕ) → is_dates m tag ≡ true → is_folded tag ≡ false
dates_kept Dates tag d = not_true (is_folded tag) d
dates_kept Times tag d = absurd (false≢true d)
dates_kept WildCard tag d = absurd (false≢true d)
dates_kept Name tag d = absurd (false≢true d)
dates_kept Uids tag d = absurd (false≢true d)
dates_kept Single tag d = absurd (false≢true d)
dates_kept Answered tag d = absurd (false≢true d)
