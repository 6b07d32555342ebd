-- Where the values stand that a key with wild cards matches.
use Rattle.std.proofs.Common.{◌≡◌, ℕ, zero, suc, Bool, true, false, [], ◌∷◌, ◌++◌, map, take, drop, length}
use Rattle.std.proofs.Common.{refl, sym, ap, subst, ◌∙◌, inl, inr, ◌⊎◌, arith}
use Rattle.std.specs.Prelude.{◌&&◌, ◌||◌, ◌==◌, not, nat_le, if◌then◌else◌}
use Rattle.std.proofs.lemmas.Bool.{eqb-true, false≢true, leb-true, leb-false, and_parts as both, and_from as both_true}
use Rattle.std.proofs.lemmas.List.{take_all, take-append-drop, length-map, length-take-le, append_assoc}
use Rattle.std.proofs.lemmas.List.Folds.{list_all_more}
use Rattle.std.proofs.Common.{get_or, ◌+◌, ◌<◌, ◌≤◌}
use Rattle.std.specs.List.{list_all}
use Rattle.std.specs.Char.{to_ascii_uppercase}
use Rattle.std.specs.Ordering.{nat_cmp, is_le, ordering_then, ordering_reverse}
use Rattle.std.specs.declared.cmp.Ordering.{Ordering}
use Rattle.std.specs.declared.cmp.Ordering.TheVariants.{Less}
use Rattle.std.proofs.lemmas.Cmp.{tied_itself, nat_cmp_total}
use Rattle.std.proofs.lemmas.Bool.{or_right as later, not-true as not_true}
use Rattle.octets.specs.Texts.{same, text_cmp}
use Rattle.archive_model.proofs.ModelLaws.{same_itself}
use Rattle.dictionary.specs.declared.role.Matching.{Matching}
use Rattle.dictionary.specs.declared.role.Matching.TheVariants.{Dates, Times, WildCard, Name, Uids, Single}
use Rattle.dictionary.specs.declared.role.Matching.TheVariants.{Answered}
use Rattle.key_matching.specs.Matches.{is_match_by}
use Rattle.key_matching.specs.WildCard.{star, question_mark, capital, folded, is_byte_match, is_wild_match}
use Rattle.study_index.specs.Live.{Text}
use Rattle.study_index.specs.Leads.{Lead, a_lead, lead_cmp, led_byte, is_folded, as_led, is_between, value_front}
use Rattle.study_index.specs.Leads.{value_end}
use Rattle.study_index.specs.Leads.{IsWithin, IsBehind, LeadWalk, is_walked, begins_with, has_run, may_have}
use Rattle.study_index.specs.Proved.Leads.{lead_total}
use Rattle.archive_query.specs.Leads.{is_plain, is_text_key, value_walk, IsFrontWalk, IsRunOf, IsNeedleOf}
use Rattle.archive_query.proofs.LeadEnough.{value_within}

-- a byte is folded alike for a match and for a lead
capital_is : (byte : ℕ) → capital byte ≡ to_ascii_uppercase byte
capital_is byte = grind (arith)

folded_is : (folds : Bool) (byte : ℕ) → folded folds byte ≡ led_byte folds byte
folded_is true byte = capital_is byte
folded_is false byte = refl

-- a byte of a key that is no wild card, and the byte that it matches
byte_is : (folds : Bool) (k v : ℕ) → is_plain k ≡ true → is_byte_match folds k v ≡ true
    → led_byte folds v ≡ led_byte folds k
byte_is folds k v plain e = sym (folded_is folds v)
    ∙ sym (eqb-true (folded folds k) (folded folds v) (by (k == question_mark) (not_true _ (both _ _ plain).1) e))
    ∙ folded_is folds k
  where
    by : (b : Bool) → b ≡ false → (b || folded folds k == folded folds v) ≡ true
        → (folded folds k == folded folds v) ≡ true
    by true off e = absurd (false≢true (sym off))
    by false off e = e

-- one byte of each, which is no `*`
one_byte : (folds : Bool) (k v : ℕ) (key value : Text) → is_plain k ≡ true
    → is_wild_match folds (k ∷ key) (v ∷ value) ≡ true
    → (led_byte folds v ≡ led_byte folds k) × (is_wild_match folds key value ≡ true)
one_byte folds k v key value plain e =
    let parts = both _ _ (by (k == star) (not_true _ (both _ _ plain).0) e) in
    (byte_is folds k v plain parts.0, parts.1)
  where
    by : (b : Bool) → b ≡ false
        → (if b then is_wild_match folds key (v ∷ value) || is_wild_match folds (k ∷ key) value
        else is_byte_match folds k v && is_wild_match folds key value) ≡ true
        → (is_byte_match folds k v && is_wild_match folds key value) ≡ true
    by true off e = absurd (false≢true (sym off))
    by false off e = e

-- a byte that is no wild card matches no empty value
no_byte : (folds : Bool) (k : ℕ) (key : Text) → is_plain k ≡ true → is_wild_match folds (k ∷ key) [] ≡ false
no_byte folds k key plain = ap (λ b. b && is_wild_match folds key []) (not_true _ (both _ _ plain).0)

-- a value that a key without wild cards matches is the key, but for its case
whole_is : (folds : Bool) (m : ℕ) (key value : Text) → list_all is_plain key ≡ true
    → is_wild_match folds key value ≡ true → map (led_byte folds) (take m value) ≡ map (led_byte folds) (take m key)
whole_is folds zero key value plain e = refl
whole_is folds (suc m) [] [] plain e = refl
whole_is folds (suc m) [] (v ∷ value) plain e = absurd (false≢true e)
whole_is folds (suc m) (k ∷ key) [] plain e =
    absurd (false≢true (sym (no_byte folds k key (both _ _ plain).0) ∙ e))
whole_is folds (suc m) (k ∷ key) (v ∷ value) plain e =
    let parts = both (is_plain k) (list_all is_plain key) plain in
    let one = one_byte folds k v key value parts.0 e in
    let more = whole_is folds m key value parts.1 one.1 in
    λ i. one.0 i ∷ more i

-- a value that a key matches begins with what stands before the key's first wild card
front_is : (folds : Bool) (m : ℕ) (front key value : Text) → list_all is_plain front ≡ true
    → is_wild_match folds (front ++ key) value ≡ true
    → (rest : Text) × (map (led_byte folds) (take m value) ≡ map (led_byte folds) (take m front) ++ rest)
front_is folds zero front key value plain e = ([], refl)
front_is folds (suc m) [] key value plain e = (map (led_byte folds) (take (suc m) value), refl)
front_is folds (suc m) (k ∷ front) key [] plain e =
    absurd (false≢true (sym (no_byte folds k (front ++ key) (both _ _ plain).0) ∙ e))
front_is folds (suc m) (k ∷ front) key (v ∷ value) plain e =
    let parts = both (is_plain k) (list_all is_plain front) plain in
    let one = one_byte folds k v (front ++ key) value parts.0 e in
    let more = front_is folds m front key value parts.1 one.1 in
    (more.0, λ i. one.0 i ∷ more.1 i)

-- ---- walks

le_front : (text rest : Text) (o : Ordering) → o ≡ Less → is_le (ordering_then (text_cmp text (text ++ rest)) o) ≡ true
le_front [] [] o l = ap is_le l
le_front [] (t ∷ rest) o l = refl
le_front (x ∷ text) rest o l =
    ap (λ p. is_le (ordering_then (ordering_then p (text_cmp text (text ++ rest))) o)) (tied_itself nat_cmp_total x)
    ∙ le_front text rest o l

pub kind_after : (kind : ℕ) (key : Text) → (kind ≡ 1) ⊎ (kind ≡ 2) → ordering_then (nat_cmp 0 kind) (text_cmp [] key) ≡ Less
kind_after kind key (inl one) = ap (λ n. ordering_then (nat_cmp 0 n) (text_cmp [] key)) one
kind_after kind key (inr two) = ap (λ n. ordering_then (nat_cmp 0 n) (text_cmp [] key)) two

pub before_end : (lead end : Lead) → lead_cmp lead end ≡ Less → not (is_le (lead_cmp end lead)) ≡ true
before_end lead end less = ap (λ o. not (is_le o)) (lead_total.antisymm end lead ∙ ap ordering_reverse less)

-- what begins with a text is between its front and what stands behind it
begins_within : (tag : ℕ) (value text rest : Text) (end : Lead) → as_led tag value ≡ text ++ rest → IsBehind tag text end
    → IsWithin (is_between (value_front tag text) end) tag value
begins_within tag value text rest end e behind kind key which =
    ap (λ (v : Text). is_between (value_front tag text) end (a_lead tag v kind key)) e
    ∙ both_true (is_le (lead_cmp (value_front tag text) (a_lead tag (text ++ rest) kind key)))
    (not (is_le (lead_cmp end (a_lead tag (text ++ rest) kind key))))
    (ap (λ o. is_le (ordering_then o (ordering_then (text_cmp text (text ++ rest)) (ordering_then (nat_cmp 0 kind)
    (text_cmp [] key))))) (tied_itself nat_cmp_total tag)
    ∙ le_front text rest (ordering_then (nat_cmp 0 kind) (text_cmp [] key)) (kind_after kind key which))
    (before_end (a_lead tag (text ++ rest) kind key) end (behind rest kind key))

-- ---- needles

plain_front : (folds : Bool) (run back value : Text) → list_all is_plain run ≡ true
    → is_wild_match folds (run ++ back) value ≡ true
    → take (length (map (led_byte folds) run)) (map (led_byte folds) value) ≡ map (led_byte folds) run
plain_front folds [] back value plain e = refl
plain_front folds (k ∷ run) back [] plain e =
    absurd (false≢true (sym (no_byte folds k (run ++ back) (both _ _ plain).0) ∙ e))
plain_front folds (k ∷ run) back (v ∷ value) plain e =
    let parts = both (is_plain k) (list_all is_plain run) plain in
    let one = one_byte folds k v (run ++ back) value parts.0 e in
    let more = plain_front folds run back value parts.1 one.1 in
    λ i. one.0 i ∷ more i

begins : (run text : Text) → take (length run) text ≡ run → has_run run text ≡ true
begins run [] e = ap (same run) e ∙ same_itself run run refl
begins run (t ∷ text) e = ap (λ (r : Text). same run r || has_run run text) e
    ∙ ap (λ b. b || has_run run text) (same_itself run run refl)

-- what a `*` matches, or a byte, with what is behind it
by_star : (r vs : Text) (x : ℕ) (b p q c d : Bool) → (p ≡ true → has_run r (x ∷ vs) ≡ true)
    → (q ≡ true → has_run r vs ≡ true) → (d ≡ true → has_run r vs ≡ true)
    → (if b then p || q else c && d) ≡ true → has_run r (x ∷ vs) ≡ true
by_star r vs x true true q c d f g h e = f refl
by_star r vs x true false q c d f g h e = later (begins_with r (x ∷ vs)) (has_run r vs) (g e)
by_star r vs x false p q c d f g h e = later (begins_with r (x ∷ vs)) (has_run r vs) (h (both c d e).1)

-- a run of a key in which no wild card is stands in each value that the key matches
run_stands : (folds : Bool) (front run back value : Text) → list_all is_plain run ≡ true
    → is_wild_match folds (front ++ (run ++ back)) value ≡ true
    → has_run (map (led_byte folds) run) (map (led_byte folds) value) ≡ true
run_stands folds [] run back value plain e =
    begins (map (led_byte folds) run) (map (led_byte folds) value) (plain_front folds run back value plain e)
run_stands folds (k ∷ front) run back [] plain e =
    run_stands folds front run back [] plain (both (k == star) (is_wild_match folds (front ++ (run ++ back)) []) e).1
run_stands folds (k ∷ front) run back (v ∷ value) plain e =
    by_star (map (led_byte folds) run) (map (led_byte folds) value) (led_byte folds v) (k == star)
    (is_wild_match folds (front ++ (run ++ back)) (v ∷ value)) (is_wild_match folds (k ∷ (front ++ (run ++ back))) value)
    (is_byte_match folds k v) (is_wild_match folds (front ++ (run ++ back)) value)
    (λ f. run_stands folds front run back (v ∷ value) plain f)
    (λ f. run_stands folds (k ∷ front) run back value plain f)
    (λ f. run_stands folds front run back value plain f) e

-- of a longer value 64 bytes are known, and it passes
known : (folds : Bool) (run value : Text) → has_run run (map (led_byte folds) value) ≡ true
    → may_have run (map (led_byte folds) (take 64 value)) ≡ true
known folds run value e = by (nat_le 64 (length value)) refl
  where
    by : (b : Bool) → nat_le 64 (length value) ≡ b → may_have run (map (led_byte folds) (take 64 value)) ≡ true
    by true h = ap (λ b. b || has_run run (map (led_byte folds) (take 64 value)))
        (ap (nat_le 64) (length-map (take 64 value) (led_byte folds) ∙ length-take-le 64 value (leb-true 64 (length value) h)))
    by false h = later (nat_le 64 (length (map (led_byte folds) (take 64 value))))
        (has_run run (map (led_byte folds) (take 64 value)))
        (ap (λ (t : Text). has_run run (map (led_byte folds) t)) (take_all 64 value (omega (arith, leb-false 64 (length value) h))) ∙ e)

-- a needle may stand in each value that the key matches
needle_stands : (tag : ℕ) (key needle : Text) → IsNeedleOf tag key needle → (value : Text)
    → is_wild_match (is_folded tag) key value ≡ true → may_have needle (as_led tag value) ≡ true
needle_stands tag key needle is value e =
    let run = is.0 in
    let of = is.1 in
    ap (λ (n : Text). may_have n (as_led tag value)) is.2
    ∙ known (is_folded tag) (map (led_byte (is_folded tag)) run) value
    (run_stands (is_folded tag) of.0 run of.1 value of.3
    (ap (λ (k : Text). is_wild_match (is_folded tag) k value) (sym of.2) ∙ e))

-- the walk of a key without wild cards
whole_within : (tag : ℕ) (key : Text) → list_all is_plain key ≡ true → (value : Text)
    → is_wild_match (is_folded tag) key value ≡ true
    → IsWithin (is_between (value_front tag (as_led tag key)) (value_end tag (as_led tag key))) tag value
whole_within tag key plain value e = value_within tag value (as_led tag key) (whole_is (is_folded tag) 64 key value plain e)

-- the walk of what stands before the first wild card of a key
front_within : (tag n : ℕ) (key : Text) (end : Lead) → list_all is_plain (take n key) ≡ true
    → IsBehind tag (as_led tag (take n key)) end → (value : Text) → is_wild_match (is_folded tag) key value ≡ true
    → IsWithin (is_between (value_front tag (as_led tag (take n key))) end) tag value
front_within tag n key end plain behind value e =
    let parted = ap (λ (k : Text). is_wild_match (is_folded tag) k value) (take-append-drop n key) ∙ e in
    let rest = front_is (is_folded tag) 64 (take n key) (drop n key) value plain parted in
    begins_within tag value (as_led tag (take n key)) rest.0 end rest.1 behind

-- one byte more is no wild card
pub plain_more : (key : Text) (n : ℕ) → n < length key → list_all is_plain (take n key) ≡ true
    → is_plain (get_or key n 0) ≡ true → list_all is_plain (take (n + 1) key) ≡ true
plain_more key n below before one =
    list_all_more is_plain key n 0 below ∙ both_true (list_all is_plain (take n key)) (is_plain (get_or key n 0)) before one

-- a run of what stands behind a place is one of the whole
pub run_behind : (key rest run : Text) (at n : ℕ) → rest ≡ drop at key → run ≡ take n rest
    → list_all is_plain (take n rest) ≡ true → IsRunOf key run
run_behind key rest run at n behind is plain = (
  take at key,
  drop n rest,
  sym (take-append-drop at key) ∙ ap (λ (r : Text). take at key ++ r) (sym behind ∙ sym (take-append-drop n rest)
      ∙ ap (λ (r : Text). r ++ drop n rest) (sym is)),
  ap (list_all is_plain) is ∙ plain,
)

all_front : (n : ℕ) (run : Text) → list_all is_plain run ≡ true → list_all is_plain (take n run) ≡ true
all_front zero run plain = refl
all_front (suc n) [] plain = refl
all_front (suc n) (k ∷ run) plain =
    let parts = both (is_plain k) (list_all is_plain run) plain in
    both_true (is_plain k) (list_all is_plain (take n run)) parts.0 (all_front n run parts.1)

-- a front of a run is one too, and what it is led from stands in each value
pub needle_is : (tag n : ℕ) (key run front needle : Text) → IsRunOf key run → front ≡ take n run → n ≤ 16
    → needle ≡ as_led tag front → IsNeedleOf tag key needle
needle_is tag n key run front needle of is few led = (
  take n run,
  (
    of.0,
    drop n run ++ of.1,
    of.2 ∙ ap (λ (r : Text). of.0 ++ r) (ap (λ (r : Text). r ++ of.1) (sym (take-append-drop n run))
        ∙ append_assoc (take n run) (drop n run) of.1),
    all_front n run of.3,
  ),
  led ∙ ap (λ (t : Text). map (led_byte (is_folded tag)) (take 64 t)) is
      ∙ ap (map (led_byte (is_folded tag))) (take_all 64 (take n run) (within n run few)),
)
  where
    short : (m : ℕ) (xs : Text) → length (take m xs) ≤ m
    short zero xs = omega arith
    short (suc m) [] = omega arith
    short (suc m) (x ∷ xs) = omega (arith, short m xs)

    within : (m : ℕ) (xs : Text) → m ≤ 16 → length (take m xs) ≤ 64
    within m xs l = omega (arith, short m xs)

-- ---- what is answered

pub walked : (walk : LeadWalk) (tag : ℕ) (value : Text) → IsWithin (is_between walk.front walk.end) tag value
    → may_have walk.needle (as_led tag value) ≡ true → IsWithin (is_walked walk) tag value
walked walk tag value within near kind key which =
    both_true (is_between walk.front walk.end (a_lead tag (as_led tag value) kind key))
    (may_have walk.needle (as_led tag value)) (within kind key which) near

-- each value has a run of no bytes
pub none_stands : (value : Text) → may_have [] value ≡ true
none_stands [] = refl
none_stands (v ∷ value) = later (nat_le 64 (length (v ∷ value))) true refl

pub whole_walk : (tag n : ℕ) (key : Text) (walk : LeadWalk) → n ≡ length key
    → list_all is_plain (take n key) ≡ true → walk ≡ value_walk tag (as_led tag key)
    → (value : Text) → is_wild_match (is_folded tag) key value ≡ true
    → IsWithin (is_walked walk) tag value
whole_walk tag n key walk all plain is value e =
    let whole : take n key ≡ key = ap (λ m. take m key) all ∙ take_all (length key) key (omega arith) in
    subst (λ (w : LeadWalk). IsWithin (is_walked w) tag value) (sym is)
    (walked (value_walk tag (as_led tag key)) tag value
    (whole_within tag key (ap (list_all is_plain) (sym whole) ∙ plain) value e) (none_stands (as_led tag value)))

pub front_of_key : (tag n : ℕ) (key needle : Text) (walk : LeadWalk) → list_all is_plain (take n key) ≡ true
    → IsNeedleOf tag key needle → IsFrontWalk tag (as_led tag (take n key)) needle walk
    → (value : Text) → is_wild_match (is_folded tag) key value ≡ true
    → IsWithin (is_walked walk) tag value
front_of_key tag n key needle walk plain needled is value e =
    walked walk tag value
    (subst (λ (l : Lead). IsWithin (is_between l walk.end) tag value) (sym is.front)
    (front_within tag n key walk.end plain is.end value e))
    (ap (λ (t : Text). may_have t (as_led tag value)) is.needle ∙ needle_stands tag key needle needled value e)

-- ---- keys

pub matched_as : (m : Matching) (tag : ℕ) (key value : Text) → is_text_key m tag ≡ true → is_match_by m key value ≡ true
    → is_wild_match (is_folded tag) key value ≡ true
matched_as Dates tag key value k e = absurd (false≢true k)
matched_as Times tag key value k e = absurd (false≢true k)
matched_as WildCard tag key value k e = ap (λ b. is_wild_match b key value) (not_true (is_folded tag) k) ∙ e
matched_as Name tag key value k e = ap (λ b. is_wild_match b key value) k ∙ e
matched_as Uids tag key value k e = absurd (false≢true k)
matched_as Single tag key value k e = absurd (false≢true k)
matched_as Answered tag key value k e = absurd (false≢true k)
