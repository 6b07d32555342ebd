-- Walks of leads: what is put in, and what stands between a front and an end.
use Rattle.std.proofs.Common.{◌≡◌, ℕ, Bool, true, false, cond, List, [], ◌∷◌, ◌++◌, ◌+◌, refl, sym, ap, ◌∙◌, map}
use Rattle.std.proofs.Common.{take, arith}
use Rattle.std.specs.Prelude.{◌||◌, ◌&&◌, not, ◌-◌, ◌<◌, length}
use Rattle.std.proofs.Common.{get_or, drop}
use Rattle.std.proofs.lemmas.Bool.{eqb-true, false≢true}
use Rattle.std.proofs.lemmas.List.{take_all, take_more, drop_more}
use Rattle.dictionary.specs.declared.elements.TheConstants.{PATIENT_NAME}
use Rattle.std.specs.List.{filter, list_any}
use Rattle.std.specs.Cmp.{nat_cmp_is, alike_right}
use Rattle.std.specs.Cmp.Lexicographic.{nat_list_cmp_total}
use Rattle.std.specs.Ordering.{nat_cmp, is_gt, is_le, ordering_then, ordering_reverse}
use Rattle.std.specs.declared.cmp.Ordering.{Ordering}
use Rattle.std.specs.declared.cmp.Ordering.TheVariants.{Less, Equal, Greater}
use Rattle.std.specs.Map.Iter.{deref}
use denote.Ref.{Bor}
use Rattle.std.specs.BTreeMap.{is_at}
use Rattle.std.specs.BTreeSet.{insert_key}
use Rattle.std.proofs.lemmas.Cmp.{tied_itself, nat_cmp_total}
use Rattle.std.proofs.lemmas.List.Folds.{list_any-append}
use mathlib.Core.Bool.{or-false as or_none, or_comm, or_assoc}
use Rattle.join_laws.specs.Proved.Sets.{has-insert_key}
use Rattle.octets.specs.Texts.{text_cmp}
use Rattle.study_index.specs.Keys.{has}
use Rattle.study_index.specs.Proved.Picks.{text_exact}
use Rattle.study_index.specs.Leads.{Text, Lead, a_lead, lead_cmp, is_between, is_led, leads_to, home_front, home_end}
use Rattle.study_index.specs.Leads.{IsBehind}
use Rattle.study_index.specs.Leads.{is_folded, led_byte, as_led, is_walked, walk_of, begins_with, has_run, may_have}
use Rattle.study_index.specs.Proved.Leads.{lead_total}

pub put_in : (ks : List Text) (k s : Text) → has text_cmp (insert_key text_cmp ks k) s ≡ (has text_cmp ks s || is_at
    (text_cmp s) k)
put_in ks k s = has-insert_key nat_list_cmp_total text_exact s k ks
    ∙ or_comm (is_at (text_cmp s) k) (has text_cmp ks s)

-- one more of some was put in
one_more : {L : Type 0} (p : L → Bool) (old mid new : Bool) (xs more : List L) (x : L) → mid ≡ (old || list_any p xs)
    → new ≡ (mid || p x) → more ≡ xs ++ x ∷ [] → new ≡ (old || list_any p more)
one_more p old mid new xs more x before put longer =
    put ∙ ap (λ b. b || p x) before ∙ or_assoc old (list_any p xs) (p x)
    ∙ ap (λ b. old || b) (sym (ap (list_any p) longer ∙ list_any-append p xs (x ∷ [])
    ∙ ap (λ b. list_any p xs || b) (or_none (p x))))

map_append : {X Y : Type 0} (f : X → Y) (xs : List X) (x : X) → map f (xs ++ x ∷ []) ≡ map f xs ++ f x ∷ []
map_append f [] x = refl
map_append {X} {Y} f (y ∷ ys) x = ap (λ (zs : List Y). f y ∷ zs) (map_append f ys x)

-- one step more of a walk
pub one_step : (p : Lead → Bool) (old mid new : Bool) (xs : List (Bor Lead)) (x : Bor Lead)
    → mid ≡ (old || list_any p (map deref xs)) → new ≡ (mid || p (deref x))
    → new ≡ (old || list_any p (map deref (xs ++ x ∷ [])))
one_step p old mid new xs x before put = one_more p old mid new (map deref xs) (map deref (xs ++ x ∷ [])) (deref x)
    before put (map_append deref xs x)

-- the front of a patient's studies is before their end
pub homes_in_order : (patient : Text) → is_gt (lead_cmp (home_front patient) (home_end patient)) ≡ false
homes_in_order patient = ap (λ o. is_gt (ordering_then o Less)) (tied_itself nat_list_cmp_total patient)

-- ---- an end before a front

none_between : (front end lead : Lead) → lead_cmp end front ≡ Less → is_between front end lead ≡ false
none_between front end lead less = by (lead_cmp front lead) refl
  where
    by : (r : Ordering) → lead_cmp front lead ≡ r → (is_le r && not (is_le (lead_cmp end lead))) ≡ false
    by Less e = ap (λ o. not (is_le o)) (lead_total.trans end front lead less e)
    by Equal e = ap (λ o. not (is_le o)) (sym (alike_right lead_total front lead end e) ∙ less)
    by Greater e = refl

none_filtered : {X : Type 0} (p : X → Bool) (xs : List X) → ((x : X) → p x ≡ false) → filter p xs ≡ []
none_filtered p [] none = refl
none_filtered {X} p (x ∷ xs) none = ap (λ b. cond b (x ∷ filter p xs) (filter p xs)) (none x)
    ∙ none_filtered p xs none

turned : (r : Ordering) → is_gt r ≡ true → ordering_reverse r ≡ Less
turned Less e = absurd (false≢true e)
turned Equal e = absurd (false≢true e)
turned Greater e = refl

before_front : (front end : Lead) → is_gt (lead_cmp front end) ≡ true → lead_cmp end front ≡ Less
before_front front end more = lead_total.antisymm end front ∙ turned (lead_cmp front end) more

pub none_led : (front end : Lead) (needle : Text) (leads : List Lead) (s : Text) (b : Bool)
    → is_gt (lead_cmp front end) ≡ true → b ≡ (b || is_led (is_walked (walk_of front end needle)) leads s)
none_led front end needle leads s b more =
    sym (ap (λ ls. b || list_any (leads_to leads s) ls)
    (none_filtered (is_walked (walk_of front end needle)) leads
    (λ lead. ap (λ x. x && may_have needle lead.value) (none_between front end lead (before_front front end more))))
    ∙ or_none b)

pub none_counted : (front end : Lead) (leads : List Lead) → is_gt (lead_cmp front end) ≡ true
    → 0 ≡ length (filter (is_between front end) leads)
none_counted front end leads more = sym (ap length (none_filtered (is_between front end) leads
    (λ lead. none_between front end lead (before_front front end more))))

-- ---- what passes a test besides

-- of what passes one test some passes two more, if it does so at once
pub any_and : {X : Type 0} (p r t : X → Bool) (xs : List X) → list_any (λ x. r x && t x) (filter p xs)
    ≡ list_any t (filter (λ x. p x && r x) xs)
any_and p r t [] = refl
any_and {X} p r t (x ∷ xs) = by (p x) (r x) refl (any_and p r t xs)
  where
    by : (b d : Bool) → r x ≡ d → list_any (λ y. r y && t y) (filter p xs) ≡ list_any t (filter (λ y. p y && r y) xs)
        → list_any (λ y. r y && t y) (cond b (x ∷ filter p xs) (filter p xs))
        ≡ list_any t (cond (b && d) (x ∷ filter (λ y. p y && r y) xs) (filter (λ y. p y && r y) xs))
    by true true k e = ap (λ d. (d && t x) || list_any (λ y. r y && t y) (filter p xs)) k ∙ ap (λ b. t x || b) e
    by true false k e = ap (λ d. (d && t x) || list_any (λ y. r y && t y) (filter p xs)) k ∙ e
    by false d k e = e

-- ---- runs of bytes

no_front : (run : List ℕ) (t : ℕ) (text : List ℕ) → begins_with run (t ∷ text) ≡ false
    → has_run run (t ∷ text) ≡ has_run run text
no_front run t text e = ap (λ b. b || has_run run text) e

front_is : (run : List ℕ) (t : ℕ) (text : List ℕ) → begins_with run (t ∷ text) ≡ true → has_run run (t ∷ text) ≡ true
front_is run t text e = ap (λ b. b || has_run run text) e

-- a run that does not stand at a byte stands behind it, if it stands there at all
pub run_behind : (run text : List ℕ) (at : ℕ) → at < length text → begins_with run (drop at text) ≡ false
    → has_run run (drop at text) ≡ has_run run (drop (at + 1) text)
run_behind run text at within e =
    let step = drop_more text at 0 within in
    ap (has_run run) step
    ∙ no_front run (get_or text at 0) (drop (at + 1) text) (ap (begins_with run) (sym step) ∙ e)

pub run_here : (run text : List ℕ) (at : ℕ) → at < length text → begins_with run (drop at text) ≡ true
    → has_run run (drop at text) ≡ true
run_here run text at within e =
    let step = drop_more text at 0 within in
    ap (has_run run) step
    ∙ front_is run (get_or text at 0) (drop (at + 1) text) (ap (begins_with run) (sym step) ∙ e)

-- ---- what stands behind a text

raised : (front : Text) (byte : ℕ) (rest : Text) → text_cmp ((front ++ byte ∷ []) ++ rest) (front ++ (byte + 1) ∷ [])
    ≡ Less
raised [] byte rest = ap (λ o. ordering_then o (text_cmp rest [])) (sym (nat_cmp_is byte (byte + 1) Less (omega arith)))
raised (x ∷ xs) byte rest =
    ap (λ o. ordering_then o (text_cmp ((xs ++ byte ∷ []) ++ rest) (xs ++ (byte + 1) ∷ [])))
    (tied_itself nat_cmp_total x)
    ∙ raised xs byte rest

pub behind_raised : (tag : ℕ) (text front : Text) (byte : ℕ) (end : Lead) → text ≡ front ++ byte ∷ []
    → end ≡ a_lead tag (front ++ (byte + 1) ∷ []) 0 [] → IsBehind tag text end
behind_raised tag text front byte end split is rest kind key =
    ap (λ (t : Text). lead_cmp (a_lead tag (t ++ rest) kind key) end) split
    ∙ ap (lead_cmp (a_lead tag ((front ++ byte ∷ []) ++ rest) kind key)) is
    ∙ ap (λ o. ordering_then o (ordering_then (text_cmp ((front ++ byte ∷ []) ++ rest) (front ++ (byte + 1) ∷ []))
    (ordering_then (nat_cmp kind 0) (text_cmp key [])))) (tied_itself nat_cmp_total tag)
    ∙ ap (λ o. ordering_then o (ordering_then (nat_cmp kind 0) (text_cmp key []))) (raised front byte rest)

pub behind_tag : (tag : ℕ) (text : Text) (end : Lead) → end ≡ a_lead (tag + 1) [] 0 [] → IsBehind tag text end
behind_tag tag text end is rest kind key =
    ap (lead_cmp (a_lead tag (text ++ rest) kind key)) is
    ∙ ap (λ o. ordering_then o (ordering_then (text_cmp (text ++ rest) []) (ordering_then (nat_cmp kind 0)
    (text_cmp key [])))) (sym (nat_cmp_is tag (tag + 1) Less (omega arith)))

-- ---- values

all_kept : (text : Text) → map (led_byte false) text ≡ text
all_kept [] = refl
all_kept (t ∷ text) = ap (λ (ts : Text). t ∷ ts) (all_kept text)

-- a value that is no name keeps its case
pub led_whole : (tag : ℕ) (value text : Text) → text ≡ take 64 value → (tag ≡ PATIENT_NAME → ⊥) → text ≡ as_led tag value
led_whole tag value text cut other = cut ∙ by (is_folded tag) refl
  where
    by : (b : Bool) → is_folded tag ≡ b → take 64 value ≡ map (led_byte b) (take 64 value)
    by true e = absurd (other (eqb-true tag PATIENT_NAME e))
    by false e = sym (all_kept (take 64 value))

-- a text without its last byte, and that byte
pub split : (bytes text : Text) → bytes ≡ text → (length bytes ≡ 0 → ⊥)
    → text ≡ take (length bytes - 1) bytes ++ get_or bytes (length bytes - 1) 0 ∷ []
split bytes text same some = sym same ∙ sym (take_all (length bytes) bytes (omega arith))
    ∙ ap (λ n. take n bytes) (within bytes some) ∙ take_more bytes (length bytes - 1) 0 (below bytes some)
  where
    within : (ts : Text) → (length ts ≡ 0 → ⊥) → length ts ≡ (length ts - 1) + 1
    within [] none = absurd (none refl)
    within (t ∷ ts) none = omega arith

    below : (ts : Text) → (length ts ≡ 0 → ⊥) → length ts - 1 < length ts
    below [] none = absurd (none refl)
    below (t ∷ ts) none = omega arith
