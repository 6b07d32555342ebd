-- The last of some corrections, held while going through them, is the greatest.
use Rattle.std.proofs.Common.{◌≡◌, List, [], ◌∷◌, Option, Some, None, Bool, true, false, cond, refl, sym, ap, ◌∙◌}
use Rattle.std.specs.Prelude.{if◌then◌else◌, ◌&&◌}
use Rattle.std.proofs.lemmas.Bool.{false≢true}
use Rattle.std.specs.List.{find}
use Rattle.std.specs.Ordering.{is_lt, is_le, ordering_reverse}
use Rattle.std.specs.declared.cmp.Ordering.{Ordering}
use Rattle.std.specs.declared.cmp.Ordering.TheVariants.{Less, Equal, Greater}
use Rattle.std.specs.Cmp.{IsTotalOrder, alike_right, tied_itself, on_total, nat_cmp_total}
use Rattle.std.proofs.lemmas.Cmp.{then_total}
use Rattle.std.specs.Cmp.Lexicographic.{nat_list_cmp_total}
use Rattle.operation.specs.Parts.{CorrectionParts}
use Rattle.archive_model.specs.Attributes.{correction_cmp, later_of, is_last, greatest}

-- corrections stand in one order
pub correction_total : IsTotalOrder correction_cmp
correction_total = then_total (on_total (λ (k : CorrectionParts). k.stamp.counter) nat_cmp_total)
    (then_total (on_total (λ (k : CorrectionParts). k.stamp.site) nat_cmp_total)
    (on_total (λ (k : CorrectionParts). k.value) nat_list_cmp_total))

abbrev pub latest_from : Option CorrectionParts → List CorrectionParts → Option CorrectionParts
latest_from held [] = held
latest_from held (k ∷ ks) = latest_from (later_of held k) ks

under_both : (a b c : Bool) → (b ≡ true → a ≡ true) → (a && (b && c)) ≡ (b && c)
under_both true b c h = refl
under_both false true c h = absurd (false≢true (h refl))
under_both false false c h = refl

over_both : (a b c : Bool) → (a ≡ true → b ≡ true) → (a && (b && c)) ≡ (a && c)
over_both true true c h = refl
over_both true false c h = absurd (false≢true (h refl))
over_both false b c h = refl

-- what passes one of two tests that agree is found by both
found_alike : (p q : CorrectionParts → Bool) (ks : List CorrectionParts) → ((k : CorrectionParts) → p k ≡ q k)
    → find p ks ≡ find q ks
found_alike p q [] alike = refl
found_alike p q (k ∷ ks) alike = ap (λ b. cond b (Some k) (find p ks)) (alike k) ∙ ap (cond (q k) (Some k))
    (found_alike p q ks alike)

-- what comes before one comes before all that do not come before that one
up_to : (h k x : CorrectionParts) → correction_cmp h k ≡ Less → is_le (correction_cmp k x) ≡ true
    → is_le (correction_cmp h x) ≡ true
up_to h k x less le = by (correction_cmp k x) refl le
  where
    by : (r : Ordering) → correction_cmp k x ≡ r → is_le r ≡ true → is_le (correction_cmp h x) ≡ true
    by Less is e = ap is_le (correction_total.trans h k x less is)
    by Equal is e = ap is_le (sym (alike_right correction_total k x h is) ∙ less)
    by Greater is e = absurd (false≢true e)

last_alike : (ks : List CorrectionParts) (h k : CorrectionParts) → correction_cmp h k ≡ Equal → is_last ks h ≡ is_last
    ks k
last_alike [] h k e = refl
last_alike (x ∷ ks) h k e = ap (λ r. is_le r && is_last ks h) (alike_right correction_total h k x e)
    ∙ ap (λ b. is_le (correction_cmp x k) && b) (last_alike ks h k e)

skipped : (p q : Bool) (h k : CorrectionParts) (rest : Option CorrectionParts) → (q ≡ true → p ≡ true)
    → cond p (Some h) rest ≡ cond p (Some h) (cond q (Some k) rest)
skipped true q h k rest e = refl
skipped false true h k rest e = absurd (false≢true (e refl))
skipped false false h k rest e = refl

turned_le : (h k : CorrectionParts) (r : Ordering) → correction_cmp h k ≡ r → correction_cmp k h ≡ ordering_reverse r
turned_le h k r is = correction_total.antisymm k h ∙ ap ordering_reverse is

first_false : (a b c : Bool) → b ≡ false → (a && (b && c)) ≡ false
first_false true b c e = ap (λ x. x && c) e
first_false false b c e = refl

one_more : (h k : CorrectionParts) (ks : List CorrectionParts) (r : Ordering) → correction_cmp h k ≡ r
    → find (is_last (if is_lt r then k ∷ ks else h ∷ ks)) (if is_lt r then k ∷ ks else h ∷ ks) ≡ find
    (is_last (h ∷ k ∷ ks)) (h ∷ k ∷ ks)
one_more h k ks Less is =
    found_alike (is_last (k ∷ ks)) (is_last (h ∷ k ∷ ks)) (k ∷ ks)
    (λ x. sym (under_both _ (is_le (correction_cmp k x)) (is_last ks x) (up_to h k x is)))
    ∙ ap (λ b. cond b (Some h) (find (is_last (h ∷ k ∷ ks)) (k ∷ ks)))
    (sym (first_false (is_le (correction_cmp h h)) (is_le (correction_cmp k h)) (is_last ks h)
    (ap is_le (turned_le h k Less is))))
one_more h k ks Equal is =
    found_alike (is_last (h ∷ ks)) (is_last (h ∷ k ∷ ks)) (h ∷ ks)
    (λ x. sym (over_both (is_le (correction_cmp h x)) (is_le (correction_cmp k x)) (is_last ks x)
    (λ e. ap is_le (sym (correction_total.congr h k x is)) ∙ e)))
    ∙ skipped (is_last (h ∷ k ∷ ks) h) (is_last (h ∷ k ∷ ks) k) h k (find (is_last (h ∷ k ∷ ks)) ks)
    (λ e. last_alike (h ∷ k ∷ ks) h k is ∙ e)
one_more h k ks Greater is =
    found_alike (is_last (h ∷ ks)) (is_last (h ∷ k ∷ ks)) (h ∷ ks)
    (λ x. sym (over_both (is_le (correction_cmp h x)) (is_le (correction_cmp k x)) (is_last ks x)
    (up_to k h x (turned_le h k Greater is))))
    ∙ skipped (is_last (h ∷ k ∷ ks) h) (is_last (h ∷ k ∷ ks) k) h k (find (is_last (h ∷ k ∷ ks)) ks)
    (λ e. absurd (false≢true (sym (ap (λ r. is_le r && (is_le (correction_cmp k k) && is_last ks k)) is) ∙ e)))

-- an `if` in front of a list
parted : (b : Bool) (h k : CorrectionParts) (ks : List CorrectionParts) → (cond b k h) ∷ ks ≡ cond b (k ∷ ks) (h ∷ ks)
parted true h k ks = refl
parted false h k ks = refl

held_is : (b : Bool) (h k : CorrectionParts) → cond b (Some k) (Some h) ≡ Some (cond b k h)
held_is true h k = refl
held_is false h k = refl

from_some : (ks : List CorrectionParts) (h : CorrectionParts) → latest_from (Some h) ks ≡ find (is_last (h ∷ ks))
    (h ∷ ks)
from_some [] h = ap (λ r. cond (is_le r && true) (Some h) None) (sym (tied_itself correction_total h))
from_some (k ∷ ks) h =
    let b = is_lt (correction_cmp h k) in
    ap (λ o. latest_from o ks) (held_is b h k)
    ∙ from_some ks (cond b k h)
    ∙ ap (λ xs. find (is_last xs) xs) (parted b h k ks)
    ∙ one_more h k ks (correction_cmp h k) refl

pub latest_is_greatest : (ks : List CorrectionParts) → latest_from None ks ≡ greatest ks
latest_is_greatest [] = refl
latest_is_greatest (k ∷ ks) = from_some ks k

some_stays : (ks : List CorrectionParts) (k : CorrectionParts) → (latest_from (Some k) ks ≡ None → ⊥)
some_stays [] k e = absurd cc
some_stays (x ∷ ks) k e = some_stays ks (cond (is_lt (correction_cmp k x)) x k)
    (sym (ap (λ o. latest_from o ks) (held_is (is_lt (correction_cmp k x)) k x)) ∙ e)

-- some corrections have a greatest
pub from_latest : (ks : List CorrectionParts) (k : CorrectionParts) → greatest (k ∷ ks) ≡ None → ⊥
from_latest ks k e = some_stays ks k (from_some ks k ∙ e)
