-- Digests in a text, and lists that ascend.
use Rattle.std.proofs.Common.{◌≡◌, ℕ, zero, suc, ◌+◌, ◌-◌, ◌*◌, ◌<◌, ◌≤◌, Bool, true, false, List, [], ◌∷◌, ◌++◌}
use Rattle.std.proofs.Common.{length, take, drop, get_or, refl, sym, ap, ◌∙◌, append_assoc, arith}
use Rattle.std.specs.Prelude.{◌&&◌, ◌==◌, not}
use Rattle.std.specs.Ordering.{match_ordering, ordering_index}
use Rattle.std.specs.declared.cmp.Ordering.{Ordering}
use Rattle.std.specs.declared.cmp.Ordering.TheVariants.{Less, Equal, Greater}
use Rattle.std.proofs.lemmas.Grind.{flat_map-append}
use Rattle.std.proofs.lemmas.List.{take_more, append-nil, take_at, drop_at, take-append-drop, length-append}
use Rattle.std.proofs.lemmas.List.{length-take-le, length-drop, nil_from_length}
use Rattle.std.proofs.lemmas.List.Concat.{flat_map-cons}
use Rattle.exchange_frames.specs.Spelling.{digests_text, ascends, AreDigests}
use Rattle.exchange_frames.specs.Reading.{cut}

-- ---- digests in a text

pub goes_on : (front : List (List ℕ)) (count i : ℕ) (rest : List ℕ) (total : List (List ℕ)) → i < count
    → front ++ cut (count - i) rest ≡ total → (front ++ take 32 rest ∷ []) ++ cut (count - (i + 1))
    (drop 32 rest) ≡ total
unfolding cut
goes_on front count i rest total lt so_far =
    let k : count - i ≡ suc (count - (i + 1)) = omega arith in
    append_assoc front (take 32 rest ∷ []) (cut (count - (i + 1)) (drop 32 rest)) ∙ ap (λ (n : ℕ). front ++ cut n rest)
    (sym k) ∙ so_far

pub goes_end : (front : List (List ℕ)) (count i : ℕ) (rest : List ℕ) (total : List (List ℕ)) → count ≤ i
    → front ++ cut (count - i) rest ≡ total → front ≡ total
unfolding cut
goes_end front count i rest total le so_far =
    let k : count - i ≡ 0 = omega arith in
    sym (ap (λ (n : ℕ). front ++ cut n rest) k ∙ append-nil front) ∙ so_far

cut_front : (n : ℕ) (d rest : List ℕ) → length d ≡ 32 → cut (suc n) (d ++ rest) ≡ d ∷ cut n rest
unfolding cut
cut_front n d rest len = rw (take_at d rest 32 len, drop_at d rest 32 len) refl

-- digests that are written are cut again
pub cut_again : (ds : List (List ℕ)) → AreDigests ds → cut (length ds) (digests_text ds) ≡ ds
unfolding cut
cut_again [] are = refl
cut_again (d ∷ ds) are =
    ap (cut (suc (length ds))) (flat_map-cons (λ x. x) d ds) ∙ cut_front (length ds) d (digests_text ds) are.0
    ∙ ap (λ (t : List (List ℕ)). d ∷ t) (cut_again ds are.1)

pub text_length : (ds : List (List ℕ)) → AreDigests ds → length (digests_text ds) ≡ 32 * length ds
text_length [] are = refl
text_length (d ∷ ds) are =
    ap length (flat_map-cons (λ x. x) d ds) ∙ omega (
      arith,
      length-append d (digests_text ds),
      are.0,
      text_length ds
          are.1,
    )

pub cut_length : (n : ℕ) (text : List ℕ) → length (cut n text) ≡ n
unfolding cut
cut_length zero text = refl
cut_length (suc n) text = ap suc (cut_length n (drop 32 text))

pub cut_whole : (n : ℕ) (text : List ℕ) → length text ≡ 32 * n → AreDigests (cut n text)
unfolding cut
cut_whole zero text len = tt
cut_whole (suc n) text len =
    (length-take-le 32 text (omega (arith, len)), cut_whole n (drop 32 text) (omega (arith, len, length-drop 32 text)))

-- and those that are cut are the whole text
pub cut_text : (n : ℕ) (text : List ℕ) → length text ≡ 32 * n → digests_text (cut n text) ≡ text
unfolding cut
cut_text zero text len = sym (nil_from_length text (omega (arith, len)))
cut_text (suc n) text len =
    flat_map-cons (λ x. x) (take 32 text) (cut n (drop 32 text)) ∙ ap (λ (t : List ℕ). take 32 text ++ t)
    (cut_text n (drop 32 text) (omega (arith, len, length-drop 32 text))) ∙ take-append-drop 32 text

-- one digest more is written
pub put_one : (ds : List (List ℕ)) (i : ℕ) (d front out out2 : List ℕ) → i < length ds → d ≡ get_or ds i d
    → length d ≡ 32
    → out ≡ front ++ digests_text (take i ds) → out2 ≡ out ++ d → length (digests_text (take i ds)) ≡ 32 * i
    → (i + 1 ≤ length ds) × (out2 ≡ front ++ digests_text (take (i + 1) ds))
    × (length (digests_text (take (i + 1) ds)) ≡ 32 * (i + 1))
put_one ds i d front out out2 lt at len so_far more long =
    let grown : take (i + 1) ds ≡ take i ds ++ d ∷ [] = take_more ds i d lt ∙ ap (λ (x : List ℕ). take i ds ++ x ∷ [])
    (sym at) in
    let text : digests_text (take (i + 1) ds) ≡ digests_text (take i ds) ++ d =
    ap digests_text grown ∙ flat_map-append (λ x. x) (take i ds) (d ∷ [])
    ∙ ap (λ (t : List ℕ). digests_text (take i ds) ++ t) (flat_map-cons (λ x. x) d [] ∙ append-nil d)
    in (
      omega (arith, lt),
      more ∙ ap (λ (t : List ℕ). t ++ d) so_far ∙ append_assoc front (digests_text (take i ds)) d
          ∙ ap (λ (t : List ℕ). front ++ t) (sym text),
      omega (arith, ap length text, length-append (digests_text (take i ds)) d, long, len),
    )

-- ---- lists that ascend

pub ascends_end : {X : Type 0} (cmp : X → X → Ordering) (xs : List X) (i : ℕ) → length xs ≤ suc i
    → ascends cmp (drop i xs) ≡ true
ascends_end cmp [] zero short = refl
ascends_end cmp [] (suc i) short = refl
ascends_end cmp (x ∷ []) zero short = refl
ascends_end cmp (x ∷ y ∷ xs) zero short = absurd (omega (arith, short))
ascends_end cmp (x ∷ xs) (suc i) short = ascends_end cmp xs i (omega (arith, short))

pub ascends_on : {X : Type 0} (cmp : X → X → Ordering) (xs : List X) (i : ℕ) (d : X) → suc i < length xs
    → cmp (get_or xs i d) (get_or xs (suc i) d) ≡ Less → ascends cmp (drop i xs) ≡ ascends cmp (drop (suc i) xs)
ascends_on cmp [] i d lt e = absurd (omega (arith, lt))
ascends_on cmp (x ∷ []) i d lt e = absurd (omega (arith, lt))
ascends_on cmp (x ∷ y ∷ xs) zero d lt e = ap (λ (o : Ordering). match_ordering o true false false && ascends
    cmp (y ∷ xs)) e
ascends_on cmp (x ∷ y ∷ xs) (suc i) d lt e = ascends_on cmp (y ∷ xs) i d (omega (arith, lt)) e

-- the answer of a comparison that is not told apart from Less
pub less_is : (o : Ordering) → false ≡ not (ordering_index o == 0) → o ≡ Less
less_is Less e = refl
less_is Equal e = absurd cc
less_is Greater e = absurd cc

not_less : (o : Ordering) (b : Bool) → (o ≡ Less → ⊥) → (match_ordering o true false false && b) ≡ false
not_less Less b other = absurd (other refl)
not_less Equal b other = refl
not_less Greater b other = refl

pub ascends_not : {X : Type 0} (cmp : X → X → Ordering) (xs : List X) (i : ℕ) (d : X) → suc i < length xs
    → (cmp (get_or xs i d) (get_or xs (suc i) d) ≡ Less → ⊥) → ascends cmp (drop i xs) ≡ false
ascends_not cmp [] i d lt other = absurd (omega (arith, lt))
ascends_not cmp (x ∷ []) i d lt other = absurd (omega (arith, lt))
ascends_not cmp (x ∷ y ∷ xs) zero d lt other = not_less (cmp x y) (ascends cmp (y ∷ xs)) other
ascends_not cmp (x ∷ y ∷ xs) (suc i) d lt other = ascends_not cmp (y ∷ xs) i d (omega (arith, lt)) other
