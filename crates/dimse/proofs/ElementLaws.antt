-- What is read from the front is spelled there, and what is spelled there is read.
use Rattle.std.proofs.Common.{◌≡◌, ℕ, ◌+◌, ◌*◌, ◌/◌, ◌%◌, ◌^◌, ◌<◌, ◌≤◌, Bool, true, false, cond, ltb, List, [], ◌∷◌}
use Rattle.std.proofs.Common.{◌++◌, length, take, drop, Option, Result, Ok, Err, refl, sym, ap, subst, ◌∙◌}
use Rattle.std.proofs.Common.{append_assoc, arith}
use Rattle.std.specs.Prelude.{IfOk}
use Rattle.std.specs.Borrow.{Bor}
use Rattle.std.specs.Int.{w16, w32, from_le_bytes, to_le_bytes}
use Rattle.std.proofs.lemmas.Bool.{ltb-false, le-ltb}
use Rattle.std.proofs.lemmas.List.{take_at, drop_at, take-append-drop, length-append, length-take}
use Rattle.std.proofs.lemmas.Nat.{le_bytes_2, le_bytes_4, from_le_bytes-to_le_bytes_2, from_le_bytes-to_le_bytes_4}
use Rattle.octets.specs.Bytes.{IsBytes}
use Rattle.octets.proofs.ByteLaws.{IsBytes-two, IsBytes-four, ok_is}
use Rattle.dimse.specs.declared.fault.DimseFault.{DimseFault}
use Rattle.dimse.specs.declared.fault.DimseFault.TheVariants.{BadCommand}
use Rattle.dimse.specs.Fault.{Gives}
use Rattle.dictionary.specs.Tags.{tag_text, is_above, tag_from}
use Rattle.dimse.specs.Elements.{Element, element_text, IsElement, element_at}

-- the four bytes of a tag are spelled by it
tag_takes : (g0 g1 e0 e1 : ℕ) → g0 < 256 → g1 < 256 → e0 < 256 → e1 < 256
    → (tag_text (tag_from g0 g1 e0 e1) ≡ g0 ∷ g1 ∷ e0 ∷ e1 ∷ []) × (tag_from g0 g1 e0 e1 < 2 ^ 32)
tag_takes g0 g1 e0 e1 p q r s =
    let high : tag_from g0 g1 e0 e1 / 65536 ≡ from_le_bytes w16 (g0 ∷ g1 ∷ []) = omega arith in
    let low : tag_from g0 g1 e0 e1 % 65536 ≡ from_le_bytes w16 (e0 ∷ e1 ∷ []) = omega arith in
    let a : to_le_bytes w16 (tag_from g0 g1 e0 e1 / 65536) ≡ g0 ∷ g1 ∷ [] = le_bytes_2 (g0 ∷ g1 ∷ []) _
    refl (IsBytes-two g0 g1 p q) high in
    let b : to_le_bytes w16 (tag_from g0 g1 e0 e1 % 65536) ≡ e0 ∷ e1 ∷ [] = le_bytes_2 (e0 ∷ e1 ∷ []) _
    refl (IsBytes-two e0 e1 r s) low in (
      ap (λ (x : List ℕ). x ++ to_le_bytes w16 (tag_from g0 g1 e0 e1 % 65536)) a
          ∙ ap (λ (x : List ℕ). (g0 ∷ g1 ∷ []) ++ x) b,
      omega arith,
    )

-- the tag that is spelled is the tag that is read
tag_again : (tag : ℕ) → tag < 2 ^ 32 → from_le_bytes w16 (to_le_bytes w16 (tag / 65536)) * 65536 + from_le_bytes
    w16 (to_le_bytes w16 (tag % 65536)) ≡ tag
tag_again tag lt =
    let high : tag / 65536 < 2 ^ 16 = omega arith in
    let low : tag % 65536 < 2 ^ 16 = omega arith in
    rw (from_le_bytes-to_le_bytes_2 (tag / 65536) high, from_le_bytes-to_le_bytes_2 (tag % 65536) low) (omega arith)

-- what was taken from the front
abbrev pub TakesElement : Option ℕ → List ℕ → Element → List ℕ → Type 0
TakesElement previous text e rest = IsElement previous e × (text ≡ element_text e ++ rest)

-- two tests on the way to a value
both_pass : {A : Type 0} (a b : Bool) (d : DimseFault) (x y : A) → cond a (cond b (Err d) (Ok x)) (Err d) ≡ Ok y
    → (a ≡ true) × (b ≡ false) × (x ≡ y)
both_pass true true d x y e = absurd cc
both_pass true false d x y e = (refl, refl, ok_is DimseFault x y e)
both_pass false b d x y e = absurd cc

whole : (gs ls tag_is size_is value rest : List ℕ) (behind : List ℕ) → tag_is ≡ gs → size_is ≡ ls
    → rest ≡ value ++ behind → gs ++ (ls ++ rest) ≡ (tag_is ++ (size_is ++ value)) ++ behind
whole gs ls tag_is size_is value rest behind p q r =
    rw (p, q, r) (ap (λ (x : List ℕ). gs ++ x) (sym (append_assoc ls value behind))
    ∙ sym (append_assoc gs (ls ++ value) behind))

pub element_takes : (previous : Option ℕ) (text : List ℕ) (x : Element × List ℕ) → IsBytes text → element_at previous
    text ≡ Ok x → TakesElement previous text x.0 x.1
unfolding element_at
element_takes previous (g0 ∷ g1 ∷ e0 ∷ e1 ∷ l0 ∷ l1 ∷ l2 ∷ l3 ∷ rest) x fits e =
    let t = tag_takes g0 g1 e0 e1 (fits 0) (fits 1) (fits 2) (fits 3) in
    let tag = tag_from g0 g1 e0 e1 in
    let size = from_le_bytes w32 (l0 ∷ l1 ∷ l2 ∷ l3 ∷ []) in
    let made : Element × List ℕ = (record { tag = tag; value = take size rest }, drop size rest) in
    let g = both_pass (is_above previous tag) (ltb (length rest) size) BadCommand made x e in
    let long : size ≤ length rest = ltb-false _ _ g.1 in
    let len : length (take size rest) ≡ size = omega (arith, length-take size rest) in
    let l : to_le_bytes w32 (length (take size rest)) ≡ l0 ∷ l1 ∷ l2 ∷ l3 ∷ [] = ap (to_le_bytes w32) len
    ∙ le_bytes_4 (l0 ∷ l1 ∷ l2 ∷ l3 ∷ []) _ refl (IsBytes-four l0 l1 l2 l3 (fits 4) (fits 5) (fits 6) (fits 7)) refl
    in
    subst (λ (y : Element × List ℕ). TakesElement previous (g0 ∷ g1 ∷ e0 ∷ e1 ∷ l0 ∷ l1 ∷ l2 ∷ l3 ∷ rest) y.0 y.1) g.2 (
      record { tag = t.1; size = rw len (omega (arith, fits 4, fits 5, fits 6, fits 7)); above = g.0 },
      whole (g0 ∷ g1 ∷ e0 ∷ e1 ∷ []) (l0 ∷ l1 ∷ l2 ∷ l3 ∷ []) (tag_text tag) (to_le_bytes w32 (length (take size rest)))
          (take size rest) rest (drop size rest) t.0 l (sym (take-append-drop size rest)),
    )
element_takes previous _ x fits e = absurd cc

-- what a call gave
pub element_found : (previous : Option ℕ) (text : List ℕ) (r : Result (Element × Bor (List ℕ)) DimseFault)
    → IsBytes text → Gives (λ x. (x.0, x.1.now)) r (element_at previous text)
    → IfOk r (λ x. TakesElement previous text x.0 x.1.now)
element_found previous text (Ok x) fits given = element_takes previous text (x.0, x.1.now) fits given
element_found previous text (Err e) fits given = tt

-- what reading makes of a header
abbrev value_at : Option ℕ → ℕ → ℕ → List ℕ → Result (Element × List ℕ) DimseFault
value_at previous tag size text = cond (is_above previous tag) (cond (ltb (length text) size) (Err BadCommand)
    (Ok (record { tag = tag; value = take size text }, drop size text))) (Err BadCommand)

value_again : (previous : Option ℕ) (tag : ℕ) (value rest : List ℕ) → is_above previous tag ≡ true
    → value_at previous tag (length value) (value ++ rest) ≡ Ok (record { tag = tag; value = value }, rest)
value_again previous tag value rest above =
    let long : ltb (length (value ++ rest)) (length value) ≡ false =
    le-ltb _ _ (omega (arith, length-append value rest)) in
    rw (above, long, take_at value rest (length value) refl, drop_at value rest (length value) refl) refl

pub element_again : (previous : Option ℕ) (e : Element) (rest : List ℕ) → IsElement previous e
    → element_at previous (element_text e ++ rest) ≡ Ok (e, rest)
unfolding element_at
element_again previous e rest is =
    let regrouped : element_text e ++ rest ≡ tag_text e.tag ++ (to_le_bytes w32 (length e.value) ++ (e.value ++ rest)) =
    append_assoc (tag_text e.tag) (to_le_bytes w32 (length e.value) ++ e.value) rest
    ∙ ap (λ (x : List ℕ). tag_text e.tag ++ x) (append_assoc (to_le_bytes w32 (length e.value)) e.value rest) in
    ap (element_at previous) regrouped ∙ rw (
      tag_again e.tag is.tag,
      from_le_bytes-to_le_bytes_4 (length e.value)
          is.size,
    ) (value_again previous e.tag e.value rest is.above)
