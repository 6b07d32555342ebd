-- An item or a value that is read is there, and what is there is read.
use Rattle.std.proofs.Common.{◌≡◌, ℕ, ◌-◌, ◌≤◌, Bool, true, false, cond, ltb, List, [], ◌∷◌, ◌++◌, length, take, drop}
use Rattle.std.proofs.Common.{length-append, Result, Ok, Err, refl, sym, ap, subst, ◌∙◌, arith}
use Rattle.std.specs.Int.{w16, w32, from_be_bytes}
use Rattle.std.proofs.lemmas.Bool.{ltb-false, le-ltb}
use Rattle.std.proofs.lemmas.List.{take_at, drop_at, take-append-drop, length-take}
use Rattle.octets.proofs.ByteLaws.{guard_ok}
use Rattle.pdu.specs.declared.fault.PduFault.{PduFault}
use Rattle.pdu.specs.declared.fault.PduFault.TheVariants.{BadItem}
use Rattle.pdu.specs.declared.item.Item.{Item}
use Rattle.pdu.specs.declared.pdv.Pdv.{Pdv}
use Rattle.pdu.specs.Grammar.{BeginsItem, BeginsPdv, is_command, is_last}
use Rattle.pdu.specs.Reading.{item_at, pdv_at}
use Rattle.pdu.proofs.Pieces.{Shortens, Found, Again}

abbrev item : ℕ → List ℕ → Item
item kind content = record { kind = kind; content = content }

abbrev pdv : ℕ → Bool → Bool → List ℕ → Pdv
pdv context command last fragment = record { context = context; command = command; last = last; fragment = fragment }

-- a part of this length that is cut off
pub cut_again : {V : Type 0} (make : List ℕ → V) (size : ℕ) (content rest : List ℕ) → size ≡ length content
    → ◌≡◌ {A = Result (V × List ℕ) PduFault} (cond (ltb (length (content ++ rest)) size) (Err BadItem)
    (Ok (make (take size (content ++ rest)), drop size (content ++ rest)))) (Ok (make content, rest))
cut_again {V} make size content rest is =
    let long : ltb (length (content ++ rest)) size ≡ false = le-ltb _ _ (omega (arith, is, length-append content rest))
    in
    rw (long, take_at content rest size (sym is), drop_at content rest size (sym is)) refl

pub item-found : Found item_at BeginsItem
item-found (kind ∷ reserved ∷ high ∷ low ∷ tail) x e =
    let size = from_be_bytes w16 (high ∷ low ∷ []) in
    let g = guard_ok (ltb (length tail) size) BadItem (item kind (take size tail), drop size tail) x e in
    let long : size ≤ length tail = ltb-false _ _ g.0 in
    subst (λ y. BeginsItem y.0 (kind ∷ reserved ∷ high ∷ low ∷ tail) y.1) g.1 (
      reserved,
      high,
      low,
      omega (arith, long, length-take size tail),
      ap (λ (t : List ℕ). kind ∷ reserved ∷ high ∷ low
          ∷ t) (sym (take-append-drop size tail)),
    )
item-found _ x e = absurd cc

pub item-again : Again item_at BeginsItem
item-again v text rest (reserved, high, low, size, parts) =
    ap item_at parts ∙ cut_again (item v.kind) (from_be_bytes w16 (high ∷ low ∷ [])) v.content rest size

pub item-shorter : Shortens item_at
item-shorter text x e = let b = item-found text x e in omega (arith, simp length-append at (ap length b.4))

pub pdv-found : Found pdv_at BeginsPdv
pdv-found (a ∷ b ∷ c ∷ d ∷ context ∷ control ∷ tail) x e =
    let size = from_be_bytes w32 (a ∷ b ∷ c ∷ d ∷ []) in
    let made : Pdv × List ℕ = (
      pdv context (is_command control) (is_last control) (take (size - 2) tail),
      drop (size - 2) tail,
    ) in
    let two = wide_enough size (cond (ltb (length tail) (size - 2)) (Err BadItem) (Ok made)) x e in
    let g = guard_ok (ltb (length tail) (size - 2)) BadItem made x two.1 in
    let long : size - 2 ≤ length tail = ltb-false _ _ g.0 in
    subst (λ y. BeginsPdv y.0 (a ∷ b ∷ c ∷ d ∷ context ∷ control ∷ tail) y.1) g.1 (
      a,
      b,
      c,
      d,
      control,
      omega (arith, two.0, long, length-take (size - 2) tail),
      refl,
      refl,
      ap (λ (t : List ℕ). a ∷ b ∷ c ∷ d ∷ context ∷ control ∷ t) (sym (take-append-drop (size - 2) tail)),
    )
  where
    tested : (t : Bool) (read : Result (Pdv × List ℕ) PduFault) (x : Pdv × List ℕ) → cond t (Err BadItem) read ≡ Ok x
        → (t ≡ false) × (read ≡ Ok x)
    tested true read x e = absurd cc
    tested false read x e = (refl, e)

    wide_enough : (size : ℕ) (read : Result (Pdv × List ℕ) PduFault) (x : Pdv × List ℕ) → cond (ltb size 2)
        (Err BadItem) read ≡ Ok x → (2 ≤ size) × (read ≡ Ok x)
    wide_enough size read x e = let t = tested (ltb size 2) read x e in (ltb-false _ _ t.0, t.1)
pdv-found _ x e = absurd cc

pub pdv-again : Again pdv_at BeginsPdv
pdv-again v text rest (a, b, c, d, control, size, command, last, parts) =
    let n = from_be_bytes w32 (a ∷ b ∷ c ∷ d ∷ []) in
    let wide : ltb n 2 ≡ false = le-ltb _ _ (omega (arith, size)) in
    ap pdv_at parts
    ∙ ap (λ (t : Bool). cond t (Err BadItem) (cond (ltb (length (v.fragment ++ rest)) (n - 2)) (Err BadItem)
    (Ok (
      pdv v.context (is_command control) (is_last control) (take (n - 2) (v.fragment ++ rest)),
      drop (n - 2)
          (v.fragment ++ rest),
    )))) wide
    ∙ cut_again (pdv v.context (is_command control) (is_last control)) (n - 2) v.fragment rest (omega (arith, size))
    ∙ ap (λ (t : Bool). Ok (pdv v.context t (is_last control) v.fragment, rest)) command
    ∙ ap (λ (t : Bool). Ok (pdv v.context v.command t v.fragment, rest)) last

pub pdv-shorter : Shortens pdv_at
pdv-shorter text x e = let b = pdv-found text x e in omega (arith, simp length-append at (ap length b.8))
