-- Headers in which nothing offends.
use Rattle.std.proofs.Common.{◌≡◌, ℕ, ◌≤◌, Bool, true, false, not, ◌||◌, cond, List, length, Option, Some, None, refl}
use Rattle.std.proofs.Common.{sym, ap, ◌∙◌, arith}
use Rattle.data_set.specs.declared.syntax.Syntax.{Syntax}
use Rattle.data_set.specs.declared.header.Header.{Header}
use Rattle.data_set.specs.declared.fault.SetFault.TheVariants.{Order, Group, BadVr, Undefined}
use Rattle.dictionary.specs.Tags.{is_above}
use Rattle.data_set.specs.Tags.{is_item_tag, is_reserved_group}
use Rattle.data_set.specs.Vr.{has_bad_vr, inner_syntax, is_undefined}
use Rattle.data_set.specs.Header.{is_place, offence}

pub guard_none : {A : Type 0} (b : Bool) (f : A) (y : Option A) → cond b (Some f) y ≡ None → (b ≡ false) × (y ≡ None)
guard_none true f y e = absurd cc
guard_none false f y e = (refl, e)

defined : (previous : Option ℕ) (tag : ℕ) (vr : Option (List ℕ)) (size : ℕ)
    → offence previous (record { tag = tag; vr = vr; size = size }) ≡ None → is_undefined tag (inner_syntax tag vr size)
    size ≡ false
unfolding offence
defined previous tag vr size e =
    let last = cond (is_undefined tag (inner_syntax tag vr size) size) (Some Undefined) None in
    let third = cond (has_bad_vr tag vr) (Some BadVr) last in
    let second = cond (is_reserved_group tag) (Some Group) third in
    let a = guard_none (is_item_tag tag || not (is_above previous tag)) Order second e in
    let b = guard_none (is_reserved_group tag) Group third a.1 in
    let c = guard_none (has_bad_vr tag vr) BadVr last b.1 in
    (guard_none (is_undefined tag (inner_syntax tag vr size) size) Undefined None c.1).0

pub sized : (previous : Option ℕ) (h : Header) (rest : List ℕ) (inner : Option Syntax) → offence previous h ≡ None
    → is_place h.size rest ≡ true → inner ≡ inner_syntax h.tag h.vr h.size → inner ≡ None → h.size ≤ length rest
sized previous h rest inner e placed is none =
    let d : is_undefined h.tag (inner_syntax h.tag h.vr h.size) h.size ≡ false = defined previous h.tag h.vr h.size e in
    let u : is_undefined h.tag None h.size ≡ false = ap (λ (i : Option Syntax). is_undefined h.tag i h.size)
    (sym none ∙ is) ∙ d in
    grind (arith, u, placed)
