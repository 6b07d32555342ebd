-- Whole texts: one element after the other, and no other elements spell the same text.
use Rattle.std.proofs.Common.{◌≡◌, ◌≢◌, ℕ, ◌<◌, Bool, true, false, cond, ltb, List, [], ◌∷◌, ◌++◌, length, Option, Some}
use Rattle.std.proofs.Common.{None, Ok, Err, refl, sym, ap, subst, ◌∙◌, append_assoc, arith, length-append}
use Rattle.std.specs.Prelude.{◌==◌}
use Rattle.std.proofs.lemmas.List.{append-nil}
use Rattle.std.proofs.lemmas.List.Concat.{flat_map-cons}
use Rattle.std.specs.Int.{w32, to_le_bytes, from_le_bytes}
use Rattle.octets.proofs.ByteLaws.{ok_is}
use Rattle.dimse.specs.declared.fault.DimseFault.{DimseFault}
use Rattle.dimse.specs.declared.fault.DimseFault.TheVariants.{BadContext, Interleaved, BadCommand, TooLong, Memory}
use Rattle.dimse.specs.declared.fault.DimseFault.TheVariants.{Failed}
use Rattle.dictionary.specs.Tags.{tag_text, is_above, tag_from}
use Rattle.dimse.specs.Elements.{Element, element_text, text_of, IsElement, AreElements}
use Rattle.dimse.specs.Elements.{element_at}
use Rattle.octets.specs.Gives.{Told}
use Rattle.dimse.specs.Fault.{is_memory}
use Rattle.dimse.specs.Command.{SpellsElements}
use Rattle.dimse.specs.Refusal.{RefusesElements}
use Rattle.dimse.proofs.ElementLaws.{element_again}

-- the tag behind which the next element stands
abbrev pub last_tag : Option ℕ → List Element → Option ℕ
last_tag previous [] = previous
last_tag previous (e ∷ es) = last_tag (Some e.tag) es

-- The text begins with these elements, and rest comes behind them.
pub record TakesElements (text : List ℕ) (es : List Element) (last : Option ℕ) (rest : List ℕ) : Type 0 where
  pub are : AreElements None es
  pub tag : last ≡ last_tag None es
  pub parts : text ≡ text_of es ++ rest

are_pushed : (previous : Option ℕ) (es : List Element) (e : Element) → AreElements previous es
    → IsElement (last_tag previous es) e → AreElements previous (es ++ e ∷ [])
are_pushed previous [] e are is = (is, tt)
are_pushed previous (d ∷ es) e are is = (are.0, are_pushed (Some d.tag) es e are.1 is)

last_pushed : (previous : Option ℕ) (es : List Element) (e : Element) → last_tag previous (es ++ e ∷ []) ≡ Some e.tag
last_pushed previous [] e = refl
last_pushed previous (d ∷ es) e = last_pushed (Some d.tag) es e

pub text-push : (es : List Element) (e : Element) (rest : List ℕ) → text_of (es ++ e ∷ []) ++ rest ≡ text_of es
    ++ (element_text e ++ rest)
text-push [] e rest = ap (λ (t : List ℕ). t ++ rest) (flat_map-cons element_text e [] ∙ append-nil (element_text e))
text-push (d ∷ es) e rest =
    ap (λ (t : List ℕ). t ++ rest) (flat_map-cons element_text d (es ++ e ∷ [])) ∙ append_assoc (element_text d)
    (text_of (es ++ e ∷ [])) rest
    ∙ ap (λ (t : List ℕ). element_text d ++ t) (text-push es e rest)
    ∙ sym (append_assoc (element_text d) (text_of es) (element_text e ++ rest))
    ∙ ap (λ (t : List ℕ). t ++ (element_text e ++ rest)) (sym (flat_map-cons element_text d es))

-- one element more
pub takes_more : (text : List ℕ) (es : List Element) (last : Option ℕ) (rest : List ℕ) (e : Element) (after : List ℕ)
    → TakesElements text es last rest → IsElement last e → rest ≡ element_text e ++ after
    → TakesElements text (es ++ e ∷ []) (Some e.tag) after
takes_more text es last rest e after takes is parts = record {
  are = are_pushed None es e takes.are (subst (λ (p : Option ℕ). IsElement p e) takes.tag is);
  tag = sym (last_pushed None es e);
  parts = takes.parts ∙ ap (λ (t : List ℕ). text_of es ++ t) parts ∙ sym (text-push es e after);
}

pub takes_shorter : (e : Element) (rest after : List ℕ) → rest ≡ element_text e ++ after → length after < length rest
takes_shorter e rest after parts = omega (
  arith,
  ap length parts,
  length-append (element_text e) after,
  length-append
      (tag_text e.tag) (to_le_bytes w32 (length e.value) ++ e.value),
)

-- ---- no other elements

abbrev pub Front : Type 0
Front = Element × List ℕ

-- two elements at the front of one text
pub one_front : (previous : Option ℕ) (d e : Element) (x y : List ℕ) → IsElement previous d → IsElement previous e
    → element_text d ++ x ≡ element_text e ++ y → (d ≡ e) × (x ≡ y)
one_front previous d e x y is_d is_e same =
    let made : Element × List ℕ = (d, x) in
    let other : Element × List ℕ = (e, y) in
    let both : made ≡ other = ok_is DimseFault made other (sym (element_again previous d x is_d)
    ∙ ap (element_at previous) same ∙ element_again previous e y is_e) in
    (ap (λ (p : Front). p.0) both, ap (λ (p : Front). p.1) both)

-- an element has a byte or more
pub not_empty : (e : Element) (rest : List ℕ) → [] ≡ element_text e ++ rest → ⊥
not_empty e rest same = absurd cc

-- what spells the whole text goes on behind a front of it
pub goes_on : (previous : Option ℕ) (front : List Element) (rest : List ℕ) (es : List Element) → AreElements previous
    front → AreElements previous es → text_of front ++ rest ≡ text_of es
    → (more : List Element) × AreElements (last_tag previous front) more × (rest ≡ text_of more) × (es ≡ front ++ more)
goes_on previous [] rest es are all same = (es, all, same, refl)
goes_on previous (d ∷ front) rest [] are all same =
    absurd (not_empty d (text_of front ++ rest) (sym same ∙ ap (λ (t : List ℕ). t ++ rest)
    (flat_map-cons element_text d front) ∙ append_assoc (element_text d) (text_of front) rest))
goes_on previous (d ∷ front) rest (e ∷ es) are all same =
    let cut : element_text d ++ (text_of front ++ rest) ≡ element_text e ++ text_of es =
    sym (append_assoc (element_text d) (text_of front) rest) ∙ ap (λ (t : List ℕ). t ++ rest)
    (sym (flat_map-cons element_text d front)) ∙ same ∙ flat_map-cons element_text e es in
    let one = one_front previous d e (text_of front ++ rest) (text_of es) are.0 all.0 cut in
    let tag : Some d.tag ≡ Some e.tag = ap (λ (x : Element). Some x.tag) one.0 in
    let more = goes_on (Some d.tag) front rest es are.1 (subst (λ (p : Option ℕ). AreElements p es) (sym tag) all.1)
    one.1 in
    (more.0, more.1, more.2, ap (λ (x : Element). x ∷ es) (sym one.0) ∙ ap (λ (t : List Element). d ∷ t) more.3)

-- a text spells one list of elements
pub one_list : (text : List ℕ) (es fs : List Element) → SpellsElements text es → SpellsElements text fs → es ≡ fs
one_list text es fs a b =
    let more = goes_on None es [] fs a.0 b.0 (append-nil (text_of es) ∙ sym a.1 ∙ b.1) in
    nothing_more more.0 more.2 more.3
  where
    nothing_more : (more : List Element) → [] ≡ text_of more → fs ≡ es ++ more → es ≡ fs
    nothing_more [] none is = sym (append-nil es) ∙ sym is
    nothing_more (m ∷ more) none is = absurd (not_empty m (text_of more) (none ∙ flat_map-cons element_text m more))

-- where no element is read, none spells the rest
none_spelled : (text : List ℕ) (es : List Element) (last : Option ℕ) (rest : List ℕ) → TakesElements text es last rest
    → rest ≢ [] → element_at last rest ≡ Err BadCommand → (fs : List Element) → SpellsElements text fs → ⊥
none_spelled text es last rest takes some fault fs spells =
    let more = goes_on None es rest fs takes.are spells.0 (sym takes.parts ∙ spells.1) in
    stops more.0 (subst (λ (p : Option ℕ). AreElements p more.0) (sym takes.tag) more.1) more.2
  where
    stops : (more : List Element) → AreElements last more → rest ≡ text_of more → ⊥
    stops [] are is = some is
    stops (m ∷ more) are is =
        let read : element_at last rest ≡ Ok (m, text_of more) = ap (element_at last)
        (is ∙ flat_map-cons element_text m more) ∙ element_again last m (text_of more) are.0 in
        absurd (let both : Ok (m, text_of more) ≡ Err BadCommand = sym read ∙ fault in cc)

-- reading an element fails in one way
only_bad : (last : Option ℕ) (text : List ℕ) (f : DimseFault) → element_at last text ≡ Err f → f ≡ BadCommand
unfolding element_at
only_bad last (g0 ∷ g1 ∷ e0 ∷ e1 ∷ l0 ∷ l1 ∷ l2 ∷ l3 ∷ rest) f e =
    by_tests (is_above last (tag_from g0 g1 e0 e1)) (ltb (length rest) (from_le_bytes w32 (l0 ∷ l1 ∷ l2 ∷ l3 ∷ []))) _ e
  where
    by_tests : (a b : Bool) (x : Front) → cond a (cond b (Err BadCommand) (Ok x)) (Err BadCommand) ≡ Err f
        → f ≡ BadCommand
    by_tests true true x e = cc
    by_tests true false x e = absurd cc
    by_tests false b x e = cc
only_bad last _ f e = cc

-- the fault of an element that is not read
pub elements_refused : (e : DimseFault) (text : List ℕ) (es : List Element) (last : Option ℕ) (rest : List ℕ)
    → TakesElements text es last rest → rest ≢ [] → Told is_memory e (λ f. element_at last rest ≡ Err f)
    → RefusesElements text e
elements_refused BadCommand text es last rest takes some given = λ fs spells. none_spelled text es last rest takes some
    given fs spells
elements_refused Memory text es last rest takes some given = tt
elements_refused BadContext text es last rest takes some given = absurd (let is = only_bad last rest BadContext given in
    cc)
elements_refused Interleaved text es last rest takes some given = absurd (let is = only_bad last rest Interleaved given
    in cc)
elements_refused TooLong text es last rest takes some given = absurd (let is = only_bad last rest TooLong given in cc)
elements_refused Failed text es last rest takes some given = absurd (let is = only_bad last rest Failed given in cc)

pub some_left : (rest : List ℕ) → (length rest == 0) ≡ false → rest ≢ []
some_left [] test is = cc
some_left (b ∷ rest) test is = cc
