-- What a text spells is what the reader makes of it.
use Rattle.std.proofs.Common.{◌≡◌, ℕ, zero, suc, ◌<◌, ◌≤◌, Bool, true, false, cond, List, [], ◌∷◌, ◌++◌}
use Rattle.std.proofs.Common.{length, take, drop, Option, Some, None, Result, Ok, Err, refl, sym, ap, subst, ◌∙◌, arith}
use Rattle.std.proofs.Common.{length-append}
use Rattle.std.specs.Prelude.{◌==◌}
use Rattle.std.specs.Int.{w32, to_le_bytes}
use Rattle.std.proofs.lemmas.List.{length-drop}
use Rattle.std.proofs.lemmas.Option.{same_Some as some_is}
use Rattle.data_set.specs.declared.fault.SetFault.{SetFault}
use Rattle.data_set.specs.declared.syntax.Syntax.{Syntax}
use Rattle.data_set.specs.declared.header.Closing.{Closing}
use Rattle.data_set.specs.declared.header.Closing.TheVariants.{Filled, End}
use Rattle.data_set.specs.Tree.{Tree, leaf, node, rows_of}
use Rattle.dictionary.specs.Tags.{tag_text}
use Rattle.data_set.specs.Tags.{item, item_end, sequence_end}
use Rattle.data_set.specs.Vr.{undefined_length}
use Rattle.data_set.specs.Header.{eight_at, end_at}
use Rattle.data_set.specs.Texts.{Given, Takes, All_of, Body, HasContent, ElementOver, IsItem, Spells, closing_of}
use Rattle.data_set.specs.Texts.{place_of, behind, after_tag, no_order, deepest}
use Rattle.data_set.specs.Reading.{One, fewer_than, all_in, in_body, content_by, element_by, item_by}
use Rattle.data_set.specs.Reading.{elements_of, elements_in}
use Rattle.data_set.proofs.HeaderLaws.{front_again, item_again}

-- ---- what is read is shorter

by_end : (b : Bool) (x rest after : List ℕ) → cond b (Some x) None ≡ Some after → length x ≤ length rest
    → length after ≤ length rest
by_end true x rest after e short = subst (λ (t : List ℕ). length t ≤ length rest) (some_is x after e) short
by_end false x rest after e short = absurd cc

end_short : (closing : Closing) (text after : List ℕ) → end_at closing text ≡ Some after → length after ≤ length text
unfolding end_at eight_at
end_short Filled [] after e = subst (λ (t : List ℕ). length t ≤ 0) (some_is [] after e) (omega arith)
end_short Filled (b ∷ text) after e = absurd cc
end_short (End tag) [] after e = absurd cc
end_short (End tag) (a ∷ []) after e = absurd cc
end_short (End tag) (a ∷ b ∷ []) after e = absurd cc
end_short (End tag) (a ∷ b ∷ c ∷ []) after e = absurd cc
end_short (End tag) (a ∷ b ∷ c ∷ d ∷ []) after e = absurd cc
end_short (End tag) (a ∷ b ∷ c ∷ d ∷ k ∷ []) after e = absurd cc
end_short (End tag) (a ∷ b ∷ c ∷ d ∷ k ∷ l ∷ []) after e = absurd cc
end_short (End tag) (a ∷ b ∷ c ∷ d ∷ k ∷ l ∷ m ∷ []) after e = absurd cc
end_short (End tag) (a ∷ b ∷ c ∷ d ∷ k ∷ l ∷ m ∷ n ∷ rest) after e =
    by_end _ rest (a ∷ b ∷ c ∷ d ∷ k ∷ l ∷ m ∷ n ∷ rest) after e (omega arith)

header_short : (tag : ℕ) (text head rest : List ℕ) → text ≡ tag_text tag ++ (head ++ rest) → length rest < length text
header_short tag text head rest e =
    subst (λ (t : List ℕ). length rest < length t) (sym e) (omega (arith, length-append head rest))

-- ---- what follows a relation

-- a function gives what a relation has, and that is shorter
abbrev Finds : {X : Type 0} → (List ℕ → Given X → Type 0) → (List ℕ → Given X) → Type 0
Finds {X} Run run = (text : List ℕ) (found : X × List ℕ) → Run text (Ok found) → (run text ≡ Ok found)
    × (length found.1 ≤ length text)

-- the same, and something was taken
abbrev FindsOne : {X : Type 0} → (Option ℕ → List ℕ → Given X → Type 0) → One X → Type 0
FindsOne {X} Is one =
    (previous : Option ℕ) (text : List ℕ) (found : X × List ℕ) → Is previous text (Ok found)
    → (one previous text ≡ Ok found) × (length found.1 < length text)

takes_found : {X : Type 0} (Is : Option ℕ → List ℕ → Given X → Type 0) (one : One X) (next : X → Option ℕ)
    (closing : Closing) → FindsOne Is one
    → (n : ℕ) (previous : Option ℕ) (text : List ℕ) (xs : List X) (last : Option ℕ) (rest after : List ℕ)
    → length text < n
    → Takes Is next closing previous text xs last rest → end_at closing rest ≡ Some after
    → (fewer_than one next closing n previous text ≡ Ok (xs, after)) × (length after ≤ length text)
takes_found Is one next closing finds zero previous text xs last rest after few takes ends = absurd (omega (arith, few))
takes_found Is one next closing finds (suc n) previous text [] last rest after few takes ends =
    let here : end_at closing text ≡ Some after = ap (end_at closing) (sym takes.1) ∙ ends in
    (rw here refl, end_short closing text after here)
takes_found Is one next closing finds (suc n) previous text (x ∷ xs) last rest after few (mid, none, is, takes) ends =
    let first = finds previous text (x, mid) is in
    let later = takes_found Is one next closing finds n (next x) mid xs last rest after (omega (arith, few, first.1))
    takes ends in
    (rw (none, first.0, later.0) refl, omega (arith, first.1, later.1))

all_found : {X : Type 0} (Is : Option ℕ → List ℕ → Given X → Type 0) (one : One X) (next : X → Option ℕ)
    → FindsOne Is one
    → (closing : Closing) → Finds (All_of Is next closing) (all_in one next closing)
unfolding all_in
all_found Is one next finds closing text found stand =
    takes_found Is one next closing finds (suc (length text)) None text found.0 stand.last stand.rest
    found.1 (omega arith) stand.takes stand.ends

behind_short : (b : Bool) (size : ℕ) (text after : List ℕ) → length after ≤ length (cond b text (take size text))
    → length (cond b after (drop size text)) ≤ length text
behind_short true size text after short = short
behind_short false size text after short = omega (arith, length-drop size text)

abbrev given_ok : {A : Type 0} → A → Result A SetFault
given_ok x = Ok x

ok_is : {A : Type 0} (x y : A) → given_ok x ≡ given_ok y → x ≡ y
ok_is x y e = cc

body_found : {X : Type 0} (Run : Closing → List ℕ → Given X → Type 0) (run : Closing → List ℕ → Given X)
    → ((closing : Closing) → Finds (Run closing) (run closing))
    → (tag size : ℕ) → Finds (Body Run tag size) (in_body run tag size)
body_found Run run finds tag size text found (Ok x, is, e) =
    let inside = finds (closing_of tag size) (place_of size text) x is in (
      rw inside.0 (sym e),
      subst (λ z. length z.1 ≤ length text) (sym (ok_is found (x.0, behind size text x.1) e))
          (behind_short (size == undefined_length) size text x.1 inside.1),
    )
body_found Run run finds tag size text found (Err f, is, e) = absurd cc

content_found : (Item : Syntax → Option ℕ → List ℕ → Given (List Tree) → Type 0) (item_in : Syntax → One (List Tree))
    → ((s : Syntax) → FindsOne (Item s) (item_in s))
    → (tag : ℕ) (vr : Option (List ℕ)) (size : ℕ) (inner : Option Syntax) → Finds (HasContent Item tag vr size inner)
    (content_by item_in tag vr size inner)
content_found Item item_in finds tag vr size None text found e = (
  sym e,
  subst (λ z. length z.1 ≤ length text) (sym (ok_is found (leaf tag vr (take size text), drop size text) e))
      (omega (arith, length-drop size text)),
)
content_found Item item_in finds tag vr size (Some inner) text found (Ok x, body, e) =
    let inside = body_found (All_of (Item inner) no_order) (all_in (item_in inner) no_order)
    (all_found (Item inner) (item_in inner) no_order (finds inner)) sequence_end size text x body in (
      rw inside.0 (sym e),
      subst (λ z. length z.1 ≤ length text) (sym (ok_is found (node tag vr (rows_of x.0), x.1) e))
          inside.1,
    )
content_found Item item_in finds tag vr size (Some inner) text found (Err f, body, e) = absurd cc

element_found : (Item : Syntax → Option ℕ → List ℕ → Given (List Tree) → Type 0) (item_in : Syntax → One (List Tree))
    → ((s : Syntax) → FindsOne (Item s) (item_in s))
    → (s : Syntax) → FindsOne (ElementOver Item s) (element_by item_in s)
element_found Item item_in finds s previous text found (front, rest, begins, content) =
    let inside = content_found Item item_in finds front.tag front.vr front.size front.inner rest found content in (
      rw (front_again s previous text front rest begins) inside.0,
      omega (
        arith,
        inside.1,
        header_short front.tag text
            begins.head rest begins.parts,
      ),
    )

item_found : (n : ℕ) (s : Syntax) → FindsOne (IsItem n s) (item_by n s)
item_found zero s previous text found (size, rest, begins, none) = absurd none
item_found (suc n) s previous text found (size, rest, begins, body) =
    let elements = all_found (ElementOver (IsItem n) s) (element_by (item_by n) s) after_tag
    (element_found (IsItem n) (item_by n) (item_found n) s) in
    let inside = body_found (All_of (ElementOver (IsItem n) s) after_tag) (all_in (element_by (item_by n) s) after_tag)
    elements item_end size rest found body in (
      rw (item_again (suc n) text size rest begins) inside.0,
      omega (
        arith,
        inside.1,
        header_short item
            text (to_le_bytes w32 size) rest begins.parts,
      ),
    )

-- What a whole text spells is read.
pub spelled_in : (s : Syntax) (text : List ℕ) (ts : List Tree) → Spells s text ts → elements_in s text ≡ ts
unfolding Spells elements_in
spelled_in s text ts spells =
    ap elements_of (all_found (ElementOver (IsItem deepest) s) (element_by (item_by deepest) s) after_tag
    (element_found (IsItem deepest) (item_by deepest) (item_found deepest) s) Filled text (ts, []) spells).0
