-- What a text spells may be written: a set that was read is one.
use Rattle.std.proofs.Common.{inl, inr, ◌≤◌, ◌≡◌, ◌≢◌, ◌⊎◌, ℕ, zero, suc, Bool, true, false, ◌&&◌, ◌||◌, cond, List, []}
use Rattle.std.proofs.Common.{◌∷◌, length, take, drop, Option, Some, None, Result, Ok, Err, refl, sym, ap, subst, ◌∙◌}
use Rattle.std.proofs.Common.{arith}
use Rattle.std.specs.Prelude.{◌==◌}
use Rattle.std.proofs.lemmas.Bool.{eqb-true, and_parts as and_true}
use Rattle.data_set.specs.declared.fault.SetFault.{SetFault}
use Rattle.data_set.specs.declared.syntax.Syntax.{Syntax}
use Rattle.data_set.specs.declared.syntax.Syntax.TheVariants.{Implicit, Explicit}
use Rattle.data_set.specs.declared.header.Front.{Front}
use Rattle.data_set.specs.declared.header.Closing.{Closing}
use Rattle.data_set.specs.declared.header.Closing.TheVariants.{Filled}
use Rattle.std.proofs.lemmas.List.{length-take}
use Rattle.data_set.proofs.Offences.{sized}
use Rattle.octets.specs.Gives.{◌>>=◌}
use Rattle.data_set.specs.Tree.{Tree, leaf, node, rows_of, tag_of, trees_of}
use Rattle.data_set.specs.Tags.{is_listed, item_end, sequence_end}
use Rattle.data_set.specs.Vr.{inner_syntax, is_short, undefined_length}
use Rattle.data_set.specs.Header.{offence}
use Rattle.data_set.specs.Spelling.{Begins, FitsHead}
use Rattle.data_set.specs.Texts.{All_of, Body, ElementOver, Given, HasContent, IsElement, IsItem, Spells, Takes}
use Rattle.data_set.specs.Texts.{deepest, after_tag, behind, closing_of, no_order, place_of}
use Rattle.data_set.specs.Written.{AreRows, AreTrees, Deeper, IsSet, IsTree, MayStand}

some_if : (b : Bool) (x inner : Syntax) → cond b (Some x) None ≡ Some inner → Some x ≡ Some inner
some_if true x inner e = e
some_if false x inner e = absurd cc

pair_named : (sq un named : Bool) (inner : Syntax) → cond sq (Some Explicit) (cond (un && named) (Some Implicit) None)
    ≡ Some inner → cond sq (Some Explicit) (cond (un && true) (Some Implicit) None) ≡ Some inner
pair_named true un named inner e = e
pair_named false true true inner e = e
pair_named false true false inner e = absurd cc
pair_named false false named inner e = absurd cc

-- a sequence is one with an undefined length too
inner_too : (tag : ℕ) (vr : Option (List ℕ)) (size : ℕ) (inner : Syntax) → inner_syntax tag vr size ≡ Some inner
    → inner_syntax tag vr undefined_length ≡ Some inner
inner_too tag None size inner e = some_if (size == undefined_length || is_listed tag) Implicit inner e
inner_too tag (Some []) size inner e = some_if (size == undefined_length || is_listed tag) Implicit inner e
inner_too tag (Some (a ∷ [])) size inner e = some_if (size == undefined_length || is_listed tag) Implicit inner e
inner_too tag (Some (a ∷ b ∷ [])) size inner e = pair_named (a == 83 && b == 81) (a == 85 && b == 78)
    (size == undefined_length || is_listed tag) inner e
inner_too tag (Some (a ∷ b ∷ c ∷ vr)) size inner e = some_if (size == undefined_length || is_listed tag) Implicit inner
    e

long_pair : (a b x y : ℕ) → is_short x y ≡ false → (a == x && b == y) ≡ true → is_short a b ≡ false
long_pair a b x y long e =
    let both = and_true (a == x) (b == y) e in
    ap (λ (n : ℕ). is_short n b) (eqb-true a x both.0) ∙ ap (is_short x) (eqb-true b y both.1) ∙ long

long_known : (a b : ℕ) (sq un named : Bool) (inner : Syntax) → (sq ≡ true → is_short a b ≡ false)
    → (un ≡ true → is_short a b ≡ false) → cond sq (Some Explicit) (cond (un && named) (Some Implicit) None) ≡ Some
    inner → is_short a b ≡ false
long_known a b true un named inner f g e = f refl
long_known a b false true named inner f g e = g refl
long_known a b false false named inner f g e = absurd cc

long_sq : is_short 83 81 ≡ false
unfolding is_short
long_sq = refl

long_un : is_short 85 78 ≡ false
unfolding is_short
long_un = refl

fits_too : (tag : ℕ) (vr : Option (List ℕ)) (size : ℕ) (inner : Syntax) → FitsHead vr size → inner_syntax tag vr
    size ≡ Some inner → FitsHead vr undefined_length
fits_too tag None size inner fits e = omega arith
fits_too tag (Some []) size inner fits e = absurd fits
fits_too tag (Some (a ∷ [])) size inner fits e = absurd fits
fits_too tag (Some (a ∷ b ∷ [])) size inner fits e =
    let long : is_short a b ≡ false = long_known a b (a == 83 && b == 81) (a == 85 && b == 78)
    (size == undefined_length || is_listed tag) inner (long_pair a b 83 81 long_sq) (long_pair a b 85 78 long_un) e
    in
    rw long (omega arith)
fits_too tag (Some (a ∷ b ∷ c ∷ vr)) size inner fits e = absurd fits

same_offence : (p : Option ℕ) (tag : ℕ) (vr : Option (List ℕ)) (size : ℕ) (inner : Syntax) → inner_syntax tag vr
    size ≡ Some inner → inner_syntax tag vr undefined_length ≡ Some inner
    → offence p (record { tag = tag; vr = vr; size = undefined_length }) ≡ offence
    p (record { tag = tag; vr = vr; size = size })
unfolding offence
same_offence p tag vr size inner i j = rw (i, j) refl

sequence_may : (s : Syntax) (p : Option ℕ) (text : List ℕ) (front : Front) (rest : List ℕ) (inner : Syntax)
    → Begins s p text front rest → front.inner ≡ Some inner → MayStand s p front.tag front.vr undefined_length
    (Some inner)
sequence_may s p text front rest inner b is =
    let i : inner_syntax front.tag front.vr front.size ≡ Some inner = sym b.inner ∙ is in
    let j = inner_too front.tag front.vr front.size inner i in
    record {
      tag_fits = b.tag;
      suits = b.suits;
      fits = fits_too front.tag front.vr front.size inner b.fits i;
      faultless = same_offence p front.tag front.vr front.size inner i j ∙ b.faultless;
      is_inner = sym j;
    }

-- ---- what is read

abbrev given_ok : {A : Type 0} → A → Result A SetFault
given_ok x = Ok x

ok_is : {A : Type 0} (x y : A) → given_ok x ≡ given_ok y → x ≡ y
ok_is x y e = cc

bind_is : {A B : Type 0} (r : Result A SetFault) (f : A → Result B SetFault) (y : B) → Ok y ≡ (r >>= f) → (x : A)
    × (r ≡ Ok x) × (f x ≡ Ok y)
bind_is (Ok x) f y e = (x, refl, sym e)
bind_is (Err d) f y e = absurd cc

rows_kept : (n : ℕ) (s : Syntax) → ((p : Option ℕ) (text after : List ℕ) (ts : List Tree)
    → IsItem n s p text (Ok (ts, after)) → Deeper n (λ m. AreTrees (trees_of ts) m s None))
    → (closing : Closing) (p : Option ℕ) (text : List ℕ) (rows : List (List Tree)) (last : Option ℕ) (rest : List ℕ)
    → Takes (IsItem n s) no_order closing p text rows last rest → AreRows (rows_of rows) n s
rows_kept n s item closing p text [] last rest takes = tt
rows_kept n s item closing p text (ts ∷ rows) last rest takes =
    (item p text takes.0 ts takes.2, rows_kept n s item closing None takes.0 rows last rest takes.3)

-- the value of a body that did not fail
body_value : {X : Type 0} (Run : Closing → List ℕ → Given X → Type 0) (tag size : ℕ) (text : List ℕ) (x : X)
    (after : List ℕ) → Body Run tag size text (Ok (x, after)) → (y : List ℕ) × Run (closing_of tag size)
    (place_of size text) (Ok (x, y))
body_value {X} Run tag size text x after (inside, run, e) =
    let b = bind_is inside (λ z. Ok (z.0, behind size text z.1)) (x, after) e in
    let same : b.0.0 ≡ x = ap (λ (z : X × List ℕ). z.0) (ok_is (b.0.0, behind size text b.0.1) (x, after) b.2) in (
      b.0.1,
      subst (λ (z : X). Run (closing_of tag size) (place_of size text) (Ok (z, b.0.1)))
          same (subst (Run (closing_of tag size) (place_of size text)) b.1 run),
    )

content_kept : (n : ℕ) (s : Syntax) (p : Option ℕ) (text : List ℕ)
    → ((s' : Syntax) (q : Option ℕ) (t after : List ℕ) (ts : List Tree) → IsItem n s' q t (Ok (ts, after))
    → Deeper n (λ m. AreTrees (trees_of ts) m s' None))
    → (front : Front) (rest : List ℕ) (inner : Option Syntax) (t : Tree) (after : List ℕ) → Begins s p text front rest
    → front.inner ≡ inner → length (take front.size rest) ≡ front.size ⊎ (inner ≢ None) → HasContent (IsItem n)
    front.tag front.vr front.size inner rest (Ok (t, after)) → IsTree t n s p
content_kept n s p text item front rest None t after b is (inl len) content =
    let same : (t, after) ≡ (leaf front.tag front.vr (take front.size rest), drop front.size rest) = ok_is (t, after)
    (leaf front.tag front.vr (take front.size rest), drop front.size rest) content in
    let may : MayStand s p front.tag front.vr front.size None = record {
      tag_fits = b.tag;
      suits = b.suits;
      fits =
          b.fits;
      faultless = b.faultless;
      is_inner = sym is ∙ b.inner;
    } in
    subst (λ (z : Tree). IsTree z n s p) (sym (ap (λ (z : Tree × List ℕ). z.0) same))
    (subst (λ (k : ℕ). MayStand s p front.tag front.vr k None) (sym len) may)
content_kept n s p text item front rest None t after b is (inr some) content = absurd (some refl)
content_kept n s p text item front rest (Some inner) t after b is len (inside, body, e) =
    let x = bind_is inside (λ z. Ok (node front.tag front.vr (rows_of z.0), z.1)) (t, after) e in
    let same : (node front.tag front.vr (rows_of x.0.0), x.0.1) ≡ (t, after) =
    ok_is (node front.tag front.vr (rows_of x.0.0), x.0.1) (t, after) x.2 in
    let run = body_value (All_of (IsItem n inner) no_order) sequence_end front.size rest x.0.0
    x.0.1 (subst (Body (All_of (IsItem n inner) no_order) sequence_end front.size rest) x.1 body) in
    let are = rows_kept n inner (item inner) (closing_of sequence_end front.size) None (place_of front.size rest) x.0.0
    run.1.last run.1.rest run.1.takes in
    subst (λ (z : Tree). IsTree z n s p) (ap (λ (z : Tree × List ℕ). z.0) same) (
      inner,
      sequence_may s p text front rest
          inner b is,
      are,
    )

filled_or_inner : (s : Syntax) (p : Option ℕ) (text : List ℕ) (front : Front) (rest : List ℕ) (inner : Option Syntax)
    → Begins s p text front rest → front.inner ≡ inner → length (take front.size rest) ≡ front.size ⊎ (inner ≢ None)
filled_or_inner s p text front rest None b is =
    let fits : front.size ≤ length rest = sized p (record { tag = front.tag; vr = front.vr; size = front.size }) rest
    front.inner b.faultless b.place b.inner is in
    inl (omega (arith, fits, length-take front.size rest))
filled_or_inner s p text front rest (Some inner) b is = inr (λ e. some_none inner e)
  where
    some_none : (x : Syntax) → Some x ≡ None → ⊥
    some_none x e = cc

abbrev KeepsItems : ℕ → Type 0
KeepsItems n = (s : Syntax) (p : Option ℕ) (text after : List ℕ) (ts : List Tree) → IsItem n s p text (Ok (ts, after))
    → Deeper n (λ m. AreTrees (trees_of ts) m s None)

element_kept : (n : ℕ) → KeepsItems n → (s : Syntax) (p : Option ℕ) (text : List ℕ) (t : Tree) (after : List ℕ)
    → IsElement n s p text (Ok (t, after)) → IsTree t n s p
element_kept n item s p text t after (front, rest, b, content) =
    content_kept n s p text item front rest front.inner t after b refl (filled_or_inner s p text front rest front.inner
    b refl) content

elements_kept : (n : ℕ) → KeepsItems n → (s : Syntax) (closing : Closing) (p : Option ℕ) (text : List ℕ)
    (ts : List Tree) (last : Option ℕ) (rest : List ℕ) → Takes (IsElement n s) after_tag closing p text ts last rest
    → AreTrees (trees_of ts) n s p
elements_kept n item s closing p text [] last rest takes = tt
elements_kept n item s closing p text (t ∷ ts) last rest takes = (
  element_kept n item s p text t takes.0 takes.2,
  elements_kept n item s closing (Some (tag_of t)) takes.0 ts last
      rest takes.3,
)

item_kept : (n : ℕ) → KeepsItems n
item_kept zero s p text after ts (size, rest, b, none) = absurd none
item_kept (suc m) s p text after ts (size, rest, b, body) =
    let run = body_value (All_of (ElementOver (IsItem m) s) after_tag) item_end size rest ts after body in
    elements_kept m (item_kept m) s (closing_of item_end size) None (place_of size rest) ts run.1.last run.1.rest
    run.1.takes

-- What is spelled may be written.
pub spelled_set : (s : Syntax) (text : List ℕ) (ts : List Tree) → Spells s text ts → IsSet s ts
unfolding Spells IsSet
spelled_set s text ts spells = elements_kept deepest (item_kept deepest) s Filled None text ts spells.last spells.rest
    spells.takes
