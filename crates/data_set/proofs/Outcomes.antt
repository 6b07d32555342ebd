-- Every text of bytes comes to an outcome: elements that it spells, or the fault of the first that offends.
use Rattle.std.proofs.Common.{inl, inr, ◌≡◌, ◌⊎◌, ℕ, zero, suc, ◌<◌, ◌≤◌, Bool, true, false, cond, List, [], ◌∷◌, ◌++◌}
use Rattle.std.proofs.Common.{length, take, drop, Option, Some, None, Ok, Err, refl, ap, subst, arith}
use Rattle.std.specs.Prelude.{◌==◌}
use Rattle.std.proofs.lemmas.List.{length-append, length-drop}
use Rattle.std.specs.Int.{w32, to_le_bytes}
use Rattle.std.proofs.lemmas.Option.{same_Some as some_is}
use Rattle.octets.specs.Bytes.{IsBytes}
use Rattle.octets.specs.Gives.{◌>>=◌}
use Rattle.octets.proofs.ByteLaws.{IsBytes-drop, IsBytes-tail}
use Rattle.data_set.specs.declared.fault.SetFault.{SetFault}
use Rattle.data_set.specs.declared.syntax.Syntax.{Syntax}
use Rattle.data_set.specs.declared.header.Front.{Front}
use Rattle.data_set.specs.declared.header.Closing.{Closing}
use Rattle.data_set.specs.declared.header.Closing.TheVariants.{Filled, End}
use Rattle.data_set.specs.Tree.{Tree, leaf, node, rows_of}
use Rattle.dictionary.specs.Tags.{tag_text}
use Rattle.data_set.specs.Tags.{item, item_end, sequence_end}
use Rattle.data_set.specs.Vr.{undefined_length}
use Rattle.data_set.specs.Header.{behind_end, eight_at, end_at, front_at, item_at}
use Rattle.data_set.specs.Spelling.{Begins, BeginsItem}
use Rattle.data_set.specs.Texts.{All_of, Behind, Body, ElementOver, Given, HasContent, HasFault, IsItem, Spells, Takes}
use Rattle.data_set.specs.Texts.{after_tag, behind, closing_of, deepest, no_order, place_of}
use Rattle.data_set.proofs.HeaderLaws.{front_takes, item_takes, rest_bytes}
use Rattle.data_set.proofs.Sets.{whole}

-- what is left behind a value: fewer than n bytes
abbrev Left : {X : Type 0} → ℕ → Given X → Type 0
Left n (Ok x) = IsBytes x.1 × (length x.1 < n)
Left n (Err f) = Unit {0}

-- there is an outcome, behind which fewer than n bytes are left
record Comes {X : Type 0} (Is : Given X → Type 0) (n : ℕ) : Type 0 where
  given : Given X
  is : Is given
  left : Left n given

-- ---- what is left of bytes

take_bytes : (n : ℕ) (text : List ℕ) → IsBytes text → IsBytes (take n text)
take_bytes zero text fits i = omega arith
take_bytes (suc n) [] fits i = omega arith
take_bytes (suc n) (b ∷ text) fits zero = fits zero
take_bytes (suc n) (b ∷ text) fits (suc i) = take_bytes n text (IsBytes-tail b text fits) i

-- behind a front that is not empty
behind_front : (front more rest text : List ℕ) → text ≡ front ++ (more ++ rest) → 0 < length front → IsBytes text
    → IsBytes rest × (length rest < length text)
behind_front front more rest text parts some fits =
    let whole_text : IsBytes (front ++ (more ++ rest)) = subst IsBytes parts fits in
    let long : length text ≡ length (front ++ (more ++ rest)) = ap length parts in
    let a = length-append front (more ++ rest) in
    let b = length-append more rest in
    (rest_bytes more rest (rest_bytes front (more ++ rest) whole_text), omega (arith, some, long, a, b))

begins_left : (syntax : Syntax) (previous : Option ℕ) (text : List ℕ) (front : Front) (rest : List ℕ)
    → Begins syntax previous text front rest → IsBytes text → IsBytes rest × (length rest < length text)
begins_left syntax previous text front rest begins fits =
    behind_front (tag_text front.tag) begins.head rest text begins.parts (omega arith) fits

cond_some : (b : Bool) (x y : List ℕ) → cond b (Some x) None ≡ Some y → x ≡ y
cond_some true x y e = some_is x y e
cond_some false x y e = absurd cc

eight_left : (tag : ℕ) (text after : List ℕ) → IsBytes text → behind_end tag (eight_at text) ≡ Some after
    → IsBytes after × (length after < suc (length text))
unfolding eight_at
eight_left tag (g0 ∷ g1 ∷ e0 ∷ e1 ∷ l0 ∷ l1 ∷ l2 ∷ l3 ∷ rest) after fits e =
    let same : rest ≡ after = cond_some _ rest after e in
    subst (λ (t : List ℕ). IsBytes t × (length t < suc (length (g0 ∷ g1 ∷ e0 ∷ e1 ∷ l0 ∷ l1 ∷ l2 ∷ l3 ∷ rest)))) same
    (rest_bytes (g0 ∷ g1 ∷ e0 ∷ e1 ∷ l0 ∷ l1 ∷ l2 ∷ l3 ∷ []) rest fits, omega arith)
eight_left tag _ after fits e = absurd cc

end_left : (closing : Closing) (text after : List ℕ) → IsBytes text → end_at closing text ≡ Some after
    → IsBytes after × (length after < suc (length text))
unfolding end_at
end_left Filled [] after fits e =
    subst (λ (t : List ℕ). IsBytes t × (length t < 1)) (some_is [] after e) (fits, omega arith)
end_left Filled (b ∷ text) after fits e = absurd cc
end_left (End tag) text after fits e = eight_left tag text after fits e

-- ---- one after the other

-- Behind previous these stand up to the end, or behind some that do not offend stands one that does.
abbrev From : {X : Type 0} → (Option ℕ → List ℕ → Given X → Type 0) → (X → Option ℕ) → Closing → Option ℕ → List ℕ
    → Given (List X) → Type 0
From {X} One next closing previous text (Ok found) =
    (last : Option ℕ) × (rest : List ℕ) × Takes One next closing previous text found.0 last rest ×
    (end_at closing rest ≡ Some found.1)
From {X} One next closing previous text (Err f) =
    (before : List X) × (last : Option ℕ) × (rest : List ℕ) × Takes One next closing previous text before last rest ×
    (end_at closing rest ≡ None) × One last rest (Err f)

-- each text has an outcome, behind which fewer bytes are left
abbrev Yields : {X : Type 0} → (Option ℕ → List ℕ → Given X → Type 0) → Type 0
Yields {X} One = (previous : Option ℕ) (text : List ℕ) → IsBytes text → Comes (One previous text) (length text)

-- what the rest behind a first one comes to is what all come to
push : {X : Type 0} (One : Option ℕ → List ℕ → Given X → Type 0) (next : X → Option ℕ) (closing : Closing)
    (previous : Option ℕ) (text : List ℕ) (x : X) (after : List ℕ) (given : Given (List X))
    → end_at closing text ≡ None → One previous text (Ok (x, after)) → length after < length text
    → From One next closing (next x) after given → Left (suc (length after)) given
    → Comes (From One next closing previous text) (suc (length text))
push One next closing previous text x after (Ok found) more one lt is left =
    record {
      given = Ok (x ∷ found.0, found.1);
      is = (is.0, is.1, (after, more, one, is.2), is.3);
      left =
          (left.0, omega (arith, lt, left.1));
    }
push One next closing previous text x after (Err f) more one lt is left =
    record { given = Err f; is = (x ∷ is.0, is.1, is.2, (after, more, one, is.3), is.4, is.5); left = tt }

-- the first one offends, or more come behind it
first : {X : Type 0} (One : Option ℕ → List ℕ → Given X → Type 0) (next : X → Option ℕ) (closing : Closing)
    (previous : Option ℕ) (text : List ℕ) (given : Given X)
    → end_at closing text ≡ None → One previous text given → Left (length text) given
    → ((x : X) (after : List ℕ) → IsBytes after → length after < length text → Comes
    (From One next closing (next x) after) (suc (length after)))
    → Comes (From One next closing previous text) (suc (length text))
first One next closing previous text (Ok x) more one left rest =
    let c = rest x.0 x.1 left.0 left.1 in
    push One next closing previous text x.0 x.1 c.given more one left.1 c.is c.left
first One next closing previous text (Err f) more one left rest =
    record { given = Err f; is = ([], previous, text, (refl, refl), more, one); left = tt }

-- the end stands here, or something stands before it
here : {X : Type 0} (One : Option ℕ → List ℕ → Given X → Type 0) (next : X → Option ℕ) (closing : Closing)
    (previous : Option ℕ) (text : List ℕ) (ended : Option (List ℕ))
    → Yields One → IsBytes text → end_at closing text ≡ ended
    → ((x : X) (after : List ℕ) → IsBytes after → length after < length text → Comes
    (From One next closing (next x) after) (suc (length after)))
    → Comes (From One next closing previous text) (suc (length text))
here One next closing previous text (Some after) yields fits is rest =
    record {
      given = Ok ([], after);
      is = (previous, text, (refl, refl), is);
      left = end_left closing text after fits is;
    }
here One next closing previous text None yields fits is rest =
    let c = yields previous text fits in
    first One next closing previous text c.given is c.is c.left rest

from_comes : {X : Type 0} (One : Option ℕ → List ℕ → Given X → Type 0) (next : X → Option ℕ) (closing : Closing)
    → Yields One → (n : ℕ) (previous : Option ℕ) (text : List ℕ) → IsBytes text → length text ≤ n
    → Comes (From One next closing previous text) (suc (length text))
from_comes One next closing yields zero previous text fits few =
    here One next closing previous text (end_at closing text) yields fits refl
    (λ x after fit lt. absurd (omega (arith, few, lt)))
from_comes One next closing yields (suc n) previous text fits few =
    here One next closing previous text (end_at closing text) yields fits refl
    (λ x after fit lt. from_comes One next closing yields n (next x) after fit (omega (arith, few, lt)))

all_from : {X : Type 0} (One : Option ℕ → List ℕ → Given X → Type 0) (next : X → Option ℕ) (closing : Closing)
    (text : List ℕ) (given : Given (List X)) → From One next closing None text given → All_of One next closing text
    given
all_from One next closing text (Ok found) is = record { last = is.0; rest = is.1; takes = is.2; ends = is.3 }
all_from One next closing text (Err f) is =
    record { before = is.0; last = is.1; rest = is.2; takes = is.3; open_still = is.4; offends = is.5 }

all_comes : {X : Type 0} (One : Option ℕ → List ℕ → Given X → Type 0) (next : X → Option ℕ) → Yields One
    → (closing : Closing) (text : List ℕ) → IsBytes text → Comes (All_of One next closing text) (suc (length text))
all_comes One next yields closing text fits =
    let c = from_comes One next closing yields (length text) None text fits (omega arith) in
    record { given = c.given; is = all_from One next closing text c.given c.is; left = c.left }

-- ---- bodies, elements and items

body_left : {X : Type 0} (size : ℕ) (text : List ℕ) (known : Bool) (given : Given X) → IsBytes text
    → Left (suc (length (cond known text (take size text)))) given
    → Left (suc (length text)) (given >>= λ x. Ok (x.0, cond known x.1 (drop size text)))
body_left size text true (Ok x) fits left = left
body_left size text false (Ok x) fits left = (IsBytes-drop size text fits, omega (arith, length-drop size text))
body_left size text known (Err f) fits left = tt

place_bytes : (size : ℕ) (text : List ℕ) (known : Bool) → IsBytes text → IsBytes (cond known text (take size text))
place_bytes size text true fits = fits
place_bytes size text false fits = take_bytes size text fits

body_comes : {X : Type 0} (Run : Closing → List ℕ → Given X → Type 0)
    → ((closing : Closing) (text : List ℕ) → IsBytes text → Comes (Run closing text) (suc (length text)))
    → (tag size : ℕ) (text : List ℕ) → IsBytes text
    → Comes (Body Run tag size text) (suc (length text))
body_comes Run yields tag size text fits =
    let c = yields (closing_of tag size) (place_of size text) (place_bytes size text (size == undefined_length) fits) in
    record {
      given = c.given >>= λ x. Ok (x.0, behind size text x.1);
      is = (c.given, c.is, refl);
      left = body_left size
          text (size == undefined_length) c.given fits c.left;
    }

-- behind a header that was read
behind_comes : {H X : Type 0} (At : Given H) (Stands : H → List ℕ → Type 0) (More : H → List ℕ → Given X → Type 0)
    (n : ℕ) (h : H) (rest : List ℕ) (given : Given X)
    → Stands h rest → length rest < n → More h rest given → Left (suc (length rest)) given
    → Comes (Behind At Stands More) n
behind_comes At Stands More n h rest (Ok x) stands lt more left =
    record { given = Ok x; is = (h, rest, stands, more); left = (left.0, omega (arith, lt, left.1)) }
behind_comes At Stands More n h rest (Err f) stands lt more left =
    record { given = Err f; is = inr (h, rest, stands, more); left = tt }

head_comes : {H X : Type 0} (At : Given H) (Stands : H → List ℕ → Type 0) (More : H → List ℕ → Given X → Type 0)
    (text : List ℕ) (r : Given H) → At ≡ r
    → ((h : H) (rest : List ℕ) → At ≡ Ok (h, rest) → Stands h rest × IsBytes rest × (length rest < length text))
    → ((h : H) (rest : List ℕ) → Stands h rest → IsBytes rest → Comes (More h rest) (suc (length rest)))
    → Comes (Behind At Stands More) (length text)
head_comes At Stands More text (Ok x) is stands yields =
    let s = stands x.0 x.1 is in
    let c = yields x.0 x.1 s.0 s.1 in
    behind_comes At Stands More (length text) x.0 x.1 c.given s.0 s.2 c.is c.left
head_comes At Stands More text (Err f) is stands yields = record { given = Err f; is = inl is; left = tt }

node_left : (tag : ℕ) (vr : Option (List ℕ)) (n : ℕ) (given : Given (List (List Tree))) → Left n given
    → Left n (given >>= λ x. Ok (node tag vr (rows_of x.0), x.1))
node_left tag vr n (Ok x) left = left
node_left tag vr n (Err f) left = tt

content_comes : (Item : Syntax → Option ℕ → List ℕ → Given (List Tree) → Type 0)
    → ((syntax : Syntax) → Yields (Item syntax))
    → (tag : ℕ) (vr : Option (List ℕ)) (size : ℕ) (inner : Option Syntax) (rest : List ℕ) → IsBytes rest
    → Comes (HasContent Item tag vr size inner rest) (suc (length rest))
content_comes Item yields tag vr size None rest fits =
    record {
      given = Ok (leaf tag vr (take size rest), drop size rest);
      is = refl;
      left =
          (IsBytes-drop size rest fits, omega (arith, length-drop size rest));
    }
content_comes Item yields tag vr size (Some inner) rest fits =
    let c = body_comes (All_of (Item inner) no_order) (all_comes (Item inner) no_order (yields inner)) sequence_end size
    rest fits in
    record {
      given = c.given >>= λ x. Ok (node tag vr (rows_of x.0), x.1);
      is = (c.given, c.is, refl);
      left = node_left
          tag vr (suc (length rest)) c.given c.left;
    }

element_comes : (Item : Syntax → Option ℕ → List ℕ → Given (List Tree) → Type 0)
    → ((syntax : Syntax) → Yields (Item syntax)) → (syntax : Syntax) → Yields (ElementOver Item syntax)
element_comes Item yields syntax previous text fits =
    head_comes (front_at syntax previous text) (Begins syntax previous text)
    (λ front rest r. HasContent Item front.tag front.vr front.size front.inner rest r) text
    (front_at syntax previous text) refl
    (λ front rest is. let begins = front_takes syntax previous text (front, rest) fits is in let left = begins_left
    syntax previous text front rest begins fits in (begins, left.0, left.1))
    (λ front rest begins fit. content_comes Item yields front.tag front.vr front.size front.inner rest fit)

item_begun : (n : ℕ) (text : List ℕ) → IsBytes text → (size : ℕ) (rest : List ℕ) → item_at n text ≡ Ok (size, rest)
    → BeginsItem n text size rest × IsBytes rest × (length rest < length text)
item_begun n text fits size rest is =
    let begins = item_takes n text (size, rest) fits is in
    let left = behind_front (tag_text item) (to_le_bytes w32 size) rest text begins.parts (omega arith) fits in
    (begins, left.0, left.1)

item_comes : (n : ℕ) (syntax : Syntax) → Yields (IsItem n syntax)
item_comes zero syntax previous text fits =
    head_comes (item_at zero text) (BeginsItem zero text) (λ size rest r. ⊥) text (item_at zero text) refl
    (item_begun zero text fits) (λ size rest begins fit. absurd (omega (arith, begins.deep)))
item_comes (suc n) syntax previous text fits =
    head_comes (item_at (suc n) text) (BeginsItem (suc n) text)
    (λ size rest r. Body (All_of (ElementOver (IsItem n) syntax) after_tag) item_end size rest r) text
    (item_at (suc n) text) refl (item_begun (suc n) text fits)
    (λ size rest begins fit. body_comes (All_of (ElementOver (IsItem n) syntax) after_tag)
    (all_comes (ElementOver (IsItem n) syntax) after_tag (element_comes (IsItem n) (item_comes n) syntax)) item_end
    size rest fit)

-- ---- whole texts

either : (syntax : Syntax) (text : List ℕ) (given : Given (List Tree))
    → All_of (ElementOver (IsItem deepest) syntax) after_tag Filled text given
    → ((ts : List Tree) × Spells syntax text ts) ⊎ ((f : SetFault) × HasFault syntax text f)
unfolding HasFault
either syntax text (Ok found) is = inl (found.0, whole syntax text found.0 found.1 is)
either syntax text (Err f) is = inr (f, is)

pub has_outcome : (syntax : Syntax) (text : List ℕ) → IsBytes text
    → ((ts : List Tree) × Spells syntax text ts) ⊎ ((f : SetFault) × HasFault syntax text f)
has_outcome syntax text fits =
    let c = all_comes (ElementOver (IsItem deepest) syntax) after_tag
    (element_comes (IsItem deepest) (item_comes deepest) syntax) Filled text fits in
    either syntax text c.given c.is
