-- The grammar of data sets: what reading a text comes to, a list of elements or the fault of the first that offends
-- (PS3.5, 7.1 and 7.5).
use Rattle.std.specs.Prelude.{◌≡◌, ℕ, zero, suc, List, [], ◌∷◌, take, drop, Option, Some, None, Result, Ok, Err, ◌==◌}
use Rattle.std.specs.Prelude.{◌⊎◌, if◌then◌else◌}
use Rattle.octets.specs.Gives.{◌>>=◌}
use Rattle.data_set.specs.declared.fault.SetFault.{SetFault}
use Rattle.data_set.specs.declared.syntax.Syntax.{Syntax}
use Rattle.data_set.specs.declared.header.Closing.{Closing}
use Rattle.data_set.specs.declared.header.Closing.TheVariants.{Filled, End}
use Rattle.data_set.specs.Tree.{Tree, leaf, node, rows_of, tag_of}
use Rattle.data_set.specs.Tags.{item_end, sequence_end}
use Rattle.data_set.specs.Vr.{undefined_length}
use Rattle.data_set.specs.Header.{front_at, item_at, end_at}
use Rattle.data_set.specs.Spelling.{Begins, BeginsItem}

-- what a reading comes to: a value and what comes behind it, or a fault
abbrev pub Given : Type 0 → Type 0
Given X = Result (X × List ℕ) SetFault

-- ---- one after the other

-- Behind previous the text begins with these, none of them at the end; the last leaves the tag last, and rest comes
-- behind them.
abbrev pub Takes : {X : Type 0} → (Option ℕ → List ℕ → Given X → Type 0) → (X → Option ℕ) → Closing → Option ℕ → List ℕ
    → List X → Option ℕ → List ℕ → Type 0
Takes One next closing previous text [] last rest = (last ≡ previous) × (rest ≡ text)
Takes One next closing previous text (x ∷ xs) last rest =
    (after : List ℕ) × (end_at closing text ≡ None) × One previous text (Ok (x, after))
    × Takes One next closing (next x) after xs last rest

-- Up to the end these stand.
pub record Stand {X : Type 0} (One : Option ℕ → List ℕ → Given X → Type 0) (next : X → Option ℕ) (closing : Closing)
    (text : List ℕ) (found : List X × List ℕ) : Type 0 where
  pub last : Option ℕ
  pub rest : List ℕ
  pub takes : Takes One next closing None text found.0 last rest
  pub ends : end_at closing rest ≡ Some found.1

-- Behind some that do not offend stands one that does, and so.
pub record Offends {X : Type 0} (One : Option ℕ → List ℕ → Given X → Type 0) (next : X → Option ℕ) (closing : Closing)
    (text : List ℕ) (f : SetFault) : Type 0 where
  pub before : List X
  pub last : Option ℕ
  pub rest : List ℕ
  pub takes : Takes One next closing None text before last rest
  pub open_still : end_at closing rest ≡ None
  pub offends : One last rest (Err f)

abbrev pub All_of : {X : Type 0} → (Option ℕ → List ℕ → Given X → Type 0) → (X → Option ℕ) → Closing → List ℕ
    → Given (List X) → Type 0
All_of One next closing text (Ok found) = Stand One next closing text found
All_of One next closing text (Err f) = Offends One next closing text f

-- ---- a body: of a length, which is filled, or up to its end

abbrev pub closing_of : ℕ → ℕ → Closing
closing_of tag size = if size == undefined_length then End tag else Filled

abbrev pub place_of : ℕ → List ℕ → List ℕ
place_of size text = if size == undefined_length then text else take size text

abbrev pub behind : ℕ → List ℕ → List ℕ → List ℕ
behind size text after = if size == undefined_length then after else drop size text

abbrev pub Body : {X : Type 0} → (Closing → List ℕ → Given X → Type 0) → ℕ → ℕ → List ℕ → Given X → Type 0
Body {X} Run tag size text r =
    (inside : Given X) × Run (closing_of tag size) (place_of size text) inside
    × (r ≡ (inside >>= λ x. Ok (x.0, behind size text x.1)))

-- A header stands at the front, and behind it more; or reading the header gives its fault.
abbrev pub Behind : {H X : Type 0} → Given H → (H → List ℕ → Type 0) → (H → List ℕ → Given X → Type 0) → Given X
    → Type 0
Behind {H} At Stands More (Ok x) = (h : H) × (rest : List ℕ) × Stands h rest × More h rest (Ok x)
Behind {H} At Stands More (Err f) = (At ≡ Err f) ⊎ ((h : H) × (rest : List ℕ) × Stands h rest × More h rest (Err f))

-- ---- elements and items

abbrev pub after_tag : Tree → Option ℕ
after_tag t = Some (tag_of t)

abbrev pub no_order : List Tree → Option ℕ
no_order ts = None

-- a value, or the items of a sequence
abbrev pub HasContent : (Syntax → Option ℕ → List ℕ → Given (List Tree) → Type 0) → ℕ → Option (List ℕ) → ℕ
    → Option Syntax → List ℕ → Given Tree → Type 0
HasContent Item tag vr size None rest r = r ≡ Ok (leaf tag vr (take size rest), drop size rest)
HasContent Item tag vr size (Some inner) rest r =
    (inside : Given (List (List Tree))) × Body (All_of (Item inner) no_order) sequence_end size rest inside
    × (r ≡ (inside >>= λ x. Ok (node tag vr (rows_of x.0), x.1)))

abbrev pub ElementOver : (Syntax → Option ℕ → List ℕ → Given (List Tree) → Type 0) → Syntax → Option ℕ → List ℕ
    → Given Tree → Type 0
ElementOver Item syntax previous text r = Behind (front_at syntax previous text) (Begins syntax previous text)
    (λ front rest r. HasContent Item front.tag front.vr front.size front.inner rest r) r

-- an item, where n more sequences may stand around it
abbrev pub IsItem : ℕ → Syntax → Option ℕ → List ℕ → Given (List Tree) → Type 0
IsItem zero syntax previous text r = Behind (item_at zero text) (BeginsItem zero text) (λ size rest r. ⊥) r
IsItem (suc n) syntax previous text r = Behind (item_at (suc n) text) (BeginsItem (suc n) text)
    (λ size rest r. Body (All_of (ElementOver (IsItem n) syntax) after_tag) item_end size rest r) r

-- an element, where n more sequences may stand around what is in it
abbrev pub IsElement : ℕ → Syntax → Option ℕ → List ℕ → Given Tree → Type 0
IsElement n syntax previous text r = ElementOver (IsItem n) syntax previous text r

abbrev pub Elements : ℕ → Syntax → Closing → List ℕ → Given (List Tree) → Type 0
Elements n syntax closing text r = All_of (IsElement n syntax) after_tag closing text r

abbrev pub Items : ℕ → Syntax → Closing → List ℕ → Given (List (List Tree)) → Type 0
Items n syntax closing text r = All_of (IsItem n syntax) no_order closing text r

-- ---- whole texts

-- how many sequences may stand around an element
abbrev pub deepest : ℕ
deepest = 16

-- The whole text spells these elements.
unfoldable pub Spells : Syntax → List ℕ → List Tree → Type 0
Spells syntax text ts = Elements deepest syntax Filled text (Ok (ts, []))

-- The first element that offends does so by this fault.
unfoldable pub HasFault : Syntax → List ℕ → SetFault → Type 0
HasFault syntax text f = Elements deepest syntax Filled text (Err f)
