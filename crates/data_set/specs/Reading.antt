-- The reader as a function of the text: what a text spells, computed (PS3.5, 7.1 and 7.5).
use Rattle.std.specs.Prelude.{ℕ, zero, suc, List, [], ◌∷◌, length, take, drop, Option, Some, None, Ok, Err}
use Rattle.octets.specs.Gives.{◌>>=◌}
use Rattle.data_set.specs.declared.fault.SetFault.TheVariants.{Truncated, Depth}
use Rattle.data_set.specs.declared.syntax.Syntax.{Syntax}
use Rattle.data_set.specs.declared.header.Closing.{Closing}
use Rattle.data_set.specs.declared.header.Closing.TheVariants.{Filled}
use Rattle.data_set.specs.Tree.{Tree, leaf, node, rows_of}
use Rattle.data_set.specs.Tags.{item_end, sequence_end}
use Rattle.data_set.specs.Header.{front_at, item_at, end_at}
use Rattle.data_set.specs.Texts.{Given, closing_of, place_of, behind, after_tag, no_order, deepest}

-- one at the front of a text, behind a tag
abbrev pub One : Type 0 → Type 0
One X = Option ℕ → List ℕ → Given X

abbrev pub more_of : {X : Type 0} → Option (List ℕ) → Given X → (X → List ℕ → Given (List X)) → Given (List X)
more_of (Some after) first others = Ok ([], after)
more_of None first others = do
  x ← first
  xs ← others x.0 x.1
  Ok (x.0 ∷ xs.0, xs.1)

-- one after the other up to the end, fewer of them than this
abbrev pub fewer_than : {X : Type 0} → One X → (X → Option ℕ) → Closing → ℕ → Option ℕ → List ℕ → Given (List X)
fewer_than one next closing zero previous text = Err Truncated
fewer_than one next closing (suc n) previous text =
    more_of (end_at closing text) (one previous text) (λ x rest. fewer_than one next closing n (next x) rest)

-- all of them: each has a byte or more
unfoldable pub all_in : {X : Type 0} → One X → (X → Option ℕ) → Closing → List ℕ → Given (List X)
all_in one next closing text = fewer_than one next closing (suc (length text)) None text

-- a body: of a length, or up to its end
abbrev pub in_body : {X : Type 0} → (Closing → List ℕ → Given X) → ℕ → ℕ → List ℕ → Given X
in_body run tag size text = run (closing_of tag size) (place_of size text) >>= λ x. Ok (x.0, behind size text x.1)

-- a value, or the items of a sequence
abbrev pub content_by : (Syntax → One (List Tree)) → ℕ → Option (List ℕ) → ℕ → Option Syntax → List ℕ → Given Tree
content_by item_in tag vr size None rest = Ok (leaf tag vr (take size rest), drop size rest)
content_by item_in tag vr size (Some inner) rest =
    in_body (all_in (item_in inner) no_order) sequence_end size rest >>= λ x. Ok (node tag vr (rows_of x.0), x.1)

abbrev pub element_by : (Syntax → One (List Tree)) → Syntax → One Tree
element_by item_in syntax previous text =
    front_at syntax previous text >>= λ x. content_by item_in x.0.tag x.0.vr x.0.size x.0.inner x.1

-- an item, where n more sequences may stand around it
abbrev pub item_by : ℕ → Syntax → One (List Tree)
item_by zero syntax previous text = Err Depth
item_by (suc n) syntax previous text =
    item_at (suc n) text >>= λ x. in_body (all_in (element_by (item_by n) syntax) after_tag) item_end x.0 x.1

abbrev pub elements_of : Given (List Tree) → List Tree
elements_of (Ok found) = found.0
elements_of (Err f) = []

-- the elements that the whole text spells, where it spells any
unfoldable pub elements_in : Syntax → List ℕ → List Tree
elements_in syntax text = elements_of (all_in (element_by (item_by deepest) syntax) after_tag Filled text)
