-- How the header at the front of a text is read, with the fault that is told: this is the order of faults in one
-- element.
use Rattle.std.specs.Prelude.{ℕ, List, [], ◌∷◌, length, Option, Some, None, Result, Ok, Err, Bool, not, nat_le, ◌==◌}
use Rattle.std.specs.Prelude.{◌&&◌, ◌||◌, if◌then◌else◌}
use Rattle.std.specs.Int.{w16, w32, from_le_bytes}
use Rattle.octets.specs.Gives.{◌>>=◌}
use Rattle.data_set.specs.declared.fault.SetFault.{SetFault}
use Rattle.data_set.specs.declared.fault.SetFault.TheVariants.{Truncated, Order, Depth, Undefined, BadVr, Group}
use Rattle.data_set.specs.declared.syntax.Syntax.{Syntax}
use Rattle.data_set.specs.declared.syntax.Syntax.TheVariants.{Implicit, Explicit}
use Rattle.data_set.specs.declared.header.Header.{Header}
use Rattle.data_set.specs.declared.header.Front.{Front}
use Rattle.data_set.specs.declared.header.Closing.{Closing}
use Rattle.data_set.specs.declared.header.Closing.TheVariants.{Filled, End}
use Rattle.dictionary.specs.Tags.{tag_from, is_above}
use Rattle.data_set.specs.Tags.{item, is_item_tag, is_reserved_group}
use Rattle.data_set.specs.Vr.{undefined_length, is_capital, is_short, has_bad_vr, inner_syntax, is_undefined}

-- ---- the bytes of a header

-- tag and length (PS3.5, 7.1.3)
abbrev pub implicit_header : List ℕ → Result (Header × List ℕ) SetFault
implicit_header (g0 ∷ g1 ∷ e0 ∷ e1 ∷ l0 ∷ l1 ∷ l2 ∷ l3 ∷ rest) =
    Ok (record { tag = tag_from g0 g1 e0 e1; vr = None; size = from_le_bytes w32 (l0 ∷ l1 ∷ l2 ∷ l3 ∷ []) }, rest)
implicit_header _ = Err Truncated

-- behind a tag and a value representation with a length of four bytes: two reserved bytes, and that length
abbrev pub long_size : ℕ → List ℕ → List ℕ → Result (Header × List ℕ) SetFault
long_size tag vr (r0 ∷ r1 ∷ l0 ∷ l1 ∷ l2 ∷ l3 ∷ rest) =
    Ok (record { tag = tag; vr = Some vr; size = from_le_bytes w32 (l0 ∷ l1 ∷ l2 ∷ l3 ∷ []) }, rest)
long_size tag vr _ = Err Truncated

-- behind any other
abbrev pub short_size : ℕ → List ℕ → List ℕ → Result (Header × List ℕ) SetFault
short_size tag vr (l0 ∷ l1 ∷ rest) = Ok (
  record { tag = tag; vr = Some vr; size = from_le_bytes w16 (l0 ∷ l1 ∷ []) },
  rest,
)
short_size tag vr _ = Err Truncated

-- Twelve bytes stand before the value where the length has four of them, else eight.
abbrev pub has_long_size : ℕ → ℕ → ℕ → Bool
has_long_size tag a b = not (is_item_tag tag) && is_capital a && is_capital b && not (is_short a b)

-- tag, value representation and length (PS3.5, 7.1.2)
abbrev pub explicit_header : List ℕ → Result (Header × List ℕ) SetFault
explicit_header (g0 ∷ g1 ∷ e0 ∷ e1 ∷ a ∷ b ∷ rest) =
    let tag = tag_from g0 g1 e0 e1 in
    if has_long_size tag a b then long_size tag (a ∷ b ∷ []) rest else short_size tag (a ∷ b ∷ []) rest
explicit_header _ = Err Truncated

unfoldable pub header_at : Syntax → List ℕ → Result (Header × List ℕ) SetFault
header_at Implicit text = implicit_header text
header_at Explicit text = explicit_header text

-- ---- what offends in an element, in the order in which it is told

unfoldable pub offence : Option ℕ → Header → Option SetFault
offence previous h =
    if is_item_tag h.tag || not (is_above previous h.tag) then Some Order
    else if is_reserved_group h.tag then Some Group
    else if has_bad_vr h.tag h.vr then Some BadVr
    else if is_undefined h.tag (inner_syntax h.tag h.vr h.size) h.size then Some Undefined
    else None

abbrev pub checked : Option SetFault → Result (Unit {0}) SetFault
checked None = Ok tt
checked (Some f) = Err f

-- what has this length, or an end, may stand in the place
abbrev pub is_place : ℕ → List ℕ → Bool
is_place size text = size == undefined_length || nat_le size (length text)

abbrev pub front_from : Header → Front
front_from h = record { tag = h.tag; vr = h.vr; inner = inner_syntax h.tag h.vr h.size; size = h.size }

-- the header of the element at the front, behind the tag previous, and what comes behind it
unfoldable pub front_at : Syntax → Option ℕ → List ℕ → Result (Front × List ℕ) SetFault
front_at syntax previous text = do
  h ← header_at syntax text
  fine ← checked (offence previous h.0)
  if not (is_place h.0.size h.1) then Err Truncated else Ok (front_from h.0, h.1)

-- the length of the item at the front, where n more sequences may stand around it, and what comes behind its header
unfoldable pub item_at : ℕ → List ℕ → Result (ℕ × List ℕ) SetFault
item_at n text = do
  h ← header_at Implicit text
  if not (h.0.tag == item) then Err Order else if n == 0 then Err Depth else if not (is_place h.0.size h.1) then Err
      Truncated else Ok (h.0.size, h.1)

-- ---- ends

-- a tag and a length, and what comes behind them
unfoldable pub eight_at : List ℕ → Option (ℕ × (ℕ × List ℕ))
eight_at (g0 ∷ g1 ∷ e0 ∷ e1 ∷ l0 ∷ l1 ∷ l2 ∷ l3 ∷ rest) =
    Some (tag_from g0 g1 e0 e1, (from_le_bytes w32 (l0 ∷ l1 ∷ l2 ∷ l3 ∷ []), rest))
eight_at _ = None

abbrev pub behind_end : ℕ → Option (ℕ × (ℕ × List ℕ)) → Option (List ℕ)
behind_end tag (Some x) = if x.0 == tag && x.1.0 == 0 then Some x.1.1 else None
behind_end tag None = None

-- what comes behind the end that is awaited, where it stands at the front
unfoldable pub end_at : Closing → List ℕ → Option (List ℕ)
end_at Filled [] = Some []
end_at Filled (b ∷ text) = None
end_at (End tag) text = behind_end tag (eight_at text)
