-- The values of elements, without their padding (PS3.5, 6.2).
use Rattle.std.specs.Prelude.{ℕ, List, [], ◌∷◌, length, Option, Some, None, ◌==◌, ◌%◌}
use Rattle.std.specs.Prelude.{◌++◌, if◌then◌else◌, find}
use lib.Chars.{codes}
use Rattle.octets.specs.Padding.{trimmed}
use Rattle.data_set.specs.Tree.{Tree, leaf, node, tag_of, list_rows}
use Rattle.data_set.specs.Vr.{is_name}

-- the value of an element that holds one, as it is stored
abbrev pub stored_value : Tree → Option (List ℕ)
stored_value (leaf tag vr value) = Some value
stored_value (node tag vr rows) = None

-- the same, trimmed
abbrev pub value_of_tree : Tree → Option (List ℕ)
value_of_tree (leaf tag vr value) = Some (trimmed value)
value_of_tree (node tag vr rows) = None

-- the items of an element that is a sequence
abbrev pub items_of_tree : Tree → Option (List (List Tree))
items_of_tree (leaf tag vr value) = None
items_of_tree (node tag vr rows) = Some (list_rows rows)

abbrev pub with_tag : ℕ → List Tree → Option Tree
with_tag tag ts = find (λ t. tag_of t == tag) ts

abbrev pub and_then : {X Y : Type 0} → (X → Option Y) → Option X → Option Y
and_then f (Some x) = f x
and_then f None = None

-- the trimmed value of the element with this tag; none where it is missing or a sequence
abbrev pub value_in : ℕ → List Tree → Option (List ℕ)
value_in tag ts = and_then value_of_tree (with_tag tag ts)

-- the items of the sequence with this tag; none where it is missing or holds a value
abbrev pub items_in : ℕ → List Tree → Option (List (List Tree))
items_in tag ts = and_then items_of_tree (with_tag tag ts)

-- ---- padding to even length

-- 00 for UI, and a space otherwise
abbrev pub pad_of : List ℕ → ℕ
pad_of (a ∷ b ∷ []) = if is_name a b (codes "UI") then 0x00 else 0x20
pad_of _ = 0x20

abbrev pub padded : List ℕ → List ℕ → List ℕ
padded vr value = if length value % 2 == 0 then value else value ++ (pad_of vr ∷ [])
