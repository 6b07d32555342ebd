-- How a value stands in a row (PS3.5, 6.2).
use Rattle.std.specs.Prelude.{ℕ, List, [], length, Some, nat_le, if◌then◌else◌}
use Rattle.data_set.specs.Tree.{Tree, leaf}
use Rattle.data_set.specs.Values.{padded}
use Rattle.dictionary.specs.Elements.{vr_in_table}

-- the longest value of an element whose length has two bytes, and that is of even length
abbrev pub longest : ℕ
longest = 65534

-- a longer value is answered empty
abbrev pub fitting : List ℕ → List ℕ
fitting value = if nat_le (length value) longest then value else []

-- the element of a tag, with its value representation, that holds a value
unfoldable pub cell : ℕ → List ℕ → Tree
cell tag value = leaf tag (Some (vr_in_table tag)) (padded (vr_in_table tag) (fitting value))
