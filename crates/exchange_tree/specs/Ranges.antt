-- Where digits lie in the order of nodes.
use Rattle.std.specs.Prelude.{ℕ, Bool, not, List, [], ◌∷◌, drop}
use Rattle.std.specs.Ordering.{nat_cmp, ordering_then, is_lt, is_gt}
use Rattle.std.specs.declared.cmp.Ordering.{Ordering}
use Rattle.std.specs.declared.cmp.Ordering.TheVariants.{Less, Equal}
use Rattle.exchange_tree.specs.Nodes.{digits_of}

-- how the first digit compares with another; no digit is the least
abbrev pub head_cmp : List ℕ → ℕ → Ordering
head_cmp [] n = Less
head_cmp (d ∷ ds) n = nat_cmp d n

-- how digits compare with those of a node: those that begin with them are equal
abbrev pub node_cmp : List ℕ → List ℕ → Ordering
node_cmp digits [] = Equal
node_cmp digits (n ∷ ns) = ordering_then (head_cmp digits n) (node_cmp (drop 1 digits) ns)

-- whether a digest comes before all that lie beneath a node
abbrev pub is_before : List ℕ → List ℕ → Bool
is_before node digest = is_lt (node_cmp (digits_of digest) node)

-- whether it does not come behind all of them
abbrev pub is_through : List ℕ → List ℕ → Bool
is_through node digest = not (is_gt (node_cmp (digits_of digest) node))
