-- Places in the tree of hexadecimal digits.
use Rattle.std.specs.Prelude.{ℕ, ◌<◌, ◌≤◌, List, length, Bool, false, not, ◌&&◌, nat_eq, nat_lt, nat_le, Result, Ok}
use Rattle.std.specs.Prelude.{Err, if◌then◌else◌}
use Rattle.std.specs.List.{list_all, starts_with, AllByRecursion}
use Rattle.std.specs.Ordering.{match_ordering}
use Rattle.octets.specs.Texts.{text_cmp}
use Rattle.exchange_frames.specs.declared.fault.FrameFault.{FrameFault}
use Rattle.exchange_frames.specs.declared.fault.FrameFault.TheVariants.{BadFrame}
use Rattle.walk_frames.specs.declared.node.TheConstants.{MOST_DIGITS, CHILDREN}

-- a hexadecimal digit: one for each child
abbrev pub is_digit : ℕ → Bool
is_digit digit = nat_lt digit CHILDREN

abbrev pub AreDigits : List ℕ → Type 0
AreDigits digits = AllByRecursion (λ d. d < CHILDREN) digits

-- 0 to 63 digits, from the root down
pub record IsNode (node : List ℕ) : Type 0 where
  pub short : length node ≤ MOST_DIGITS
  pub digits : AreDigits node

-- the same, as it is tested
abbrev pub is_node : List ℕ → Bool
is_node digits = nat_le (length digits) MOST_DIGITS && list_all is_digit digits

-- the node of these digits, where they are one's
unfoldable pub node_of : List ℕ → Result (List ℕ) FrameFault
node_of digits = if is_node digits then Ok digits else Err BadFrame

-- the one node is the other, or stands beneath it
abbrev pub is_within : List ℕ → List ℕ → Bool
is_within inner outer = starts_with nat_eq inner outer

-- a node is less than a later one, which does not lie within it
abbrev pub is_before : List ℕ → List ℕ → Bool
is_before node later = match_ordering (text_cmp node later) (not (is_within later node)) false false
