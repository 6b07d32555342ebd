-- Nodes of the tree: lists of hexadecimal digits, with which digests begin.
use Rattle.std.specs.Prelude.{◌≡◌, ◌<◌, ℕ, ◌/◌, ◌%◌, ◌==◌, ◌&&◌, Bool, true, false, List, [], ◌∷◌, ◌++◌, filter, length}
use Rattle.octets.specs.Bytes.{IsBytes}
use Rattle.exchange_frames.specs.declared.reader.TheConstants.{DIGEST_LENGTH}
use Rattle.exchange_tree.specs.declared.nodes.TheConstants.{CHILD_COUNT, DEEPEST}

-- the hexadecimal digits of a text, two for a byte, the high one first
abbrev pub digits_of : List ℕ → List ℕ
digits_of [] = []
digits_of (b ∷ bs) = b / 16 ∷ b % 16 ∷ digits_of bs

-- whether digits begin with those of a node
abbrev pub begins : List ℕ → List ℕ → Bool
begins [] digits = true
begins (n ∷ ns) [] = false
begins (n ∷ ns) (d ∷ ds) = d == n && begins ns ds

-- whether a digest lies beneath a node
abbrev pub is_beneath : List ℕ → List ℕ → Bool
is_beneath node digest = begins node (digits_of digest)

-- those of some digests that lie beneath a node
abbrev pub beneath : List ℕ → List (List ℕ) → List (List ℕ)
beneath node digests = filter (is_beneath node) digests

-- the child of a node by this digit
abbrev pub child : List ℕ → ℕ → List ℕ
child node digit = node ++ digit ∷ []

-- 32 bytes
pub record IsDigest (digest : List ℕ) : Type 0 where
  pub long : length digest ≡ DIGEST_LENGTH
  pub bytes : IsBytes digest

-- A digest beneath a node that has children is beneath one of them, and beneath no second; and what is beneath a child
-- is beneath its node.
pub record ChildrenHaveAll : Type 0 where
  pub some : (node digest : List ℕ) → IsDigest digest → length node < DEEPEST → is_beneath node digest ≡ true
      → (digit : ℕ) × (digit < CHILD_COUNT) × (is_beneath (child node digit) digest ≡ true)
  pub one : (node digest : List ℕ) (a b : ℕ) → is_beneath (child node a) digest ≡ true
      → is_beneath (child node b) digest ≡ true → a ≡ b
  pub only : (node digest : List ℕ) (digit : ℕ) → is_beneath (child node digit) digest ≡ true
      → is_beneath node digest ≡ true
