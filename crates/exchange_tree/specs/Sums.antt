-- The sums of nodes.
use Rattle.std.specs.Prelude.{◌≡◌, ◌<◌, ◌≤◌, ◌+◌, ℕ, ◌/◌, ◌%◌, nat_lt, true, List, [], ◌∷◌, ◌++◌, filter, map, length}
use Rattle.std.specs.Prelude.{get_or, Option, Some, None, if◌then◌else◌}
use Rattle.std.specs.List.{flat_map, range_with_len}
use Rattle.std.specs.List.Sorted.{IsStrictlySortedBy}
use Rattle.sha2.specs.Sha256.{sha256}
use Rattle.octets.specs.Texts.{text_cmp}
use Rattle.exchange_frames.specs.Spelling.{digests_text}
use Rattle.exchange_tree.specs.declared.nodes.TheConstants.{CHILD_COUNT, KEPT_DEPTH, PLACE_COUNT}
use Rattle.exchange_tree.specs.Nodes.{digits_of, begins, beneath, child}

-- ---- kept sums

-- the two bytes of a place
abbrev pub place_text : ℕ → List ℕ
place_text place = place / 256 ∷ place % 256 ∷ []

-- the node of a place, of four digits
abbrev pub node_of : ℕ → List ℕ
node_of place = digits_of (place_text place)

-- SHA-256 of digests, one behind the other (FIPS 180-4), where there are some
abbrev pub sum_if_any : List (List ℕ) → Option (List ℕ)
sum_if_any [] = None
sum_if_any (d ∷ ds) = Some (sha256 (digests_text (d ∷ ds)))

-- the kept sum of a place: of the digests that begin with its two bytes, if there are any
abbrev pub kept_of : List (List ℕ) → ℕ → Option (List ℕ)
kept_of digests place = sum_if_any (beneath (node_of place) digests)

-- every place, ascending
unfoldable pub all_places : List ℕ
all_places = range_with_len 0 PLACE_COUNT

-- the kept sum of each place
unfoldable pub kept_list : List (List ℕ) → List (Option (List ℕ))
kept_list digests = map (kept_of digests) all_places

-- the digests of each other place are as they were
abbrev pub SameElsewhere : ℕ → List (List ℕ) → List (List ℕ) → Type 0
SameElsewhere place before after =
    (other : ℕ) → other < PLACE_COUNT → (other ≡ place → ⊥)
    → beneath (node_of other) before ≡ beneath (node_of other) after

-- These are the kept sums of some digests, which ascend, each once.
pub record AreKept (kept : List (Option (List ℕ))) (digests : List (List ℕ)) : Type 0 where
  pub ascending : IsStrictlySortedBy text_cmp digests
  pub sums : kept ≡ kept_list digests

-- ---- what is hashed for a node

-- a kept sum behind the two bytes of its place, and nothing where it is of nothing
abbrev pub told : ℕ → Option (List ℕ) → List ℕ
told place None = []
told place (Some sum) = place_text place ++ sum

-- those of kept sums at these places
abbrev pub told_text : List (Option (List ℕ)) → List ℕ → List ℕ
told_text kept places = flat_map (λ place. told place (get_or kept place None)) places

-- the places beneath a node, ascending
abbrev pub places_beneath : List ℕ → List ℕ
places_beneath node = filter (λ place. begins node (node_of place)) all_places

-- The places beneath a node are so many, from the first on.
pub record ArePlacesOf (node : List ℕ) (first count : ℕ) : Type 0 where
  pub bound : first + count ≤ PLACE_COUNT
  pub all : (place : ℕ) → first ≤ place → place < first + count → begins node (node_of place) ≡ true
  pub only : (place : ℕ) → place < PLACE_COUNT → begins node (node_of place) ≡ true
      → (first ≤ place) × (place < first + count)

-- the kept sums beneath a node that are of something, each behind its two bytes
abbrev pub upper_text : List (List ℕ) → List ℕ → List ℕ
upper_text digests node = flat_map (λ place. told place (kept_of digests place)) (places_beneath node)

-- what is hashed for a node: above the places kept sums, from them on digests
unfoldable pub hashed : List (List ℕ) → List ℕ → List ℕ
hashed digests node =
    if nat_lt (length node) KEPT_DEPTH then upper_text digests node else digests_text (beneath node digests)

-- the sum of a node (FIPS 180-4)
abbrev pub sum_of : List (List ℕ) → List ℕ → List ℕ
sum_of digests node = sha256 (hashed digests node)

-- the sums of the children of a node, by their digits
unfoldable pub child_sums : List (List ℕ) → List ℕ → List (List ℕ)
child_sums digests node = map (λ digit. sum_of digests (child node digit)) (range_with_len 0 CHILD_COUNT)
