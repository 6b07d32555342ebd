-- Which entries are a walk.
use Rattle.std.specs.Prelude.{◌≡◌, ◌≤◌, List, [], ◌∷◌, length, Bool, true, false, ◌&&◌, IsTrue, nat_lt, Result, Ok, Err}
use Rattle.std.specs.Prelude.{if◌then◌else◌}
use Rattle.std.specs.List.{AllByRecursion}
use Rattle.std.specs.declared.cmp.Ordering.TheVariants.{Less}
use Rattle.octets.specs.Texts.{text_cmp}
use Rattle.exchange_frames.specs.declared.fault.FrameFault.{FrameFault}
use Rattle.exchange_frames.specs.declared.fault.FrameFault.TheVariants.{BadFrame}
use Rattle.walk_frames.specs.declared.walk.TheConstants.{MOST_ENTRIES}
use Rattle.walk_frames.specs.Nodes.{is_within, is_before}
use Rattle.walk_frames.specs.Entries.{EntryParts, IsEntry}

-- what is next passes the test
abbrev pub passes_next : {X : Type 0} → (X → X → Bool) → X → List X → Bool
passes_next test x [] = true
passes_next test x (y ∷ ys) = test x y

-- each passes the test with the next
abbrev pub all_pass : {X : Type 0} → (X → X → Bool) → List X → Bool
all_pass test [] = true
all_pass test (x ∷ xs) = passes_next test x xs && all_pass test xs

abbrev pub is_earlier : EntryParts → EntryParts → Bool
is_earlier entry later = is_before entry.node later.node

-- the nodes ascend, and none lies within the one before it
unfoldable pub stand_apart : List EntryParts → Bool
stand_apart entries = all_pass is_earlier entries

-- an entry's node is less than that of a later one, and neither lies within the other
pub record AreApart (entry later : EntryParts) : Type 0 where
  pub less : text_cmp entry.node later.node ≡ Less
  pub within : is_within later.node entry.node ≡ false
  pub around : is_within entry.node later.node ≡ false

-- at most 4,096 entries, ascending, of which none lies within another
pub record IsWalk (entries : List EntryParts) : Type 0 where
  pub short : length entries ≤ MOST_ENTRIES
  pub apart : IsTrue (stand_apart entries)
  pub lawful : AllByRecursion IsEntry entries

-- the walk of these entries, where they are one's
unfoldable pub walk_of : List EntryParts → Result (List EntryParts) FrameFault
walk_of entries =
    if nat_lt MOST_ENTRIES (length entries) then Err BadFrame
    else if stand_apart entries then Ok entries
    else Err BadFrame
