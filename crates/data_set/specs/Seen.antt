-- What contracts see of the lists and places that functions give.
use Rattle.std.specs.Prelude.{List, ℕ, Option, Result, map}
use Rattle.std.specs.Borrow.{Bor}
use Rattle.std.specs.Global.{Vec}
use Rattle.std.specs.Option.{option_map}
use Rattle.octets.specs.Gives.{Gives, Tells}
use Rattle.data_set.specs.declared.fault.SetFault.{SetFault}
use Rattle.data_set.specs.Fault.{is_memory}
use Rattle.data_set.specs.Tree.{Tree}
use Rattle.data_set.specs.Texts.{Given}

-- items as the lists of their elements
abbrev pub lists_of : List (Vec Tree) → List (List Tree)
lists_of items = map (λ item. item.items) items

-- items behind a reference, if there are any
abbrev pub items_seen : Option (Bor (List (Vec Tree))) → Option (List (List Tree))
items_seen items = option_map (λ seen. lists_of seen.now) items

-- bytes behind a reference, if there are any
abbrev pub bytes_seen : Option (Bor (List ℕ)) → Option (List ℕ)
bytes_seen bytes = option_map (λ seen. seen.now) bytes

-- A function gave this value and what comes behind it, or this fault, unless memory ran out.
abbrev pub GivesAt : {X : Type 0} → Result (X × Bor (List ℕ)) SetFault → Given X → Type 0
GivesAt given read = Gives is_memory (λ x. (x.0, x.1.now)) given read

-- A function gave a value, seen by view, and what comes behind it, or a fault: that is what the grammar has, unless
-- memory ran out.
abbrev pub TellsAt : {X Y : Type 0} → (X → Y) → Result (X × Bor (List ℕ)) SetFault → (Given Y → Type 0) → Type 0
TellsAt view given Is = Tells is_memory (λ x. (view x.0, x.1.now)) given Is
