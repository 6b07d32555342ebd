-- What stands in the cells of rows. A row is the list of the texts of its cells.
use Rattle.std.specs.Prelude.{ℕ, List, Bool, true, false, codes}

abbrev pub Row : Type 0
Row = List (List ℕ)

-- the word for whether something is so
abbrev pub yes_no : Bool → List ℕ
yes_no true = codes "yes"
yes_no false = codes "no"
