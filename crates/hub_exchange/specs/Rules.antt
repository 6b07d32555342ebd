-- The rule of the book in which ledgers stand, and what its steps tell.
use Rattle.std.specs.Prelude.{ℕ, ◌≡◌, ◌==◌, ◌<◌, true, false, List, [], ◌∷◌, ◌++◌, length, ⊤}
use mathlib.Core.List.{IsPrefix}
use Rattle.logbook.specs.Pages.{Cell, cell, Step, View, Book, Named, may_make}
use Rattle.hub_exchange.specs.Lines.{Written}

-- the book holds the value of the word of this pen, so that it is nobody's to write any more
abbrev pub IsHome : List Cell → ℕ → Type 0
IsHome cells pen = (pen < length cells) × ((cell cells pen).1 ≡ true)

abbrev pub AreHome : List Cell → List Written → Type 0
AreHome cells [] = ⊤
AreHome cells (w ∷ log) = IsHome cells w.pen × AreHome cells log

-- each pen that has written is home, and so is the first word
pub record IsKept (cells : List Cell) (log : List Written) : Type 0 where
  pub first : IsHome cells 0
  pub pens : AreHome cells log

-- this pen has written nothing
abbrev pub IsUnused : ℕ → List Written → Type 0
IsUnused pen [] = ⊤
IsUnused pen (w ∷ log) = ((w.pen == pen) ≡ false) × IsUnused pen log

-- the word of a book by which it changes
abbrev pub head_of : Book → Named
head_of b = record { tracked = true; key = 0; book = b }

-- a line as this pen writes it
abbrev pub signed : ℕ → Written → Written
signed pen w = record { pen = pen; next = w.next; digest = w.digest }

-- a new pen was made
abbrev pub Makes : Step Written → View Written ℕ → ℕ → View Written ℕ → Type 0
Makes s v found w = w.1.0.right ≡ may_make

-- the pen wrote the line, and nothing before
abbrev pub Writes : Step Written → View Written ℕ → ℕ → View Written ℕ → Type 0
Writes s v found w = (log : List Written) × (w.0 ≡ log ++ signed v.1.0.key s.ask ∷ []) × IsPrefix v.0 log
    × IsUnused v.1.0.key log

-- the pen has written nothing, and is as it was
abbrev pub Looks : Step Written → View Written ℕ → ℕ → View Written ℕ → Type 0
Looks s v found w = (w.1.0 ≡ v.1.0) × IsUnused v.1.0.key w.0
