-- The lines of ledgers, all in one log.
use Rattle.std.specs.Prelude.{ℕ, ◌==◌, List, [], ◌∷◌, if◌then◌else◌, refl}
use Rattle.std.specs.Coded.{Coded, code_by, coded×, coded_ℕ, coded_list}
use Rattle.logbook.specs.Pages.{Book, book_coded}

-- a line: the pen that wrote it, the pen that writes the next one, and its digest
pub record Written : Type 0 where
  pub pen : ℕ
  pub next : ℕ
  pub digest : List ℕ

-- by which proofs tell them apart
abbrev pub written_code : Coded Written
written_code = code_by (ℕ × (ℕ × List ℕ)) (coded× coded_ℕ (coded× coded_ℕ (coded_list coded_ℕ)))
    (λ w. (w.pen, (w.next, w.digest))) (λ p. record { pen = p.0; next = p.1.0; digest = p.1.1 }) (λ _. refl)

-- a line that says nothing
abbrev pub blank_line : Written
blank_line = record { pen = 0; next = 0; digest = [] }

-- The digests of a ledger, in order: its first pen wrote the first line, and each says which pen writes the next.
abbrev pub digests_of : ℕ → List Written → List (List ℕ)
digests_of pen [] = []
digests_of pen (w ∷ log) = if w.pen == pen then w.digest ∷ digests_of w.next log else digests_of pen log

-- the pen that writes its next line
abbrev pub pen_of : ℕ → List Written → ℕ
pen_of pen [] = pen
pen_of pen (w ∷ log) = if w.pen == pen then pen_of w.next log else pen_of pen log

-- a ledger that has no name yet: its book, and its first pen
pub record Unnamed : Type 0 where
  pub book : Book
  pub first : ℕ

abbrev pub unnamed_code : Coded Unnamed
unnamed_code = code_by (Book × ℕ) (coded× book_coded coded_ℕ) (λ u. (u.book, u.first))
    (λ p. record { book = p.0; first = p.1 }) (λ _. refl)
