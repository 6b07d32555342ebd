-- Laws of lines of cells and of the widths of columns.
use Rattle.std.proofs.Common.{◌≡◌, ℕ, ◌+◌, ◌≤◌, List, [], ◌∷◌, ◌++◌, refl, sym, ap, ◌∙◌, length, get_or}
use Rattle.std.proofs.Common.{true, false, if◌then◌else◌, ◌==◌, append-nil, arith}
use Rattle.std.proofs.lemmas.Bool.{eq-eqb, ne_eqb}
use Rattle.std.specs.Str.{chars}
use Rattle.std.proofs.lemmas.List.{append_assoc, get_or_past}
use Rattle.unicode_width.specs.Width.{str_width}
use Rattle.site_tables.specs.Aligned.{cells_from, gap, width}

-- no text takes no column
width_nil : width [] ≡ 0
unfolding width chars str_width
width_nil = refl

-- where a row has no cell nothing is wide
pub no_width : (row : List (List ℕ)) (column : ℕ) → length row ≤ column → width (get_or row column []) ≡ 0
no_width row column past = ap width (get_or_past row column [] past) ∙ width_nil

-- a cell goes behind those before it, with what parts it from the next where it is not the last
pub cells_more : (sizes : List ℕ) (column n : ℕ) (old cell : List ℕ) (rest : List (List ℕ))
    → length rest + (column + 1) ≡ n
    → old ++ cells_from sizes column (cell ∷ rest)
    ≡ old ++ cell ++ (if column + 1 == n then [] else gap (get_or sizes column 0) cell)
    ++ cells_from sizes (column + 1) rest
cells_more sizes column n old cell [] count =
    let last : (column + 1 == n) ≡ true = eq-eqb (column + 1) n (omega (arith, count)) in
    rw last (sym (append-nil (old ++ cell ++ []) ∙ append-nil (old ++ cell)))
cells_more sizes column n old cell (next ∷ cells) count =
    let wide = gap (get_or sizes column 0) cell in
    let others = cells_from sizes (column + 1) (next ∷ cells) in
    let more : (column + 1 == n) ≡ false = ne_eqb (column + 1) n (λ same. omega (arith, count, same)) in
    rw more (sym (append_assoc (old ++ cell) wide others ∙ append_assoc old cell (wide ++ others)
    ∙ ap (λ t. old ++ t) (sym (append_assoc cell wide others))))
