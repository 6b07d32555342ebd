-- What is shown of a table are lines of characters, none of which is a control character.
use Rattle.std.proofs.Common.{◌≡◌, ℕ, zero, suc, ◌+◌, List, [], ◌∷◌, ◌++◌, refl, sym, ap, ◌∙◌, map, length, replicate}
use Rattle.std.proofs.Common.{Bool, true, false, if◌then◌else◌, ◌||◌, ◌==◌, arith}
use Rattle.std.specs.Prelude.{not}
use Rattle.std.specs.Char.{is_control, encode_utf8}
use Rattle.std.specs.List.{flat_map, list_all}
use Rattle.std.proofs.lemmas.Grind.{flat_map-append}
use Rattle.std.proofs.lemmas.List.{length-map}
use Rattle.std.proofs.lemmas.List.Elements.{All-map}
use Rattle.std.proofs.lemmas.List.Folds.{list_all-append, flat_map-map}
use Rattle.std.proofs.lemmas.Bool.{and_from as both_plain}
use Rattle.bstr.specs.Utf8.{lossy_chars}
use Rattle.site_tables.specs.Aligned.{shown_char, shown_text, gap, cells_from, widths, aligned}
use Rattle.site_tables.specs.Shown.{IsShown, AreLines}

none_shown : IsShown []
none_shown = record { chars = []; plain = refl; spelled = refl }

space_shown : IsShown (32 ∷ [])
unfolding encode_utf8
space_shown = record { chars = 32 ∷ []; plain = refl; spelled = refl }

-- one behind the other
both_shown : (a b : List ℕ) → IsShown a → IsShown b → IsShown (a ++ b)
both_shown a b p q = record {
  chars = p.chars ++ q.chars;
  plain = list_all-append (λ c. not (is_control c)) p.chars q.chars
      ∙ both_plain (list_all (λ c. not (is_control c)) p.chars) (list_all (λ c. not (is_control c)) q.chars)
      p.plain q.plain;
  spelled = ap (λ (t : List ℕ). t ++ b) p.spelled ∙ ap (λ (t : List ℕ). flat_map encode_utf8 p.chars ++ t) q.spelled
      ∙ sym (flat_map-append encode_utf8 p.chars q.chars);
}

-- a question mark stands for each control character
plain_or : (c : ℕ) (is other : Bool) → is_control c ≡ is → not (is_control (if is || other then 63 else c)) ≡ true
plain_or c true other said = refl
plain_or c false true said = refl
plain_or c false false said = ap not said

all_plain : (cs : List ℕ) → list_all (λ c. not (is_control c)) (map shown_char cs) ≡ true
all_plain [] = refl
all_plain (c ∷ cs) = both_plain (not (is_control (shown_char c)))
    (list_all (λ c. not (is_control c)) (map shown_char cs)) (plain_or c (is_control c) (c == 65533) refl)
    (all_plain cs)

text_shown : (text : List ℕ) → IsShown (shown_text text)
unfolding shown_text
text_shown text = record {
  chars = map shown_char (lossy_chars text);
  plain = all_plain (lossy_chars text);
  spelled = refl;
}

spaces_shown : (count : ℕ) → IsShown (replicate count 32)
spaces_shown zero = none_shown
spaces_shown (suc count) = both_shown (32 ∷ []) (replicate count 32) space_shown (spaces_shown count)

gap_shown : (wide : ℕ) (cell : List ℕ) → IsShown (gap wide cell)
gap_shown wide cell = both_shown _ (32 ∷ 32 ∷ []) (spaces_shown _)
    (both_shown (32 ∷ []) (32 ∷ []) space_shown space_shown)

-- the cells of a line
cells_shown : (sizes : List ℕ) (column : ℕ) (row : List (List ℕ))
    → IsShown (cells_from sizes column (map shown_text row))
cells_shown sizes column [] = none_shown
cells_shown sizes column (cell ∷ []) = text_shown cell
cells_shown sizes column (cell ∷ next ∷ cells) = both_shown _ _
    (both_shown (shown_text cell) _ (text_shown cell) (gap_shown _ (shown_text cell)))
    (cells_shown sizes (column + 1) (next ∷ cells))

-- a line for the heading and one for each row
pub lines_shown : (heading : List (List ℕ)) (rows : List (List (List ℕ)))
    → AreLines (1 + length rows) (aligned heading rows)
lines_shown heading rows =
    let table = heading ∷ rows in let sizes = widths (length heading) (map (map shown_text) table) in
    let line = λ (row : List (List ℕ)). cells_from sizes 0 (map shown_text row) in record {
      lines = map line table;
      counted = omega (arith, length-map table line);
      shown = All-map IsShown line table (λ k d within. cells_shown sizes 0 _);
      joined = flat_map-map (λ row. cells_from sizes 0 row ++ 10 ∷ []) (map shown_text) table
          ∙ sym (flat_map-map (λ line. line ++ 10 ∷ []) line table);
    }
