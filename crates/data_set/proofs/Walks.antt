-- Loops over elements and over items: what is left, and one step of it.
use Rattle.std.proofs.Common.{◌≡◌, ℕ, ◌+◌, ◌<◌, ◌≤◌, List, [], ◌∷◌, ◌++◌, length, get_or, drop, map, refl, sym, ap}
use Rattle.std.proofs.Common.{subst, ◌∙◌, append_assoc, arith}
use Rattle.std.specs.Global.{Vec}
use Rattle.std.proofs.lemmas.List.{drop_more, drop-map, map_push}
use Rattle.data_set.specs.declared.syntax.Syntax.{Syntax}
use Rattle.data_set.specs.Tree.{Tree, count, count_rows, count_trees, list_rows, rows_of, trees_of}
use Rattle.data_set.specs.Converted.{converted, converted_rows}
use Rattle.dictionary.specs.Tags.{tag_text}
use Rattle.data_set.specs.Tags.{item, item_end}
use Rattle.data_set.specs.Vr.{undefined_length}
use Rattle.data_set.specs.Written.{end_text, text_tree, text_rows, text_trees}
use Rattle.data_set.specs.Lengths.{FitsTree, FitsRows, FitsTrees}
use Rattle.std.specs.Int.{w32, to_le_bytes}

pub next_tree : (ts : List Tree) (i : ℕ) (t : Tree) → i < length ts → t ≡ get_or ts i t → drop i ts ≡ t ∷ drop (i + 1)
    ts
next_tree ts i t lt is = drop_more ts i t lt ∙ ap (λ (x : Tree). x ∷ drop (i + 1) ts) (sym is)

abbrev pub item_trees : Vec Tree → List Tree
item_trees v = v.items

pub next_row : (vs : List (Vec Tree)) (i : ℕ) (v : Vec Tree) → i < length vs → v ≡ get_or vs i v
    → drop i (map item_trees vs) ≡ item_trees v ∷ drop (i + 1) (map item_trees vs)
next_row vs i v lt is =
    drop-map item_trees i vs ∙ ap (map item_trees) (drop_more vs i v lt ∙ ap (λ (x : Vec Tree). x ∷ drop (i + 1) vs)
    (sym is)) ∙ ap (λ (rows : List (List Tree)). v.items ∷ rows) (sym (drop-map item_trees (i + 1) vs))

-- ---- lengths and counts

pub record TreesLeft (n : ℕ) (t : Tree) (rest : List Tree) : Type 0 where
  pub fits : FitsTree t
  pub fit : FitsTrees (trees_of rest)
  pub few : count t ≤ n
  pub fewer : count_trees (trees_of rest) ≤ n

pub trees_left : (ts : List Tree) (i n : ℕ) (t : Tree) → i < length ts → t ≡ get_or ts i t
    → FitsTrees (trees_of (drop i ts)) → count_trees (trees_of (drop i ts)) ≤ n → TreesLeft n t (drop (i + 1) ts)
trees_left ts i n t lt is fits few =
    let next = next_tree ts i t lt is in
    let both : FitsTrees (trees_of (t ∷ drop (i + 1) ts)) = subst (λ (us : List Tree). FitsTrees (trees_of us)) next
    fits in
    let all : count_trees (trees_of (t ∷ drop (i + 1) ts)) ≤ n = subst (λ (us : List Tree). count_trees (trees_of us) ≤
    n) next few in
    record { fits = both.0; fit = both.1; few = omega arith; fewer = omega arith }

pub record RowsLeft (n : ℕ) (ts : List Tree) (rest : List (List Tree)) : Type 0 where
  pub fits : FitsTrees (trees_of ts)
  pub fit : FitsRows (rows_of rest)
  pub few : count_trees (trees_of ts) < n
  pub fewer : count_rows (rows_of rest) ≤ n

pub rows_left : (vs : List (Vec Tree)) (i n : ℕ) (v : Vec Tree) → i < length vs → v ≡ get_or vs i v
    → FitsRows (rows_of (drop i (map item_trees vs))) → count_rows (rows_of (drop i (map item_trees vs))) ≤ n
    → RowsLeft n v.items (drop (i + 1) (map item_trees vs))
rows_left vs i n v lt is fits few =
    let next = next_row vs i v lt is in
    let rest = drop (i + 1) (map item_trees vs) in
    let both : FitsRows (rows_of (v.items ∷ rest)) = subst (λ (rows : List (List Tree)). FitsRows (rows_of rows)) next
    fits in
    let all : count_rows (rows_of (v.items ∷ rest)) ≤ n = subst (λ (rows : List (List Tree)). count_rows (rows_of rows)
    ≤ n) next few in
    record { fits = both.0; fit = both.1; few = omega arith; fewer = omega arith }

-- ---- what was written and what is left to write

pub trees_put : (ts : List Tree) (i : ℕ) (t : Tree) (before after whole : List ℕ) → i < length ts → t ≡ get_or ts i t
    → before ++ text_trees (trees_of (drop i ts)) ≡ whole → after ≡ before ++ text_tree t
    → after ++ text_trees (trees_of (drop (i + 1) ts)) ≡ whole
trees_put ts i t before after whole lt is so_far put =
    let rest = text_trees (trees_of (drop (i + 1) ts)) in
    ap (λ (x : List ℕ). x ++ rest) put ∙ append_assoc before (text_tree t) rest
    ∙ ap (λ (us : List Tree). before ++ text_trees (trees_of us)) (sym (next_tree ts i t lt is)) ∙ so_far

-- an item: its header, its elements and its end
pub rows_put : (vs : List (Vec Tree)) (i : ℕ) (v : Vec Tree) (before tagged opened filled after whole : List ℕ)
    → i < length vs → v ≡ get_or vs i v → before ++ text_rows (rows_of (drop i (map item_trees vs))) ≡ whole
    → tagged ≡ before ++ tag_text item → opened ≡ tagged ++ to_le_bytes w32 undefined_length
    → filled ≡ opened ++ text_trees (trees_of v.items) → after ≡ filled ++ end_text item_end
    → after ++ text_rows (rows_of (drop (i + 1) (map item_trees vs))) ≡ whole
rows_put vs i v before tagged opened filled after whole lt is so_far a b c d =
    let rest = text_rows (rows_of (drop (i + 1) (map item_trees vs))) in
    let size = to_le_bytes w32 undefined_length in
    let inside = text_trees (trees_of v.items) in
    let made : after ≡ (((before ++ tag_text item) ++ size) ++ inside) ++ end_text item_end = d
    ∙ ap (λ (x : List ℕ). x ++ end_text item_end) (c ∙ ap (λ (x : List ℕ). x ++ inside)
    (b ∙ ap (λ (x : List ℕ). x ++ size) a)) in
    ap (λ (x : List ℕ). x ++ rest) made ∙ five before (tag_text item) size inside (end_text item_end) rest
    ∙ ap (λ (rows : List (List Tree)). before ++ text_rows (rows_of rows)) (sym (next_row vs i v lt is)) ∙ so_far
  where
    five : (a b c d e f : List ℕ) → ((((a ++ b) ++ c) ++ d) ++ e) ++ f ≡ a ++ (b ++ (c ++ (d ++ (e ++ f))))
    five a b c d e f = simp append_assoc

-- ---- what was converted and what is left to convert

pub row_counts : (vs : List (Vec Tree)) (i n : ℕ) (v : Vec Tree) → i < length vs → v ≡ get_or vs i v
    → count_rows (rows_of (drop i (map item_trees vs))) ≤ n
    → (count_trees (trees_of v.items) < n) × (count_rows (rows_of (drop (i + 1) (map item_trees vs))) ≤ n)
row_counts vs i n v lt is few =
    let rest = drop (i + 1) (map item_trees vs) in
    let all : count_rows (rows_of (v.items ∷ rest)) ≤ n = subst (λ (rows : List (List Tree)). count_rows (rows_of rows)
    ≤ n) (next_row vs i v lt is) few in
    (omega arith, omega arith)

abbrev pub converted_list : Syntax → List (List Tree) → List (List Tree)
converted_list syntax rows = list_rows (converted_rows syntax (rows_of rows))

pub rows_converted : (syntax : Syntax) (vs : List (Vec Tree)) (i : ℕ) (v : Vec Tree) (before after : List (Vec Tree))
    (pushed : Vec Tree) (whole : List (List Tree)) → i < length vs → v ≡ get_or vs i v
    → map item_trees before ++ converted_list syntax (drop i (map item_trees vs)) ≡ whole → pushed.items ≡ converted
    syntax v.items → after ≡ before ++ pushed ∷ []
    → map item_trees after ++ converted_list syntax (drop (i + 1) (map item_trees vs)) ≡ whole
rows_converted syntax vs i v before after pushed whole lt is so_far made push =
    let rest = converted_list syntax (drop (i + 1) (map item_trees vs)) in
    ap (λ (x : List (Vec Tree)). map item_trees x ++ rest) push
    ∙ ap (λ (x : List (List Tree)). x ++ rest) (items_push before pushed)
    ∙ append_assoc (map item_trees before) (pushed.items ∷ []) rest
    ∙ ap (λ (x : List Tree). map item_trees before ++ (x ∷ rest)) made
    ∙ ap (λ (rows : List (List Tree)). map item_trees before ++ converted_list syntax rows)
    (sym (next_row vs i v lt is))
    ∙ so_far
  where
    items_push : (vs : List (Vec Tree)) (v : Vec Tree) → map item_trees (vs ++ v ∷ []) ≡ map item_trees vs ++ v.items
        ∷ []
    items_push vs v = rw map_push refl
