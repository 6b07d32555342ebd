-- The elements of a row are those of a data set.
use Rattle.std.proofs.Common.{◌≡◌, ◌<◌, ◌≤◌, ◌%◌, ℕ, List, [], ◌∷◌, ◌++◌, length, Bool, true, false, cond}
use Rattle.std.proofs.Common.{not, ◌&&◌, ◌==◌, nat_lt, nat_le, Option, Some, None, refl, sym, arith}
use Rattle.std.proofs.Common.{length-append}
use Rattle.std.specs.List.{filter_map, cons_option}
use Rattle.std.specs.Option.{option_map}
use Rattle.std.specs.Prelude.{codes}
use Rattle.std.proofs.lemmas.Bool.{ltb-true, leb-true, lt-ltb, and_from as and_both, not-true as off}
use Rattle.std.specs.Cmp.{first_so as left, second_so as right}
use Rattle.dictionary.specs.Elements.{vr_in_table}
use Rattle.data_set.specs.declared.syntax.Syntax.TheVariants.{Explicit}
use Rattle.data_set.specs.Tree.{Tree, trees_of}
use Rattle.dictionary.specs.Tags.{is_above}
use Rattle.data_set.specs.Tags.{is_item_tag, is_reserved_group}
use Rattle.data_set.specs.Values.{pad_of, padded}
use Rattle.data_set.specs.Vr.{is_short, is_name, has_bad_vr, inner_syntax, undefined_length}
use Rattle.data_set.specs.Header.{offence}
use Rattle.data_set.specs.Texts.{deepest}
use Rattle.data_set.specs.Written.{MayStand, IsTree, AreTrees, IsSet}
use Rattle.archive_model.specs.declared.key.Level.{Level}
use Rattle.archive_model.specs.declared.key.Level.TheVariants.{Study, Series, Image}
use Rattle.archive_model.specs.Column.{columns}
use Rattle.archive_model.specs.Cell.{longest, fitting, cell}

-- ---- columns in order, each of which holds a value

abbrev is_vr : ℕ → List ℕ → Bool
is_vr tag (a ∷ b ∷ []) = is_short a b && (not (has_bad_vr tag (Some (a ∷ b ∷ []))) &&
    (not (is_name a b (codes "SQ")) && not (is_name a b (codes "UN"))))
is_vr tag _ = false

abbrev is_fine : ℕ → Bool
is_fine tag = nat_lt tag 4294967296 && (not (is_item_tag tag) && (not (is_reserved_group tag) && is_vr
    tag (vr_in_table tag)))

abbrev ascend : Option ℕ → List ℕ → Bool
ascend previous [] = true
ascend previous (x ∷ xs) = is_above previous x && (is_fine x && ascend (Some x) xs)

columns_ascend : (level : Level) → ascend None (columns level) ≡ true
unfolding is_short vr_in_table
columns_ascend Study = refl
columns_ascend Series = refl
columns_ascend Image = refl

-- ---- the length of a value

fitting_by : (value : List ℕ) (b : Bool) → nat_le (length value) longest ≡ b → length (cond b value []) ≤ 65534
fitting_by value true e = leb-true (length value) longest e
fitting_by value false e = omega arith

fitting_is_short : (value : List ℕ) → length (fitting value) ≤ 65534
fitting_is_short value = fitting_by value (nat_le (length value) longest) refl

padded_by : (b : Bool) (value : List ℕ) (p : ℕ) → length value ≤ 65534 → length (cond b value (value ++ p ∷ [])) < 65536
padded_by true value p h = omega arith
padded_by false value p h = omega (arith, length-append value (p ∷ []))

padded_is_short : (vr value : List ℕ) → length value ≤ 65534 → length (padded vr value) < 65536
padded_is_short vr value h = padded_by (length value % 2 == 0) value (pad_of vr) h

-- ---- one element

no_length : (size : ℕ) → size < 65536 → (size == 4294967295) ≡ false
no_length size h = grind arith

may_stand : (previous : Option ℕ) (tag : ℕ) (vr : List ℕ) (size : ℕ) → is_above previous tag ≡ true
    → nat_lt tag 4294967296 ≡ true → is_item_tag tag ≡ false → is_reserved_group tag ≡ false → is_vr tag vr ≡ true
    → size < 65536 → MayStand Explicit previous tag (Some vr) size None
unfolding offence
may_stand previous tag [] size above small item reserved named fits = cc
may_stand previous tag (a ∷ []) size above small item reserved named fits = cc
may_stand previous tag (a ∷ b ∷ c ∷ d) size above small item reserved named fits = cc
may_stand previous tag (a ∷ b ∷ []) size above small item reserved named fits =
    let short : is_short a b ≡ true = left (is_short a b) _ named in
    let rest = right (is_short a b) _ named in
    let bad : has_bad_vr tag (Some (a ∷ b ∷ [])) ≡ false = off _ (left (not (has_bad_vr tag (Some (a ∷ b ∷ [])))) _
    rest) in
    let names = right (not (has_bad_vr tag (Some (a ∷ b ∷ [])))) _ rest in
    let sequence : is_name a b (codes "SQ") ≡ false = off _ (left (not (is_name a b (codes "SQ"))) _ names) in
    let unknown : is_name a b (codes "UN") ≡ false = off _ (right (not (is_name a b (codes "SQ"))) _ names) in
    let inner : inner_syntax tag (Some (a ∷ b ∷ [])) size ≡ None = rw (sequence, unknown) refl in
    let long : (size == undefined_length) ≡ false = no_length size fits in
    record {
      tag_fits = ltb-true tag 4294967296 small;
      suits = tt;
      fits = rw short fits;
      faultless = rw (item, above, reserved, bad, inner, long) refl;
      is_inner = sym inner;
    }

-- ---- all of them

above_both : (previous : Option ℕ) (tag next : ℕ) → is_above previous tag ≡ true → is_above (Some tag) next ≡ true
    → is_above previous next ≡ true
above_both None tag next g h = refl
above_both (Some p) tag next g h = lt-ltb p next (omega (arith, ltb-true p tag g, ltb-true tag next h))

weaken : (previous : Option ℕ) (tag : ℕ) (xs : List ℕ) → is_above previous tag ≡ true → ascend (Some tag) xs ≡ true
    → ascend previous xs ≡ true
weaken previous tag [] above up = refl
weaken previous tag (y ∷ ys) above up =
    and_both (is_above previous y) _ (above_both previous tag y above (left (is_above (Some tag) y) _ up))
    (right (is_above (Some tag) y) _ up)

cell_is : (previous : Option ℕ) (x : ℕ) (value : List ℕ) → is_above previous x ≡ true → is_fine x ≡ true
    → IsTree (cell x value) deepest Explicit previous
unfolding cell
cell_is previous x value above fine =
    let rest = right (nat_lt x 4294967296) _ fine in
    let more = right (not (is_item_tag x)) _ rest in
    may_stand previous x (vr_in_table x) (length (padded (vr_in_table x) (fitting value))) above
    (left (nat_lt x 4294967296) _ fine)
    (off (is_item_tag x) (left (not (is_item_tag x)) _ rest))
    (off (is_reserved_group x) (left (not (is_reserved_group x)) _ more))
    (right (not (is_reserved_group x)) _ more)
    (padded_is_short (vr_in_table x) (fitting value) (fitting_is_short value))

one_more : (o : Option (List ℕ)) (previous : Option ℕ) (x : ℕ) (ts : List Tree) → is_above previous x ≡ true
    → is_fine x ≡ true → AreTrees (trees_of ts) deepest Explicit previous → AreTrees (trees_of ts) deepest Explicit
    (Some x) → AreTrees (trees_of (cons_option (option_map (cell x) o) ts)) deepest Explicit previous
unfolding cell
one_more None previous x ts above fine without behind = without
one_more (Some value) previous x ts above fine without behind = (cell_is previous x value above fine, behind)

cells_are : (f : ℕ → Option (List ℕ)) (previous : Option ℕ) (xs : List ℕ) → ascend previous xs ≡ true
    → AreTrees (trees_of (filter_map (λ x. option_map (cell x) (f x)) xs)) deepest Explicit previous
cells_are f previous [] up = tt
cells_are f previous (x ∷ xs) up =
    let above = left (is_above previous x) _ up in
    let rest = right (is_above previous x) _ up in
    let later = right (is_fine x) _ rest in
    one_more (f x) previous x (filter_map (λ x. option_map (cell x) (f x)) xs) above (left (is_fine x) _ rest)
    (cells_are f previous xs (weaken previous x xs above later))
    (cells_are f (Some x) xs later)

-- The elements of a row are those of a data set.
pub row_is_set : (f : ℕ → Option (List ℕ)) (level : Level) → IsSet Explicit (filter_map (λ x. option_map (cell x) (f x))
    (columns level))
unfolding IsSet
row_is_set f level = cells_are f None (columns level) (columns_ascend level)
